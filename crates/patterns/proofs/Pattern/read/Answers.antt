use Rattle.patterns.proofs.Std.{◌≡◌, ℕ, List, subst, chars}
use Rattle.patterns.proofs.Common.{PatternFault, IsFault, Refusal, Fault, Reports}
use Rattle.patterns.proofs.Runs.{refused}
use Rattle.patterns.proofs.Pattern.read.Goals as goal

shown_fault : (r : Refusal) (f : PatternFault) (t : List ℕ) → r ≡ Fault f → Reports r (λ g. IsFault t g) → IsFault t f
shown_fault r f t e h = let P : Refusal → Type 0 = λ x. Reports x (λ g. IsFault t g) in subst P e h

pub returns-in-Err-Fault-clause-refused : goal.returns-in-Err-Fault-clause-refused
returns-in-Err-Fault-clause-refused c known =
    let a = c.in-Err-Fault in
    refused (chars c.args.text.now) a.fault (shown_fault a.field-0 a.fault (chars c.args.text.now) a.field-0-is a.ensures.fault)
