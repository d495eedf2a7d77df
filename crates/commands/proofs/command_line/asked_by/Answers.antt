use Rattle.commands.proofs.Std.{◌≡◌, ◌∙◌, inl, inr, true, [], map, ap, subst, Result, Ok, Err, IfOk, app_of, fault_of, is_simple_and_free, HasKind, IsAmong, kind_of}
use Rattle.commands.proofs.Read.{none_of_refused, read_of_taken, simple_and_free}
use Rattle.commands.proofs.command_line.asked_by.Goals as goal

-- what follows of two facts of a value
if_ok_both : {T E : Type 0} {P Q R : T → Type 0} (r : Result T E) → ((x : T) → P x → Q x → R x) → IfOk r P → IfOk r Q → IfOk r R
if_ok_both (Ok x) f p q = f x p q
if_ok_both (Err e) f p q = tt

pub returns-in-Ok : goal.returns-in-Ok
returns-in-Ok c =
    let app = app_of c.in_ok-command.field-0 in
    let simple : is_simple_and_free app ≡ true = ap is_simple_and_free c.in_ok-command.ensures ∙ simple_and_free in
    if_ok_both c.matched_command.result (λ task one two words begins utf8.
    read_of_taken app (map (λ s. s.now) c.args.line.now) words c.in-Ok.matches task c.in_ok-command.ensures begins utf8 c.in-Ok.ensures.matches (c.in-Ok.ensures.kinds simple) one two)
    c.matched_command.ensures.one c.matched_command.ensures.two

pub returns-in-Err-2 : goal.returns-in-Err-2
returns-in-Err-2 c words begins utf8 =
    let app = app_of c.in_ok-command.field-0 in
    let simple : is_simple_and_free app ≡ true = ap is_simple_and_free c.in_ok-command.ensures ∙ simple_and_free in
    none_of_refused app (map (λ s. s.now) c.args.line.now) words c.in_ok-command.ensures begins utf8 (λ none. no_kind none (c.in-Err.ensures.kinds simple))
  where
    no_kind : fault_of (app_of c.in_ok-command.field-0) (map (λ s. s.now) c.args.line.now) ≡ []
        → HasKind (fault_of (app_of c.in_ok-command.field-0) (map (λ s. s.now) c.args.line.now)) c.in-Err.error → ⊥
    no_kind none (inl memory) = let same = rw (c.kind.ensures, memory) at c.eq.ensures in cc
    no_kind none (inr among) = absurd (subst (IsAmong (kind_of c.in-Err.error)) none among)
