use Rattle.text.proofs.Std.{arith, ap, sym, ◌∙◌, ◌≡◌, ◌++◌, ℕ, List, [], ◌∷◌, length, chars, chars-nil}
use Rattle.text.proofs.Common.{text_in}
use Rattle.text.proofs.characters.refill.Goals as goal

none : (bs : List ℕ) → length bs ≡ 0 → chars bs ≡ []
none [] e = chars-nil
none (b ∷ bs) e = absurd (omega (arith, e))

pub returns-in-Some-clause-same : goal.returns-in-Some-clause-same
returns-in-Some-clause-same c =
    ap (λ t. t ++ text_in c.next.new.self) c.text.ensures.characters ∙ ap text_in (sym c.in-Some.ensures.steps)
    ∙ ap (λ t. t ++ text_in c.args.pieces.now) (sym (none c.args.present.now (omega arith)))
