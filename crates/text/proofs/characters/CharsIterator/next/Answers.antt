use Rattle.text.proofs.Std.{arith, ap, sym, subst, ◌∙◌, ◌≡◌, ◌++◌, ℕ, List, [], ◌∷◌, length, chars, YieldsFirst, chars-nil}
use Rattle.text.proofs.Common.{text_in}
use Rattle.text.proofs.characters.CharsIterator.next.Goals as goal

none : (bs : List ℕ) (ps : List (List ℕ)) → length bs ≡ 0 → length ps ≡ 0 → chars bs ++ text_in ps ≡ []
none [] [] e f = ap (λ t. t ++ []) chars-nil
none (b ∷ bs) ps e f = absurd (omega (arith, e))
none [] (p ∷ ps) e f = absurd (omega (arith, f))

pub returns-in_err-first-clause-steps : goal.returns-in_err-first-clause-steps
returns-in_err-first-clause-steps c =
    let nothing : c.args.self.now ≡ [] = sym c.self.view_is ∙ none c.self.inside.present.now c.self.inside.pieces c.in_err-first.ensures (c.self.invariant c.in_err-first.ensures) in
    subst (λ r. YieldsFirst (λ s. s) c.args.self.now r c.args.self.now) (sym c.from_residual.ensures) (nothing, nothing)
