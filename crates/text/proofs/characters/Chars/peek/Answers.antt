use Rattle.text.proofs.Std.{arith, refl, ap, sym, subst, ◌∙◌, ◌≡◌, ◌<◌, ◌++◌, ℕ, List, [], ◌∷◌, Option, None, Some, length, true, slice_get, is_some, chars, false≢true, append-nil, none-some}
use Rattle.text.proofs.Common.{text_in}
use Rattle.text.proofs.characters.Chars.peek.Goals as goal

prefix_get : (xs ys : List ℕ) (c : ℕ) → Some c ≡ slice_get xs 0 → Some c ≡ slice_get (xs ++ ys) 0
prefix_get [] ys c h = absurd (none-some c (sym h))
prefix_get (x ∷ xs) ys c h = h

no_pieces : (ps : List (List ℕ)) → length ps ≡ 0 → text_in ps ≡ []
no_pieces [] e = refl
no_pieces (p ∷ ps) e = absurd (omega (arith, e))

peeked : (bs : List ℕ) (ps : List (List ℕ)) (r : Option ℕ) → (length bs ≡ 0 → length ps ≡ 0) → (0 < length bs → is_some r ≡ true)
    → r ≡ slice_get (chars bs) 0 → r ≡ slice_get (chars bs ++ text_in ps) 0
peeked bs ps (Some c) full some h = prefix_get (chars bs) (text_in ps) c h
peeked [] ps None full some h = h ∙ ap (λ t. slice_get t 0) (sym (append-nil (chars [])) ∙ ap (λ t. chars [] ++ t) (sym (no_pieces ps (full refl))))
peeked (b ∷ bs) ps None full some h = absurd (false≢true (some (omega arith)))

pub returns : goal.returns
returns c =
    let steps = c.next.ensures.steps in
    let text : c.chars.result.rest.now ≡ c.self.inside.present.now = c.chars.ensures.rest in
    peeked c.self.inside.present.now c.self.inside.pieces c.next.result c.self.invariant (subst (λ t. 0 < length t → is_some c.next.result ≡ true) text steps.1)
    (steps.2 ∙ ap (λ t. slice_get (chars t) 0) text)
    ∙ ap (λ t. slice_get t 0) c.self.view_is
