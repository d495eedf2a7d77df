-- The characters that are written so far.
use Rattle.patterns.proofs.Std.{◌≡◌, List, [], ◌∷◌, ◌++◌, refl, sym, ◌∙◌, ap, append_assoc}
use Rattle.patterns.proofs.Common.{Written, Character, written_as, writing}

writing-append : (xs ys : List Character) → writing (xs ++ ys) ≡ writing xs ++ writing ys
writing-append [] ys = refl
writing-append (x ∷ xs) ys = ap (λ r. written_as x ∷ r) (writing-append xs ys)

pub one_more_word : (words new : List Character) (w : Character) (before after all : List Written) → new ≡ words ++ w ∷ []
    → before ≡ written_as w ∷ after → writing words ++ before ≡ all → writing new ++ after ≡ all
one_more_word words new w before after all e f g =
    ap (λ x. writing x ++ after) e ∙ ap (λ x. x ++ after) (writing-append words (w ∷ [])) ∙ append_assoc (writing words) (written_as w ∷ []) after ∙ ap (λ x. writing words ++ x) (sym f) ∙ g
