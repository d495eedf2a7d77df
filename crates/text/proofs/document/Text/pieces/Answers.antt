use Rattle.text.proofs.Std.{arith, refl, ap, ◌∙◌, ◌≡◌, ◌++◌, ℕ, List, [], ◌∷◌, concat}
use Rattle.text.proofs.Common.{text_in, units-bytes}
use Rattle.text.proofs.Sizes.{size}
use Rattle.text.proofs.document.Text.pieces.Goals as goal

concat_is : (pieces : List (List ℕ)) → concat pieces ≡ text_in pieces
concat_is [] = refl
concat_is (p ∷ pieces) = ap (λ t. p ++ t) (concat_is pieces)

pub returns-clause-text : goal.returns-clause-text
returns-clause-text c = concat_is c.seq.result.now ∙ ap text_in c.seq.ensures.same ∙ c.self.view_is

pub returns-clause-few : goal.returns-clause-few
returns-clause-few c =
    omega (arith, c.seq.ensures.few, units-bytes (text_in c.seq.result.now), ap (λ ps. size (text_in ps)) c.seq.ensures.same, ap size c.self.view_is)
