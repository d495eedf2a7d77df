use Rattle.std.proofs.Common.{◌++◌, ◌∙◌, ◌≡◌, [], ap, sym}
use Rattle.std.proofs.lemmas.List.{append-nil}
use Rattle.mending.proofs.walk.listed.Goals as goal

pub returns : goal.returns
returns c =
    let made = c.loop-look.looks.items in
    let none : c.loop-look.look-iterator ≡ [] = c.in-None.ensures.steps.0 in
    sym (append-nil made) ∙ ap (λ l. made ++ l) (sym none) ∙ c.loop-look.invariant
