use Rattle.completion.proofs.Std.{◌++◌, ◌≡◌, ◌∙◌, [], ap, append-nil, flat_map, map, sym}
use Rattle.completion.proofs.Common.{offer}
use Rattle.completion.proofs.Looks.{of_look, of_looks}
use Rattle.completion.proofs.offers.offers_of.Goals as goal

pub returns : goal.returns
returns c rules at_end is =
    let texts = c.args.texts.now in
    let word = c.args.word.now in
    let made = map offer c.loop-look.offers.items in
    let none : c.loop-look.look-iterator ≡ [] = c.in-None.ensures.steps.0 in
    sym (append-nil made) ∙ ap (λ l. made ++ flat_map (of_look texts word) l) (sym none) ∙ c.loop-look.invariant ∙ ap (flat_map (of_look texts word)) is ∙ of_looks texts word rules at_end
