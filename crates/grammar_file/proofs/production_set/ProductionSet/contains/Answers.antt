use Rattle.grammar_file.proofs.Std.{◌∙◌, ap, list_any, bytes_eq, pointwise}
use Rattle.grammar_file.proofs.Common.{are_among}
use Rattle.grammar_file.proofs.Sets.{among-keys}
use Rattle.grammar_file.proofs.production_set.ProductionSet.contains.Goals as goal

pub returns : goal.returns
returns c =
    let keys = c.self.inside.sides.keys in
    c.contains.ensures
    ∙ ap (λ ws. list_any (λ k. pointwise (λ a b. bytes_eq a.now b.now) ws k.items) keys) c.as_slice.ensures.value
    ∙ among-keys (λ k. k.items) c.in_ok-sides.sides.items keys
    ∙ (λ i. are_among (c.in_ok-sides.ensures i) (c.self.view_is i))
