use Rattle.grammar_file.proofs.Std.{◌∙◌, ap, map}
use Rattle.grammar_file.proofs.Common.{texts, with_names}
use Rattle.grammar_file.proofs.Sets.{keys-with}
use Rattle.grammar_file.proofs.production_set.ProductionSet.add.Goals as goal
use Rattle.grammar_file.proofs.production_set.ProductionSet.add.Goals.{in-Ok, in-Err}

pub returns : goal.returns
returns c = elim c.match-insert.branch [
  | in-Ok w ↦ rw w.result-is (
      ap (map (λ k. texts k.items)) w.in-Ok.ensures.keys
      ∙ keys-with (λ k. k.items) c.in_ok-sides.sides c.self.inside.sides.keys
      ∙ (λ i. with_names (c.self.view_is i) (c.in_ok-sides.ensures i)))
  | in-Err w ↦ rw w.result-is tt
]
