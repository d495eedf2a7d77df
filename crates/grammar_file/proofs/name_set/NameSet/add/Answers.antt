use Rattle.grammar_file.proofs.Std.{◌∙◌, ap}
use Rattle.grammar_file.proofs.Common.{with_name, texts}
use Rattle.grammar_file.proofs.NameLookUps.{keys-with}
use Rattle.grammar_file.proofs.name_set.NameSet.add.Goals as goal
use Rattle.grammar_file.proofs.name_set.NameSet.add.Goals.{in-Ok, in-Err}

pub returns : goal.returns
returns c = elim c.match-insert.branch [
  | in-Ok w ↦ rw w.result-is (ap texts w.in-Ok.ensures.keys ∙ keys-with c.args.name c.self.inside.names.keys ∙ ap (λ ws. with_name ws c.args.name.now) c.self.view_is)
  | in-Err w ↦ rw w.result-is tt
]
