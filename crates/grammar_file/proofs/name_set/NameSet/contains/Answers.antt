use Rattle.grammar_file.proofs.Std.{◌∙◌, ap}
use Rattle.grammar_file.proofs.Common.{is_among}
use Rattle.grammar_file.proofs.NameLookUps.{among-keys}
use Rattle.grammar_file.proofs.name_set.NameSet.contains.Goals as goal

pub returns : goal.returns
returns c = c.contains.ensures ∙ among-keys c.args.name.now c.self.inside.names.keys ∙ ap (is_among c.args.name.now) c.self.view_is
