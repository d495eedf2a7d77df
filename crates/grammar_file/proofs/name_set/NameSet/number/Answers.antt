use Rattle.grammar_file.proofs.Std.{◌∙◌, ap, unwrap_or}
use Rattle.grammar_file.proofs.Common.{number_of}
use Rattle.grammar_file.proofs.NameLookUps.{number-keys}
use Rattle.grammar_file.proofs.name_set.NameSet.number.Goals as goal

pub returns : goal.returns
returns c =
    c.unwrap_or.ensures ∙ (λ i. unwrap_or (c.get_index_of.ensures.index i) (c.len.ensures.len i))
    ∙ number-keys c.args.name.now c.self.inside.names.keys ∙ ap (number_of c.args.name.now) c.self.view_is
