use Rattle.std.proofs.Common.{◌∙◌}
use Rattle.parser.proofs.compact.compact.Goals as goal

pub keep-requires-clause-ids : goal.keep-requires-clause-ids
keep-requires-clause-ids c = c.deref_mut.ensures.value ∙ c.in_ok-ids.ensures

pub returns-clause-names : goal.returns-clause-names
returns-clause-names c = (c.keep.new.ids, c.in_ok-keep.ensures.names)
