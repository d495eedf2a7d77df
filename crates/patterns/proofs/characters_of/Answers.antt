use Rattle.patterns.proofs.Std.{rules, chars_from_encodes}
use Rattle.patterns.proofs.characters_of.Goals as goal

pub returns : goal.returns
returns c = search (rules, chars_from_encodes)
