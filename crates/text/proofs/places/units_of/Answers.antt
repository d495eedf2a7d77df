use Rattle.std.proofs.Common.{rules}
use Rattle.text.proofs.places.units_of.Goals as goal

pub returns-in-Utf16-clause-is : goal.returns-in-Utf16-clause-is
returns-in-Utf16-clause-is c = search rules
