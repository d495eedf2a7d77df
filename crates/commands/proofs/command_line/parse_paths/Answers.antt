use Rattle.std.proofs.Common.{rules}
use Rattle.commands.proofs.command_line.parse_paths.Goals as goal

pub returns-in-Some-Some : goal.returns-in-Some-Some
returns-in-Some-Some c = search rules
