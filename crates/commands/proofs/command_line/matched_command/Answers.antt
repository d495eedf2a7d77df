use Rattle.std.proofs.Common.{rules}
use Rattle.commands.proofs.command_line.matched_command.Goals as goal

pub returns-in_ok-path_of-in-Some-serve-default-clause-one : goal.returns-in_ok-path_of-in-Some-serve-default-clause-one
returns-in_ok-path_of-in-Some-serve-default-clause-one c = search rules

pub returns-in_ok-path_of-in-Some-check-default-clause-one : goal.returns-in_ok-path_of-in-Some-check-default-clause-one
returns-in_ok-path_of-in-Some-check-default-clause-one c = search rules
