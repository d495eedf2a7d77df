use Rattle.std.proofs.Common.{rules}
use Rattle.dfa.proofs.automaton.StateRow.leads_to.Goals as goal

pub returns-then-is_ascii-clause-led : goal.returns-then-is_ascii-clause-led
returns-then-is_ascii-clause-led c = search rules

pub returns-then-is_ascii-clause-all : goal.returns-then-is_ascii-clause-all
returns-then-is_ascii-clause-all c = search rules
