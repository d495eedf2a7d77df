use Rattle.parser.proofs.Common.{before_fault}
use Rattle.parser.proofs.StackNodes.{same_nodes, stacked_length}
use Rattle.parser.proofs.laws.stack_has_the_nodes_of_the_document.Goals as goal

pub returns : goal.returns
returns c g kinds v stack is stacked = (stacked.trees, stacked.are, same_nodes g stacked.trees stack (before_fault kinds v) stacked.stack_is, stacked_length g kinds v stack is stacked)
