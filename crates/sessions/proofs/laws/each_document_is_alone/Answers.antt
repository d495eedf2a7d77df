use Rattle.sessions.proofs.Alone.{each_document_is_alone}
use Rattle.sessions.proofs.Histories.{each_run_has_a_history, histories_decide}
use Rattle.sessions.proofs.LeftOut.{others_can_be_left_out}
use Rattle.sessions.proofs.laws.each_document_is_alone.Goals as goal

pub returns-clause-alone : goal.returns-clause-alone
returns-clause-alone c = each_document_is_alone

pub returns-clause-histories : goal.returns-clause-histories
returns-clause-histories c = each_run_has_a_history

pub returns-clause-by_history : goal.returns-clause-by_history
returns-clause-by_history c file once counts = histories_decide file (each_document_is_alone file once counts)

pub returns-clause-left_out : goal.returns-clause-left_out
returns-clause-left_out c file once counts = others_can_be_left_out file (histories_decide file (each_document_is_alone file once counts))
