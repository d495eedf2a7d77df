use Rattle.server.proofs.Common.{id_view, question_view}
use Rattle.server.proofs.state.Server.answer.Goals as goal

pub returns-in-Err : goal.returns-in-Err
returns-in-Err c = (c.in-Err.ensures.refusal (id_view c.args.id)).0 (question_view c.args.question.now)
