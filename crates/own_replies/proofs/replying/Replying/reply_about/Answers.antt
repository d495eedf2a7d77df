use Rattle.std.proofs.Common.{Some, subst, sym}
use Rattle.own_replies.specs.Servers.{replying_state}
use Rattle.rpc.specs.Ids.{id_view}
use Rattle.replies.specs.Replies.{error_reply}
use Rattle.rpc.specs.Messages.{its_text}
use Rattle.server.specs.States.{state_view}
use Rattle.sessions.specs.Answers.{IsAnswer}
use Rattle.own_replies.proofs.Refusals.{refused_about}
use Rattle.questions.specs.Asked.{question_view}
use Rattle.own_replies.specs.Replies.{IsReplyAbout}
use Rattle.std.specs.FinMap.{get}
use Rattle.own_replies.proofs.replying.Replying.reply_about.Goals as goal

pub returns-in-Err : goal.returns-in-Err
returns-in-Err c =
    let old = replying_state c.args.self.now in
    let uri = c.args.uri.now in
    let document = get old.core.documents uri in
    let question = question_view c.args.question.now in
    let id = id_view c.args.id in
    let refusal = c.in-Err.refusal in
    let refused : IsAnswer old.core.file id document its_text (error_reply (Some id) refusal) =
    subst (λ core. IsAnswer (state_view core).file id (get (state_view core).documents uri) its_text (error_reply (Some id) refusal)) c.server.ensures
    ((c.in-Err.ensures.refusal id).0 its_text) in
    subst (λ message. IsReplyAbout old id uri document question message old) (sym c.refused.ensures)
    (refused_about old id uri document question refusal refused)
