-- What is refused of a document that isn't open.
use Rattle.std.proofs.Common.{ℕ, List, ap, refl, Option, Some, None}
use Rattle.own_replies.specs.States.{IdeState}
use Rattle.replies.specs.Ids.{Ident}
use Rattle.replies.specs.Replies.{error_reply}
use Rattle.replies.specs.declared.reply.Refusal.{Refusal}
use Rattle.rpc.specs.Messages.{its_text}
use Rattle.sessions.specs.Answers.{IsAnswer}
use Rattle.sessions.specs.Documents.{DocumentState, is_lost, is_open}
use Rattle.questions.specs.Asked.{Question}
use Rattle.editor_replies.specs.Sent.{own}
use Rattle.own_replies.specs.Replies.{IsReplyAbout}

-- what the core refuses is refused here
pub refused_about : (old : IdeState) (id : Ident) (uri : List ℕ) (document : Option DocumentState) (question : Question) (refusal : Refusal)
    → IsAnswer old.core.file id document its_text (error_reply (Some id) refusal)
    → IsReplyAbout old id uri document question (own (error_reply (Some id) refusal)) old
refused_about old id uri None question refusal is = (ap own is, refl)
refused_about old id uri (Some (is_lost loss)) question refusal is = (ap own is, refl)
refused_about old id uri (Some (is_open d)) question refusal is = absurd (let f : ⊥ = cc in f)
