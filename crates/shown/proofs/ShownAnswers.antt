-- How the core's answers are shown, one after another.
use Rattle.std.proofs.Common.{◌≡◌, List, [], ◌∷◌, ◌++◌, refl, ap, sym, inl, inr, ◌∙◌, append-nil, append_assoc, Some}
use Rattle.std.proofs.lemmas.Grind.{flat_map-append}
use Rattle.replies.specs.Replies.{Answer, capabilities_reply, folds_reply, log_message, published_diagnostics, selections_reply}
use Rattle.replies.specs.declared.reply.Log.TheVariants.{Lost, TooManyDocuments}
use Rattle.editor_replies.specs.Sent.{Message, core_answers, core_part}
use Rattle.shown.specs.Shown.{AreShown, AreTold, IsGrown, IsPushed, IsShown, ShownData}

-- so it is where another one may be sent in its place
part_of_grown : (answer other : Answer) (message : Message) → IsGrown answer other message → core_part message ≡ answer ∷ []
part_of_grown answer other message (inl is) = ap core_part is
part_of_grown answer other message (inr is) = ap core_part is

-- what is shown of an answer is the answer, without what the editor's server adds
part_of : (shown : ShownData) (answer : Answer) (message : Message) → IsShown shown answer message → core_part message ≡ answer ∷ []
part_of shown (capabilities_reply id unit) message is = ap core_part is
part_of shown (published_diagnostics uri version (Some d)) message is = ap core_part is.3
part_of shown (folds_reply id pairs) message is = part_of_grown (folds_reply id pairs) (folds_reply id (pairs ++ is.0)) message is.1
part_of shown (selections_reply id selections) message is = part_of_grown (selections_reply id selections) (selections_reply id is.0) message is.2
part_of shown answer message is = ap core_part is

-- nothing that is told besides is the core's
told_part : (answer : Answer) (told : List Message) → AreTold answer told → core_answers told ≡ []
told_part (log_message (Lost loss)) told is = ap core_answers is.1
told_part (log_message TooManyDocuments) told is = ap core_answers is.1
told_part answer told is = ap core_answers is

pub the_answers : (shown : ShownData) (answers : List Answer) (messages : List Message) → AreShown shown answers messages → core_answers messages ≡ answers
the_answers shown [] messages are = ap core_answers are
the_answers shown (answer ∷ answers) messages are =
    ap core_answers are.6
    ∙ (ap (λ l. l ++ core_answers (are.1 ++ are.2)) (part_of shown answer are.0 are.3)
    ∙ ap (λ l. answer ∷ l) (flat_map-append core_part are.1 are.2 ∙ ap (λ l. l ++ core_answers are.2) (told_part answer are.1 are.4)
    ∙ the_answers shown answers are.2 are.5))

-- one more
pub one_more_shown : (shown : ShownData) (answers : List Answer) (old new : List Message) (answer : Answer) → AreShown shown answers old
    → IsPushed shown answer old new → AreShown shown (answers ++ answer ∷ []) new
one_more_shown shown [] old new answer are pushed =
    (pushed.0, pushed.1, [], pushed.2, pushed.3, refl, pushed.4 ∙ ap (λ l. l ++ pushed.0 ∷ pushed.1) are ∙ sym (append-nil (pushed.0 ∷ pushed.1)))
one_more_shown shown (a ∷ answers) old new answer are pushed = (
  are.0,
  are.1,
  are.2 ++ pushed.0 ∷ pushed.1,
  are.3,
  are.4,
  one_more_shown shown answers are.2 (are.2 ++ pushed.0 ∷ pushed.1) answer are.5 (pushed.0, pushed.1, pushed.2, pushed.3, refl),
  pushed.4 ∙ ap (λ l. l ++ pushed.0 ∷ pushed.1) are.6 ∙ ap (λ l. are.0 ∷ l) (append_assoc are.1 are.2 (pushed.0 ∷ pushed.1)),
)
