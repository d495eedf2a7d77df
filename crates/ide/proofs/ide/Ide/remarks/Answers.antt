use Rattle.ide.proofs.Std.{◌++◌, ◌∷◌, [], ◌≡◌, List, map, map-append, subst, sym}
use Rattle.ide.proofs.Common.{Message, message_view}
use Rattle.std.proofs.Common.{true}
use Rattle.std.proofs.lemmas.List.Elements.{All-push}
use Rattle.editor_replies.specs.Sent.{is_remark}
use Rattle.ide.specs.Written.{AreRemarks}
use Rattle.ide.proofs.ide.Ide.remarks.Goals.{then-self+then-not-self+in_ok-watch+in_ok-push, else-self}
use Rattle.ide.proofs.ide.Ide.remarks.Goals as goal

-- all that are sent are remarks, and where the editor is asked for something, that is one more
pub returns-clause-remarks : goal.returns-clause-remarks
returns-clause-remarks c =
    let all_are : List Message → Type 0 = λ messages. AreRemarks messages in
    elim c.if-self.branch [
      | then-self+then-not-self+in_ok-watch+in_ok-push w ↦
          let before = c.in_ok-messages.messages.items in
          let asked = w.in_ok-watch.field-0 in
          let more = All-push (λ message. is_remark message ≡ true) (map message_view before) (message_view asked) c.in_ok-messages.ensures w.in_ok-watch.ensures in
          let pushed : all_are (map message_view (before ++ asked ∷ [])) = subst all_are (sym (map-append message_view before (asked ∷ []))) more in
          subst (λ v. all_are (map message_view v.items)) (sym w.messages-is)
          (subst (λ l. all_are (map message_view l)) (sym w.in_ok-push.ensures.items) pushed)
      | else-self w ↦ subst (λ v. all_are (map message_view v.items)) (sym w.messages-is) c.in_ok-messages.ensures
    ]
