-- What comes of a look at the files of the language.
use Rattle.ide.proofs.Std.{◌≡◌, List, ◌++◌, refl, ap, sym, subst, ◌∙◌, Option, Some, None, map, map-append}
use Rattle.ide.proofs.Common.{IdeState, Message, AreShown, Sent, message_view}
use Rattle.replies.specs.Replies.{Answer}
use Rattle.rpc.specs.Unit.{Unit as Encoding}
use Rattle.sessions.specs.declared.phase.Phase.TheVariants.{Ready}
use Rattle.reopening.specs.Reopening.{Reopens}
use Rattle.ide.specs.Written.{AfterLook, AreRemarks, IsReplaced, Language}

-- a core in the place of another one
pub replaced : (unit : Encoding) (old new : IdeState) (written : Language) (answers : List Answer) (messages : List Message)
    → Reopens old.core unit written.0 answers new.core → AreShown written.1 answers messages
    → new ≡ record { core = new.core; shown = written.1; number = old.number; told = None } → IsReplaced unit old written messages new
replaced unit old new written answers messages reopens are at = (answers, reopens, are, at)

-- a look finds nothing to be read anew
pub told_only : (unit : Encoding) (old new : IdeState) (found : Option Language) (messages : List Message) → found ≡ None → AreRemarks messages → new ≡ old
    → AfterLook (Ready unit) old found messages new
told_only unit old new found messages none remarks same = subst (λ o. AfterLook (Ready unit) old o messages new) (sym none) (remarks, same)

-- a look finds that the files were written
pub turned : (unit : Encoding) (old mid new : IdeState) (found : Option Language) (written : Language) (before shown after messages : List Message)
    → found ≡ Some written → AreRemarks before → mid ≡ old → IsReplaced unit mid written shown new → AreRemarks after → messages ≡ before ++ shown ++ after
    → AfterLook (Ready unit) old found messages new
turned unit old mid new found written before shown after messages is begins same replaced ends all =
    subst (λ o. AfterLook (Ready unit) old o messages new) (sym is)
    (before, shown, after, begins, subst (λ (s : IdeState). IsReplaced unit s written shown new) same replaced, ends, all)

-- the messages of three parts
pub sent_joined : (first second third all : List Sent) → all ≡ first ++ second ++ third
    → map message_view all ≡ map message_view first ++ map message_view second ++ map message_view third
sent_joined first second third all is =
    ap (map message_view) is ∙ (map-append message_view (first ++ second) third ∙ ap (λ l. l ++ map message_view third) (map-append message_view first second))
