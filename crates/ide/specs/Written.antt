-- What the editor's server does after a look at the files of its language.
use Rattle.std.specs.Prelude.{◌≡◌, true, All, List, [], ◌++◌, Option, Some, None}
use Rattle.editor_replies.specs.Sent.{Message, is_remark}
use Rattle.readings.specs.Grammars.{FileGrammar}
use Rattle.replies.specs.Replies.{Answer}
use Rattle.rpc.specs.Unit.{Unit as Encoding}
use Rattle.sessions.specs.declared.phase.Phase.{Phase}
use Rattle.sessions.specs.declared.phase.Phase.TheVariants.{Ready}
use Rattle.shown.specs.Shown.{AreShown, ShownData}
use Rattle.own_replies.specs.States.{IdeState}
use Rattle.reopening.specs.Reopening.{Reopens}

-- a language whose files were written: what its grammar file defines, and what an editor is shown of it besides
abbrev pub Language : Type 0
Language = FileGrammar × ShownData

-- what the editor's server says of its own accord: no reply, and nothing of the core's
abbrev pub AreRemarks : List Message → Type 0
AreRemarks messages = All (λ message. is_remark message ≡ true) messages

-- `IsReplaced unit old written messages new`: a core of the language that was written takes the place of the one before; its answers are
-- sent as they are shown. The colours that were sent last don't count any more
abbrev pub IsReplaced : Encoding → IdeState → Language → List Message → IdeState → Type 0
IsReplaced unit old written messages new =
    (answers : List Answer) × Reopens old.core unit written.0 answers new.core × AreShown written.1 answers messages
    × (new ≡ record { core = new.core; shown = written.1; number = old.number; told = None })

-- `AfterLook phase old written messages new`: what comes of a look, in the ready phase: remarks, and where the files were written, a core
-- of the language that they have from now on
abbrev pub AfterLook : Phase → IdeState → Option Language → List Message → IdeState → Type 0
AfterLook (Ready unit) old None messages new = AreRemarks messages × (new ≡ old)
AfterLook (Ready unit) old (Some written) messages new =
    (before shown after : List Message) × AreRemarks before × IsReplaced unit old written shown new × AreRemarks after
    × (messages ≡ before ++ shown ++ after)
AfterLook phase old written messages new = (messages ≡ []) × (new ≡ old)
