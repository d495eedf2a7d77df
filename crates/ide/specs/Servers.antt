-- What an editor's server of the code is between two messages.
use Rattle.std.specs.Prelude.{List, map}
use Rattle.editor_replies.specs.Sent.{Message, message_view}
use Rattle.shown.specs.Shown.{shown_data}
use Rattle.own_replies.specs.Servers.{state_with}
use Rattle.own_replies.specs.States.{IdeState}
use Rattle.ide.specs.Written.{Language}
use Rattle.ide.specs.declared.looked.Written.{Written as Files}
use Rattle.ide.specs.declared.ide.Ide.{Ide}
use Rattle.ide.specs.declared.sending.Sending.{Sending}

-- the state of a server of the code
abbrev pub state_of : Ide → IdeState
state_of s = state_with s.known.core s.known.shown s.results

-- what the files of a language have from now on, as a `Language`
abbrev pub written_view : Files → Language
written_view w = (w.language.file, shown_data w.shown)

-- all that the code sends on a message, in order
abbrev pub sent : Sending → List Message
sent s = map message_view s.messages.items
