-- What a server of the code is between two messages.
use Rattle.std.specs.Prelude.{Bool}
use Rattle.docs.specs.Languages.{LanguageData}
use Rattle.sessions.specs.Steps.{State}
use Rattle.server.specs.declared.state.Server.{Server}

-- the state of a server of the code
abbrev pub state_view : Server → State
state_view s = record { file = s.documents.language.file; phase = s.phase; documents = s.documents.documents }

-- memory was refused to a server of the code
abbrev pub has_failed : Server → Bool
has_failed s = s.has_failed

-- the language of the documents of a server of the code
abbrev pub language_of : Server → LanguageData
language_of s = s.documents.language
