-- States in which every message has an answer.
use Rattle.std.specs.Prelude.{◌≡◌, ℕ, List, Some, true}
use Rattle.std.specs.FinMap.{get}
use Rattle.readings.specs.Answers.{AlwaysAnswers}
use Rattle.readings.specs.Texts.{OpenDocument, fits}
use Rattle.sessions.specs.Documents.{is_open, Held}
use Rattle.sessions.specs.Steps.{State}

-- each open document's text fits
abbrev pub AllFit : Held → Type 0
AllFit documents = (uri : List ℕ) (document : OpenDocument) → get documents uri ≡ Some (is_open document) → fits document.text ≡ true

-- there are answers in a state, and in all that come after it: its language always answers, and each open document's text fits
pub record CanServe (state : State) : Type 0 where
  pub always : AlwaysAnswers state.file
  pub fit : AllFit state.documents
