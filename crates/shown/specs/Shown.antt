-- How an editor is shown what the core answers.
use Rattle.std.specs.Prelude.{◌≡◌, ◌⊎◌, ℕ, ℤ, List, [], ◌∷◌, ◌++◌, codes, length, map, Option, Some, None, option_map, unwrap_or}
use Rattle.std.specs.Prelude.{string_bytes}
use Rattle.serde_json.specs.Data.{Data}
use Rattle.definitions.specs.declared.Range.{Range}
use Rattle.editor_replies.specs.Sent.{Message, WordedFault, capabilities, grown, message_view, notice, of_core, worded}
use Rattle.editor_replies.specs.declared.sent.Sent.{Sent}
use Rattle.settings.specs.declared.expressions.RuleText.{RuleText}
use Rattle.settings.specs.declared.settings.Settings.{Settings}
use Rattle.shown.specs.declared.shown.Shown.{Shown}
use Rattle.replies.specs.Replies.{Answer, capabilities_reply, folds_reply, log_message, published_diagnostics, selections_reply}
use Rattle.replies.specs.declared.reply.Log.TheVariants.{Lost, TooManyDocuments}

-- what an editor is shown of a language besides its texts: the name of the server, what begins a comment, the types of tokens by their
-- numbers, the palette, which has the colour of each rule, where it has one, the text of each rule that is offered, and the kinds of
-- symbols
pub record ShownData : Type 0 where
  pub name : List ℕ
  pub comment : List ℕ
  pub types : List (List ℕ)
  pub palette : List (Option ℕ)
  pub texts : List (Option RuleText)
  pub kinds : List ℕ

-- `shown_fault uri version range words related behind`: a fault of the core at its place, with these words, and the diagnostics behind it
abbrev pub shown_fault : List ℕ → Option ℤ → Range → List ℕ → Option (List ℕ) → List Data → WordedFault
shown_fault uri version range words related behind =
    record { uri = uri; version = version; range = range; words = words; related = related; behind = behind }

-- `IsGrown answer other message`: the answer is sent as it is, or the other one in its place
abbrev pub IsGrown : Answer → Answer → Message → Type 0
IsGrown answer other message = (message ≡ of_core answer) ⊎ (message ≡ grown answer other)

-- `IsShown shown answer message`: how an answer of the core is sent: its capabilities with those of the editor's server; a fault with some
-- words in the place of the core's text, and with some diagnostics of faults behind it; folds with some more; of selections as many others,
-- if any; and all else as it is
abbrev pub IsShown : ShownData → Answer → Message → Type 0
IsShown shown (capabilities_reply id unit) message = message ≡ capabilities id unit shown.name shown.comment shown.types
IsShown shown (published_diagnostics uri version (Some d)) message =
    (words : List ℕ) × (related : Option (List ℕ)) × (behind : List Data)
    × (message ≡ worded (shown_fault uri version d.0 words related behind) d.1)
IsShown shown (folds_reply id pairs) message =
    (more : List (ℕ × ℕ)) × IsGrown (folds_reply id pairs) (folds_reply id (pairs ++ more)) message
IsShown shown (selections_reply id selections) message =
    (others : List (List Range)) × (length others ≡ length selections)
    × IsGrown (selections_reply id selections) (selections_reply id others) message
IsShown shown answer message = message ≡ of_core answer

-- a text is shown to who edits, and nothing else (LSP 3.17, "ShowMessage Notification")
abbrev pub IsTold : List Message → Type 0
IsTold messages = (params : Data) × (messages ≡ notice (codes "window/showMessage") params ∷ [])

-- `AreTold answer messages`: what who edits is told of an answer besides: of a lost document, and of one too many, what to do
abbrev pub AreTold : Answer → List Message → Type 0
AreTold (log_message (Lost loss)) messages = IsTold messages
AreTold (log_message TooManyDocuments) messages = IsTold messages
AreTold answer messages = messages ≡ []

-- `IsPushed shown answer old new`: behind the old messages stand the answer as it is sent and what is told of it
abbrev pub IsPushed : ShownData → Answer → List Message → List Message → Type 0
IsPushed shown answer old new =
    (first : Message) × (told : List Message) × IsShown shown answer first × AreTold answer told × (new ≡ old ++ first ∷ told)

-- `AreShown shown answers messages`: the answers of the core as they are sent, in order, each with what is told of it, and nothing besides
abbrev pub AreShown : ShownData → List Answer → List Message → Type 0
AreShown shown [] messages = messages ≡ []
AreShown shown (answer ∷ answers) messages =
    (first : Message) × (told rest : List Message) × IsShown shown answer first × AreTold answer told × AreShown shown answers rest
    × (messages ≡ first ∷ told ++ rest)

-- what begins a comment, empty where nothing does
abbrev pub comment_of : Settings → List ℕ
comment_of s = unwrap_or (option_map (λ comment. string_bytes comment) s.comment) []

-- what an editor is shown, as plain data
abbrev pub shown_data : Shown → ShownData
shown_data s = record {
  name = string_bytes s.name;
  comment = comment_of s.settings;
  types = map (λ text. text.now) s.types.now;
  palette = s.settings.colours.items;
  texts = s.texts.items;
  kinds = map (λ rule. rule.kind) s.settings.symbols.items;
}

-- what is told of an answer in the code, as the messages that it is
abbrev pub told_messages : Option Sent → List Message
told_messages None = []
told_messages (Some told) = message_view told ∷ []
