-- Which requests the editor has cancelled (LSP 3.17, "Cancellation Support").
use Rattle.std.specs.Prelude.{◌≡◌, ℕ, length, nat_le, if◌then◌else◌, List, map, codes, Option, Some, None, option_and_then, option_map}
use Rattle.std.specs.List.{Any}
use Rattle.serde_json.specs.Data.{Data}
use Rattle.replies.specs.Ids.{Ident, id_view}
use Rattle.replies.specs.declared.id.Id.{Id}
use Rattle.rpc.specs.Fields.{text_at}
use Rattle.rpc.specs.Messages.{Received, about as about_document, accepted, refused as refused_as, request, stats, unknown}
use Rattle.rpc.specs.Reading.{id_at, is_text, params_at, value_of}
use Rattle.sessions.specs.declared.phase.Phase.{Phase}
use Rattle.sessions.specs.declared.phase.Phase.TheVariants.{Ready}

-- how many bytes a content has at most that cancels a request
abbrev pub longest_cancel : ℕ
longest_cancel = 1_024

-- the id of the request that a JSON value cancels (LSP 3.17, "Cancellation Support")
abbrev pub cancelled_of : Data → Option Ident
cancelled_of d = if is_text (codes "$/cancelRequest") (text_at (codes "method") d) then id_at (params_at d) else None

-- the id of the request that a content cancels; a longer one than `longest_cancel` cancels none
abbrev pub cancelled_by : List ℕ → Option Ident
cancelled_by content = if nat_le (length content) longest_cancel then option_and_then cancelled_of (value_of content) else None

-- `cancels contents`: for each content the id of the request that it cancels, if it cancels one
abbrev pub cancels : List (List ℕ) → List (Option Ident)
cancels contents = map cancelled_by contents

-- the ids of the requests that contents cancel, of the code
abbrev pub later_view : List (Option Id) → List (Option Ident)
later_view later = map (λ id. option_map id_view id) later

-- `IsCancelled id later`: one of the contents that were read after it cancels the request with this id (LSP 3.17, "Cancellation Support")
abbrev pub IsCancelled : Ident → List (Option Ident) → Type 0
IsCancelled id later = Any (λ cancelled. cancelled ≡ Some id) later

-- the id of a question: of a request about a document, or of one that the core doesn't know, in the ready phase
abbrev pub question_id : Phase → Received → Option Ident
question_id (Ready unit) (accepted (request id (about_document uri question))) = Some id
question_id (Ready unit) (accepted (request id (stats uri))) = Some id
question_id (Ready unit) (refused_as (unknown id)) = Some id
question_id phase received = None
