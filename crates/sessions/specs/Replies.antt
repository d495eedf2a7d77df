-- What a session owes for what it receives: one reply to each request, none to a notification, and nothing after `exit` (JSON-RPC 2.0,
-- "Notification", "Response object"; LSP 3.17, "Exit Notification").
use Rattle.std.specs.Prelude.{◌≡◌, ℕ, Bool, true, false, if◌then◌else◌, List, [], ◌∷◌, flat_map, Option, Some, None}
use Rattle.std.specs.List.{list_any}
use Rattle.rpc.specs.Ids.{Ident}
use Rattle.rpc.specs.Messages.{Received, unread, refused, accepted, invalid, unknown, params, request, notification, ignored, exit}
use Rattle.rpc.specs.Messages.{Notification}
use Rattle.rpc.specs.Reading.{received_in}
use Rattle.rpc.specs.Replies.{Answer, capabilities_reply, null_reply, text_reply, tokens_reply, tree_reply, stats_reply, folds_reply}
use Rattle.rpc.specs.Replies.{selections_reply, error_reply, published_diagnostics, log_message}
use Rattle.sessions.specs.Runs.{Run}
use Rattle.sessions.specs.Steps.{State, Step, exit_status}

-- `replied answer`: the id that a reply has, in a list: that of a request, or none (`null`); what isn't a reply, published diagnostics and
-- log messages, has an empty list
abbrev pub replied : Answer → List (Option Ident)
replied (capabilities_reply id unit) = Some id ∷ []
replied (null_reply id) = Some id ∷ []
replied (text_reply id version text) = Some id ∷ []
replied (tokens_reply id rows) = Some id ∷ []
replied (tree_reply id text) = Some id ∷ []
replied (stats_reply id stats) = Some id ∷ []
replied (folds_reply id pairs) = Some id ∷ []
replied (selections_reply id selections) = Some id ∷ []
replied (error_reply id refusal) = id ∷ []
replied (published_diagnostics uri version fault) = []
replied (log_message event) = []

-- the ids of the replies among the answers, in order
abbrev pub all_replied : List Answer → List (Option Ident)
all_replied answers = flat_map replied answers

-- `due received`: the id of the one reply that is due to what is received, in a list: that of a request, whether or not it can be obeyed;
-- none (`null`) where no id can be read; an empty list where no reply is due, to a notification, and to what is ignored
abbrev pub due : Received → List (Option Ident)
due unread = None ∷ []
due (refused (invalid id)) = id ∷ []
due (refused (unknown id)) = Some id ∷ []
due (refused (params id first)) = Some id ∷ []
due (accepted (request id call)) = Some id ∷ []
due (accepted (notification note)) = []
due (accepted ignored) = []

-- the ids of the replies that are due to the contents, in order
abbrev pub all_due : List (List ℕ) → List (Option Ident)
all_due contents = flat_map (λ content. due (received_in content)) contents

-- whether what is received is `exit`
abbrev pub is_exit : Received → Bool
is_exit (accepted (notification exit)) = true
is_exit _ = false

-- whether a content is `exit`
abbrev pub has_exit : List (List ℕ) → Bool
has_exit contents = list_any (λ content. is_exit (received_in content)) contents

-- `before_exit contents`: the contents before the first `exit`, or all
abbrev pub before_exit : List (List ℕ) → List (List ℕ)
before_exit [] = []
before_exit (content ∷ contents) = if is_exit (received_in content) then [] else content ∷ before_exit contents

-- in every run the replies are those that are due to the contents before `exit`: one to each, with its id, in the order of the contents
abbrev pub EachRequestIsAnswered : Type 0
EachRequestIsAnswered =
    (old : State) (contents : List (List ℕ)) (answers : List Answer) (stop : Option ℕ) (new : State)
    → Run old contents answers stop new → all_replied answers ≡ all_due (before_exit contents)

-- no step on a notification sends a reply
abbrev pub NoNotificationIsAnswered : Type 0
NoNotificationIsAnswered =
    (old : State) (note : Notification) (answers : List Answer) (stop : Option ℕ) (new : State)
    → Step old (accepted (notification note)) answers stop new → all_replied answers ≡ []

-- in every run all is sent before the first `exit`: the run is one over the contents before it, and stops there, with the status of its
-- phase, and nowhere else
abbrev pub NothingIsSentAfterExit : Type 0
NothingIsSentAfterExit =
    (old : State) (contents : List (List ℕ)) (answers : List Answer) (stop : Option ℕ) (new : State)
    → Run old contents answers stop new
    → Run old (before_exit contents) answers None new × (stop ≡ (if has_exit contents then Some (exit_status new.phase) else None))
