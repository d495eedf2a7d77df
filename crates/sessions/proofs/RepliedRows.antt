-- Which replies answers are, what is due to what is received, and uses of the laws of JSON-RPC on sessions of three messages.
use Rattle.std.specs.Char.{encode_utf8}
use Rattle.std.specs.Prelude.{◌≡◌, ℕ, pos, true, false, List, [], ◌∷◌, codes, refl, Option, Some, None}
use Rattle.std.specs.Str.{chars, is_utf8}
use Rattle.std.proofs.Common.{◌∙◌}
use Rattle.serde_json.proofs.OnLiterals.{serde_json_on_literals}
use Rattle.rpc.specs.Ids.{Ident, named, numbered}
use Rattle.rpc.specs.Log.TheVariants as log
use Rattle.rpc.specs.Messages.{unread, refused, accepted, invalid, unknown, params, request, notification, ignored, shutdown, about}
use Rattle.rpc.specs.Messages.{its_text, initialized, exit, open_text, close}
use Rattle.rpc.specs.Refusal.TheVariants as refusal
use Rattle.rpc.specs.Replies.{Answer, capabilities_reply, null_reply, text_reply, tokens_reply, tree_reply, stats_reply, folds_reply}
use Rattle.rpc.specs.Replies.{selections_reply, error_reply, published_diagnostics, log_message}
use Rattle.rpc.specs.Unit.TheVariants.{Utf16}
use Rattle.sessions.specs.Replies.{replied, all_replied, due, all_due, is_exit, has_exit, before_exit, EachRequestIsAnswered}
use Rattle.sessions.specs.Replies.{NoNotificationIsAnswered, NothingIsSentAfterExit}
use Rattle.sessions.specs.Runs.{Run}
use Rattle.sessions.specs.Steps.{State, Step, exit_status}

abbrev uri : List ℕ
uri = codes "a:x"

abbrev id : ℕ → Ident
id n = numbered (pos n)

-- ---- replies

-- of what is sent at once only the replies count, each with its id, in order
replies : all_replied
    (capabilities_reply (id 1) Utf16 ∷ published_diagnostics uri None None ∷ null_reply (named (codes "a")) ∷ log_message log.ChangeNotOpen
    ∷ error_reply None refusal.ParseError ∷ error_reply (Some (id 2)) refusal.InvalidParams ∷ [])
    ≡ Some (id 1) ∷ Some (named (codes "a")) ∷ None ∷ Some (id 2) ∷ []
replies = refl

views : all_replied
    (text_reply (id 1) (pos 1) [] ∷ tokens_reply (id 2) [] ∷ tree_reply (id 3) [] ∷ folds_reply (id 4) [] ∷ selections_reply (id 5) [] ∷ [])
    ≡ Some (id 1) ∷ Some (id 2) ∷ Some (id 3) ∷ Some (id 4) ∷ Some (id 5) ∷ []
views = refl

counts : replied (stats_reply (id 1) (record { tokens = 0; branches = 0; nodes = 0; edit = 0; scanned = 0; built = 0 })) ≡ Some (id 1) ∷ []
counts = refl

-- ---- what is due

-- a reply is due to what can't be read, with no id where none can be read
to_no_json : due unread ≡ None ∷ []
to_no_json = refl

to_an_invalid : due (refused (invalid None)) ≡ None ∷ []
to_an_invalid = refl

to_an_invalid_with_an_id : due (refused (invalid (Some (id 3)))) ≡ Some (id 3) ∷ []
to_an_invalid_with_an_id = refl

to_an_unknown_method : due (refused (unknown (named (codes "a")))) ≡ Some (named (codes "a")) ∷ []
to_an_unknown_method = refl

to_misfits : (due (refused (params (id 3) false)) ≡ Some (id 3) ∷ []) × (due (refused (params (id 4) true)) ≡ Some (id 4) ∷ [])
to_misfits = (refl, refl)

to_requests : (due (accepted (request (id 3) shutdown)) ≡ Some (id 3) ∷ []) × (due (accepted (request (id 4) (about uri its_text))) ≡ Some (id 4) ∷ [])
to_requests = (refl, refl)

-- and none to notifications, and to what is ignored
to_notifications : (due (accepted (notification exit)) ≡ []) × (due (accepted (notification (close uri))) ≡ []) × (due (accepted ignored) ≡ [])
to_notifications = (refl, refl, refl)

exits : (is_exit (accepted (notification exit)) ≡ true) × (is_exit (accepted (notification initialized)) ≡ false) × (is_exit (accepted (request (id 1) shutdown)) ≡ false)
    × (is_exit unread ≡ false)
exits = (refl, refl, refl, refl)

-- ---- contents

abbrev asks : List ℕ
asks = codes "{\"jsonrpc\":\"2.0\",\"id\":1,\"method\":\"lr/text\",\"params\":{\"textDocument\":{\"uri\":\"a:x\"}}}"

abbrev leaves : List ℕ
leaves = codes "{\"jsonrpc\":\"2.0\",\"method\":\"exit\"}"

-- nothing is due to what comes after `exit`, and to `exit` itself
before : before_exit (asks ∷ asks ∷ leaves ∷ asks ∷ []) ≡ asks ∷ asks ∷ []
unfolding chars encode_utf8 is_utf8 serde_json_on_literals
before = refl

no_exit : before_exit (asks ∷ asks ∷ []) ≡ asks ∷ asks ∷ []
unfolding chars encode_utf8 is_utf8 serde_json_on_literals
no_exit = refl

found : has_exit (asks ∷ leaves ∷ asks ∷ []) ≡ true
unfolding chars encode_utf8 is_utf8 serde_json_on_literals
found = refl

not_found : has_exit (asks ∷ asks ∷ []) ≡ false
unfolding chars encode_utf8 is_utf8 serde_json_on_literals
not_found = refl

each_due : all_due (asks ∷ codes "{" ∷ leaves ∷ asks ∷ []) ≡ Some (id 1) ∷ None ∷ Some (id 1) ∷ []
unfolding chars encode_utf8 is_utf8 serde_json_on_literals
each_due = refl

due_before : all_due (before_exit (asks ∷ leaves ∷ asks ∷ [])) ≡ Some (id 1) ∷ []
unfolding chars encode_utf8 is_utf8 serde_json_on_literals
due_before = refl

-- ---- what the laws say

-- of two questions, one of them after `exit`, one is answered
answered : EachRequestIsAnswered → (old new : State) (answers : List Answer) (stop : Option ℕ) → Run old (asks ∷ leaves ∷ asks ∷ []) answers stop new
    → all_replied answers ≡ Some (id 1) ∷ []
answered law old new answers stop run = law old (asks ∷ leaves ∷ asks ∷ []) answers stop new run ∙ due_before

-- an opening gets no reply
unanswered : NoNotificationIsAnswered → (old new : State) (answers : List Answer) (stop : Option ℕ)
    → Step old (accepted (notification (open_text uri (pos 1) []))) answers stop new → all_replied answers ≡ []
unanswered law old new answers stop step = law old (open_text uri (pos 1) []) answers stop new step

-- the session ends at `exit`, as if nothing came after it
ended : NothingIsSentAfterExit → (old new : State) (answers : List Answer) (stop : Option ℕ) → Run old (asks ∷ leaves ∷ asks ∷ []) answers stop new
    → Run old (asks ∷ []) answers None new × (stop ≡ Some (exit_status new.phase))
unfolding chars encode_utf8 is_utf8 serde_json_on_literals
ended law old new answers stop run = law old (asks ∷ leaves ∷ asks ∷ []) answers stop new run

-- and doesn't end without it
goes_on : NothingIsSentAfterExit → (old new : State) (answers : List Answer) (stop : Option ℕ) → Run old (asks ∷ []) answers stop new → stop ≡ None
unfolding chars encode_utf8 is_utf8 serde_json_on_literals
goes_on law old new answers stop run = (law old (asks ∷ []) answers stop new run).1
