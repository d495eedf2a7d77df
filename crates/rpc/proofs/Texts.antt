-- The texts of what is received are in UTF-8.
use Rattle.rpc.proofs.Std.{◌≡◌, ℕ, Bool, true, false, List, [], ◌∷◌, map, All, codes, Option, Some, None, IfSome, option_map, option_and_then, if◌then◌else◌, ℤ, is_none, is_some, IsUtf8, refl, sym, subst, ⊤, nat_cmp, slice_cmp, is_utf8, bytes_eq}
use Rattle.rpc.proofs.Std.{All-append, All-cons, All-nil, IsUtf8-from_is_utf8, scalars-chars, encodes-chars}
use Rattle.rpc.proofs.Std.{Data, null, string, Items, no_items, item, array, Members, no_members, member, object, get, get_member, as_str, as_array, as_object, read}
use Rattle.rpc.proofs.Common.{Position, Range}
use Rattle.rpc.proofs.Common.{integer_of, text_at, Question, its_text, its_tokens, its_tree, its_folds, initialize, shutdown, initialized, exit, ignored, unknown, TextChange, Notification, Received, refused, invalid, params, accepted, request, notification}
use Rattle.rpc.proofs.Common.{ident_of, id_at, uri_at, version_at, document_text, maybe_range, change_with, change_of, first_and, changes_of, changes_at, positions_at, unit_at, document_request, stats_request, selections_request, request_of, open_notification, read_open, change_notification}
use Rattle.rpc.proofs.Common.{read_change, close_notification, read_close, notification_of, of_method, is_reply, is_invalid, params_at, message_of, value_of, received_as, Receives, IsSpelled, id_texts, notification_texts, texts_of}
use Rattle.rpc.proofs.Common.{Ident, numbered}
use Rattle.std.proofs.Common.{unwrap_or}
use Rattle.rpc.proofs.Strings.{if_map, if_then, cond_either}
use Rattle.rpc.proofs.Values.{IsSpelledData, AreSpelledItems, AreSpelledMembers, any, by_order, read_spelled}

spelled_from : (s : List ℕ) → IsUtf8 s → IsSpelled s
spelled_from s u = record { scalars = scalars-chars s u; same = encodes-chars s u }

abbrev AreSpelled : Received → Type 0
AreSpelled received = All IsSpelled (texts_of received)

abbrev IsSpelledId : Ident → Type 0
IsSpelledId id = All IsSpelled (id_texts id)

-- ---- parts of a value

member_spelled : (k : List ℕ) (ms : Members) → AreSpelledMembers ms → IfSome (get_member k ms) IsSpelledData
member_spelled k no_members h = tt
member_spelled k (member l e ms) h =
    by_order (λ o. IfSome o IsSpelledData) (slice_cmp nat_cmp k l) (get_member k ms) (Some e) (get_member k ms) (member_spelled k ms h.1) h.0 (member_spelled k ms h.1)

get_spelled : (k : List ℕ) (d : Data) → IsSpelledData d → IfSome (get k d) IsSpelledData
get_spelled k (object ms) h = member_spelled k ms h
get_spelled k d h = tt

str_spelled : (d : Data) → IsSpelledData d → IfSome (as_str d) IsSpelled
str_spelled (string s) h = spelled_from s h
str_spelled d h = tt

array_spelled : (d : Data) → IsSpelledData d → IfSome (as_array d) AreSpelledItems
array_spelled (array ds) h = h
array_spelled d h = tt

text_spelled : (k : List ℕ) (d : Data) → IsSpelledData d → IfSome (text_at k d) IsSpelled
text_spelled k d h = if_then IsSpelledData IsSpelled as_str (get k d) str_spelled (get_spelled k d h)

numbered_spelled : (d : Data) → IfSome (option_map numbered (integer_of d)) IsSpelledId
numbered_spelled d = if_map (λ _. ⊤) IsSpelledId numbered (integer_of d) (λ z _. All-nil IsSpelled) (any (integer_of d))

ident_spelled : (d : Data) → IsSpelledData d → IfSome (ident_of d) IsSpelledId
ident_spelled (string s) h = All-cons IsSpelled s [] (spelled_from s h) (All-nil IsSpelled)
ident_spelled d h = numbered_spelled d

id_spelled : (d : Data) → IsSpelledData d → IfSome (id_at d) IsSpelledId
id_spelled d h = if_then IsSpelledData IsSpelledId ident_of (get (codes "id") d) ident_spelled (get_spelled (codes "id") d h)

uri_spelled : (d : Data) → IsSpelledData d → IfSome (uri_at d) IsSpelled
uri_spelled d h =
    if_then IsSpelledData IsSpelled (text_at (codes "uri")) (get (codes "textDocument") d) (text_spelled (codes "uri")) (get_spelled (codes "textDocument") d h)

document_spelled : (d : Data) → IsSpelledData d → IfSome (document_text d) IsSpelled
document_spelled d h =
    if_then IsSpelledData IsSpelled (text_at (codes "text")) (get (codes "textDocument") d) (text_spelled (codes "text")) (get_spelled (codes "textDocument") d h)

-- ---- changes

abbrev IsSpelledChange : TextChange → Type 0
IsSpelledChange c = IsSpelled c.text

abbrev AreSpelledChanges : List TextChange → Type 0
AreSpelledChanges cs = All IsSpelled (map (λ c. c.text) cs)

change_from : (text : Option (List ℕ)) (range : Option (Option Range)) → IfSome text IsSpelled → IfSome (change_with text range) IsSpelledChange
change_from None range h = tt
change_from (Some text) None h = tt
change_from (Some text) (Some range) h = h

more_changes : (c : Option TextChange) (cs : Option (List TextChange)) → IfSome c IsSpelledChange → IfSome cs AreSpelledChanges → IfSome (first_and c cs) AreSpelledChanges
more_changes None cs h hs = tt
more_changes (Some c) None h hs = tt
more_changes (Some c) (Some cs) h hs = All-cons IsSpelled c.text (map (λ x. x.text) cs) h hs

items_changes : (ds : Items) → AreSpelledItems ds → IfSome (changes_of ds) AreSpelledChanges
items_changes no_items h = All-nil IsSpelled
items_changes (item d ds) h =
    more_changes (change_of d) (changes_of ds) (change_from (text_at (codes "text") d) (maybe_range (get (codes "range") d)) (text_spelled (codes "text") d h.0)) (items_changes ds h.1)

changes_spelled : (d : Data) → IsSpelledData d → IfSome (changes_at d) AreSpelledChanges
changes_spelled d h =
    if_then AreSpelledItems AreSpelledChanges changes_of (option_and_then as_array (get (codes "contentChanges") d)) items_changes
    (if_then IsSpelledData AreSpelledItems as_array (get (codes "contentChanges") d) array_spelled (get_spelled (codes "contentChanges") d h))

-- ---- messages

abbrev IsSpelledNotification : Notification → Type 0
IsSpelledNotification note = All IsSpelled (notification_texts note)

module _ (id : Ident) (hid : IsSpelledId id) where
  about_spelled : (q : Question) (uri : Option (List ℕ)) → IfSome uri IsSpelled → AreSpelled (document_request q id uri)
  about_spelled q None h = hid
  about_spelled q (Some uri) h = All-append IsSpelled (id_texts id) (uri ∷ []) hid (All-cons IsSpelled uri [] h (All-nil IsSpelled))

  stats_spelled : (uri : Option (List ℕ)) → IfSome uri IsSpelled → AreSpelled (stats_request id uri)
  stats_spelled None h = hid
  stats_spelled (Some uri) h = All-append IsSpelled (id_texts id) (uri ∷ []) hid (All-cons IsSpelled uri [] h (All-nil IsSpelled))

  alone : AreSpelled (accepted (request id shutdown))
  alone = All-append IsSpelled (id_texts id) [] hid (All-nil IsSpelled)

  selections_spelled : (uri : Option (List ℕ)) (positions : Option (List Position)) → IfSome uri IsSpelled → AreSpelled (selections_request id uri positions)
  selections_spelled (Some uri) (Some positions) h = All-append IsSpelled (id_texts id) (uri ∷ []) hid (All-cons IsSpelled uri [] h (All-nil IsSpelled))
  selections_spelled uri positions h = hid

  request_spelled : (method : List ℕ) (d : Data) → IsSpelledData d → AreSpelled (request_of method id d)
  request_spelled method d h =
      let u = uri_spelled d h in
      cond_either AreSpelled (bytes_eq method (codes "initialize")) _ _
      (cond_either AreSpelled (is_some (as_object d)) (accepted (request id (initialize (unit_at d)))) (refused (params id true)) alone hid)
      (cond_either AreSpelled (bytes_eq method (codes "shutdown")) (accepted (request id shutdown)) _ alone
      (cond_either AreSpelled (bytes_eq method (codes "textDocument/foldingRange")) _ _ (about_spelled its_folds (uri_at d) u)
      (cond_either AreSpelled (bytes_eq method (codes "textDocument/selectionRange")) _ _ (selections_spelled (uri_at d) (positions_at d) u)
      (cond_either AreSpelled (bytes_eq method (codes "lr/text")) _ _ (about_spelled its_text (uri_at d) u)
      (cond_either AreSpelled (bytes_eq method (codes "lr/tokens")) _ _ (about_spelled its_tokens (uri_at d) u)
      (cond_either AreSpelled (bytes_eq method (codes "lr/tree")) _ _ (about_spelled its_tree (uri_at d) u)
      (cond_either AreSpelled (bytes_eq method (codes "lr/stats")) _ (refused (unknown id)) (stats_spelled (uri_at d) u) hid)))))))

open_spelled : (uri : Option (List ℕ)) (version : Option ℤ) (text : Option (List ℕ)) → IfSome uri IsSpelled → IfSome text IsSpelled → IsSpelledNotification (open_notification uri version text)
open_spelled (Some uri) (Some version) (Some text) h k = All-cons IsSpelled uri (text ∷ []) h (All-cons IsSpelled text [] k (All-nil IsSpelled))
open_spelled uri version text h k = All-nil IsSpelled

change_spelled : (uri : Option (List ℕ)) (version : Option ℤ) (changes : Option (List TextChange)) → IfSome uri IsSpelled
    → IfSome changes AreSpelledChanges → IsSpelledNotification (change_notification uri version changes)
change_spelled None version changes h k = All-nil IsSpelled
change_spelled (Some uri) (Some version) (Some changes) h k = All-cons IsSpelled uri (map (λ c. c.text) changes) h k
change_spelled (Some uri) version changes h k = All-cons IsSpelled uri [] h (All-nil IsSpelled)

close_spelled : (uri : Option (List ℕ)) → IfSome uri IsSpelled → IsSpelledNotification (close_notification uri)
close_spelled None h = All-nil IsSpelled
close_spelled (Some uri) h = All-cons IsSpelled uri [] h (All-nil IsSpelled)

notice_spelled : (method : List ℕ) (d : Data) → IsSpelledData d → AreSpelled (notification_of method d)
notice_spelled method d h =
    let u = uri_spelled d h in
    cond_either AreSpelled (bytes_eq method (codes "initialized")) (accepted (notification initialized)) _ (All-nil IsSpelled)
    (cond_either AreSpelled (bytes_eq method (codes "exit")) (accepted (notification exit)) _ (All-nil IsSpelled)
    (cond_either AreSpelled (bytes_eq method (codes "textDocument/didOpen")) (accepted (notification (read_open d))) _
    (open_spelled (uri_at d) (version_at d) (document_text d) u (document_spelled d h))
    (cond_either AreSpelled (bytes_eq method (codes "textDocument/didChange")) (accepted (notification (read_change d))) _
    (change_spelled (uri_at d) (version_at d) (changes_at d) u (changes_spelled d h))
    (cond_either AreSpelled (bytes_eq method (codes "textDocument/didClose")) (accepted (notification (read_close d))) (accepted ignored) (close_spelled (uri_at d) u) (All-nil IsSpelled)))))

invalid_spelled : (id : Option Ident) → IfSome id IsSpelledId → AreSpelled (refused (invalid id))
invalid_spelled None h = All-nil IsSpelled
invalid_spelled (Some id) h = h

method_spelled : (method : Option (List ℕ)) (id : Option Ident) (d : Data) → IfSome id IsSpelledId → IsSpelledData d → AreSpelled (of_method method id d)
method_spelled (Some method) (Some id) d h k = request_spelled id h method d k
method_spelled (Some method) None d h k = notice_spelled method d k
method_spelled None None d h k = All-nil IsSpelled
method_spelled None (Some id) d h k = h

params_spelled : (o : Option Data) → IfSome o IsSpelledData → IsSpelledData (unwrap_or o null)
params_spelled None h = tt
params_spelled (Some d) h = h

message_spelled : (d : Data) → IsSpelledData d → AreSpelled (message_of d)
message_spelled d h =
    cond_either AreSpelled (is_none (as_object d)) (refused (invalid None)) _ (All-nil IsSpelled)
    (cond_either AreSpelled (is_reply d) (accepted ignored) _ (All-nil IsSpelled)
    (cond_either AreSpelled (is_invalid d) (refused (invalid (id_at d))) _ (invalid_spelled (id_at d) (id_spelled d h))
    (method_spelled (text_at (codes "method") d) (id_at d) (params_at d) (id_spelled d h) (params_spelled (get (codes "params") d) (get_spelled (codes "params") d h)))))

value_spelled : (content : List ℕ) (b : Bool) → b ≡ is_utf8 content → IfSome (if b then read content else None) IsSpelledData
value_spelled content true e = read_spelled content (IsUtf8-from_is_utf8 content (sym e))
value_spelled content false e = tt

received_spelled : (o : Option Data) → IfSome o IsSpelledData → AreSpelled (received_as o)
received_spelled None h = All-nil IsSpelled
received_spelled (Some d) h = message_spelled d h

pub each_text_is_spelled : (content : List ℕ) (received : Received) → Receives content received → All IsSpelled (texts_of received)
each_text_is_spelled content received e = subst AreSpelled (sym e) (received_spelled (value_of content) (value_spelled content (is_utf8 content) refl))
