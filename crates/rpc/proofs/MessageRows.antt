-- What contents are read as: a row for each method, and for each test in its order (JSON-RPC 2.0; LSP 3.17).
use Rattle.std.specs.Prelude.{◌≡◌, ℕ, pos, negsuc, List, [], ◌∷◌, codes, refl, Some, None, true, false}
use Rattle.std.specs.Char.{encode_utf8}
use Rattle.std.specs.Str.{chars, is_utf8}
use Rattle.definitions.specs.declared.Position.{Position}
use Rattle.definitions.specs.declared.Unit.TheVariants.{Utf8, Utf16, Utf32}
use Rattle.serde_json.proofs.OnLiterals.{serde_json_on_literals}
use Rattle.replies.specs.Ids.{Ident, named, numbered}
use Rattle.rpc.specs.Messages.{unread, refused, accepted, request, notification, ignored, invalid, unknown, params, initialize, shutdown}
use Rattle.rpc.specs.Messages.{about, stats, its_text, its_tokens, its_tree, its_folds, its_selections, initialized, exit, open_text, change_text}
use Rattle.rpc.specs.Messages.{close, malformed, unfit_open, unfit_change, unfit_close}
use Rattle.rpc.specs.Fields.{fits_i32, fits_u31}
use Rattle.rpc.specs.Reading.{received_in, unit_named, Receives}

abbrev one : Ident
one = numbered (pos 1)

abbrev uri : List ℕ
uri = codes "a:x"

-- the position `l:c`
abbrev at : ℕ → ℕ → Position
at l c = record { line = l; character = c }

-- no JSON
no_json : received_in (codes "{") ≡ unread
unfolding chars encode_utf8 is_utf8 serde_json_on_literals
no_json = refl

received_no_json : Receives (codes "{") unread
unfolding chars encode_utf8 is_utf8 serde_json_on_literals
received_no_json = refl

received_otherwise : Receives (codes "{") (accepted ignored) → ⊥
unfolding chars encode_utf8 is_utf8 serde_json_on_literals
received_otherwise r = let f : ⊥ = cc r in f

-- no object
no_object : received_in (codes "[]") ≡ refused (invalid None)
unfolding chars encode_utf8 is_utf8 serde_json_on_literals
no_object = refl

-- a reply: no method, and a result or an error
reply : received_in (codes "{\"id\":1,\"result\":null}") ≡ accepted ignored
unfolding chars encode_utf8 is_utf8 serde_json_on_literals
reply = refl

error_reply : received_in (codes "{\"id\":1,\"error\":{}}") ≡ accepted ignored
unfolding chars encode_utf8 is_utf8 serde_json_on_literals
error_reply = refl

-- no version, no method, or an id that can't be read
no_version : received_in (codes "{\"id\":1,\"method\":\"shutdown\"}") ≡ refused (invalid (Some one))
unfolding chars encode_utf8 is_utf8 serde_json_on_literals
no_version = refl

another_version : received_in (codes "{\"jsonrpc\":\"1.0\",\"id\":1,\"method\":\"shutdown\"}") ≡ refused (invalid (Some one))
unfolding chars encode_utf8 is_utf8 serde_json_on_literals
another_version = refl

no_method : received_in (codes "{\"jsonrpc\":\"2.0\",\"id\":1}") ≡ refused (invalid (Some one))
unfolding chars encode_utf8 is_utf8 serde_json_on_literals
no_method = refl

no_id_to_read : received_in (codes "{\"jsonrpc\":\"2.0\",\"id\":1.5,\"method\":\"shutdown\"}") ≡ refused (invalid None)
unfolding chars encode_utf8 is_utf8 serde_json_on_literals
no_id_to_read = refl

wide_id : received_in (codes "{\"jsonrpc\":\"2.0\",\"id\":2147483648,\"method\":\"shutdown\"}") ≡ refused (invalid None)
unfolding chars encode_utf8 is_utf8 serde_json_on_literals
wide_id = refl

-- the least id, and an id that is a text
least_id : received_in (codes "{\"jsonrpc\":\"2.0\",\"id\":-2147483648,\"method\":\"shutdown\"}") ≡ accepted (request (numbered (negsuc 2_147_483_647)) shutdown)
unfolding chars encode_utf8 is_utf8 serde_json_on_literals
least_id = refl

named_id : received_in (codes "{\"jsonrpc\":\"2.0\",\"id\":\"a\",\"method\":\"shutdown\"}") ≡ accepted (request (named (codes "a")) shutdown)
unfolding chars encode_utf8 is_utf8 serde_json_on_literals
named_id = refl

-- requests
unknown_method : received_in (codes "{\"jsonrpc\":\"2.0\",\"id\":1,\"method\":\"textDocument/hover\"}") ≡ refused (unknown one)
unfolding chars encode_utf8 is_utf8 serde_json_on_literals
unknown_method = refl

notification_as_request : received_in (codes "{\"jsonrpc\":\"2.0\",\"id\":1,\"method\":\"exit\"}") ≡ refused (unknown one)
unfolding chars encode_utf8 is_utf8 serde_json_on_literals
notification_as_request = refl

initializes : received_in (codes "{\"jsonrpc\":\"2.0\",\"id\":1,\"method\":\"initialize\",\"params\":{}}") ≡ accepted (request one (initialize Utf16))
unfolding chars encode_utf8 is_utf8 serde_json_on_literals
initializes = refl

initializes_with_unit : received_in
    (codes "{\"jsonrpc\":\"2.0\",\"id\":1,\"method\":\"initialize\",\"params\":{\"capabilities\":{\"general\":{\"positionEncodings\":[\"utf-7\",\"utf-32\",\"utf-8\"]}}}}")
    ≡ accepted (request one (initialize Utf32))
unfolding chars encode_utf8 is_utf8 serde_json_on_literals
initializes_with_unit = refl

initializes_with_no_list : received_in (codes "{\"jsonrpc\":\"2.0\",\"id\":1,\"method\":\"initialize\",\"params\":{\"capabilities\":{\"general\":{\"positionEncodings\":5}}}}")
    ≡ accepted (request one (initialize Utf16))
unfolding chars encode_utf8 is_utf8 serde_json_on_literals
initializes_with_no_list = refl

no_parameters : received_in (codes "{\"jsonrpc\":\"2.0\",\"id\":1,\"method\":\"initialize\"}") ≡ refused (params one true)
unfolding chars encode_utf8 is_utf8 serde_json_on_literals
no_parameters = refl

asks_text : received_in (codes "{\"jsonrpc\":\"2.0\",\"id\":1,\"method\":\"lr/text\",\"params\":{\"textDocument\":{\"uri\":\"a:x\"}}}") ≡ accepted (request one (about uri its_text))
unfolding chars encode_utf8 is_utf8 serde_json_on_literals
asks_text = refl

asks_tokens : received_in (codes "{\"jsonrpc\":\"2.0\",\"id\":1,\"method\":\"lr/tokens\",\"params\":{\"textDocument\":{\"uri\":\"a:x\"}}}") ≡ accepted (request one (about uri its_tokens))
unfolding chars encode_utf8 is_utf8 serde_json_on_literals
asks_tokens = refl

asks_tree : received_in (codes "{\"jsonrpc\":\"2.0\",\"id\":1,\"method\":\"lr/tree\",\"params\":{\"textDocument\":{\"uri\":\"a:x\"}}}") ≡ accepted (request one (about uri its_tree))
unfolding chars encode_utf8 is_utf8 serde_json_on_literals
asks_tree = refl

asks_folds : received_in (codes "{\"jsonrpc\":\"2.0\",\"id\":1,\"method\":\"textDocument/foldingRange\",\"params\":{\"textDocument\":{\"uri\":\"a:x\"}}}")
    ≡ accepted (request one (about uri its_folds))
unfolding chars encode_utf8 is_utf8 serde_json_on_literals
asks_folds = refl

asks_counts : received_in (codes "{\"jsonrpc\":\"2.0\",\"id\":1,\"method\":\"lr/stats\",\"params\":{\"textDocument\":{\"uri\":\"a:x\"}}}") ≡ accepted (request one (stats uri))
unfolding chars encode_utf8 is_utf8 serde_json_on_literals
asks_counts = refl

asks_selections : received_in (codes
    "{\"jsonrpc\":\"2.0\",\"id\":1,\"method\":\"textDocument/selectionRange\",\"params\":{\"textDocument\":{\"uri\":\"a:x\"},\"positions\":[{\"line\":0,\"character\":3}]}}") ≡ accepted
    (request one (about uri (its_selections (at 0 3 ∷ []))))
unfolding chars encode_utf8 is_utf8 serde_json_on_literals
asks_selections = refl

no_uri : received_in (codes "{\"jsonrpc\":\"2.0\",\"id\":1,\"method\":\"lr/text\",\"params\":{\"textDocument\":{\"uri\":5}}}") ≡ refused (params one false)
unfolding chars encode_utf8 is_utf8 serde_json_on_literals
no_uri = refl

no_positions : received_in (codes "{\"jsonrpc\":\"2.0\",\"id\":1,\"method\":\"textDocument/selectionRange\",\"params\":{\"textDocument\":{\"uri\":\"a:x\"}}}") ≡ refused (params one false)
unfolding chars encode_utf8 is_utf8 serde_json_on_literals
no_positions = refl

far_position : received_in (codes
    "{\"jsonrpc\":\"2.0\",\"id\":1,\"method\":\"textDocument/selectionRange\",\"params\":{\"textDocument\":{\"uri\":\"a:x\"},\"positions\":[{\"line\":2147483648,\"character\":0}]}}")
    ≡ refused (params one false)
unfolding chars encode_utf8 is_utf8 serde_json_on_literals
far_position = refl

-- notifications
is_initialized : received_in (codes "{\"jsonrpc\":\"2.0\",\"method\":\"initialized\"}") ≡ accepted (notification initialized)
unfolding chars encode_utf8 is_utf8 serde_json_on_literals
is_initialized = refl

exits : received_in (codes "{\"jsonrpc\":\"2.0\",\"method\":\"exit\"}") ≡ accepted (notification exit)
unfolding chars encode_utf8 is_utf8 serde_json_on_literals
exits = refl

request_as_notification : received_in (codes "{\"jsonrpc\":\"2.0\",\"method\":\"shutdown\"}") ≡ accepted ignored
unfolding chars encode_utf8 is_utf8 serde_json_on_literals
request_as_notification = refl

unknown_notification : received_in (codes "{\"jsonrpc\":\"2.0\",\"method\":\"$/cancelRequest\"}") ≡ accepted ignored
unfolding chars encode_utf8 is_utf8 serde_json_on_literals
unknown_notification = refl

opens : received_in (codes "{\"jsonrpc\":\"2.0\",\"method\":\"textDocument/didOpen\",\"params\":{\"textDocument\":{\"uri\":\"a:x\",\"languageId\":\"g\",\"version\":1,\"text\":\"\"}}}")
    ≡ accepted (notification (open_text uri (pos 1) []))
unfolding chars encode_utf8 is_utf8 serde_json_on_literals
opens = refl

opens_malformed : received_in (codes "{\"jsonrpc\":\"2.0\",\"method\":\"textDocument/didOpen\",\"params\":{\"textDocument\":{\"uri\":\"a:x\",\"version\":1}}}")
    ≡ accepted (notification (malformed unfit_open))
unfolding chars encode_utf8 is_utf8 serde_json_on_literals
opens_malformed = refl

changes : received_in (codes
    "{\"jsonrpc\":\"2.0\",\"method\":\"textDocument/didChange\",\"params\":{\"textDocument\":{\"uri\":\"a:x\",\"version\":2},\"contentChanges\":[{\"range\":{\"start\":{\"line\":0,\"character\":0},\"end\":{\"line\":0,\"character\":1}},\"text\":\"\"},{\"text\":\"2\"}]}}")
    ≡ accepted (notification (change_text uri (pos 2) (record { range = Some (record { start = at 0 0; end = at 0 1 }); text = [] }
    ∷ record { range = None; text = codes "2" } ∷ [])))
unfolding chars encode_utf8 is_utf8 serde_json_on_literals
changes = refl

no_changes : received_in (codes "{\"jsonrpc\":\"2.0\",\"method\":\"textDocument/didChange\",\"params\":{\"textDocument\":{\"uri\":\"a:x\",\"version\":2},\"contentChanges\":[]}}")
    ≡ accepted (notification (change_text uri (pos 2) []))
unfolding chars encode_utf8 is_utf8 serde_json_on_literals
no_changes = refl

change_malformed : received_in (codes "{\"jsonrpc\":\"2.0\",\"method\":\"textDocument/didChange\",\"params\":{\"textDocument\":{\"uri\":\"a:x\",\"version\":2},\"contentChanges\":5}}")
    ≡ accepted (notification (malformed (unfit_change (Some uri))))
unfolding chars encode_utf8 is_utf8 serde_json_on_literals
change_malformed = refl

null_range : received_in (codes
    "{\"jsonrpc\":\"2.0\",\"method\":\"textDocument/didChange\",\"params\":{\"textDocument\":{\"uri\":\"a:x\",\"version\":2},\"contentChanges\":[{\"range\":null,\"text\":\"\"}]}}")
    ≡ accepted (notification (malformed (unfit_change (Some uri))))
unfolding chars encode_utf8 is_utf8 serde_json_on_literals
null_range = refl

change_without_uri : received_in (codes "{\"jsonrpc\":\"2.0\",\"method\":\"textDocument/didChange\",\"params\":{}}") ≡ accepted (notification (malformed (unfit_change None)))
unfolding chars encode_utf8 is_utf8 serde_json_on_literals
change_without_uri = refl

closes : received_in (codes "{\"jsonrpc\":\"2.0\",\"method\":\"textDocument/didClose\",\"params\":{\"textDocument\":{\"uri\":\"a:x\"}}}") ≡ accepted (notification (close uri))
unfolding chars encode_utf8 is_utf8 serde_json_on_literals
closes = refl

closes_malformed : received_in (codes "{\"jsonrpc\":\"2.0\",\"method\":\"textDocument/didClose\",\"params\":{}}") ≡ accepted (notification (malformed unfit_close))
unfolding chars encode_utf8 is_utf8 serde_json_on_literals
closes_malformed = refl

-- ---- the names of units, and the limits of numbers

initializes_with_utf8 : received_in (codes "{\"jsonrpc\":\"2.0\",\"id\":1,\"method\":\"initialize\",\"params\":{\"capabilities\":{\"general\":{\"positionEncodings\":[\"utf-8\",\"utf-16\"]}}}}") ≡ accepted (request one (initialize Utf8))
unfolding chars encode_utf8 is_utf8 serde_json_on_literals
initializes_with_utf8 = refl

initializes_with_utf16 : received_in (codes "{\"jsonrpc\":\"2.0\",\"id\":1,\"method\":\"initialize\",\"params\":{\"capabilities\":{\"general\":{\"positionEncodings\":[\"utf-16\",\"utf-8\"]}}}}") ≡ accepted (request one (initialize Utf16))
unfolding chars encode_utf8 is_utf8 serde_json_on_literals
initializes_with_utf16 = refl

unit_names : (unit_named (codes "utf-8") ≡ Some Utf8) × (unit_named (codes "utf-16") ≡ Some Utf16) × (unit_named (codes "utf-32") ≡ Some Utf32) × (unit_named (codes "utf8") ≡ None)
unit_names = (refl, refl, refl, refl)

integers : (fits_i32 (pos 2_147_483_647) ≡ Some (pos 2_147_483_647)) × (fits_i32 (pos 2_147_483_648) ≡ None) × (fits_i32 (negsuc 2_147_483_647) ≡ Some (negsuc 2_147_483_647))
    × (fits_i32 (negsuc 2_147_483_648) ≡ None) × (fits_u31 2_147_483_647 ≡ Some 2_147_483_647) × (fits_u31 2_147_483_648 ≡ None)
integers = (refl, refl, refl, refl, refl, refl)

greatest_id : received_in (codes "{\"jsonrpc\":\"2.0\",\"id\":2147483647,\"method\":\"shutdown\"}") ≡ accepted (request (numbered (pos 2_147_483_647)) shutdown)
unfolding chars encode_utf8 is_utf8 serde_json_on_literals
greatest_id = refl

farthest_position : received_in (codes "{\"jsonrpc\":\"2.0\",\"id\":1,\"method\":\"textDocument/selectionRange\",\"params\":{\"textDocument\":{\"uri\":\"a:x\"},\"positions\":[{\"line\":2147483647,\"character\":7}]}}") ≡ accepted (request one (about uri (its_selections (at 2_147_483_647 7 ∷ []))))
unfolding chars encode_utf8 is_utf8 serde_json_on_literals
farthest_position = refl

negative_position : received_in (codes "{\"jsonrpc\":\"2.0\",\"id\":1,\"method\":\"textDocument/selectionRange\",\"params\":{\"textDocument\":{\"uri\":\"a:x\"},\"positions\":[{\"line\":-1,\"character\":7}]}}") ≡ refused (params one false)
unfolding chars encode_utf8 is_utf8 serde_json_on_literals
negative_position = refl

-- a content that isn't UTF-8
not_utf8 : received_in (34 ∷ 255 ∷ 34 ∷ []) ≡ unread
unfolding chars encode_utf8 is_utf8 serde_json_on_literals
not_utf8 = refl

-- both a method and a result: no reply
method_and_result : received_in (codes "{\"jsonrpc\":\"2.0\",\"id\":1,\"method\":\"shutdown\",\"result\":null}") ≡ accepted (request one shutdown)
unfolding chars encode_utf8 is_utf8 serde_json_on_literals
method_and_result = refl

-- an id that is null can't be read, and a method that is no text is none
null_id : received_in (codes "{\"jsonrpc\":\"2.0\",\"id\":null,\"method\":\"shutdown\"}") ≡ refused (invalid None)
unfolding chars encode_utf8 is_utf8 serde_json_on_literals
null_id = refl

numbered_method : received_in (codes "{\"jsonrpc\":\"2.0\",\"id\":1,\"method\":5}") ≡ refused (invalid (Some one))
unfolding chars encode_utf8 is_utf8 serde_json_on_literals
numbered_method = refl

-- of parameters that are a list `initialize` makes nothing
list_of_parameters : received_in (codes "{\"jsonrpc\":\"2.0\",\"id\":1,\"method\":\"initialize\",\"params\":[]}") ≡ refused (params one true)
unfolding chars encode_utf8 is_utf8 serde_json_on_literals
list_of_parameters = refl

opens_without_version : received_in (codes "{\"jsonrpc\":\"2.0\",\"method\":\"textDocument/didOpen\",\"params\":{\"textDocument\":{\"uri\":\"a:x\",\"text\":\"\"}}}") ≡ accepted (notification (malformed unfit_open))
unfolding chars encode_utf8 is_utf8 serde_json_on_literals
opens_without_version = refl

change_without_text : received_in (codes "{\"jsonrpc\":\"2.0\",\"method\":\"textDocument/didChange\",\"params\":{\"textDocument\":{\"uri\":\"a:x\",\"version\":2},\"contentChanges\":[{}]}}") ≡ accepted (notification (malformed (unfit_change (Some uri))))
unfolding chars encode_utf8 is_utf8 serde_json_on_literals
change_without_text = refl

-- a range from one line to another
range_of_two_lines : received_in (codes "{\"jsonrpc\":\"2.0\",\"method\":\"textDocument/didChange\",\"params\":{\"textDocument\":{\"uri\":\"a:x\",\"version\":2},\"contentChanges\":[{\"range\":{\"start\":{\"line\":1,\"character\":2},\"end\":{\"line\":3,\"character\":4}},\"text\":\"\"}]}}") ≡ accepted (notification (change_text uri (pos 2) (record { range = Some (record { start = at 1 2; end = at 3 4 }); text = [] } ∷ [])))
unfolding chars encode_utf8 is_utf8 serde_json_on_literals
range_of_two_lines = refl
