-- How messages are written, to the byte, and which numbers fit (JSON-RPC 2.0; LSP 3.17).
use Rattle.std.specs.Prelude.{◌≡◌, ℕ, pos, negsuc, List, [], ◌∷◌, codes, refl, Some, None, option_map}
use Rattle.std.proofs.lemmas.List.Elements.{All-from_recursion, All-head}
use Rattle.std.specs.Fmt.{digits}
use Rattle.json.specs.Print.{escape_byte}
use Rattle.definitions.specs.declared.Position.{Position}
use Rattle.definitions.specs.declared.Unit.TheVariants.{Utf8}
use Rattle.serde_json.specs.Written.{compact_text}
use Rattle.replies.specs.Ids.{Ident, named, numbered}
use Rattle.rpc.specs.Messages.{initialize, shutdown, about, stats, its_text, its_tokens, its_tree, its_folds, its_selections, initialized, exit}
use Rattle.rpc.specs.Messages.{open_text, change_text, close, malformed, unfit_open}
use Rattle.rpc.specs.Writing.{request_data, notification_data, IdFits, PositionFits, RangeFits, QuestionFits}
use Rattle.rpc.specs.Writing.{RequestFits, NotificationFits}

abbrev uri : List ℕ
uri = codes "a:x"

abbrev one : Ident
one = numbered (pos 1)

-- the position `l:c`
abbrev at : ℕ → ℕ → Position
at l c = record { line = l; character = c }

-- ---- requests

initializes : compact_text (request_data one (initialize Utf8))
    ≡ codes "{\"id\":1,\"jsonrpc\":\"2.0\",\"method\":\"initialize\",\"params\":{\"capabilities\":{\"general\":{\"positionEncodings\":[\"utf-8\"]}},\"processId\":null,\"rootUri\":null}}"
unfolding escape_byte digits
initializes = refl

shuts_down : compact_text (request_data (named (codes "a")) shutdown) ≡ codes "{\"id\":\"a\",\"jsonrpc\":\"2.0\",\"method\":\"shutdown\"}"
unfolding escape_byte digits
shuts_down = refl

asks_for_text : compact_text (request_data one (about uri its_text))
    ≡ codes "{\"id\":1,\"jsonrpc\":\"2.0\",\"method\":\"lr/text\",\"params\":{\"textDocument\":{\"uri\":\"a:x\"}}}"
unfolding escape_byte digits
asks_for_text = refl

asks_for_tokens : compact_text (request_data one (about uri its_tokens))
    ≡ codes "{\"id\":1,\"jsonrpc\":\"2.0\",\"method\":\"lr/tokens\",\"params\":{\"textDocument\":{\"uri\":\"a:x\"}}}"
unfolding escape_byte digits
asks_for_tokens = refl

asks_for_a_tree : compact_text (request_data one (about uri its_tree))
    ≡ codes "{\"id\":1,\"jsonrpc\":\"2.0\",\"method\":\"lr/tree\",\"params\":{\"textDocument\":{\"uri\":\"a:x\"}}}"
unfolding escape_byte digits
asks_for_a_tree = refl

asks_for_folds : compact_text (request_data one (about uri its_folds))
    ≡ codes "{\"id\":1,\"jsonrpc\":\"2.0\",\"method\":\"textDocument/foldingRange\",\"params\":{\"textDocument\":{\"uri\":\"a:x\"}}}"
unfolding escape_byte digits
asks_for_folds = refl

asks_for_selections : compact_text (request_data one (about uri (its_selections (at 2 3 ∷ []))))
    ≡ codes "{\"id\":1,\"jsonrpc\":\"2.0\",\"method\":\"textDocument/selectionRange\",\"params\":{\"positions\":[{\"character\":3,\"line\":2}],\"textDocument\":{\"uri\":\"a:x\"}}}"
unfolding escape_byte digits
asks_for_selections = refl

asks_for_counts : compact_text (request_data one (stats uri))
    ≡ codes "{\"id\":1,\"jsonrpc\":\"2.0\",\"method\":\"lr/stats\",\"params\":{\"textDocument\":{\"uri\":\"a:x\"}}}"
unfolding escape_byte digits
asks_for_counts = refl

-- ---- notifications

begins : option_map compact_text (notification_data [] initialized) ≡ Some (codes "{\"jsonrpc\":\"2.0\",\"method\":\"initialized\",\"params\":{}}")
unfolding escape_byte digits
begins = refl

leaves : option_map compact_text (notification_data [] exit) ≡ Some (codes "{\"jsonrpc\":\"2.0\",\"method\":\"exit\"}")
unfolding escape_byte digits
leaves = refl

opens : option_map compact_text (notification_data (codes "g") (open_text uri (pos 1) (codes "1\n")))
    ≡ Some (codes "{\"jsonrpc\":\"2.0\",\"method\":\"textDocument/didOpen\",\"params\":{\"textDocument\":{\"languageId\":\"g\",\"text\":\"1\\n\",\"uri\":\"a:x\",\"version\":1}}}")
unfolding escape_byte digits
opens = refl

changes : option_map compact_text (notification_data [] (change_text uri (pos 2)
    (record { range = Some (record { start = at 0 1; end = at 2 3 }); text = codes "5" } ∷ record { range = None; text = [] } ∷ [])))
    ≡ Some (codes "{\"jsonrpc\":\"2.0\",\"method\":\"textDocument/didChange\",\"params\":{\"contentChanges\":[{\"range\":{\"end\":{\"character\":3,\"line\":2},\"start\":{\"character\":1,\"line\":0}},\"text\":\"5\"},{\"text\":\"\"}],\"textDocument\":{\"uri\":\"a:x\",\"version\":2}}}")
unfolding escape_byte digits
changes = refl

closes : option_map compact_text (notification_data [] (close uri))
    ≡ Some (codes "{\"jsonrpc\":\"2.0\",\"method\":\"textDocument/didClose\",\"params\":{\"textDocument\":{\"uri\":\"a:x\"}}}")
unfolding escape_byte digits
closes = refl

not_written : notification_data [] (malformed unfit_open) ≡ None
not_written = refl

-- ---- numbers

greatest_ids : IdFits (numbered (pos 2_147_483_647)) × IdFits (numbered (negsuc 2_147_483_647)) × IdFits (named uri)
greatest_ids = (refl, refl, tt)

wide_id : IdFits (numbered (pos 2_147_483_648)) → ⊥
wide_id h = absurd (cc h)

greatest_place : PositionFits (at 2_147_483_647 2_147_483_647)
greatest_place = (refl, refl)

wide_line : PositionFits (at 2_147_483_648 0) → ⊥
wide_line h = absurd (cc h.0)

wide_character : PositionFits (at 0 2_147_483_648) → ⊥
wide_character h = absurd (cc h.1)

ranges : RangeFits None × RangeFits (Some (record { start = at 0 1; end = at 2 3 }))
ranges = (tt, ((refl, refl), (refl, refl)))

wide_start : RangeFits (Some (record { start = at 2_147_483_648 0; end = at 0 0 })) → ⊥
wide_start h = absurd (cc h.0.0)

wide_end : RangeFits (Some (record { start = at 0 0; end = at 0 2_147_483_648 })) → ⊥
wide_end h = absurd (cc h.1.1)

questions : QuestionFits its_text × RequestFits (about uri its_tree) × RequestFits shutdown × QuestionFits (its_selections (at 0 1 ∷ []))
questions = (tt, tt, tt, All-from_recursion PositionFits (at 0 1 ∷ []) ((refl, refl), tt))

wide_selection : RequestFits (about uri (its_selections (at 2_147_483_648 0 ∷ []))) → ⊥
wide_selection h = wide_line (All-head PositionFits (at 2_147_483_648 0) [] h)

notifications : NotificationFits exit × NotificationFits (open_text uri (pos 2_147_483_647) [])
notifications = (tt, refl)

wide_opening : NotificationFits (open_text uri (pos 2_147_483_648) []) → ⊥
wide_opening h = absurd (cc h)

wide_version : NotificationFits (change_text uri (pos 2_147_483_648) []) → ⊥
wide_version h = absurd (cc h.0)

wide_change : NotificationFits (change_text uri (pos 1) (record { range = Some (record { start = at 0 2_147_483_648; end = at 0 0 }); text = [] } ∷ [])) → ⊥
wide_change h = wide_character ((All-head (λ c. RangeFits c.range) _ [] h.1).0)
