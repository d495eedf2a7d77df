use Rattle.std.proofs.Common.{◌≡◌, ◌+◌, ◌≤◌, drop, map}
use Rattle.serde_json.specs.Events.{items_len}
use Rattle.editor_replies.specs.Sent.{symbol_view}
use Rattle.editor_replies.specs.Sending.{forest}
use Rattle.editor_replies.proofs.symbols.Level.count.Given as goal

-- those so far, and those that are left
abbrev pub invariant-loop-symbol : goal.invariant-loop-symbol
invariant-loop-symbol l =
    (l.count + items_len (forest l.self.levels l.self.depth (map symbol_view (drop l.symbol-index l.symbols)))
    ≡ items_len (forest l.self.levels l.self.depth (map symbol_view l.symbols)))
    × (l.count ≤ l.symbol-index)
