use Rattle.std.proofs.Common.{◌≡◌, ◌+◌}
use Rattle.editor_replies.proofs.Levels.{deeper_from}
use Rattle.editor_replies.proofs.symbols.Level.inside.Given as goal

-- all so far lie deeper
abbrev pub invariant-loop-symbol : goal.invariant-loop-symbol
invariant-loop-symbol l =
    (l.end ≡ l.symbol-index) × (deeper_from l.self.depth l.symbols 0 ≡ l.end + deeper_from l.self.depth l.symbols l.symbol-index)
