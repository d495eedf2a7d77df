use Rattle.std.proofs.Common.{◌≡◌, ◌<◌, ◌≤◌, subst, arith}
use Rattle.editor_replies.proofs.Levels.{deeper_ends, deeper_from, deeper_more, deeper_none, inside_is}
use Rattle.editor_replies.proofs.symbols.Level.inside.Goals.{else-loop-symbol-test, then-loop-symbol-test+then-symbol-self}
use Rattle.editor_replies.proofs.symbols.Level.inside.Goals as goal

pub loop-symbol-preserved : goal.loop-symbol-preserved
loop-symbol-preserved c =
    let depth = c.args.self.depth in
    let deeper = subst (λ s. depth < s.depth) c.symbol-item.is c.if-symbol-self.false in
    let more = deeper_more depth c.args.symbols.now c.loop-symbol.symbol-index c.symbol-item.result (omega arith) deeper in
    (omega (arith, c.loop-symbol.invariant.0), omega (arith, c.loop-symbol.invariant.1, more))

-- there are no more that lie deeper, where the loop ends
pub returns : goal.returns
returns c =
    let depth = c.args.self.depth in
    let xs = c.args.symbols.now in
    let at = c.loop-symbol.symbol-index in
    let none : deeper_from depth xs at ≡ 0 = elim c.loop-symbol-test.branch [
      | else-loop-symbol-test w ↦ deeper_none depth xs at (omega arith)
      | then-loop-symbol-test+then-symbol-self w ↦
          deeper_ends depth xs at w.symbol-item.result (omega arith) (subst (λ s. s.depth ≤ depth) w.symbol-item.is w.if-symbol-self.true)
    ] in
    inside_is depth xs c.loop-symbol.end (omega (arith, c.loop-symbol.invariant.1, none))
