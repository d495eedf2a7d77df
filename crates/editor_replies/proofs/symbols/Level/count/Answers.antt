use Rattle.std.proofs.Common.{ap, arith}
use Rattle.serde_json.specs.Events.{items_len}
use Rattle.editor_replies.proofs.Levels.{none_left}
use Rattle.editor_replies.proofs.symbols.Level.count.Goals as goal

pub returns : goal.returns
returns c =
    let none = ap items_len (none_left c.args.self.levels c.args.self.depth c.args.symbols.now c.loop-symbol.symbol-index (omega arith)) in
    omega (arith, c.loop-symbol.invariant.0, none)
