use Rattle.rpc.proofs.Std.{refl, sym, ◌∙◌, arith}
use Rattle.rpc.proofs.Common.{position_of, positions_of}
use Rattle.rpc.proofs.ListItems.{read_more, unread, all_read}
use Rattle.rpc.proofs.parts.positions_of.Goals as goal

pub loop-item-preserved : goal.loop-item-preserved
loop-item-preserved c =
    read_more position_of positions_of refl (λ d ds. refl) c.args.items.now c.loop-item.item-index c.item-item.result c.in-Some.position c.loop-item.positions.items c.push.new.self.items
    (omega arith) c.item-item.is (sym c.in-Some.is ∙ c.position_of.ensures) c.in_ok-push-in-Some.ensures.items c.loop-item.invariant

pub returns-in-None : goal.returns-in-None
returns-in-None c =
    unread position_of positions_of refl (λ d ds. refl) c.args.items.now c.loop-item.item-index c.item-item.result c.loop-item.positions.items
    (omega arith) c.item-item.is (sym c.in-None.is ∙ c.position_of.ensures) c.loop-item.invariant

pub returns : goal.returns
returns c = all_read position_of positions_of refl (λ d ds. refl) c.args.items.now c.loop-item.item-index c.loop-item.positions.items c.loop-item-test.false c.loop-item.invariant
