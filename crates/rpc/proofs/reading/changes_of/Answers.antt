use Rattle.rpc.proofs.Std.{refl, sym, ap, ◌∙◌, map, arith, option_map, map-append}
use Rattle.rpc.proofs.Common.{change_view, change_of, changes_of}
use Rattle.rpc.proofs.ListItems.{read_more, unread, all_read}
use Rattle.rpc.proofs.reading.changes_of.Goals as goal

pub loop-item-preserved : goal.loop-item-preserved
loop-item-preserved c =
    read_more change_of changes_of refl (λ d ds. refl) c.args.items.now c.loop-item.item-index c.item-item.result (change_view c.in-Some.change)
    (map change_view c.loop-item.changes.items) (map change_view c.push.new.self.items)
    (omega arith) c.item-item.is
    (sym (ap (option_map change_view) c.in-Some.is) ∙ c.in_ok-change.ensures)
    (ap (map change_view) c.in_ok-push-in-Some.ensures.items ∙ map-append change_view c.loop-item.changes.items _)
    c.loop-item.invariant

pub returns-in-None : goal.returns-in-None
returns-in-None c =
    unread change_of changes_of refl (λ d ds. refl) c.args.items.now c.loop-item.item-index c.item-item.result (map change_view c.loop-item.changes.items) (omega arith) c.item-item.is
    (sym (ap (option_map change_view) c.in-None.is) ∙ c.in_ok-change.ensures)
    c.loop-item.invariant

pub returns : goal.returns
returns c = all_read change_of changes_of refl (λ d ds. refl) c.args.items.now c.loop-item.item-index (map change_view c.loop-item.changes.items) c.loop-item-test.false c.loop-item.invariant
