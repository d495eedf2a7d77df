use Rattle.replies.proofs.Std.{map, refl, ap, ◌∙◌, subst, arith, on_ok_weaker, SendsValue, items_of}
use Rattle.replies.proofs.Common.{selection_data}
use Rattle.replies.proofs.SentItems.{sent_more, all_sent}
use Rattle.replies.proofs.results.send_selections.Goals as goal

pub loop-ranges-preserved : goal.loop-ranges-preserved
loop-ranges-preserved g c = λ end rest.
    let w = g.S.Serializer.written in
    c.loop-ranges.invariant end (sent_more (λ s. selection_data s.items) (λ l. items_of (map selection_data (map (λ s. s.items) l))) refl
    (λ x l. refl) c.args.selections.now c.loop-ranges.ranges-index _
    (w c.loop-ranges.out) (w c.send_selection.new.out) end (omega arith)
    (subst (λ l. SendsValue (selection_data l) (w c.loop-ranges.out) (w c.send_selection.new.out)) (c.deref.ensures.value ∙ ap (λ s. s.items) c.ranges-item.is) c.in_ok-send_selection.ensures) rest)

pub returns : goal.returns
returns g c =
    let w = g.S.Serializer.written in
    on_ok_weaker c.end_seq.result
    (λ e. all_sent (λ s. selection_data s.items) (λ l. items_of (map selection_data (map (λ s. s.items) l))) refl (λ x l. refl) c.args.selections.now c.loop-ranges.ranges-index
    (w c.args.out.now) (w c.begin_seq.new.self) (w c.loop-ranges.out) (w c.end_seq.new.self)
    (omega arith) c.in_ok-begin_seq.ensures e c.loop-ranges.invariant)
    c.end_seq.ensures
