use Rattle.replies.proofs.Std.{map, refl, subst, arith, on_ok_weaker, SendsValue, items_of}
use Rattle.replies.proofs.Common.{row_data, row_view}
use Rattle.replies.proofs.SentItems.{sent_more, all_sent}
use Rattle.replies.proofs.results.send_rows.Goals as goal

pub loop-row-preserved : goal.loop-row-preserved
loop-row-preserved g c = λ end rest.
    let w = g.S.Serializer.written in
    c.loop-row.invariant end (sent_more (λ r. row_data (row_view r)) (λ l. items_of (map row_data (map row_view l))) refl (λ x l. refl) c.args.rows.now c.loop-row.row-index _
    (w c.loop-row.out) (w c.send_row.new.out) end (omega arith)
    (subst (λ r. SendsValue (row_data (row_view r)) (w c.loop-row.out) (w c.send_row.new.out)) c.row-item.is c.in_ok-send_row.ensures) rest)

pub returns : goal.returns
returns g c =
    let w = g.S.Serializer.written in
    on_ok_weaker c.end_seq.result
    (λ e. all_sent (λ r. row_data (row_view r)) (λ l. items_of (map row_data (map row_view l))) refl (λ x l. refl) c.args.rows.now c.loop-row.row-index
    (w c.args.out.now) (w c.begin_seq.new.self) (w c.loop-row.out) (w c.end_seq.new.self)
    (omega arith) c.in_ok-begin_seq.ensures e c.loop-row.invariant)
    c.end_seq.ensures
