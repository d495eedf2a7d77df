use Rattle.replies.proofs.Std.{map, refl, arith, on_ok_weaker, items_of}
use Rattle.replies.proofs.Common.{fold_data}
use Rattle.replies.proofs.SentItems.{sent_more, all_sent}
use Rattle.replies.proofs.results.send_folds.Goals as goal

pub loop-pair-preserved : goal.loop-pair-preserved
loop-pair-preserved g c = λ end rest.
    let w = g.S.Serializer.written in
    c.loop-pair.invariant end (sent_more (fold_data) (λ l. items_of (map fold_data l)) refl (λ x l. refl) c.args.pairs.now c.loop-pair.pair-index _
    (w c.loop-pair.out) (w c.send_fold.new.out) end (omega arith) c.in_ok-send_fold.ensures rest)

pub returns : goal.returns
returns g c =
    let w = g.S.Serializer.written in
    on_ok_weaker c.end_seq.result
    (λ e. all_sent (fold_data) (λ l. items_of (map fold_data l)) refl (λ x l. refl) c.args.pairs.now c.loop-pair.pair-index
    (w c.args.out.now) (w c.begin_seq.new.self) (w c.loop-pair.out) (w c.end_seq.new.self)
    (omega arith) c.in_ok-begin_seq.ensures e c.loop-pair.invariant)
    c.end_seq.ensures
