use Rattle.server.proofs.Std.{◌≡◌, ◌+◌, ◌<◌, ℕ, ◌++◌, List, [], ◌∷◌, map, length, get_or, take, drop, subst, sym, ap, ◌∙◌, Appends, take_more, map-append, take-append-drop}
use Rattle.server.proofs.Common.{Reply, frame, compact_text, reply_view, reply_data, bytes_of, AppendsPrefix}
use Rattle.std.proofs.Common.{append-nil}
use Rattle.server.proofs.Bytes.{appends_then, on_err, prefix_all, prefix_of_more, prefix_after}
use Rattle.server.proofs.Runs.{bytes_then}
use Rattle.server.proofs.stream.write_replies.Goals as goal

-- the bytes of all answers, in two parts
in_parts : (replies : List Reply) (n : ℕ) → bytes_of (map reply_view (take n replies)) ++ bytes_of (map reply_view (drop n replies)) ≡ bytes_of (map reply_view replies)
in_parts replies n =
    sym (bytes_then (map reply_view (take n replies)) (map reply_view (drop n replies)))
    ∙ (ap bytes_of (sym (map-append reply_view (take n replies) (drop n replies))) ∙ ap (λ l. bytes_of (map reply_view l)) (take-append-drop n replies))

-- those through one more reply
one_more : (replies : List Reply) (i : ℕ) (reply : Reply) → i < length replies → reply ≡ get_or replies i reply → bytes_of (map reply_view (take (i + 1) replies))
    ≡ bytes_of (map reply_view (take i replies)) ++ frame (compact_text (reply_data (reply_view reply)))
one_more replies i reply h e =
    ap (λ l. bytes_of (map reply_view l)) (take_more replies i reply h ∙ ap (λ r. take i replies ++ r ∷ []) (sym e))
    ∙ (ap bytes_of (map-append reply_view (take i replies) (reply ∷ [])) ∙ (bytes_then (map reply_view (take i replies)) (reply_view reply ∷ [])
    ∙ ap (λ l. bytes_of (map reply_view (take i replies)) ++ l) (append-nil (frame (compact_text (reply_data (reply_view reply)))))))

pub returns-in_err-content-clause-prefix : goal.returns-in_err-content-clause-prefix
returns-in_err-content-clause-prefix g c =
    let old = g.W.Output.contents c.args.output.now in
    let new = g.W.Output.contents c.loop-reply.output in
    let replies = c.args.replies.now in
    let i = c.loop-reply.reply-index in
    on_err _ _ (subst (AppendsPrefix old new) (in_parts replies i) (prefix_of_more old new _ (bytes_of (map reply_view (drop i replies))) (prefix_all old new _ c.loop-reply.invariant.written)))

pub returns-in-Err-clause-prefix : goal.returns-in-Err-clause-prefix
returns-in-Err-clause-prefix g c =
    let old = g.W.Output.contents c.args.output.now in
    let mid = g.W.Output.contents c.loop-reply.output in
    let new = g.W.Output.contents c.write_frame.new.output in
    let replies = c.args.replies.now in
    let i = c.loop-reply.reply-index in
    let reply = c.reply-item.result in
    let bytes : c.deref.result.now ≡ compact_text (reply_data (reply_view reply)) = c.deref.ensures.value ∙ c.in_ok-content.ensures in
    let one : AppendsPrefix mid new (frame (compact_text (reply_data (reply_view reply)))) = subst (λ l. AppendsPrefix mid new (frame l)) bytes c.in-Err.ensures.bytes in
    let here : AppendsPrefix old new (bytes_of (map reply_view (take (i + 1) replies))) =
    subst (AppendsPrefix old new) (sym (one_more replies i reply c.loop-reply-test.true c.reply-item.is)) (prefix_after old mid new _ _ c.loop-reply.invariant.written one) in
    subst (AppendsPrefix old new) (in_parts replies (i + 1)) (prefix_of_more old new _ (bytes_of (map reply_view (drop (i + 1) replies))) here)

pub loop-reply-preserved : goal.loop-reply-preserved
loop-reply-preserved g c =
    let out_bytes = g.W.Output.contents in
    let reply = c.reply-item.result in
    let old = out_bytes c.args.output.now in
    let mid = out_bytes c.loop-reply.output in
    let new = out_bytes c.write_frame.new.output in
    let bytes : c.deref.result.now ≡ compact_text (reply_data (reply_view reply)) = c.deref.ensures.value ∙ c.in_ok-content.ensures in
    let one : Appends mid new (frame (compact_text (reply_data (reply_view reply)))) = subst (λ l. Appends mid new (frame l)) bytes c.in-Ok.ensures.bytes in
    let all = one_more c.args.replies.now c.loop-reply.reply-index reply c.loop-reply-test.true c.reply-item.is in
    record { written = subst (Appends old new) (sym all) (appends_then old mid new _ _ c.loop-reply.invariant.written one); works = c.in-Ok.ensures.cause }
