use Rattle.ide.proofs.Std.{◌≡◌, ◌+◌, ◌<◌, ℕ, ◌++◌, List, [], ◌∷◌, map, length, get_or, take, drop, subst, sym, ap, ◌∙◌, append-nil, Appends, take_more, map-append, take-append-drop}
use Rattle.ide.proofs.Common.{Sent, frame, compact_text, message_view, message_data, bytes_of, AppendsPrefix}
use Rattle.server.proofs.Bytes.{appends_then, on_err, prefix_all, prefix_of_more, prefix_after}
use Rattle.ide.proofs.Runs.{bytes_then}
use Rattle.ide.proofs.stream.write_messages.Goals as goal

-- the bytes of all answers, in two parts
in_parts : (messages : List Sent) (n : ℕ) → bytes_of (map message_view (take n messages)) ++ bytes_of (map message_view (drop n messages)) ≡ bytes_of (map message_view messages)
in_parts messages n =
    sym (bytes_then (map message_view (take n messages)) (map message_view (drop n messages)))
    ∙ (ap bytes_of (sym (map-append message_view (take n messages) (drop n messages))) ∙ ap (λ l. bytes_of (map message_view l)) (take-append-drop n messages))

-- those through one more message
one_more : (messages : List Sent) (i : ℕ) (message : Sent) → i < length messages → message ≡ get_or messages i message → bytes_of (map message_view (take (i + 1) messages))
    ≡ bytes_of (map message_view (take i messages)) ++ frame (compact_text (message_data (message_view message)))
one_more messages i message h e =
    ap (λ l. bytes_of (map message_view l)) (take_more messages i message h ∙ ap (λ r. take i messages ++ r ∷ []) (sym e))
    ∙ (ap bytes_of (map-append message_view (take i messages) (message ∷ [])) ∙ (bytes_then (map message_view (take i messages)) (message_view message ∷ [])
    ∙ ap (λ l. bytes_of (map message_view (take i messages)) ++ l) (append-nil (frame (compact_text (message_data (message_view message)))))))

pub returns-in_err-content-clause-prefix : goal.returns-in_err-content-clause-prefix
returns-in_err-content-clause-prefix g c =
    let old = g.W.Output.contents c.args.output.now in
    let new = g.W.Output.contents c.loop-message.output in
    let messages = c.args.messages.now in
    let i = c.loop-message.message-index in
    on_err _ _ (subst (AppendsPrefix old new) (in_parts messages i) (prefix_of_more old new _ (bytes_of (map message_view (drop i messages))) (prefix_all old new _ c.loop-message.invariant.written)))

pub returns-in-Err-clause-prefix : goal.returns-in-Err-clause-prefix
returns-in-Err-clause-prefix g c =
    let old = g.W.Output.contents c.args.output.now in
    let mid = g.W.Output.contents c.loop-message.output in
    let new = g.W.Output.contents c.write_frame.new.output in
    let messages = c.args.messages.now in
    let i = c.loop-message.message-index in
    let message = c.message-item.result in
    let bytes : c.deref.result.now ≡ compact_text (message_data (message_view message)) = c.deref.ensures.value ∙ c.in_ok-content.ensures in
    let one : AppendsPrefix mid new (frame (compact_text (message_data (message_view message)))) = subst (λ l. AppendsPrefix mid new (frame l)) bytes c.in-Err.ensures.bytes in
    let here : AppendsPrefix old new (bytes_of (map message_view (take (i + 1) messages))) =
    subst (AppendsPrefix old new) (sym (one_more messages i message c.loop-message-test.true c.message-item.is)) (prefix_after old mid new _ _ c.loop-message.invariant.written one) in
    subst (AppendsPrefix old new) (in_parts messages (i + 1)) (prefix_of_more old new _ (bytes_of (map message_view (drop (i + 1) messages))) here)

pub loop-message-preserved : goal.loop-message-preserved
loop-message-preserved g c =
    let out_bytes = g.W.Output.contents in
    let message = c.message-item.result in
    let old = out_bytes c.args.output.now in
    let mid = out_bytes c.loop-message.output in
    let new = out_bytes c.write_frame.new.output in
    let bytes : c.deref.result.now ≡ compact_text (message_data (message_view message)) = c.deref.ensures.value ∙ c.in_ok-content.ensures in
    let one : Appends mid new (frame (compact_text (message_data (message_view message)))) = subst (λ l. Appends mid new (frame l)) bytes c.in-Ok.ensures.bytes in
    let all = one_more c.args.messages.now c.loop-message.message-index message c.loop-message-test.true c.message-item.is in
    record { written = subst (Appends old new) (sym all) (appends_then old mid new _ _ c.loop-message.invariant.written one); works = c.in-Ok.ensures.cause }
