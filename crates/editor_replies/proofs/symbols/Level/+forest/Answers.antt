use Rattle.std.proofs.Common.{Some, ◌+◌, drop, map, subst, sym, ap, ◌∙◌, arith}
use Rattle.std.proofs.lemmas.Result.{on_ok_weaker}
use Rattle.serde.specs.Event.{Logs, seq_begins, text}
use Rattle.serde_json.specs.Events.{SendsItems, SendsValue}
use Rattle.replies.proofs.Objects.{sends_object, sends_member}
use Rattle.editor_replies.specs.Sent.{symbol_view}
use Rattle.editor_replies.specs.Sending.{below, forest, is_shown_at, nested_data}
use Rattle.editor_replies.proofs.Levels.{all_sent, none_below, rest_is, sent_hidden, sent_shown}
use Rattle.editor_replies.proofs.symbols.Level.+forest.Goals.{send-then-shows+in_ok-send_symbol, send-else-shows}
use Rattle.editor_replies.proofs.symbols.Level.+forest.Goals as goal

pub send-loop-at-preserved : goal.send-loop-at-preserved
send-loop-at-preserved g t c = λ end rest.
    let w = g.S.Serializer.written in
    let levels = c.args.self.levels in
    let depth = c.args.self.depth in
    let xs = c.args.symbols.now in
    let at = c.loop-at.at in
    let x = c.index-symbols-at.result in
    let shown = c.shows.ensures ∙ ap (λ s. is_shown_at levels depth (symbol_view s)) c.index-symbols-at.is in
    c.loop-at.invariant end (elim c.if-shows.branch [
      | send-then-shows+in_ok-send_symbol w' ↦
          let behind = subst (λ l. SendsValue (nested_data (symbol_view x) (below levels depth (map symbol_view l))) (w c.loop-at.out) (w w'.send_symbol.new.out))
          (rest_is xs (at + 1)) w'.in_ok-send_symbol.ensures in
          let one = subst (λ s. SendsValue (nested_data (symbol_view s) (below levels depth (map symbol_view (drop (at + 1) xs)))) (w c.loop-at.out) (w w'.send_symbol.new.out))
          c.index-symbols-at.is behind in
          sent_shown levels depth xs at x (w c.loop-at.out) (w w'.send_symbol.new.out) end (omega arith) (sym shown ∙ w'.if-shows.true) one
          (subst (λ out. SendsItems (forest levels depth (map symbol_view (drop (at + 1) xs))) (w out) end) w'.out-is rest)
      | send-else-shows w' ↦
          subst (λ ds. SendsItems ds (w c.loop-at.out) end) (sym (sent_hidden levels depth xs at x (omega arith) (sym shown ∙ w'.if-shows.false)))
          (subst (λ out. SendsItems (forest levels depth (map symbol_view (drop (at + 1) xs))) (w out) end) w'.out-is rest)
    ])

pub send-returns : goal.send-returns
send-returns g t c =
    let w = g.S.Serializer.written in
    let begun = subst (λ n. Logs (w c.args.out.now) (w c.begin_seq.new.self) (seq_begins (Some n))) c.count.ensures c.in_ok-begin_seq.ensures in
    on_ok_weaker c.end_seq.result
    (λ e. all_sent c.args.self.levels c.args.self.depth c.args.symbols.now c.loop-at.at (w c.args.out.now) (w c.begin_seq.new.self) (w c.loop-at.out) (w c.end_seq.new.self)
    (omega arith) begun e c.loop-at.invariant)
    c.end_seq.ensures

pub send_below-returns-then-self-eq0 : goal.send_below-returns-then-self-eq0
send_below-returns-then-self-eq0 g t c =
    let w = g.S.Serializer.written in
    on_ok_weaker c.end_seq.result
    (λ e. none_below c.args.self.levels c.args.self.depth (map symbol_view c.args.behind.now) (w c.args.out.now) (w c.begin_seq.new.self) (w c.end_seq.new.self)
    c.if-self-eq0.true c.in_ok-begin_seq.ensures e)
    c.end_seq.ensures

pub send_symbol-returns : goal.send_symbol-returns
send_symbol-returns g t c =
    let w = g.S.Serializer.written in
    sends_object _ _ _ c.end_map.result c.in_ok-begin_map.ensures
    (λ e. sends_member _ _ c.in_ok-key.ensures c.in_ok-send_below.ensures
    (sends_member _ _ c.in_ok-key-2.ensures c.in_ok-u64.ensures
    (sends_member _ _ c.in_ok-key-3.ensures (subst (λ s. Logs (w c.key-3.new.self) (w c.str.new.self) (text s)) c.as_str.ensures.value c.in_ok-str.ensures)
    (sends_member _ _ c.in_ok-key-4.ensures c.in_ok-send_range.ensures
    (sends_member _ _ c.in_ok-key-5.ensures c.in_ok-send_range-2.ensures e)))))
    c.end_map.ensures
