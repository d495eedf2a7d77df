use Rattle.server.proofs.Std.{◌≡◌, ◌∙◌, ◌+◌, ap, sym, subst, List, [], map, take, length, min, true, false, arith, Some, Err, min-eq_left, append-nil, length-map, length-take, take_all, chars}
use Rattle.server.proofs.Common.{open_document, pending_text, changed, fits, Memory, TextChange, change_view, Encoding, is_lost, Becomes, after, all_changes, ends_there, goes_on, last_goes_on, may_lose, lost_on_the_way}
use Rattle.docs.specs.declared.doc.DocFault.TheVariants.{TooLarge}
use Rattle.rpc.specs.Loss.TheVariants as loss
use Rattle.server.proofs.Refusals.{either_fault}
use Rattle.server.proofs.changes.apply_uncounted.Goals as goal

pub returns-in-Err-clause-lost : goal.returns-in-Err-clause-lost
returns-in-Err-clause-lost c v =
    let text = pending_text c.loop-change.pending in
    let change = c.change-item.result in
    let changes = c.args.changes.now in
    let index = c.loop-change.change-index in
    let file = c.args.language.now.file in
    let d = open_document c.args.doc in
    let before : List TextChange = map change_view (take index changes) in
    let same = ap (λ (e : Encoding). changed e text change.range (chars c.as_str.result.now)) c.loop-change.invariant.unit
    ∙ ap (λ b. changed c.args.doc.unit text change.range (chars b)) c.as_str.ensures.value in
    let all = all_changes changes index change c.loop-change-test.true c.change-item.is in
    let first : before ≡ [] → index ≡ 0 = λ none. omega (arith, ap length none, length-map (take index changes) change_view, length-take index changes, c.loop-change-test.true) in
    let over : c.change.result ≡ Err TooLarge → Becomes file v d (map change_view changes) (is_lost loss.TooLarge) =
    λ refused. ends_there changes index change c.loop-change-test.true c.change-item.is file d text c.loop-change.invariant.edits
    (subst (λ t. fits t ≡ false) same (c.change.ensures.too_large refused)) in
    let fit : c.change.result ≡ Err Memory → before ≡ [] → fits (after c.args.doc.unit text (change_view change)) ≡ true =
    λ refused none. subst (λ t. fits t ≡ true) same (c.change.ensures.memory refused (c.loop-change.invariant.first (first none))) in
    let memory : c.change.result ≡ Err Memory → Becomes file v d (map change_view changes) (is_lost loss.Memory) =
    λ refused. subst (λ l. Becomes file v d l (is_lost loss.Memory)) (sym all) (lost_on_the_way file v d before _ text c.loop-change.invariant.edits
    (λ none. subst (λ l. Becomes file v d l (is_lost loss.Memory)) all
    (may_lose changes index change c.loop-change-test.true c.change-item.is file d text c.loop-change.invariant.edits v (fit refused none)))) in
    subst (λ l. Becomes file v d (map change_view changes) (is_lost l)) (sym c.loss_of.ensures)
    (either_fault (λ l. Becomes file v d (map change_view changes) (is_lost l)) c.change.result c.in-Err.fault c.in-Err.is over memory)

pub loop-change-preserved : goal.loop-change-preserved
loop-change-preserved c =
    let text = pending_text c.loop-change.pending in
    let change = c.change-item.result in
    let changes = c.args.changes.now in
    let index = c.loop-change.change-index in
    let file = c.args.language.now.file in
    let d = open_document c.args.doc in
    let inv = c.loop-change.invariant in
    let same = ap (λ (e : Encoding). changed e text change.range (chars c.as_str.result.now)) inv.unit ∙ ap (λ b. changed c.args.doc.unit text change.range (chars b)) c.as_str.ensures.value in
    let fit : fits (after c.args.doc.unit text (change_view change)) ≡ true = subst (λ t. fits t ≡ true) same c.in-Ok.ensures.text.1 in
    let next = c.always_answers.ensures.counted c.args.doc.unit text change.range (chars (change_view change).text) inv.last.0 inv.fits fit in
    record {
      pending = c.in-Ok.ensures.pending;
      unit = c.in-Ok.ensures.unit ∙ inv.unit;
      edits = goes_on changes index change c.loop-change-test.true c.change-item.is file d text inv.edits fit ∙ ap (λ t. Some t) (sym (c.in-Ok.ensures.text.0 ∙ same));
      fits = subst (λ t. fits t ≡ true) (sym c.in-Ok.ensures.text.0) c.in-Ok.ensures.text.1;
      number = c.in-Ok.ensures.number ∙ (min-eq_left (omega (arith, inv.number, c.requires.numbered, c.loop-change-test.true)) ∙ omega (arith, inv.number));
      last = (
        Some next.0,
        last_goes_on changes index change c.loop-change-test.true c.change-item.is file d text inv.edits inv.last.0 next.0 inv.last.1 next.1,
        next.1.makes.number ∙ (ap (λ n. min (n + 1) 18_446_744_073_709_551_615) inv.last.2 ∙ sym c.in-Ok.ensures.number),
      );
      first = λ none. absurd (omega (arith, none));
    }

pub returns-in-Err-finish-clause-lost : goal.returns-in-Err-finish-clause-lost
returns-in-Err-finish-clause-lost c v =
    let changes = c.args.changes.now in
    let index = c.loop-change.change-index in
    let file = c.args.language.now.file in
    let d = open_document c.args.doc in
    let whole : take index changes ≡ changes = take_all index changes (omega (arith, c.loop-change-test.false)) in
    let before : List TextChange = map change_view (take index changes) in
    let first : before ≡ [] → index ≡ 0 =
    λ none. omega (arith, ap length none, length-map (take index changes) change_view, ap length whole, c.loop-change.auto.change-index-end, c.loop-change-test.false) in
    let lost = lost_on_the_way file v d before [] (pending_text c.loop-change.pending) c.loop-change.invariant.edits
    (λ none. absurd (c.in-Err-finish.ensures.refused (c.loop-change.invariant.first (first none)))) in
    subst (λ l. Becomes file v d l (is_lost loss.Memory)) (append-nil before ∙ ap (map change_view) whole) lost
