use Rattle.server.proofs.Std.{◌≡◌, ◌↔◌, ◌∙◌, ◌+◌, ap, sym, subst, List, map, take, ℕ, true, false, Option, Some, Err, Ok, Result, chars, true_from_ne_false}
use Rattle.server.proofs.Common.{changed, Encoding, last_edit, open_document, IsNext, LastEdit, OpenDocument, fits, DocFault, Memory, change_view, is_lost, Becomes, IsLastAfter, after, ends_there, goes_on, last_goes_on, may_lose}
use Rattle.docs.specs.declared.doc.DocFault.TheVariants.{TooLarge}
use Rattle.rpc.specs.Loss.TheVariants as loss
use Rattle.server.proofs.Refusals.{either_fault}
use Rattle.server.proofs.changes.apply_each.Goals as goal

-- what was not refused as too large fits
fits_then : {T : Type 0} (result : Result T DocFault) (text spelled : List ℕ) → text ≡ spelled → ((result ≡ Err TooLarge) ↔ (fits text ≡ false)) → (result ≡ Err TooLarge → ⊥) → fits spelled ≡ true
fits_then result text spelled same large never = subst (λ t. fits t ≡ true) same (true_from_ne_false (fits text) (λ over. never (large.1 over)))

pub returns-in-Err-clause-becomes : goal.returns-in-Err-clause-becomes
returns-in-Err-clause-becomes c =
    let doc = c.loop-change.doc in
    let change = c.change-item.result in
    let changes = c.args.changes.now in
    let index = c.loop-change.change-index in
    let file = c.args.language.now.file in
    let d = open_document c.args.doc in
    let same = ap (λ (e : Encoding). changed e doc.text change.range (chars c.as_str.result.now)) c.loop-change.invariant.unit
    ∙ ap (λ b. changed c.args.doc.unit doc.text change.range (chars b)) c.as_str.ensures.value in
    let over : c.change.result ≡ Err TooLarge → Becomes file c.args.version d (map change_view changes) (is_lost loss.TooLarge) =
    λ refused. ends_there changes index change c.loop-change-test.true c.change-item.is file d doc.text c.loop-change.invariant.edits
    (subst (λ t. fits t ≡ false) same (c.change.ensures.too_large.0 refused)) in
    let memory : c.change.result ≡ Err Memory → Becomes file c.args.version d (map change_view changes) (is_lost loss.Memory) =
    λ refused.
    let fit = fits_then c.change.result _ (after c.args.doc.unit doc.text (change_view change)) same c.change.ensures.too_large
    (λ wrong. let both : Err TooLarge ≡ Err Memory = sym wrong ∙ refused in let f : ⊥ = cc in f) in
    may_lose changes index change c.loop-change-test.true c.change-item.is file d doc.text c.loop-change.invariant.edits c.args.version fit in
    subst (λ l. Becomes file c.args.version d (map change_view changes) (is_lost l)) (sym c.loss_of.ensures)
    (either_fault (λ l. Becomes file c.args.version d (map change_view changes) (is_lost l)) c.change.result c.in-Err.fault c.in-Err.is over memory)

pub loop-change-preserved : goal.loop-change-preserved
loop-change-preserved c =
    let doc = c.loop-change.doc in
    let change = c.change-item.result in
    let same = ap (λ (e : Encoding). changed e doc.text change.range (chars c.as_str.result.now)) c.loop-change.invariant.unit
    ∙ ap (λ b. changed c.args.doc.unit doc.text change.range (chars b)) c.as_str.ensures.value in
    let fit = fits_then c.change.result _ (after c.args.doc.unit doc.text (change_view change)) same c.change.ensures.too_large
    (λ wrong. let both : Err TooLarge ≡ Ok c.in-Ok.next = sym wrong ∙ c.in-Ok.is in let f : ⊥ = cc in f) in
    let text : c.in-Ok.next.text ≡ after c.args.doc.unit doc.text (change_view change) = ap (λ (d : OpenDocument). d.text) c.in-Ok.ensures.changed.is ∙ same in
    let next = c.in-Ok.ensures.changed.last in
    let there : IsNext c.args.doc.unit c.args.language.now.file doc.text change.range (chars c.as_str.result.now) (last_edit doc) next.0 =
    subst (λ (e : Encoding). IsNext e c.args.language.now.file doc.text change.range (chars c.as_str.result.now) (last_edit doc) next.0) c.loop-change.invariant.unit next.2 in
    let one : IsNext c.args.doc.unit c.args.language.now.file doc.text change.range (chars (change_view change).text) (last_edit doc) next.0 =
    subst (λ b. IsNext c.args.doc.unit c.args.language.now.file doc.text change.range (chars b) (last_edit doc) next.0) c.as_str.ensures.value there in
    record {
      current = c.in-Ok.ensures.changed.current;
      unit = ap (λ (d : OpenDocument). d.unit) c.in-Ok.ensures.changed.is ∙ c.loop-change.invariant.unit;
      last = subst (λ (l : Option LastEdit). IsLastAfter c.args.doc.unit c.args.language.now.file c.args.doc.text
          (map change_view (take (c.loop-change.change-index + 1) c.args.changes.now)) (last_edit c.args.doc) l) (sym next.1)
          (last_goes_on c.args.changes.now c.loop-change.change-index change c.loop-change-test.true c.change-item.is c.args.language.now.file
          (open_document c.args.doc) doc.text c.loop-change.invariant.edits (last_edit doc) next.0 c.loop-change.invariant.last one);
      edits = goes_on c.args.changes.now c.loop-change.change-index change c.loop-change-test.true c.change-item.is c.args.language.now.file
          (open_document c.args.doc) doc.text c.loop-change.invariant.edits fit ∙ ap (λ t. Some t) (sym text);
    }
