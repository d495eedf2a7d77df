use Rattle.parser.proofs.Std.{zero, ◌≡◌, ◌≢◌, ℕ, ◌+◌, ◌-◌, ◌<◌, suc, ◌≤◌, ◌∷◌, length-append, List, [], ◌++◌, length, take, drop, map, sym, ap, ◌∙◌, subst, arith, rules, length-drop, append-nil, take_all}
use Rattle.parser.proofs.Common.{all_kinds, yield, plain, IsPrepared, place_of, AreBelow, Cell, all_trees, tree, MoveFrom, plain_of, input_of, plain_splice, Child, Token}
use Rattle.parser.proofs.Reductions.{below-drop}
use Rattle.parser.proofs.Cuts.{cut_below, cut_kinds}
use Rattle.parser.proofs.Prepared.{prepared_same, unmoved}
use Rattle.parser.proofs.Replaced.{IsReplaced, replaced_input, replaced_moved, replaced_older, replaced_prepared, within, short}
use Rattle.parser.proofs.prepare.prepare.Goals as goal
use Rattle.parser.proofs.prepare.prepare.Goals.{then-missing-eq0+in_ok-take_prefix+in_ok-put_kinds, else-missing-eq0, else-splice-via-then-splice+else-is_empty, else-splice-via-else-splice}

place_drop : (cells : List Cell) (n : ℕ) (cs : List Child) → place_of (plain_of cells (drop n cs)) ≤ place_of (plain_of cells cs)
place_drop cells zero cs = omega arith
place_drop cells (suc n) [] = omega arith
place_drop cells (suc n) (c ∷ cs) = omega (arith, place_drop cells n cs, length-append (yield (plain (tree cells c))) (all_kinds (plain_of cells cs)))

-- what is put before nothing, from a place on
after : (old part start none : List Child) (n : ℕ) → part ≡ take (length old - n) (drop n old) → start ≡ part ++ none → none ≡ [] → start ≡ drop n old
after old part start none n is e empty = e ∙ ap (λ l. part ++ l) empty ∙ append-nil part ∙ is ∙ take_all (length old - n) (drop n old) (omega (arith, length-drop n old))

pub returns-then-is_empty-clause-prepared : goal.returns-then-is_empty-clause-prepared
returns-then-is_empty-clause-prepared c kinds =
    let cells = c.args.store.now in
    let old = c.args.old.now in
    let s = plain_splice c.args.splice.now in
    let none : length s.kinds ≡ 0 = search rules in
    let same : c.put_all.new.self ≡ old = c.in_ok-put_all.ensures ∙ ap (λ l. c.of.result ++ l) c.new-input.ensures ∙ append-nil c.of.result ∙ c.of.ensures in
    subst (λ l. IsPrepared s (plain_of cells old) (input_of cells l kinds 0)) (sym same)
    (prepared_same s (plain_of cells old) (drop (0 + length (all_kinds (plain_of cells old))) kinds) c.if-splice.true none)

pub returns-then-is_empty-clause-moved : goal.returns-then-is_empty-clause-moved
returns-then-is_empty-clause-moved c =
    let cells = c.args.store.now in
    let old = c.args.old.now in
    let s = plain_splice c.args.splice.now in
    let none : length s.kinds ≡ 0 = search rules in
    let same : c.put_all.new.self ≡ old = c.in_ok-put_all.ensures ∙ ap (λ l. c.of.result ++ l) c.new-input.ensures ∙ append-nil c.of.result ∙ c.of.ensures in
    subst (λ l. MoveFrom s (all_trees cells old) (all_trees cells l)) (sym same) (λ lefts p born us w some. (lefts, w, unmoved s c.if-splice.true none (place_of lefts)))

pub take_prefix-requires-clause-below : goal.take_prefix-requires-clause-below
take_prefix-requires-clause-below c =
    let n = length c.args.store.now in
    let old = c.args.old.now in
    let whole = c.count_whole-whole.result.0 in
    subst (AreBelow n) (sym (after old c.of-2.result c.put_all-2.new.self c.new-input.result whole c.of-2.ensures c.in_ok-put_all-2.ensures c.new-input.ensures))
    (below-drop n whole old c.requires.below)

pub take_prefix-requires-then-missing-eq0-clause-below : goal.take_prefix-requires-then-missing-eq0-clause-below
take_prefix-requires-then-missing-eq0-clause-below c =
    let cells = c.args.store.now in
    let n = length cells in
    let old = c.args.old.now in
    let whole = c.count_whole-whole.result.0 in
    let start = subst (AreBelow n) (sym (after old c.of-2.result c.put_all-2.new.self c.new-input.result whole c.of-2.ensures c.in_ok-put_all-2.ensures c.new-input.ensures))
    (below-drop n whole old c.requires.below) in
    (cut_below cells n c.in_ok-prefix.ensures.cut start).1

pub take_prefix-requires-clause-countable : goal.take_prefix-requires-clause-countable
take_prefix-requires-clause-countable c =
    let cells = c.args.store.now in
    let old = c.args.old.now in
    let whole = c.count_whole-whole.result.0 in
    let start = after old c.of-2.result c.put_all-2.new.self c.new-input.result whole c.of-2.ensures c.in_ok-put_all-2.ensures c.new-input.ensures in
    omega (arith, c.requires.countable, ap (λ l. place_of (plain_of cells l)) start, place_drop cells whole old)

pub take_prefix-requires-then-missing-eq0-clause-countable : goal.take_prefix-requires-then-missing-eq0-clause-countable
take_prefix-requires-then-missing-eq0-clause-countable c =
    let cells = c.args.store.now in
    let old = c.args.old.now in
    let whole = c.count_whole-whole.result.0 in
    let start = after old c.of-2.result c.put_all-2.new.self c.new-input.result whole c.of-2.ensures c.in_ok-put_all-2.ensures c.new-input.ensures in
    omega (
      arith,
      c.requires.countable,
      ap (λ l. place_of (plain_of cells l)) start,
      place_drop cells whole old,
      ap length (cut_kinds cells c.in_ok-prefix.ensures.cut),
      length-append (all_kinds (plain_of cells c.in_ok-prefix.prefix.items)) (all_kinds (plain_of cells c.take_prefix.new.trees)),
    )

pub returns : goal.returns
returns c =
    let cells = c.args.store.now in
    let old = c.args.old.now in
    let s = plain_splice c.args.splice.now in
    let whole = c.count_whole-whole.result.0 in
    let prefix = c.in_ok-prefix.prefix.items in
    let new = c.put_all-4.new.self in
    let start_is = after old c.of-2.result c.put_all-2.new.self c.new-input.result whole c.of-2.ensures c.in_ok-put_all-2.ensures c.new-input.ensures in
    let changes : s.from ≡ s.to → length s.kinds ≢ 0 = elim c.else-splice.branch [
      | else-splice-via-then-splice+else-is_empty w ↦ λ e n. let some : length s.kinds ≢ 0 = search rules in some n
      | else-splice-via-else-splice w ↦ λ e. absurd (w.if-splice.false e)
    ] in
    let new_is : new ≡ take whole old ++ (prefix ++ c.if-missing-eq0.input) = c.in_ok-put_all-4.ensures
    ∙ (λ i. c.of-4.ensures i ++ (c.in_ok-put_all-3.ensures ∙ ap (λ l. l ++ c.if-missing-eq0.input) (c.of-3.ensures ∙ c.deref-2.ensures.value)) i) in
    let r : IsReplaced cells s old new = elim c.if-missing-eq0.branch [
      | then-missing-eq0+in_ok-take_prefix+in_ok-put_kinds w ↦
          let rest = w.take_prefix-then-missing-eq0.new.trees in
          let put : w.put_kinds.new.trees ≡ map Token s.kinds ++ rest = w.in_ok-put_kinds.ensures ∙ ap (λ l. map Token l ++ rest) w.deref.ensures.value in
          within cells s old whole c.count_whole-whole.result.1 c.in_ok-prefix.missing c.put_all-2.new.self prefix c.take_prefix.new.trees c.count_whole-whole.ensures.left
          start_is c.in_ok-prefix.ensures.cut c.in_ok-prefix.ensures.left w.if-missing-eq0.true w.in_ok-take_prefix.field-0.0.items rest new w.in_ok-take_prefix.field-0.1
          w.in_ok-take_prefix.ensures.cut w.in_ok-take_prefix.ensures.left w.in_ok-take_prefix.ensures.used_up (new_is ∙ ap (λ l. take whole old ++ (prefix ++ l)) (w.input-is ∙ put))
      | else-missing-eq0 w ↦
          let some : 0 < c.in_ok-prefix.missing = omega (arith, w.if-missing-eq0.false) in
          short cells s old whole c.count_whole-whole.result.1 c.in_ok-prefix.missing c.put_all-2.new.self prefix c.take_prefix.new.trees c.count_whole-whole.ensures.left
          start_is c.in_ok-prefix.ensures.cut c.in_ok-prefix.ensures.left some (c.in_ok-prefix.ensures.used_up some) new (new_is ∙ ap (λ l. take whole old ++ (prefix ++ l)) w.input-is)
    ] in
    record {
      input = λ g kinds h fits. replaced_input cells s c.requires.ordered g r kinds h;
      prepared = λ kinds. replaced_prepared cells s c.requires.ordered changes r kinds;
      older = λ number h. replaced_older cells s c.requires.ordered number r h;
      moved = replaced_moved cells s c.requires.ordered r;
    }
