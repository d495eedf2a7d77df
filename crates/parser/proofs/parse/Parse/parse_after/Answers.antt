use Rattle.parser.proofs.Std.{◌≡◌, ◌+◌, [], ap, arith, ◌∙◌, drop, length, subst, sym, take, Result, Ok, Err, IfOk}
use Rattle.parser.proofs.Common.{plain_splice, AreStampedExactly, Built, IsPrepared, all_trees, forest_in, trees_from, input_of, plain_of, AreMadeBy, all_branches_by, verdict_in, IsMadeByRun, IsParseAfter, AreOlder, KeepStamps, all_numbered}
use Rattle.parser.proofs.CompactedParse.{same_parse, same_plain, same_stamped}
use Rattle.parser.proofs.WhereBranchesComeFrom.{keep_stamps}
use Rattle.parser.proofs.Edits.{built_exactly, stamped_exactly}
use Rattle.parser.proofs.WholeRun.{plain_stamps}
use Rattle.parser.proofs.parse.Parse.parse_after.Goals as goal

pub parse_from-requires-clause-input : goal.parse_from-requires-clause-input
parse_from-requires-clause-input g c = c.in_ok-input.ensures.input c.args.tables.now c.requires.0 (g.K.Kinds.kinds c.args.kinds.now) c.requires.1 c.requires.2

-- what holds of a value for two reasons
with_both : {X Y : Type 0} (r : Result X Y) (P Q R : X → Type 0) → ((x : X) → P x → Q x → R x) → IfOk r P → IfOk r Q → IfOk r R
with_both (Ok x) P Q R both p q = both x p q
with_both (Err e) P Q R both p q = tt

pub returns-clause-changed : goal.returns-clause-changed
returns-clause-changed g c =
    let t = c.args.tables.now in
    let kinds = g.K.Kinds.kinds c.args.kinds.now in
    let cells = c.args.store.now in
    let n = c.args.number in
    let before = c.args.self.now in
    let new = c.parse_from.new.store in
    let p = c.in_ok-parse.parse in
    let done = c.in_ok-parse.ensures in
    let change = plain_splice c.args.splice.now in
    let old = plain_of cells before.stack in
    let prepared : AreOlder n (all_trees cells before.stack) → IsPrepared change old (input_of cells c.in_ok-input.input kinds 0) = λ above. c.in_ok-input.ensures.prepared above kinds in
    let whole = input_of cells c.in_ok-input.input kinds 0 in
    let stamps : AreOlder n (all_trees cells before.stack) → AreStampedExactly n change old (all_trees new p.stack) =
    λ above. stamped_exactly t c.parse_from.ensures.accepted kinds whole (length cells) n new p.stack done.run change old
    (prepared above) (verdict_in new p.verdict) done.parse.stop.verdict done.parse.stop.stack in
    let built : AreOlder n (all_trees cells before.stack) → Built change old 0 (plain_of new p.stack) p.built = λ above.
    let made = built_exactly t c.parse_from.ensures.accepted kinds whole (length cells) n new p.stack done.run change old (prepared above) (stamps above) in
    subst (Built change old 0 (plain_of new p.stack)) (sym (subst (λ k. p.built ≡ all_branches_by k (all_trees new p.stack)) done.number done.parse.built)) made in
    let kept = keep_stamps change (all_trees cells before.stack) (all_trees cells c.in_ok-input.input) (length cells) n new p.stack done.came.0 done.came.1 done.came.2 c.in_ok-input.ensures.moved in
    let anew : ¬ AreOlder n (all_trees cells before.stack) → AreMadeBy n (forest_in new p.stack) = λ not_above. plain_stamps t (drop (0 + 0) kinds) kinds
    (length cells) n new p.stack (subst (λ l. IsMadeByRun t (input_of cells l kinds 0) kinds (length cells) n new p.stack) (c.in_ok-input.ensures.anew not_above) done.run) in
    let last = c.within_bound.new.store in
    with_both c.within_bound.result _ _ (IsParseAfter t kinds change n cells before last)
    (λ q same within. record {
      parse = same_parse new p last q same t kinds done.parse;
      number = same.number ∙ done.number;
      stamps = λ above. subst (AreStampedExactly n change old) (sym same.trees) (stamps above);
      older = subst (KeepStamps n change (all_trees cells before.stack)) (sym same.trees) kept;
      built = λ above. subst (Built change old 0 (plain_of last q.stack)) (sym same.built) (subst (λ ts. Built change old 0 ts p.built) (sym (same_plain new p last q same)) (built above));
      anew = λ not_above. subst (AreMadeBy n) (sym (same_stamped new p last q same)) (anew not_above);
      bounded = within;
      kept = λ fits.
          let stays : last ≡ new = c.within_bound.ensures.kept (omega (arith, fits, done.count, same.branches, same.built)) in
          let longer : take (length cells) last ≡ cells = ap (take (length cells)) stays ∙ c.parse_from.ensures.grown in
          ((longer, omega (arith, ap length stays, done.count, same.built)), ap (λ l. drop (length cells) (trees_from [] l)) stays ∙ done.came.2.added ∙ ap (all_numbered n) (sym same.trees));
    })
    c.within_bound.ensures.same c.within_bound.ensures.bound
