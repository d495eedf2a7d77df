use Rattle.item_sets.proofs.Std.{rules, ◌≡◌, ◌<◌, ◌≤◌, true, length, slice_index_or, ap, sym, subst, ⊎_elim, arith, ◌∙◌, cases_eq, get_or_default, Contains-get_or}
use Rattle.item_sets.proofs.Common.{Entry, after_dot, Kernel, marked, AreMarked, CallFor, IsExpanded}
use Rattle.item_sets.proofs.FirstKernel.{start_item}
use Rattle.item_sets.proofs.InRange.{all_marked}
use Rattle.item_sets.proofs.WorklistIsRight.{expanded_called}
use Rattle.item_sets.proofs.worklist.Worklist.insert_all.Goals as goal

pub loop-i-init : goal.loop-i-init
loop-i-init c =
    let g = c.args.self.now.grammar in
    let kernel = c.args.kernel.now in
    let i = c.loop-item.invariant in
    let all : length kernel ≡ c.loop-item.item-index = search rules in
    record {
      grammar = i.grammar;
      begun = λ j d l. subst (λ x. AreMarked g c.loop-item.self.rows (CallFor g.grammar (after_dot g.grammar x) x.look))
          (get_or_default kernel j start_item d l) (λ n k b x. i.added n k b (j, omega (arith, l, all), x));
      sound = λ n k m. ⊎_elim
          (λ o. let b = c.requires.blank n k in absurd (cc (b, o)))
          (λ s. let l = s.1 in (slice_index_or kernel s.0 start_item, Kernel (Contains-get_or kernel s.0 start_item (omega (arith, l, all))), s.2))
          (i.only n k m);
      within = omega arith;
      expanded = λ j d l. absurd (omega (arith, l));
    }

pub loop-i-preserved : goal.loop-i-preserved
loop-i-preserved c =
    let g = c.args.self.now.grammar in
    let i = c.loop-i.invariant in
    let e = c.in_ok-expand.ensures in
    let old = c.loop-i.self in
    let new = c.expand.new.self in
    let entry = c.at.result in
    let at : c.loop-i.i < length old.list = search rules in
    let is : entry ≡ slice_index_or old.list c.loop-i.i entry = c.at.ensures in
    let on : marked old.rows entry.nonterminal entry.column ≡ true = subst (λ x. marked old.rows x.nonterminal x.column ≡ true) (sym is) (c.len.ensures.entries.marks c.loop-i.i entry at) in
    let here : AreMarked g new.rows (IsExpanded g.grammar entry.nonterminal entry.column) =
    subst (λ h. AreMarked h new.rows (IsExpanded h.grammar entry.nonterminal entry.column)) i.grammar e.added in
    let longer = e.longer in
    record {
      grammar = e.grammar ∙ i.grammar;
      begun = λ j d l n k b x. e.keeps n k (i.begun j d l n k b x);
      sound = λ n k m. ⊎_elim (λ o. i.sound n k o) (λ x. expanded_called g.grammar c.args.kernel.now old.rows i.sound entry.nonterminal entry.column on n k
          (subst (λ h. IsExpanded h.grammar entry.nonterminal entry.column n k) i.grammar x)) (e.only n k m);
      within = omega (arith, at, longer);
      expanded = λ j d l. ⊎_elim
          (λ s. let same : slice_index_or new.list j d ≡ entry = ap (λ x. slice_index_or new.list x d) s ∙ e.same c.loop-i.i d at ∙ get_or_default old.list c.loop-i.i d entry at
          ∙ sym is in subst (λ x. AreMarked g new.rows (IsExpanded g.grammar x.nonterminal x.column)) (sym same) here)
          (λ o. let before : j < c.loop-i.i = omega (arith, l, o) in subst (λ x. AreMarked g new.rows (IsExpanded g.grammar x.nonterminal x.column))
          (sym (e.same j d (omega (arith, before, at)))) (λ n k b x. e.keeps n k (i.expanded j d before n k b x)))
          (cases_eq j c.loop-i.i);
    }

pub returns-clause-called : goal.returns-clause-called
returns-clause-called c =
    let g = c.args.self.now.grammar in
    let rows = c.loop-i.self.rows in
    let all : length c.loop-i.self.list ≤ c.loop-i.i = search rules in
    record {
      sound = c.loop-i.invariant.sound;
      complete = all_marked g c.requires.sound c.args.kernel.now c.requires.items rows c.loop-i.invariant.begun
          (λ n k m.
          let h = c.len.ensures.entries.listed n k m in
          let entry : Entry = record { nonterminal = n; column = k } in
          let below = h.1 in
          subst (λ x. AreMarked g rows (IsExpanded g.grammar x.nonterminal x.column)) h.2 (c.loop-i.invariant.expanded h.0 entry (omega (arith, below, all))));
    }
