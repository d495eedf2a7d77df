use Rattle.item_sets.proofs.Std.{length, slice_index_or, subst, ◌∙◌, Contains-get_or, IfOk-weaker}
use Rattle.item_sets.proofs.Common.{IsSetOf, AreCalledFor, HaveBeginnings}
use Rattle.item_sets.proofs.InRange.{has_all, only_in, in_known}
use Rattle.item_sets.proofs.Valid.{set_of}
use Rattle.item_sets.proofs.closure.close.Goals as goal

pub returns : goal.returns
returns c =
    let g = c.args.grammar.now in
    let kernel = c.args.kernel.now in
    let known = c.requires.known in
    let sound = c.new.ensures.sound in
    let w = c.insert_all.new.self in
    let grammar = c.in_ok-worklist.ensures.grammar in
    let called : AreCalledFor g kernel w.rows = subst (λ h. AreCalledFor h kernel w.rows) grammar c.in_ok-insert_all.ensures.called in
    IfOk-weaker c.items.result (λ v. HaveBeginnings w.grammar kernel w.rows (length w.grammar.grammar.productions) 0 v.items) (λ v. IsSetOf g kernel v.items)
    (λ v e.
    let h : HaveBeginnings g kernel w.rows (length g.grammar.productions) 0 v.items =
    subst (λ x. HaveBeginnings x kernel w.rows (length x.grammar.productions) 0 v.items) (c.in_ok-insert_all.ensures.grammar ∙ grammar) e in
    let each = only_in g sound kernel known w.rows called v.items h in
    record {
      known = λ k d l. in_known g sound kernel known (each (slice_index_or v.items k d) (Contains-get_or v.items k d l));
      rising = h.rising;
      set = λ prefix p. set_of g sound sound.productive kernel known prefix p v.items each (λ i x. has_all g sound kernel known w.rows called v.items h x);
    }) c.items.ensures
