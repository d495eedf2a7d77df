use Rattle.item_sets.proofs.Std.{◌≡◌, ◌<◌, ◌+◌, ℕ, arith, length, slice_index_or, ap, subst, ◌∙◌, ⊎_elim, inl, inr, cases_eq, get_or_default}
use Rattle.item_sets.proofs.Common.{right_of, lookahead_at, CallFor, IsGrownBy}
use Rattle.item_sets.proofs.Grown.{grown_twice}
use Rattle.item_sets.proofs.worklist.Worklist.expand.Goals as goal

pub loop-p-preserved : goal.loop-p-preserved
loop-p-preserved c =
    let g = c.args.self.now.grammar.grammar in
    let list = c.of_left-p-items.result.now in
    let at = c.loop-p.p-index in
    let look = lookahead_at c.args.entry.column in
    let Calls : ℕ → ℕ → ℕ → Type 0 = λ i. CallFor g (right_of g (slice_index_or list i 0)) look in
    let UpTo : ℕ → ℕ → ℕ → Type 0 = λ m n k. (i : ℕ) × (i < m) × Calls i n k in
    let below : at < length list = omega (arith, c.loop-p-test.true) in
    let right : c.right.result.now ≡ right_of g (slice_index_or list at 0) = c.right.ensures.right ∙ ap (λ h. right_of h.grammar c.p-item.result) c.grammar-grammar.ensures
    ∙ ap (right_of g) (c.p-item.is ∙ get_or_default list at c.p-item.result 0 below) in
    let here : IsGrownBy (CallFor c.loop-p.self.grammar.grammar (right_of g (slice_index_or list at 0)) c.lookahead_at.result) c.loop-p.self c.insert_first.new.self =
    subst (λ s. IsGrownBy (CallFor c.loop-p.self.grammar.grammar s c.lookahead_at.result) c.loop-p.self c.insert_first.new.self) right c.in_ok-insert_first.ensures in
    let same : IsGrownBy (Calls at) c.loop-p.self c.insert_first.new.self =
    subst (λ h. IsGrownBy (CallFor h.grammar (right_of g (slice_index_or list at 0)) look) c.loop-p.self c.insert_first.new.self) c.loop-p.invariant.grammar
    (subst (λ a. IsGrownBy (CallFor c.loop-p.self.grammar.grammar (right_of g (slice_index_or list at 0)) a) c.loop-p.self c.insert_first.new.self) c.lookahead_at.ensures here) in
    grown_twice (UpTo at) (Calls at) (UpTo (at + 1)) c.args.self.now c.loop-p.self c.insert_first.new.self c.loop-p.invariant same
    (λ n k x. let l = x.1 in (x.0, omega (arith, l), x.2))
    (λ n k x. (at, omega arith, x))
    (λ n k x. let l = x.1 in ⊎_elim
    (λ e. inr (subst (λ i. Calls i n k) e x.2))
    (λ o. inl (x.0, omega (arith, l, o), x.2))
    (cases_eq x.0 at))
