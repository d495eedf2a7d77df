-- A worklist that grows twice.
use Rattle.item_sets.proofs.Std.{◌⊎◌, ◌<◌, ◌+◌, ℕ, arith, sym, subst, ◌∙◌, ⊎_elim, inl, inr}
use Rattle.item_sets.proofs.Common.{Entries, IsGrownBy}

-- what grows by these calls, and then by those, grows by both
pub grown_twice : (these those both : ℕ → ℕ → Type 0) (old mid new : Entries) → IsGrownBy these old mid → IsGrownBy those mid new
    → ((n k : ℕ) → these n k → both n k) → ((n k : ℕ) → those n k → both n k) → ((n k : ℕ) → both n k → these n k ⊎ those n k)
    → IsGrownBy both old new
grown_twice these those both old mid new a b first second each =
    let longer = a.longer in
    record {
      grammar = b.grammar ∙ a.grammar;
      keeps = λ n k m. b.keeps n k (a.keeps n k m);
      added = λ n k l x. ⊎_elim
          (λ y. b.keeps n k (a.added n k l y))
          (λ y. b.added n k (subst (λ g. k < g.grammar.rules + 1) (sym a.grammar) l) y)
          (each n k x);
      only = λ n k m. ⊎_elim
          (λ y. ⊎_elim (λ o. inl o) (λ z. inr (first n k z)) (a.only n k y))
          (λ y. inr (second n k y))
          (b.only n k m);
      longer = omega (arith, longer, b.longer);
      same = λ i d l. b.same i d (omega (arith, l, longer)) ∙ a.same i d l;
      count = b.count ∙ a.count;
    }
