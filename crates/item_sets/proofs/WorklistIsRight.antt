-- What the worklist has is rightly there.
use Rattle.item_sets.proofs.Std.{◌≡◌, ◌<◌, ℕ, Bool, true, List, length}
use Rattle.item_sets.proofs.Common.{Grammar, left_of, Item, IsIn, Closed, lookahead_at, marked, IsCalledFor, IsExpanded, beginning_of}

module _ (g : Grammar) (kernel : List Item) (rows : List (List Bool)) (sound : (n k : ℕ) → marked rows n k ≡ true → IsCalledFor g kernel n k) where
  pub begins_in : (m j : ℕ) → marked rows m j ≡ true → (p : ℕ) → p < length g.productions → left_of g p ≡ m → IsIn g kernel (beginning_of p j)
  begins_in m j e p l s = let x = sound m j e in Closed m x.2.0 p (lookahead_at j) x.1 x.2.1 l s x.2.2

  pub expanded_called : (m j : ℕ) → marked rows m j ≡ true → (n k : ℕ) → IsExpanded g m j n k → IsCalledFor g kernel n k
  expanded_called m j e n k x = (beginning_of x.0 j, begins_in m j e x.0 x.1 x.2, x.3)
