-- The numbers from a bound on that have a property, in order.
use Rattle.tables.proofs.Std.{◌≡◌, ◌≤◌, ◌<◌, ◌+◌, ℕ, zero, suc, List, [], ◌∷◌, length, sym, subst, ⊎_elim, arith, slice_index, Contains, IsStrictlyIncreasing, cases_lt}
use Rattle.tables.proofs.Common.{Contains-first, Contains-later, Contains-cases, Contains-none}

-- these are in order the numbers with the property, of the m numbers from k on
pub record AreThose (P : ℕ → Type 0) (k m : ℕ) (numbers : List ℕ) : Type 0 where
  pub from : (j : ℕ) → j < length numbers → k ≤ slice_index numbers j
  pub in_order : IsStrictlyIncreasing numbers
  pub only : (a : ℕ) → Contains numbers a → P a
  pub all : (a : ℕ) → k ≤ a → a < k + m → P a → Contains numbers a

module _ (P : ℕ → Type 0) where
  pub none_there : (k : ℕ) → AreThose P k 0 []
  none_there k = record {
    from = λ j l. absurd (omega (arith, l));
    in_order = λ j l. absurd (omega (arith, l));
    only = λ a c. absurd (Contains-none a c);
    all = λ a low high has. absurd (omega (arith, low, high));
  }

  pub put_first : (k m : ℕ) (numbers : List ℕ) → P k → AreThose P (k + 1) m numbers → AreThose P k (suc m) (k ∷ numbers)
  put_first k m numbers is rest = record {
    from = first_from;
    in_order = rising;
    only = λ a c. ⊎_elim (λ e. subst P e is) (λ later. rest.only a later) (Contains-cases k numbers a c);
    all = λ a low high has. ⊎_elim (λ below. let same : a ≡ k = omega (arith, low, below) in subst (Contains (k ∷ numbers)) (sym same) (Contains-first k numbers))
        (λ over. Contains-later k numbers a (rest.all a over (omega (arith, high)) has)) (cases_lt a (k + 1));
  }
    where
      first_from : (j : ℕ) → j < length (k ∷ numbers) → k ≤ slice_index (k ∷ numbers) j
      first_from zero l = omega arith
      first_from (suc j) l = let low = rest.from j (omega (arith, l)) in omega (arith, low)

      rising : IsStrictlyIncreasing (k ∷ numbers)
      rising zero l = let low = rest.from 0 (omega (arith, l)) in omega (arith, low)
      rising (suc j) l =
          let next : suc (j + 1) ≡ suc j + 1 = omega arith in
          subst (λ n. slice_index (k ∷ numbers) (suc j) < slice_index (k ∷ numbers) n) next (rest.in_order j (omega (arith, l)))

  pub pass_over : (k m : ℕ) (numbers : List ℕ) → (P k → ⊥) → AreThose P (k + 1) m numbers → AreThose P k (suc m) numbers
  pass_over k m numbers not_it rest = record {
    from = λ j l. let low = rest.from j l in omega (arith, low);
    in_order = rest.in_order;
    only = rest.only;
    all = λ a low high has. ⊎_elim (λ below. let same : a ≡ k = omega (arith, low, below) in absurd (not_it (subst P same has)))
        (λ over. rest.all a over (omega (arith, high)) has) (cases_lt a (k + 1));
  }
