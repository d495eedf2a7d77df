-- Tests on numbers, and numbers as lists give them.
use Rattle.dfa.proofs.Std.{◌≡◌, ℕ, zero, suc, ◌+◌, ◌<◌, ◌≤◌, true, nat_le, List, drop, length, length-drop, ap, ◌∙◌, slice_index_or, Option, Some, IfSome, arith, sym, refl, get_or_default, get_or-drop, nat_tests, prefix_len-le-length, mul-add-lt, mul_comm}
use Rattle.dfa.proofs.Common.{State, table_of, IsState, IsStored, IsAscending, IsTable, follower, numbered, part}

-- what is at or below c comes before what is not
pub le_trans_test : (xs : List ℕ) (c : ℕ) → IsAscending xs → (i j : ℕ) (d : ℕ) → i ≤ j → j < length xs → nat_le (slice_index_or xs j d) c ≡ true → nat_le (slice_index_or xs i d) c ≡ true
le_trans_test xs c up i j d le lt h =
    let a = up i j le lt in
    let within : i < length xs = omega arith in
    let e = get_or_default xs i d 0 within in
    let f = get_or_default xs j d 0 lt in
    grind (arith, nat_tests)

pub numbered_some : (n : ℕ) → 0 < n → numbered n ≡ Some n
numbered_some zero h = absurd (omega arith)
numbered_some (suc n) h = refl

pub numbered_positive : (n : ℕ) → IfSome (numbered n) (λ x. 0 < x)
numbered_positive zero = tt
numbered_positive (suc n) = omega arith

-- the place of an entry lies in the table
pub entry_within : (starts next : List ℕ) (accepts : List (Option ℕ)) → IsTable (table_of starts next accepts) → (s : State) (p c : ℕ)
    → IsState (table_of starts next accepts) s → p ≡ part starts c → s.row + p < length next
entry_within starts next accepts t s p c h f =
    let b = prefix_len-le-length (λ x. nat_le x c) starts in
    omega (arith, mul-add-lt s.number (length starts + 1) p (length accepts) h.inside (omega (arith, b, f)), mul_comm (length starts + 1) (length accepts), t.filled, h.row)

-- what is read of a state's row
pub entry_is : (starts next : List ℕ) (accepts : List (Option ℕ)) (s : State) (p c : ℕ) → IsState (table_of starts next accepts) s → p ≡ part starts c
    → follower (table_of starts next accepts) s.number c ≡ numbered (slice_index_or next (s.row + p) 0)
entry_is starts next accepts s p c h f = λ i. numbered (slice_index_or next (sym h.row i + sym f i) 0)

-- A row that is read by the parts of the first 128 characters.
module _ (starts ascii next : List ℕ) (accepts : List (Option ℕ)) (h : IsStored starts ascii next accepts) (s : State) (is : IsState (table_of starts next accepts) s) where
  pub row_wide : (i : ℕ) → i < 128 → slice_index_or ascii i 0 < length (drop s.row next)
  row_wide i lt = omega (arith, entry_within starts next accepts h.table s (slice_index_or ascii i 0) i is (h.parts i lt), length-drop s.row next)

  pub row_follower : (number c : ℕ) → 0 < number → c < 128 → slice_index_or (drop s.row next) (slice_index_or ascii c 0) 0 ≡ number → follower (table_of starts next accepts) s.number c ≡ Some number
  row_follower number c some lt e =
      entry_is starts next accepts s (slice_index_or ascii c 0) c is (h.parts c lt)
      ∙ ap numbered (sym (get_or-drop s.row next (slice_index_or ascii c 0) 0) ∙ e)
      ∙ numbered_some number some
