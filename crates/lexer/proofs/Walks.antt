-- A walk over tokens goes on by one, and finds a token where one starts.
use Rattle.lexer.proofs.Std.{arith, inl, inr, sym, ap, subst, ◌∙◌, length-drop, ◌≡◌, ◌≢◌, ◌⊎◌, ℕ, suc, ◌+◌, ◌-◌, ◌<◌, ◌≤◌, List, [], ◌∷◌, length, take, drop, slice_index_or, cases_lt, drop_more, take_more, sum_by-append, head-eq_of_cons-eq, tail-eq_of_cons-eq}
use Rattle.lexer.proofs.Common.{Token, characters, Fits, Spot, IsWalk, IsPassed}
use Rattle.lexer.proofs.Totals.{characters-cons, characters-step, characters-mono}

module _ (items rest : List Token) (x : Token) (place start : ℕ) (w : IsWalk items (x ∷ rest) place start) where
  before_end : place < length items
  before_end = omega (arith, ap length w.ahead_is, length-drop place items)

  split : x ∷ rest ≡ slice_index_or items place x ∷ drop (place + 1) items
  split = w.ahead_is ∙ drop_more items place x before_end

  kept_before : characters (take (place + 1) items) ≡ start + x.length
  kept_before =
      ap characters (take_more items place x before_end)
      ∙ sum_by-append (λ y. y.length) (take place items) (slice_index_or items place x ∷ [])
      ∙ ap (λ y. characters (take place items) + characters (y ∷ [])) (sym (head-eq_of_cons-eq split))
      ∙ omega (arith, w.start_is, characters-cons x [])

  pub walk_on : IsWalk items rest (place + 1) (start + x.length)
  walk_on = record { fits = w.fits; within = omega (arith, before_end); ahead_is = tail-eq_of_cons-eq split; start_is = sym kept_before }

  pub passed_on : (offset : ℕ) → start < offset → IsPassed offset (record { items = items; place = place }) → IsPassed offset (record { items = items; place = place + 1 })
  passed_on offset early h j l = elim (cases_lt j place) [
    | inl lt ↦ h j lt
    | inr ge ↦ let same : j ≡ place = omega arith in subst (λ n. characters (take n items) < offset) (sym same) (omega (arith, w.start_is))
  ]

-- what starts before an offset starts before a later one
pub passed_later : (spot : Spot) (early late : ℕ) → early ≤ late → IsPassed early spot → IsPassed late spot
passed_later spot early late l h j m = omega (arith, h j m)

-- no token is ahead at the end
pub at_end : (items : List Token) (place start : ℕ) → IsWalk items [] place start → place ≡ length items
at_end items place start w = omega (arith, ap length w.ahead_is, length-drop place items, w.within)

-- no other token starts at an offset between that of the place and those before it
pub starts_nowhere : (items : List Token) (place offset : ℕ) → Fits items → (offset ≤ characters (take place items)) ⊎ (place ≡ length items)
    → characters (take place items) ≢ offset → IsPassed offset (record { items = items; place = place }) → (j : ℕ) → j ≤ length items → characters (take j items) ≢ offset
starts_nowhere items place offset f reached other passed j l e = go (cases_lt j place) (cases_lt place j) reached
  where
    go : (j < place) ⊎ (place ≤ j) → (place < j) ⊎ (j ≤ place) → (offset ≤ characters (take place items)) ⊎ (place ≡ length items) → ⊥
    go (inl lt) _ _ = let low : characters (take j items) < offset = passed j lt in absurd (omega (arith, low, e))
    go (inr _) (inl lt) (inl le) =
        let more : characters (take place items) + 1 ≤ characters (take (place + 1) items) = characters-step items place f.nonempty (omega arith) in
        absurd (omega (arith, more, characters-mono items (place + 1) j (omega arith), e, le))
    go (inr _) (inl lt) (inr end) = absurd (omega arith)
    go (inr a) (inr b) _ = let same : place ≡ j = omega arith in other (subst (λ n. characters (take n items) ≡ offset) (sym same) e)

-- the parts of a list of which a later part begins with an item
pub tail_of_drop : (items rest : List Token) (x : Token) (place : ℕ) → x ∷ rest ≡ drop place items → rest ≡ drop (place + 1) items
tail_of_drop items rest x place e =
    let inside : place < length items = omega (arith, ap length e, length-drop place items) in
    tail-eq_of_cons-eq (e ∙ drop_more items place x inside)

pub take_one_more : (rest : List Token) (x : Token) (m n : ℕ) → m < n → take (n - m) (x ∷ rest) ≡ x ∷ take (n - (m + 1)) rest
take_one_more rest x m n l = let e : n - m ≡ suc (n - (m + 1)) = omega arith in ap (λ k. take k (x ∷ rest)) e
