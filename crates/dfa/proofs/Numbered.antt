-- The number of a set among the ones so far, as an index set finds it.
use Rattle.dfa.proofs.Std.{◌≡◌, ℕ, zero, suc, ◌+◌, ◌<◌, ◌≤◌, ◌⊎◌, Bool, true, false, List, [], ◌∷◌, ◌++◌, length, slice_index_or, Some, refl, sym, ap, ◌∙◌, inl, inr, Vec, slice_get, if◌then◌else◌, Global, list_any, bytes_eq}
use Rattle.dfa.proofs.Std.{arith, cases_lt, or_parts, false≢true, length-append, get_or_append_left, bytes_eq-Decides}
use Rattle.dfa.proofs.Std.{insert_key}
use Rattle.dfa.proofs.Common.{members, IsAbsent, Placed, IsNumber}

abbrev Key : Type 0
Key = Vec ℕ Global

abbrev same : Key → Key → Bool
same x y = bytes_eq x.items y.items

absent : (keys : List Key) (key : Key) → list_any (same key) keys ≡ false → IsAbsent (members keys) key.items
absent [] key h i lt e = absurd (omega (arith, lt))
absent (k ∷ keys) key h zero lt e = false≢true (sym (or_parts (same key k) (list_any (same key) keys) h).0 ∙ (bytes_eq-Decides key.items k.items).1 (sym e))
absent (k ∷ keys) key h (suc i) lt e = absent keys key (or_parts (same key k) (list_any (same key) keys) h).1 i (omega (arith, lt)) e

insert_cases : (b : Bool) (keys : List Key) (key : Key) → ((b ≡ true) × ((if b then keys else (keys ++ key ∷ [])) ≡ keys))
    ⊎ ((b ≡ false) × ((if b then keys else (keys ++ key ∷ [])) ≡ keys ++ key ∷ []))
insert_cases true keys key = inl (refl, refl)
insert_cases false keys key = inr (refl, refl)

members-append : (xs ys : List Key) → members (xs ++ ys) ≡ members xs ++ members ys
members-append [] ys = refl
members-append (x ∷ xs) ys = ap (λ l. x.items ∷ l) (members-append xs ys)

pub placed : (old new : List Key) (key : Key) → new ≡ insert_key same old key → Placed (members old) (members new) key.items
placed old new key e = elim (insert_cases (list_any (same key) old) old key) [
  | inl t ↦ inl (ap members (e ∙ t.1))
  | inr t ↦ inr (ap members (e ∙ t.1) ∙ members-append old (key ∷ []), absent old key t.0)
]

pub stored_at : (keys : List Key) (n : ℕ) (k : Key) → slice_get keys n ≡ Some k → (n < length (members keys)) × (slice_index_or (members keys) n [] ≡ k.items)
stored_at [] n k e = cc
stored_at (x ∷ keys) zero k e = let f : x ≡ k = cc in (omega arith, ap (λ v. v.items) f)
stored_at (x ∷ keys) (suc n) k e = let t = stored_at keys n k e in (omega (arith, t.0), t.1)

pub numbered_key : (keys : List Key) (n : ℕ) (key : Key) → (k : Key) × (slice_get keys n ≡ Some k) × (same key k ≡ true) → IsNumber (members keys) n key.items
numbered_key keys n key h =
    let t = stored_at keys n h.0 h.1 in
    (t.0, t.1 ∙ sym ((bytes_eq-Decides key.items h.0.items).0 h.2))

pub placed_bound : (old new : List (List ℕ)) (set : List ℕ) (n m : ℕ) → Placed old new set → IsNumber new n set → n < m → length old ≤ m → length new ≤ m
placed_bound old new set n m (inl e) h lt le = let f = ap length e in omega (arith, f, le)
placed_bound old new set n m (inr p) h lt le =
    let f : length new ≡ length old + 1 = ap length (p.0) ∙ length-append old (set ∷ []) in
    elim (cases_lt n (length old)) [
      | inl x ↦
          let g : slice_index_or new n [] ≡ slice_index_or old n [] = ap (λ l. slice_index_or l n []) (p.0) ∙ get_or_append_left old (set ∷ []) [] n x in
          absurd (p.1 n x (sym g ∙ h.1))
      | inr x ↦ omega (arith, f, x, h.0, lt)
    ]
