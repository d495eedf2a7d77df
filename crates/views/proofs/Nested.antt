-- Lists of spans of which each holds the later ones.
use Rattle.views.proofs.Std.{dedup, append-nil, All-nil, All-head, All-weaker, All-contains, All-contains_itself, AllPairs-cons, Contains-from_dedup, arith, refl, sym, ap, subst, inl, inr, cond, ◌≡◌, ◌≢◌, ℕ, suc, ◌⊎◌, Bool, true, false, List, [], ◌∷◌, ◌++◌, All, AllPairs, Contains}
use Rattle.views.proofs.Common.{Encloses, Holds, Contains-cases}

pub All-each : {X : Type 0} (P : X → Type 0) (xs : List X) → ((x : X) → Contains xs x → P x) → All P xs
All-each P xs h = All-weaker (Contains xs) P h xs (All-contains_itself xs)

pub AllPairs-none : {X : Type 0} (R : X → X → Type 0) → AllPairs R []
AllPairs-none R i j d l m = absurd (omega arith)

pub AllPairs-head : {X : Type 0} (R : X → X → Type 0) (x : X) (xs : List X) → AllPairs R (x ∷ xs) → All (R x) xs
AllPairs-head R x xs h k d l = h 0 (suc k) d (omega arith) (omega arith)

pub AllPairs-tail : {X : Type 0} (R : X → X → Type 0) (x : X) (xs : List X) → AllPairs R (x ∷ xs) → AllPairs R xs
AllPairs-tail R x xs h i j d l m = h (suc i) (suc j) d (omega arith) (omega arith)

-- two lists joined, of which one is empty
pub AllPairs-one : {X : Type 0} (R : X → X → Type 0) (xs ys : List X) → AllPairs R xs → AllPairs R ys → (xs ≡ []) ⊎ (ys ≡ []) → AllPairs R (xs ++ ys)
AllPairs-one R xs ys p q (inl e) = subst (λ zs. AllPairs R (zs ++ ys)) (sym e) q
AllPairs-one R xs ys p q (inr e) = subst (λ zs. AllPairs R (xs ++ zs)) (sym e) (subst (AllPairs R) (sym (append-nil xs)) p)

pub same_span : (r s : ℕ × ℕ) → r.0 ≡ s.0 → r.1 ≡ s.1 → r ≡ s
same_span r s e f = λ i. (e i, f i)

-- equal neighbours listed once: each span encloses the later ones
module _ (same : ℕ × ℕ → ℕ × ℕ → Bool) (shows : (r s : ℕ × ℕ) → same r s ≡ true → r ≡ s) (knows : (r s : ℕ × ℕ) → same r s ≡ false → r ≢ s) where
  encloses_rest : (r s : ℕ × ℕ) (ss : List (ℕ × ℕ)) → r ≢ s → AllPairs Holds (r ∷ s ∷ ss) → All (Encloses r) (dedup same (s ∷ ss))
  encloses_rest r s ss other h = All-each (Encloses r) (dedup same (s ∷ ss)) (λ z c. go z (Contains-cases s ss z (Contains-from_dedup same (s ∷ ss) z c)))
    where
      first : Holds r s
      first = All-head (Holds r) s ss (AllPairs-head Holds r (s ∷ ss) h)

      go : (z : ℕ × ℕ) → (s ≡ z) ⊎ Contains ss z → Encloses r z
      go z (inl f) = subst (Encloses r) f (first.0, first.1, other)
      go z (inr c) =
          let later : Holds s z = All-contains (Holds s) ss z (AllPairs-head Holds s ss (AllPairs-tail Holds r (s ∷ ss) h)) c in
          let back : (r ≡ z) → r ≡ s = λ f. same_span r s (omega (arith, first.0, later.0, ap (λ (x : ℕ × ℕ). x.0) f)) (omega (arith, first.1, later.1, ap (λ (x : ℕ × ℕ). x.1) f)) in
          (omega (arith, first.0, later.0), omega (arith, first.1, later.1), λ f. other (back f))

  nested_from : (r : ℕ × ℕ) (ss : List (ℕ × ℕ)) → AllPairs Holds (r ∷ ss) → AllPairs Encloses (dedup same (r ∷ ss))
  nested_from r [] h = AllPairs-cons Encloses r [] (All-nil (Encloses r)) (AllPairs-none Encloses)
  nested_from r (s ∷ ss) h = go (same s r) refl (nested_from s ss (AllPairs-tail Holds r (s ∷ ss) h)) (λ e. nested_from r ss (without e))
    where
      without : s ≡ r → AllPairs Holds (r ∷ ss)
      without e = subst (λ z. AllPairs Holds (z ∷ ss)) e (AllPairs-tail Holds r (s ∷ ss) h)

      go : (b : Bool) → same s r ≡ b → AllPairs Encloses (dedup same (s ∷ ss)) → ((s ≡ r) → AllPairs Encloses (dedup same (r ∷ ss)))
          → AllPairs Encloses (cond b (dedup same (r ∷ ss)) (r ∷ dedup same (s ∷ ss)))
      go true e later skipped = skipped (shows s r e)
      go false e later skipped = AllPairs-cons Encloses r (dedup same (s ∷ ss)) (encloses_rest r s ss (λ f. knows s r e (sym f)) h) later

  pub nested_dedup : (ss : List (ℕ × ℕ)) → AllPairs Holds ss → AllPairs Encloses (dedup same ss)
  nested_dedup [] h = AllPairs-none Encloses
  nested_dedup (r ∷ ss) h = nested_from r ss h
