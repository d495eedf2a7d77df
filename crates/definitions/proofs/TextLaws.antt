-- Laws of characters and offsets.
use Rattle.definitions.proofs.Std.{◌≡◌, ℕ, zero, suc, ◌+◌, ◌-◌, ◌<◌, ◌≤◌, ◌⊎◌, Bool, true, false, nat_le, List, length, take, IsScalar, cases_lt, le-leb, le-ltb, lt-ltb, leb-true, and_from, false≢true, scalar_cases, low_scalar, arith, refl, sym, subst, inl, inr, ◌∙◌, cond}
use Rattle.definitions.proofs.Common.{Position, Encoding, IsCharacter, line_start, line_from, units, greatest, offset, IsOffset}

-- a character is what a `char` holds
pub IsCharacter-from_scalar : (c : ℕ) → IsScalar c → IsCharacter c
IsCharacter-from_scalar c h = go (scalar_cases c h)
  where
    go : (c < 55296) ⊎ ((57344 ≤ c) × (c < 1114112)) → IsCharacter c
    go (inl l) = inl (omega arith)
    go (inr l) = inr (l.0, omega (arith, l.1))

high_scalar : (c : ℕ) → 57344 ≤ c → c < 1114112 → IsScalar c
high_scalar c l h = rw (le-ltb c 55296 (omega arith)) (and_from _ _ (le-leb _ _ l) (lt-ltb _ _ h))

pub IsScalar-from_character : (c : ℕ) → IsCharacter c → IsScalar c
IsScalar-from_character c (inl l) = low_scalar c (omega arith)
IsScalar-from_character c (inr h) = high_scalar c h.0 (omega (arith, h.1))

-- `greatest` is within its bound, passes the test if 0 does, and no number within the bound that passes is above it
greatest-le : (test : ℕ → Bool) (n : ℕ) → greatest test n ≤ n
unfolding greatest
greatest-le test zero = omega arith
greatest-le test (suc n) = go (test (suc n)) (greatest-le test n)
  where
    go : (b : Bool) → greatest test n ≤ n → cond b (suc n) (greatest test n) ≤ suc n
    go true l = omega arith
    go false l = omega arith

greatest-passes : (test : ℕ → Bool) (n : ℕ) → test 0 ≡ true → test (greatest test n) ≡ true
unfolding greatest
greatest-passes test zero e = e
greatest-passes test (suc n) e = go (test (suc n)) refl (greatest-passes test n e)
  where
    go : (b : Bool) → test (suc n) ≡ b → test (greatest test n) ≡ true → test (cond b (suc n) (greatest test n)) ≡ true
    go true f g = f
    go false f g = g

greatest-most : (test : ℕ → Bool) (n m : ℕ) → m ≤ n → test m ≡ true → m ≤ greatest test n
unfolding greatest
greatest-most test zero m l e = l
greatest-most test (suc n) m l e = go (test (suc n)) refl (cases_lt m (suc n)) (λ k. greatest-most test n m k e)
  where
    go : (b : Bool) → test (suc n) ≡ b → (m < suc n) ⊎ (suc n ≤ m) → (m ≤ n → m ≤ greatest test n) → m ≤ cond b (suc n) (greatest test n)
    go true f c later = l
    go false f (inl k) later = later (omega arith)
    go false f (inr k) later =
        let same : m ≡ suc n = omega arith in
        absurd (false≢true (sym f ∙ subst (λ i. test i ≡ true) same e))

-- the offset of a position is the one that is meant
pub IsOffset-offset : (encoding : Encoding) (t : List ℕ) (p : Position) → IsOffset encoding (line_start t p.line) (line_from (line_start t p.line) t) p.character (offset encoding t p)
unfolding offset units
IsOffset-offset encoding t p =
    let start : ℕ = line_start t p.line in
    let line : List ℕ = line_from start t in
    let n : ℕ = greatest (test start line) (length line) in
    let within : n ≤ length line = greatest-le (test start line) (length line) in
    let back : start + n - start ≡ n = omega arith in
    record {
      from = omega arith;
      to = omega (arith, within);
      counted = subst (λ k. units encoding (take k line) ≤ p.character) (sym back) (leb-true _ _ (greatest-passes (test start line) (length line) (le-leb 0 p.character (omega arith))));
      greatest = λ m l k h. omega (arith, greatest-most (test start line) (length line) (m - start) (omega arith) (le-leb _ _ h));
    }
  where
    test : ℕ → List ℕ → ℕ → Bool
    test start line k = nat_le (units encoding (take k line)) p.character

-- the one number within the bound that passes and above which none does
pub greatest-is : (test : ℕ → Bool) (n m : ℕ) → m ≤ n → test m ≡ true → ((k : ℕ) → m < k → k ≤ n → test k ≡ false) → greatest test n ≡ m
unfolding greatest
greatest-is test zero m l e above = omega arith
greatest-is test (suc n) m l e above = go (test (suc n)) refl (cases_lt m (suc n)) (λ k. greatest-is test n m k e (λ j p q. above j p (omega arith)))
  where
    go : (b : Bool) → test (suc n) ≡ b → (m < suc n) ⊎ (suc n ≤ m) → (m ≤ n → greatest test n ≡ m) → cond b (suc n) (greatest test n) ≡ m
    go true f (inl k) later = absurd (false≢true (sym (above (suc n) k (omega arith)) ∙ f))
    go true f (inr k) later = omega arith
    go false f (inl k) later = later (omega arith)
    go false f (inr k) later =
        let same : m ≡ suc n = omega arith in
        absurd (false≢true (sym f ∙ subst (λ i. test i ≡ true) same e))
