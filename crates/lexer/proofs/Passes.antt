-- Characters of a list that pass a test, one after another.
use Rattle.lexer.proofs.Std.{arith, sym, ap, subst, ◌∙◌, ◌≡◌, ℕ, zero, ◌+◌, ◌-◌, ◌<◌, ◌≤◌, All, List, length, length-drop, take, drop, slice_index_or, get_or-drop, All-more, All-nil}

-- those from offset `i` to offset `end` pass
pub record ArePassed (P : ℕ → Type 0) (t : List ℕ) (i end : ℕ) : Type 0 where
  pub after : i ≤ end
  pub inside : end ≤ length t
  pub each : All P (take (end - i) (drop i t))

pub none_passed : (P : ℕ → Type 0) (t : List ℕ) (i : ℕ) → i ≤ length t → ArePassed P t i i
none_passed P t i h =
    let e : zero ≡ i - i = omega arith in
    record { after = omega arith; inside = h; each = subst (λ (n : ℕ). All P (take n (drop i t))) e (All-nil P) }

pub one_more_passed : (P : ℕ → Type 0) (t : List ℕ) (i end : ℕ) → ArePassed P t i end → end < length t → P (slice_index_or t end 0) → ArePassed P t i (end + 1)
one_more_passed P t i end h lt p =
    let a = h.after in
    let many : end - i < length (drop i t) = omega (arith, length-drop i t) in
    let place : i + (end - i) ≡ end = omega arith in
    let at : slice_index_or t end 0 ≡ slice_index_or (drop i t) (end - i) 0 = ap (λ n. slice_index_or t n 0) (sym place) ∙ sym (get_or-drop i t (end - i) 0) in
    let e : end - i + 1 ≡ end + 1 - i = omega arith in
    record { after = omega arith; inside = omega arith; each = subst (λ (n : ℕ). All P (take n (drop i t))) e (All-more P (drop i t) (end - i) 0 many h.each (subst P at p)) }
