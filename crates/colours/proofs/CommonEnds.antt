-- What two lists begin and end with, and what the edit between them makes of the first.
use Rattle.colours.proofs.Std.{◌++◌, ◌+◌, ◌-◌, ◌<◌, ◌≤◌, ◌≡◌, ◌≢◌, ◌∙◌, ◌∷◌, ◌⊎◌, List, ap, append_assoc, arith, cases_lt, drop, drop-cons, drop-drop, get_or, get_or-drop, get_or-take, inl, inr, length, length-drop, length-take, suc, sym, take, take-append-drop, take-take, ℕ}

drop_last : (a : List ℕ) (k : ℕ) → k < length a → drop (length a - (k + 1)) a ≡ get_or a (length a - 1 - k) 0 ∷ drop (length a - k) a
drop_last a k l =
    let next : suc (length a - (k + 1)) ≡ length a - k = omega arith in
    let here : length a - (k + 1) ≡ length a - 1 - k = omega arith in
    drop-cons a (length a - (k + 1)) 0 (omega arith) ∙ (λ i. get_or a (here i) 0 ∷ drop (next i) a)

-- one number more at the end of both
pub back_more : (a b : List ℕ) (k : ℕ) → k < length a → k < length b → drop (length a - k) a ≡ drop (length b - k) b
    → get_or a (length a - 1 - k) 0 ≡ get_or b (length b - 1 - k) 0 → drop (length a - (k + 1)) a ≡ drop (length b - (k + 1)) b
back_more a b k l m e f = drop_last a k l ∙ (λ i. f i ∷ e i) ∙ sym (drop_last b k m)

module _ (old new : List ℕ) (same start : ℕ) (left : same ≤ length old) (right : same ≤ length new) (front : take same old ≡ take same new) (short : start ≤ same) where
  front_is : take start old ≡ take start new
  front_is = sym (take-take start same old short) ∙ ap (take start) front ∙ take-take start same new short

  -- what is left of both after their start
  module _ (a b : List ℕ) (is_a : a ≡ drop start old) (is_b : b ≡ drop start new) where
    pub edited : (common kept : ℕ) → common ≤ length a → common ≤ length b → kept ≤ common
        → drop (length a - common) a ≡ drop (length b - common) b
        → take start old ++ take (length b - kept) b ++ drop (start + (length a - kept)) old ≡ new
    edited common kept l r few back =
        let i : length a - common + (common - kept) ≡ length a - kept = omega arith in
        let j : length b - common + (common - kept) ≡ length b - kept = omega arith in
        let ends : drop (length a - kept) a ≡ drop (length b - kept) b =
        ap (λ n. drop n a) (sym i) ∙ sym (drop-drop (common - kept) (length a - common) a) ∙ ap (drop (common - kept)) back
        ∙ drop-drop (common - kept) (length b - common) b ∙ ap (λ n. drop n b) j in
        ap (λ xs. xs ++ take (length b - kept) b ++ drop (start + (length a - kept)) old) front_is
        ∙ ap (λ xs. take start new ++ take (length b - kept) b ++ xs) (sym (drop-drop (length a - kept) start old) ∙ ap (drop (length a - kept)) (sym is_a) ∙ ends)
        ∙ append_assoc (take start new) (take (length b - kept) b) (drop (length b - kept) b)
        ∙ ap (λ xs. take start new ++ xs) (take-append-drop (length b - kept) b ∙ is_b)
        ∙ take-append-drop start new

    length_a : length a ≡ length old - start
    length_a = ap length is_a ∙ length-drop start old

    length_b : length b ≡ length new - start
    length_b = ap length is_b ∙ length-drop start new

    pub back_differs : (common kept gone : ℕ) → common < kept + 5 → kept ≤ common → gone ≡ length a - kept → kept ≤ length a
        → (common < length a → common < length b → get_or a (length a - 1 - common) 0 ≢ get_or b (length b - 1 - common) 0)
        → start + (length old - (start + gone)) + 5 ≤ length old → start + (length old - (start + gone)) + 5 ≤ length new
        → drop (length old - (length old - (start + gone) + 5)) old ≢ drop (length new - (length old - (start + gone) + 5)) new
    back_differs common kept gone near few g inside most l m e =
        let left_over : length old - (start + gone) ≡ kept = omega (arith, length_a) in
        most (omega (arith, length_a)) (omega (arith, length_b))
        (there old a is_a length_a (omega (arith, left_over)) left_over ∙ ap (λ xs. get_or xs (kept + 4 - common) 0) e ∙ sym (there new b is_b length_b (omega (arith, left_over)) left_over))
      where
        there : (xs ys : List ℕ) → ys ≡ drop start xs → length ys ≡ length xs - start → start + kept + 5 ≤ length xs → length old - (start + gone) ≡ kept
            → get_or ys (length ys - 1 - common) 0 ≡ get_or (drop (length xs - (length old - (start + gone) + 5)) xs) (kept + 4 - common) 0
        there xs ys is n l k =
            let place : start + (length ys - 1 - common) ≡ length xs - (length old - (start + gone) + 5) + (kept + 4 - common) = omega (arith, n, k) in
            ap (λ zs. get_or zs (length ys - 1 - common) 0) is ∙ get_or-drop start xs (length ys - 1 - common) 0 ∙ ap (λ i. get_or xs i 0) place
            ∙ sym (get_or-drop (length xs - (length old - (start + gone) + 5)) xs (kept + 4 - common) 0)

  pub front_differs : same < start + 5 → (same < length old → same < length new → get_or old same 0 ≢ get_or new same 0) → (same ≡ length old → same ≢ length new)
      → take (start + 5) old ≢ take (start + 5) new
  front_differs near most apart e = go (cases_lt same (length old)) (cases_lt same (length new))
    where
      lengths : length (take (start + 5) old) ≡ length (take (start + 5) new)
      lengths = ap length e

      go : (same < length old) ⊎ (length old ≤ same) → (same < length new) ⊎ (length new ≤ same) → ⊥
      go (inl l) (inl m) = most l m (sym (get_or-take (start + 5) old same 0 near) ∙ ap (λ xs. get_or xs same 0) e ∙ get_or-take (start + 5) new same 0 near)
      go (inl l) (inr m) = omega (arith, lengths, length-take (start + 5) old, length-take (start + 5) new)
      go (inr l) (inl m) = omega (arith, lengths, length-take (start + 5) old, length-take (start + 5) new)
      go (inr l) (inr m) = apart (omega arith) (omega arith)
