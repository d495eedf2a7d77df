-- The first item at which a sum reaches what is looked for, over the sides of a node.
use Rattle.seqtree.proofs.Std.{◌≡◌, ℕ, suc, ◌+◌, ◌-◌, ◌<◌, ◌≤◌, Bool, true, false, List, [], ◌∷◌, ◌++◌, length, take, drop, sym, ap, ◌∙◌, inl, inr, arith, length-append, take-append-drop, take-append-add, take-append_seam, take-append-le, cases_lt, cases_Bool}
use Rattle.seqtree.proofs.Common.{MonoidLaws, total, IsLeast}
use Rattle.seqtree.proofs.Totals.{total-append}

module _ {A M : Type 0} {zero : M} {join : M → M → M} (measure : A → M) (laws : MonoidLaws zero join) (reached : M → Bool) (stays : (s r : M) → reached s ≡ true → reached (join s r) ≡ true) where
  abbrev tot : List A → M
  tot xs = total zero join measure xs

  -- what a longer sum does not reach, a shorter one does not
  pub not_earlier : (s r : M) → reached (join s r) ≡ false → reached s ≡ false
  not_earlier s r low = elim (cases_Bool (reached s)) [
    | inl high ↦ let e = stays s r high in cc
    | inr e ↦ e
  ]

  -- the sum, begun with b, of two lists
  pub joined : (b : M) (xs ys : List A) → join b (tot (xs ++ ys)) ≡ join (join b (tot xs)) (tot ys)
  joined b xs ys = ap (join b) (total-append measure laws xs ys) ∙ sym (laws.assoc b (tot xs) (tot ys))

  -- the same with an item between them
  pub joined_around : (b : M) (xs : List A) (x : A) (ys : List A) → join b (tot (xs ++ x ∷ ys)) ≡ join (join (join b (tot xs)) (measure x)) (tot ys)
  joined_around b xs x ys = joined b xs (x ∷ ys) ∙ sym (laws.assoc (join b (tot xs)) (measure x) (tot ys))

  pub prefix_not : (b : M) (k : ℕ) (xs : List A) → reached (join b (tot xs)) ≡ false → reached (join b (tot (take k xs))) ≡ false
  prefix_not b k xs low =
      let e = joined b (take k xs) (drop k xs) in
      let whole = take-append-drop k xs in
      not_earlier _ (tot (drop k xs)) (cc)

  pub least_none : (b : M) → IsLeast zero join measure reached b [] 0 b
  least_none b = record { within = omega arith; sum_is = sym (laws.right_unit b); not_before = λ k h. absurd (omega arith); reached_at = λ h. absurd (omega arith) }

  pub least_left : (b : M) (xs : List A) (x : A) (ys : List A) (i : ℕ) (s : M) → reached (join b (tot xs)) ≡ true
      → IsLeast zero join measure reached b xs i s → IsLeast zero join measure reached b (xs ++ x ∷ ys) i s
  least_left b xs x ys i s high h =
      let le = h.within in
      record {
        within = omega (arith, length-append xs (x ∷ ys));
        sum_is = rw (take-append-le i xs (x ∷ ys) le) h.sum_is;
        not_before = λ k l. let m : k + 1 ≤ length xs = omega arith in rw (take-append-le (k + 1) xs (x ∷ ys) m) (h.not_before k l);
        reached_at = λ l. elim (cases_lt i (length xs)) [
          | inl lt ↦ let m : i + 1 ≤ length xs = omega arith in rw (take-append-le (i + 1) xs (x ∷ ys) m) (h.reached_at lt)
          | inr ge ↦
              let at : i + 1 ≡ length xs + 1 = omega arith in
              rw (at, take-append-add xs (x ∷ ys) 1, joined b xs (x ∷ [])) (stays _ _ high)
        ];
      }

  pub least_root : (b : M) (xs : List A) (x : A) (ys : List A) → reached (join b (tot xs)) ≡ false → reached (join (join b (tot xs)) (measure x)) ≡ true
      → IsLeast zero join measure reached b (xs ++ x ∷ ys) (length xs) (join b (tot xs))
  least_root b xs x ys low high = record {
    within = omega (arith, length-append xs (x ∷ ys));
    sum_is = rw (take-append_seam xs (x ∷ ys));
    not_before = λ k l. let m : k + 1 ≤ length xs = omega arith in rw (take-append-le (k + 1) xs (x ∷ ys) m) (prefix_not b (k + 1) xs low);
    reached_at = λ l. rw (take-append-add xs (x ∷ ys) 1, joined b xs (x ∷ []), laws.right_unit (measure x)) high;
  }

  -- a prefix that goes past the item in the middle
  pub take_past : (xs : List A) (x : A) (ys : List A) (k j : ℕ) → k ≡ length xs + 1 + j → take k (xs ++ x ∷ ys) ≡ xs ++ x ∷ take j ys
  take_past xs x ys k j e =
      let f : k ≡ length xs + suc j = omega arith in
      rw (f, take-append-add xs (x ∷ ys) (suc j))

  -- no prefix up to the item in the middle reaches it
  pub before_right : (b : M) (xs : List A) (x : A) (ys : List A) (k : ℕ) → reached (join b (tot xs)) ≡ false → reached (join (join b (tot xs)) (measure x)) ≡ false
      → k < length xs + 1 → reached (join b (tot (take (k + 1) (xs ++ x ∷ ys)))) ≡ false
  before_right b xs x ys k no_left no_root lt = elim (cases_lt k (length xs)) [
    | inl less ↦ let m : k + 1 ≤ length xs = omega arith in rw (take-append-le (k + 1) xs (x ∷ ys) m) (prefix_not b (k + 1) xs no_left)
    | inr ge ↦
        let at : k + 1 ≡ length xs + 1 = omega arith in
        rw (at, take-append-add xs (x ∷ ys) 1, joined b xs (x ∷ []), laws.right_unit (measure x)) no_root
  ]

  pub least_right : (b : M) (xs : List A) (x : A) (ys : List A) (i n : ℕ) (s : M) → n ≡ length xs + 1 + i → reached (join b (tot xs)) ≡ false
      → reached (join (join b (tot xs)) (measure x)) ≡ false → IsLeast zero join measure reached (join (join b (tot xs)) (measure x)) ys i s → IsLeast zero join measure reached b (xs ++ x ∷ ys) n s
  least_right b xs x ys i n s is no_left no_root h =
      let le = h.within in
      record {
        within = omega (arith, length-append xs (x ∷ ys));
        sum_is = h.sum_is ∙ sym (rw (take_past xs x ys n i is) (joined_around b xs x (take i ys)));
        not_before = λ k l. elim (cases_lt k (length xs + 1)) [
          | inl lt ↦ before_right b xs x ys k no_left no_root lt
          | inr ge ↦
              let j = k - (length xs + 1) in
              let at : k + 1 ≡ length xs + 1 + (j + 1) = omega arith in
              let below : j < i = omega arith in
              rw (take_past xs x ys (k + 1) (j + 1) at, joined_around b xs x (take (j + 1) ys)) (h.not_before j below)
        ];
        reached_at = λ l.
            let at : n + 1 ≡ length xs + 1 + (i + 1) = omega arith in
            let below : i < length ys = omega (arith, length-append xs (x ∷ ys)) in
            rw (take_past xs x ys (n + 1) (i + 1) at, joined_around b xs x (take (i + 1) ys)) (h.reached_at below);
      }
