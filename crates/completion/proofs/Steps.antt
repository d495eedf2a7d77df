-- One step further along a list.
use Rattle.completion.proofs.Std.{◌++◌, ◌+◌, ◌-◌, ◌<◌, ◌≤◌, ◌≡◌, ◌∙◌, ◌∷◌, ℕ, zero, suc, IsTrue, true, false, List, [], ap, arith, append-nil, append_assoc, cases_lt, drop, drop-drop, encode_utf8, encode_utf8_all, get_or, head-eq_of_cons-eq, inl, inr, length, slice_range, subst, sym, take}
use Rattle.completion.proofs.Common.{is_in_word}

module _ {X : Type 0} where
  tail_suc : (xs : List X) (n : ℕ) (x : X) (rest : List X) → drop n xs ≡ x ∷ rest → rest ≡ drop (suc n) xs
  tail_suc [] zero x rest e = absurd (cc e)
  tail_suc [] (suc n) x rest e = absurd (cc e)
  tail_suc (y ∷ xs) zero x rest e = let same : rest ≡ xs = cc e in same
  tail_suc (y ∷ xs) (suc n) x rest e = tail_suc xs n x rest e

  pub tail_here : (xs : List X) (n : ℕ) (x : X) (rest : List X) → drop n xs ≡ x ∷ rest → rest ≡ drop (n + 1) xs
  tail_here xs n x rest e = tail_suc xs n x rest e ∙ ap (λ m. drop m xs) (let s : suc n ≡ n + 1 = omega arith in s)

  take_suc : (xs : List X) (n : ℕ) (x : X) (rest : List X) → drop n xs ≡ x ∷ rest → take (suc n) xs ≡ take n xs ++ x ∷ []
  take_suc [] zero x rest e = absurd (cc e)
  take_suc [] (suc n) x rest e = absurd (cc e)
  take_suc (y ∷ xs) zero x rest e = let same : y ≡ x = cc e in ap (λ z. z ∷ []) same
  take_suc (y ∷ xs) (suc n) x rest e = ap (λ l. y ∷ l) (take_suc xs n x rest e)

  pub take_here : (xs : List X) (n : ℕ) (x : X) (rest : List X) → drop n xs ≡ x ∷ rest → take (n + 1) xs ≡ take n xs ++ x ∷ []
  take_here xs n x rest e = ap (λ m. take m xs) (let s : n + 1 ≡ suc n = omega arith in s) ∙ take_suc xs n x rest e

  pub none_here : (xs : List X) (n : ℕ) → drop n xs ≡ [] → length xs ≤ n
  none_here [] n e = omega arith
  none_here (x ∷ xs) zero e = absurd (cc e)
  none_here (x ∷ xs) (suc n) e = omega (arith, none_here xs n e)

pub char_here : (t : List ℕ) (n c : ℕ) (rest : List ℕ) → drop n t ≡ c ∷ rest → get_or t n 0 ≡ c
char_here [] zero c rest e = absurd (cc e)
char_here [] (suc n) c rest e = absurd (cc e)
char_here (x ∷ t) zero c rest e = head-eq_of_cons-eq e
char_here (x ∷ t) (suc n) c rest e = char_here t n c rest e

-- one character more of a part of a text
pub slice_more : (t : List ℕ) (from at c : ℕ) (rest : List ℕ) → from ≤ at → drop at t ≡ c ∷ rest → slice_range t from (at + 1) ≡ slice_range t from at ++ c ∷ []
slice_more t from at c rest le e =
    let there : drop (at - from) (drop from t) ≡ c ∷ rest = drop-drop (at - from) from t ∙ ap (λ n. drop n t) (let s : from + (at - from) ≡ at = omega (arith, le) in s) ∙ e in
    ap (λ n. take n (drop from t)) (let s : at + 1 - from ≡ (at - from) + 1 = omega (arith, le) in s) ∙ take_here (drop from t) (at - from) c rest there

pub encode-push : (t : List ℕ) (c : ℕ) → encode_utf8_all (t ++ c ∷ []) ≡ encode_utf8_all t ++ encode_utf8 c
encode-push [] c = append-nil (encode_utf8 c)
encode-push (x ∷ t) c = ap (λ l. encode_utf8 x ++ l) (encode-push t c) ∙ sym (append_assoc (encode_utf8 x) (encode_utf8_all t) (encode_utf8 c))

-- what is known of the start of a word, one character further
pub record IsSince (t : List ℕ) (from at start : ℕ) : Type 0 where
  pub lower : from ≤ start
  pub upper : start ≤ at
  pub word : (i : ℕ) → start ≤ i → i < at → IsTrue (is_in_word (get_or t i 0))
  pub begins : (i : ℕ) → from < start → start ≡ i + 1 → is_in_word (get_or t i 0) ≡ false

pub still_in : (t : List ℕ) (from at start c : ℕ) → IsSince t from at start → get_or t at 0 ≡ c → is_in_word c ≡ true → IsSince t from (at + 1) start
still_in t from at start c h here is = record {
  lower = h.lower;
  upper = omega (arith, h.upper);
  word = λ i low high. elim (cases_lt i at) [
    | inl lt ↦ h.word i low lt
    | inr ge ↦ let same : i ≡ at = omega (arith, ge, high) in subst (λ j. IsTrue (is_in_word (get_or t j 0))) (sym same) (subst (λ d. IsTrue (is_in_word d)) (sym here) is)
  ];
  begins = h.begins;
}

pub begun_behind : (t : List ℕ) (from at start c : ℕ) → IsSince t from at start → get_or t at 0 ≡ c → is_in_word c ≡ false → IsSince t from (at + 1) (at + 1)
begun_behind t from at start c h here is = record {
  lower = omega (arith, h.lower, h.upper);
  upper = omega arith;
  word = λ i low high. absurd (omega (arith, low, high));
  begins = λ i before at_is. let same : i ≡ at = omega (arith, at_is) in ap (λ j. is_in_word (get_or t j 0)) same ∙ ap is_in_word here ∙ is;
}
