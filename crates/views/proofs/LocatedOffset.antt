-- The sums of tokens give the two places of an offset.
use Rattle.views.proofs.Std.{arith, ltb-true, ltb-false, length-take, sum_by-take-le, All-nil, All-cons, All-take}
use Rattle.views.proofs.Std.{refl, sym, ap, subst, ◌∙◌, ◌≡◌, ℕ, zero, suc, ◌+◌, ◌<◌, ◌≤◌, ◌^◌, true, false, List, [], ◌∷◌, length, map, take, drop, count_by, slice_get, Some, None, All, IsTrue, nat_lt, if◌then◌else◌}
use Rattle.views.proofs.Common.{Expression, AreTokens, is_skipped, kinds, placed, significant, IsPiece-inside, chars}
use Rattle.views.proofs.Common.{FileGrammar, lexicon_of, Sums, Token, AreTokensOf, characters, is_significant, kind_in, plain, length-plain, chars-plain, plain-take, tokens_length, kinds_plain, length-kinds, tot, count-cons, length-le-characters, total_characters, total_significant, IsAround}
use Rattle.lexer.specs.Rescans.{plain_all}
use Rattle.views.proofs.SignificantOrder.{IsPlaceOf, places_around}

-- the place that a search for more than o characters finds, and the sum before it
pub record IsLocated (items : List Token) (o p : ℕ) (before : Sums) : Type 0 where
  pub within : p ≤ length items
  pub sum : before ≡ tot (take p items)
  pub not_before : (k : ℕ) → k < p → nat_lt o (tot (take (k + 1) items)).characters ≡ false
  pub reached : p < length items → IsTrue (nat_lt o (tot (take (p + 1) items)).characters)

-- no token is empty
nonempty : (rules : List Expression) (t : List ℕ) (xs : List Token) → AreTokens rules t (map plain xs) → All (λ x. 1 ≤ x.length) xs
nonempty rules t [] h = All-nil (λ x. 1 ≤ x.length)
nonempty rules t (x ∷ xs) h =
    let inside : (1 ≤ x.length) × (x.length ≤ length t) = IsPiece-inside rules t (kind_in x) x.length h.0.piece in
    All-cons (λ x. 1 ≤ x.length) x xs inside.0 (nonempty rules (drop x.length t) xs h.1)

-- one more token, and none more
count_one : (xs : List Token) (p : ℕ) (x : Token) → slice_get xs p ≡ Some x → count_by is_significant (take (suc p) xs) ≡ count_by is_significant (take p xs) + (if x.skipped then 0 else 1)
count_one [] p x e = absurd (cc)
count_one (y ∷ xs) zero x e =
    let same : y ≡ x = cc in
    count-cons y [] ∙ ap (λ z. (if z.skipped then 0 else 1) + 0) same ∙ omega arith
count_one (y ∷ xs) (suc p) x e =
    let rest : count_by is_significant (take (suc p) xs) ≡ count_by is_significant (take p xs) + (if x.skipped then 0 else 1) = count_one xs p x e in
    omega (arith, count-cons y (take (suc p) xs), count-cons y (take p xs), rest)

count_none : (xs : List Token) (p : ℕ) → slice_get xs p ≡ None → take (suc p) xs ≡ take p xs
count_none [] zero e = refl
count_none [] (suc p) e = refl
count_none (y ∷ xs) zero e = absurd (cc)
count_none (y ∷ xs) (suc p) e = ap (λ ys. y ∷ ys) (count_none xs p e)

module _ (file : FileGrammar) (t : List ℕ) (items : List Token) (h : AreTokensOf (lexicon_of file) t items) (short : length t ≤ 2 ^ 30) where
  long : characters items ≡ length t
  long = tokens_length file.patterns t items h.tokens

  pub few : length items ≤ length t
  few = omega (arith, long, length-le-characters items (nonempty file.patterns t items h.tokens))

  characters_exact : (n : ℕ) → (tot (take n items)).characters ≡ characters (take n items)
  characters_exact n = total_characters (take n items) (omega (arith, long, sum_by-take-le (λ x. x.length) items n))

  significant_exact : (n : ℕ) → (tot (take n items)).significant ≡ count_by is_significant (take n items)
  significant_exact n = total_significant (take n items) (omega (arith, few, length-take n items))

  plain_characters : (n : ℕ) → chars (take n (plain_all items)) ≡ characters (take n items)
  plain_characters n = ap chars (sym (plain-take n items)) ∙ chars-plain (take n items)

  plain_count : (n : ℕ) → length (kinds file.skips (take n (plain_all items))) ≡ count_by is_significant (take n items)
  plain_count n =
      ap (λ xs. length (kinds file.skips xs)) (sym (plain-take n items))
      ∙ ap length (kinds_plain file.skips (take n items) (All-take (λ x. x.skipped ≡ is_skipped file.skips (kind_in x)) n items h.marked))
      ∙ length-kinds (take n items)

  module _ (o p : ℕ) (before : Sums) (l : IsLocated items o p before) where
    starts_before : (n : ℕ) → n ≡ p → 0 + chars (take n (plain_all items)) ≤ o
    starts_before zero e = omega arith
    starts_before (suc q) e =
        let next : q + 1 ≡ suc q = omega arith in
        let low : (tot (take (q + 1) items)).characters ≤ o = ltb-false _ _ (l.not_before q (omega arith)) in
        omega (arith, low, characters_exact (q + 1), plain_characters (suc q), ap (λ n. characters (take n items)) next)

    place : IsPlaceOf 0 o (plain_all items) p
    place = record {
      within = omega (arith, l.within, length-plain items);
      before = starts_before p refl;
      after = λ m.
          let next : p + 1 ≡ suc p = omega arith in
          let high : o < (tot (take (p + 1) items)).characters = ltb-true _ _ (l.reached (omega (arith, length-plain items))) in
          omega (arith, high, characters_exact (p + 1), plain_characters (suc p), ap (λ n. characters (take n items)) next);
    }

    first_is : length (kinds file.skips (take p (plain_all items))) ≡ before.significant
    first_is = plain_count p ∙ sym (significant_exact p) ∙ ap (λ s. s.significant) (sym l.sum)

    around : (reached : ℕ) → count_by is_significant (take (suc p) items) ≡ reached → IsAround (significant file.skips (placed 0 (plain_all items))) o reached before.significant
    around reached e =
        subst (λ n. IsAround (significant file.skips (placed 0 (plain_all items))) o n before.significant) (plain_count (suc p) ∙ e)
        (subst (λ n. IsAround (significant file.skips (placed 0 (plain_all items))) o (length (kinds file.skips (take (suc p) (plain_all items)))) n) first_is
        (places_around file.patterns file.skips o 0 t (plain_all items) p h.tokens place))

    counted : count_by is_significant (take p items) ≡ before.significant
    counted = sym (plain_count p) ∙ first_is

    -- in a significant token, in a skipped one, and after all
    pub point_inside : (x : Token) → slice_get items p ≡ Some x → x.skipped ≡ false → IsAround (significant file.skips (placed 0 (plain_all items))) o (before.significant + 1) before.significant
    point_inside x at e = around (before.significant + 1) (count_one items p x at ∙ ap (λ n. n + (if x.skipped then 0 else 1)) counted ∙ ap (λ b. before.significant + (if b then 0 else 1)) e)

    pub point_skipped : (x : Token) → slice_get items p ≡ Some x → x.skipped ≡ true → IsAround (significant file.skips (placed 0 (plain_all items))) o before.significant before.significant
    point_skipped x at e = around before.significant (count_one items p x at ∙ ap (λ n. n + (if x.skipped then 0 else 1)) counted
        ∙ ap (λ b. before.significant + (if b then 0 else 1)) e ∙ omega arith)

    pub point_after : slice_get items p ≡ None → IsAround (significant file.skips (placed 0 (plain_all items))) o before.significant before.significant
    point_after at = around before.significant (ap (λ xs. count_by is_significant xs) (count_none items p at) ∙ counted)
