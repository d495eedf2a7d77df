-- The kinds of the significant ones of a list of tokens.
use Rattle.lexer.proofs.Std.{arith, length-append, append_assoc, drop_at, drop-take, length-map, map-append, take_at, take-append-drop, take-take, length-filter, tail-eq_of_cons-eq, head-eq_of_cons-eq, and_parts, eqb-true, All-head, All-tail, filter-append}
use Rattle.lexer.proofs.Std.{refl, sym, ap, subst, ◌∙◌, slice_range, nat_eq, ◌≡◌, ℕ, zero, suc, ◌+◌, ◌-◌, ◌<◌, ◌≤◌, drop, Bool, true, false, List, [], ◌∷◌, ◌++◌, length, take, map, filter, count_by, slice_get, slice_index_or, Option, Some, None, All, if◌then◌else◌, YieldsFirst}
use Rattle.lexer.proofs.Common.{Kind, Rule, Invalid, IsSpliced, same_kind, same_kinds, Token, kind_in, is_significant, kinds, is_skipped, significant_kinds, plain_all, change}
use Rattle.lexer.proofs.Totals.{count-cons}

count_first : (s : Bool) (x : Token) (xs : List Token) → x.skipped ≡ s → count_by is_significant (x ∷ xs) ≡ (if s then 0 else 1) + count_by is_significant xs
count_first s x xs e = subst (λ b. count_by is_significant (x ∷ xs) ≡ (if b then 0 else 1) + count_by is_significant xs) e (count-cons x xs)

-- the kind of the significant token that has k before it
kind_from : (xs : List Token) (p k : ℕ) (x : Token) → slice_get xs p ≡ Some x → count_by is_significant (take p xs) ≡ k
    → count_by is_significant (take (suc p) xs) ≡ k + 1 → slice_index_or (significant_kinds xs) k Invalid ≡ kind_in x
kind_from [] p k x is a b = absurd (omega arith)
kind_from (y ∷ xs) zero k x is a b = go y.skipped refl
  where
    same : y ≡ x
    same = cc

    go : (s : Bool) → y.skipped ≡ s → slice_index_or (significant_kinds (y ∷ xs)) k Invalid ≡ kind_in x
    go true e = absurd (omega (arith, count_first true y [] e, a, b))
    go false e = let z : k ≡ 0 = omega (arith, a) in rw (z, e) (ap kind_in same)
kind_from (y ∷ xs) (suc p) k x is a b = go y.skipped refl k a b (λ j c d. kind_from xs p j x is c d)
  where
    go : (s : Bool) → y.skipped ≡ s → (k : ℕ) → count_by is_significant (y ∷ take p xs) ≡ k → count_by is_significant (y ∷ take (suc p) xs) ≡ k + 1
        → ((j : ℕ) → count_by is_significant (take p xs) ≡ j → count_by is_significant (take (suc p) xs) ≡ j + 1 → slice_index_or (significant_kinds xs) j Invalid ≡ kind_in x)
        → slice_index_or (significant_kinds (y ∷ xs)) k Invalid ≡ kind_in x
    go true e k a b later =
        rw e (later k (omega (arith, count_first true y (take p xs) e, a)) (omega (arith, count_first true y (take (suc p) xs) e, b)))
    go false e zero a b later = absurd (omega (arith, count_first false y (take p xs) e, a))
    go false e (suc k) a b later =
        rw e (later k (omega (arith, count_first false y (take p xs) e, a)) (omega (arith, count_first false y (take (suc p) xs) e, b)))

pub kind_at : (xs : List Token) (p k : ℕ) (x : Token) → slice_get xs p ≡ Some x → count_by is_significant (take p xs) ≡ k
    → count_by is_significant (take (p + 1) xs) ≡ k + 1 → slice_index_or (significant_kinds xs) k Invalid ≡ kind_in x
kind_at xs p k x is a b =
    let e : p + 1 ≡ suc p = omega arith in
    kind_from xs p k x is a (subst (λ n. count_by is_significant (take n xs) ≡ k + 1) e b)

pub length-kinds : (xs : List Token) → length (significant_kinds xs) ≡ count_by is_significant xs
length-kinds xs = length-map (filter is_significant xs) kind_in ∙ length-filter is_significant xs

pub get_none : (xs : List Token) (p : ℕ) → p < length xs → slice_get xs p ≡ None → ⊥
get_none [] p l e = absurd (omega arith)
get_none (x ∷ xs) zero l e = cc
get_none (x ∷ xs) (suc p) l e = get_none xs p (omega arith) e

-- where the marks are right these are the kinds of the tokens without their marks
pub kinds_plain : (skips : List Bool) (xs : List Token) → All (λ x. x.skipped ≡ is_skipped skips (kind_in x)) xs → kinds skips (plain_all xs) ≡ significant_kinds xs
kinds_plain skips [] h = refl
kinds_plain skips (x ∷ xs) h = go x.skipped refl (sym (All-head (λ x. x.skipped ≡ is_skipped skips (kind_in x)) x xs h))
    (kinds_plain skips xs (All-tail (λ x. x.skipped ≡ is_skipped skips (kind_in x)) x xs h))
  where
    go : (b : Bool) → x.skipped ≡ b → is_skipped skips (kind_in x) ≡ x.skipped → kinds skips (plain_all xs) ≡ significant_kinds xs → kinds skips (plain_all (x ∷ xs)) ≡ significant_kinds (x ∷ xs)
    go true e m rest = let k : is_skipped skips (kind_in x) ≡ true = m ∙ e in rw (k, e) rest
    go false e m rest = let k : is_skipped skips (kind_in x) ≡ false = m ∙ e in rw (k, e) (ap (λ ys. kind_in x ∷ ys) rest)

decided : (b : Bool) → ((b ≡ true) → ⊥) → b ≡ false
decided true h = absurd (h refl)
decided false h = refl

pub kinds_append : (xs ys : List Token) → significant_kinds (xs ++ ys) ≡ significant_kinds xs ++ significant_kinds ys
kinds_append xs ys = ap (map kind_in) (filter-append is_significant xs ys) ∙ map-append kind_in (filter is_significant xs) (filter is_significant ys)

between : (xs : List Token) (a b : ℕ) → a ≤ b → take b xs ≡ take a xs ++ slice_range xs a b
between xs a b ordered =
    let sum : b ≡ a + (b - a) = omega (arith, ordered) in
    sym (take-append-drop a (take b xs)) ∙ ap (λ ys. ys ++ drop a (take b xs)) (take-take a b xs ordered)
    ∙ ap (λ ys. take a xs ++ ys) (ap (λ n. drop a (take n xs)) sum ∙ drop-take a (b - a) xs)

pub count_range : (xs : List Token) (a b : ℕ) → a ≤ b
    → count_by is_significant (take b xs) ≡ count_by is_significant (take a xs) + length (significant_kinds (slice_range xs a b))
count_range xs a b ordered =
    sym (length-kinds (take b xs)) ∙ ap length (ap significant_kinds (between xs a b ordered) ∙ kinds_append (take a xs) (slice_range xs a b))
    ∙ length-append (significant_kinds (take a xs)) (significant_kinds (slice_range xs a b)) ∙ ap (λ n. n + length (significant_kinds (slice_range xs a b))) (length-kinds (take a xs))

-- no tokens have the kinds of an empty list alone
pub none_left : (ks : List Kind) → same_kinds [] ks ≡ nat_eq (length ks) 0
none_left [] = refl
none_left (k ∷ ks) = sym (decided (nat_eq (length (k ∷ ks)) 0) (λ e. let z = eqb-true (length (k ∷ ks)) 0 e in omega (arith, z)))

one_kind : (a b : Kind) → same_kind a b ≡ true → a ≡ b
one_kind (Rule j) (Rule k) h = ap (λ n. Rule n) (eqb-true j k h)
one_kind Invalid Invalid h = refl
one_kind a b h = cc

-- lists that the test takes for the same are the same
pub same_list : (one two : List Kind) → same_kinds one two ≡ true → one ≡ two
same_list [] [] h = refl
same_list (a ∷ one) (b ∷ two) h =
    let parts = and_parts _ _ h in
    let first : a ≡ b = one_kind a b parts.0 in
    let rest : one ≡ two = same_list one two parts.1 in
    λ i. first i ∷ rest i
same_list one two h = cc

-- the change of the kinds makes those of the new tokens
module _ (xs made : List Token) (kept_before to : ℕ) (ordered : kept_before ≤ to) where
  abbrev a : List Kind
  a = significant_kinds (take kept_before xs)

  abbrev m : List Kind
  m = significant_kinds (slice_range xs kept_before to)

  abbrev b : List Kind
  b = significant_kinds (drop to xs)

  abbrev from : ℕ
  from = count_by is_significant (take kept_before xs)

  whole : significant_kinds xs ≡ a ++ (m ++ b)
  whole =
      ap significant_kinds (sym (take-append-drop to xs) ∙ ap (λ ys. ys ++ drop to xs) (between xs kept_before to ordered))
      ∙ kinds_append (take kept_before xs ++ slice_range xs kept_before to) (drop to xs) ∙ ap (λ ks. ks ++ b) (kinds_append (take kept_before xs) (slice_range xs kept_before to))
      ∙ append_assoc a m b

  new : significant_kinds (take kept_before xs ++ (made ++ drop to xs)) ≡ a ++ (significant_kinds made ++ b)
  new = kinds_append (take kept_before xs) (made ++ drop to xs) ∙ ap (λ ks. a ++ ks) (kinds_append made (drop to xs))

  same : m ≡ significant_kinds made → IsSpliced (record { from = from; to = from; kinds = [] }) (significant_kinds xs) (significant_kinds (take kept_before xs ++ (made ++ drop to xs)))
  same e = record {
    ordered = omega arith;
    inside = omega (arith, ap length whole, length-append a (m ++ b), length-kinds (take kept_before xs));
    new_is = new ∙ ap (λ ks. a ++ (ks ++ b)) (sym e) ∙ sym whole ∙ sym (take-append-drop from (significant_kinds xs));
  }

  other : IsSpliced (record { from = from; to = count_by is_significant (take to xs); kinds = significant_kinds made })
      (significant_kinds xs) (significant_kinds (take kept_before xs ++ (made ++ drop to xs)))
  other =
      let many = count_range xs kept_before to ordered in
      let prefix_kinds : take from (significant_kinds xs) ≡ a = ap (take from) whole ∙ take_at a (m ++ b) from (length-kinds (take kept_before xs)) in
      let rest_kinds : drop (count_by is_significant (take to xs)) (significant_kinds xs) ≡ b =
      ap (drop (count_by is_significant (take to xs))) (whole ∙ sym (append_assoc a m b)) ∙ drop_at (a ++ m) b (count_by is_significant (take to xs))
      (omega (arith, length-append a m, length-kinds (take kept_before xs), many)) in
      record {
        ordered = omega (arith, many);
        inside = omega (arith, ap length whole, length-append a (m ++ b), length-append m b, length-kinds (take kept_before xs), many);
        new_is = new ∙ ap (λ ks. ks ++ (significant_kinds made ++ b)) (sym prefix_kinds) ∙ ap (λ ks. take from (significant_kinds xs) ++ (significant_kinds made ++ ks)) (sym rest_kinds);
      }

  pub spliced_kinds : IsSpliced (change xs kept_before to (significant_kinds made)) (significant_kinds xs) (significant_kinds (take kept_before xs ++ (made ++ drop to xs)))
  spliced_kinds = by (same_kinds m (significant_kinds made)) refl
    where
      by : (t : Bool) → same_kinds m (significant_kinds made) ≡ t → IsSpliced (change xs kept_before to (significant_kinds made))
          (significant_kinds xs) (significant_kinds (take kept_before xs ++ (made ++ drop to xs)))
      by true e = rw e (same (same_list m (significant_kinds made) e))
      by false e = rw e other

-- where k of the tokens before a place are significant, the kinds from number k on are those of the tokens from the place on
pub kinds_after : (xs : List Token) (k p : ℕ) → count_by is_significant (take p xs) ≡ k → significant_kinds (drop p xs) ≡ drop k (significant_kinds xs)
kinds_after xs k p e =
    sym (drop_at (significant_kinds (take p xs)) (significant_kinds (drop p xs)) k (length-kinds (take p xs) ∙ e))
    ∙ ap (drop k) (sym (kinds_append (take p xs) (drop p xs)) ∙ ap significant_kinds (take-append-drop p xs))

-- what a step over the kinds from number k on gives, and what it leaves
pub next_of : (ks : List Kind) (k : ℕ) (left : List Kind) (found : Option Kind) → YieldsFirst (λ s. s) (drop k ks) found left → (found ≡ slice_get ks k) × (left ≡ drop (suc k) ks)
next_of [] zero left None h = (refl, h.1)
next_of [] (suc k) left None h = (refl, h.1)
next_of [] zero left (Some x) h = absurd (cc h)
next_of [] (suc k) left (Some x) h = absurd (cc h)
next_of (y ∷ ys) zero left None h = absurd (cc h.0)
next_of (y ∷ ys) zero left (Some x) h = (ap (λ z. Some z) (sym (head-eq_of_cons-eq h)), sym (tail-eq_of_cons-eq h))
next_of (y ∷ ys) (suc k) left found h = next_of ys k left found h
