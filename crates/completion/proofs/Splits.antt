-- The token that stands before an offset, and its text with a character typed into it.
use Rattle.completion.proofs.Std.{◌++◌, ◌+◌, ◌-◌, ◌<◌, ◌≤◌, ◌≡◌, ◌∙◌, ◌∷◌, ℕ, zero, suc, IsTrue, List, MatchOption, [], None, Option, Some, is_some, option_to_list, ap, drop, false, inl, inr, length, map, nat_lt, refl, subst, sym, take, true, slice_range, slice_set, slice_get}
use Rattle.completion.proofs.Std.{arith, cases_lt, length-drop, length-take, map-append, map-map, sum_by-take-le, take_all, drop-drop, drop-take, take-take, ltb-false, ltb-true, head-eq_of_cons-eq, tail-eq_of_cons-eq}
use Rattle.completion.proofs.Common.{chars, chars-cons, chars-plain, characters, characters-more, EndsAt, Expression, IsLetter, IsPiece, IsPiece-inside, Kind, PlainToken, Sums, Token, kind_in, plain, plain-take, tot, total_characters, typed}
use Rattle.completion.proofs.Steps.{take_here}

abbrev kind_of_plain : PlainToken → Kind
kind_of_plain x = x.kind

-- two tokens before and behind which the same offset stands are one
pub one_split : (e f : List PlainToken) (x y : PlainToken) (l m : List PlainToken) (o : ℕ) → e ++ x ∷ l ≡ f ++ y ∷ m
    → chars e < o → o ≤ chars e + x.length → chars f < o → o ≤ chars f + y.length → (e ≡ f) × (x ≡ y)
one_split [] [] x y l m o h a b c d = (refl, head-eq_of_cons-eq h)
one_split [] (z ∷ f) x y l m o h a b c d =
    let same : x ≡ z = head-eq_of_cons-eq h in
    absurd (omega (arith, b, c, ap (λ t. t.length) same, chars-cons z f))
one_split (z ∷ e) [] x y l m o h a b c d =
    let same : z ≡ y = head-eq_of_cons-eq h in
    absurd (omega (arith, a, d, ap (λ t. t.length) same, chars-cons z e))
one_split (z ∷ e) (w ∷ f) x y l m o h a b c d =
    let same : z ≡ w = head-eq_of_cons-eq h in
    let wide = ap (λ t. t.length) same in
    let one = chars-cons z e in
    let two = chars-cons w f in
    let rest = one_split e f x y l m (o - z.length) (tail-eq_of_cons-eq h) (omega (arith, a, one)) (omega (arith, b, one)) (omega (arith, c, two, wide))
    (omega (arith, d, two, wide)) in
    (λ i. same i ∷ rest.0 i, rest.1)

-- an element, and what stands before and behind it
pub split_at : {X : Type 0} → (xs : List X) (i : ℕ) (x : X) → slice_get xs i ≡ Some x → xs ≡ take i xs ++ x ∷ drop (suc i) xs
split_at [] i x e = absurd (cc e)
split_at (y ∷ xs) zero x e = let same : y ≡ x = cc e in ap (λ z. z ∷ xs) same
split_at (y ∷ xs) (suc i) x e = ap (λ zs. y ∷ zs) (split_at xs i x e)

-- another character in the place of one
pub set_seam : (l r : List ℕ) (d c : ℕ) → slice_set (l ++ d ∷ r) (length l) c ≡ l ++ c ∷ r
set_seam [] r d c = refl
set_seam (x ∷ l) r d c = ap (λ m. x ∷ m) (set_seam l r d c)

-- a character typed between two parts of a text
pub typed_between : (t : List ℕ) (start part end c : ℕ) → start + part ≤ end
    → typed part c (slice_range t start end) ≡ slice_range t start (start + part) ++ c ∷ slice_range t (start + part) end
typed_between t start part end c within =
    let n = end - start in
    let m = n - part in
    let sum : part + m ≡ n = omega (arith, within) in
    let front : take part (take n (drop start t)) ≡ take (start + part - start) (drop start t) =
    take-take part n (drop start t) (omega (arith, within)) ∙ ap (λ k. take k (drop start t)) (let e : part ≡ start + part - start = omega arith in e) in
    let back : drop part (take n (drop start t)) ≡ take (end - (start + part)) (drop (start + part) t) =
    ap (λ k. drop part (take k (drop start t))) (sym sum) ∙ drop-take part m (drop start t) ∙ ap (take m) (drop-drop part start t)
    ∙ (λ i. take (let e : m ≡ end - (start + part) = omega arith in e i) (drop (let e : start + part ≡ start + part = refl in e i) t)) in
    λ i. front i ++ c ∷ back i

-- the same, where it is put into the place of another one
pub seam : (t : List ℕ) (start part end c : ℕ) (items : List ℕ) → start + part ≤ end → end ≤ length t
    → (d : ℕ) × (items ≡ slice_range t start (start + part) ++ d ∷ slice_range t (start + part) end) → slice_set items part c ≡ typed part c (slice_range t start end)
seam t start part end c items within inside (d, e) =
    let front = slice_range t start (start + part) in
    let back = slice_range t (start + part) end in
    let long : length front ≡ part = omega (arith, length-take (start + part - start) (drop start t), length-drop start t, within, inside) in
    ap (λ l. slice_set l part c) e ∙ ap (λ n. slice_set (front ++ d ∷ back) n c) (sym long) ∙ set_seam front back d c ∙ sym (typed_between t start part end c within)

get_drop : {X : Type 0} → (xs : List X) (i : ℕ) (x : X) → slice_get xs i ≡ Some x → drop i xs ≡ x ∷ drop (suc i) xs
get_drop [] i x e = absurd (cc e)
get_drop (y ∷ xs) zero x e = let same : y ≡ x = cc e in ap (λ z. z ∷ xs) same
get_drop (y ∷ xs) (suc i) x e = get_drop xs i x e

-- the token numbered `i` is the one that stands before offset `o`
pub record Stands (items : List Token) (o i : ℕ) (x : Token) : Type 0 where
  pub at : slice_get items i ≡ Some x
  pub below : characters (take i items) < o
  pub above : o ≤ characters (take i items) + x.length

pub characters_on : (items : List Token) (i : ℕ) (x : Token) → slice_get items i ≡ Some x → characters (take (i + 1) items) ≡ characters (take i items) + x.length
characters_on items i x e = ap characters (take_here items i x (drop (suc i) items) (get_drop items i x e)) ∙ characters-more (take i items) x

-- a place that is looked for by the characters before an offset
module _ (items : List Token) (o i : ℕ) (sum : Sums) (some : 1 ≤ o) (inside : o ≤ characters items) (few : characters items ≤ 4294967295)
    (sum_is : sum ≡ tot (take i items)) (before : (k : ℕ) → k < i → nat_lt (o - 1) (tot (take (k + 1) items)).characters ≡ false)
    (reached : i < length items → IsTrue (nat_lt (o - 1) (tot (take (i + 1) items)).characters)) where
  exact : (n : ℕ) → (tot (take n items)).characters ≡ characters (take n items)
  exact n = let part : characters (take n items) ≤ characters items = sum_by-take-le (λ x. x.length) items n in total_characters (take n items) (omega (arith, few, part))

  pub sum_exact : sum.characters ≡ characters (take i items)
  sum_exact = ap (λ s. s.characters) sum_is ∙ exact i

  less : (n : ℕ) → n ≡ i → characters (take n items) < o
  less zero e = omega (arith, some)
  less (suc n) e =
      let next : n + 1 ≡ suc n = omega arith in
      let low : characters (take (n + 1) items) ≤ o - 1 = subst (λ m. m ≤ o - 1) (exact (n + 1)) (ltb-false _ _ (before n (omega (arith, e)))) in
      let low' : characters (take (suc n) items) ≤ o - 1 = subst (λ m. characters (take m items) ≤ o - 1) next low in
      omega (arith, low', some)

  pub found_below : characters (take i items) < o
  found_below = less i refl

  pub found_within : i < length items
  found_within = elim (cases_lt i (length items)) [
    | inl lt ↦ lt
    | inr ge ↦ let all : characters (take i items) ≡ characters items = ap characters (take_all i items ge) in absurd (omega (arith, all, inside, found_below))
  ]

  pub found_above : o ≤ characters (take (i + 1) items)
  found_above = let high : o - 1 < characters (take (i + 1) items) = subst (λ m. o - 1 < m) (exact (i + 1)) (ltb-true _ _ (reached found_within)) in omega (arith, high)

  pub found : (x : Token) → slice_get items i ≡ Some x → Stands items o i x
  found x e = record { at = e; below = found_below; above = omega (arith, found_above, characters_on items i x e) }

-- what stands before an offset, by the token there
module _ (rules : List Expression) (t : List ℕ) (items : List Token) (o i : ℕ) (x : Token) (h : Stands items o i x) where
  abbrev start : ℕ
  start = characters (take i items)

  abbrev cut : ℕ → List ℕ
  cut c = typed (o - start) c (slice_range t start (start + x.length))

  split : map plain items ≡ take i (map plain items) ++ plain x ∷ map plain (drop (suc i) items)
  split =
      ap (map plain) (split_at items i x h.at) ∙ map-append plain (take i items) (x ∷ drop (suc i) items)
      ∙ ap (λ l. l ++ plain x ∷ map plain (drop (suc i) items)) (plain-take i items)

  start_is : chars (take i (map plain items)) ≡ start
  start_is = ap chars (sym (plain-take i items)) ∙ chars-plain (take i items)

  pub ends_there : (c : ℕ) (kind : Kind) → IsLetter c → IsPiece rules (cut c) kind (o - start) → EndsAt rules t (map plain items) o (map kind_in (take i items) ++ kind ∷ [])
  ends_there c kind letter piece = record {
    earlier = take i (map plain items);
    token = plain x;
    later = map plain (drop (suc i) items);
    split = split;
    part = o - start;
    ends = omega (arith, start_is, h.below);
    within = omega (arith, h.above);
    letter = c;
    is_letter = letter;
    kind = kind;
    piece = subst (λ n. IsPiece rules (typed (o - start) c (slice_range t n (n + x.length))) kind (o - start)) (sym start_is) piece;
    kinds = ap (λ l. l ++ kind ∷ []) (sym (map-map kind_of_plain plain (take i items)) ∙ ap (map kind_of_plain) (plain-take i items));
  }

  pub ends_nowhere : ((c : ℕ) (kind : Kind) → IsLetter c → ¬ IsPiece rules (cut c) kind (o - start)) → (kinds : List Kind) → ¬ EndsAt rules t (map plain items) o kinds
  ends_nowhere none kinds e =
      let some = (IsPiece-inside rules (typed e.part e.letter (slice_range t (chars e.earlier) (chars e.earlier + e.token.length))) e.kind e.part e.piece).0 in
      let same = one_split e.earlier (take i (map plain items)) e.token (plain x) e.later (map plain (drop (suc i) items)) o (sym e.split ∙ split)
      (omega (arith, e.ends, some)) (omega (arith, e.ends, e.within)) (omega (arith, start_is, h.below)) (omega (arith, start_is, h.above)) in
      let first : chars e.earlier ≡ start = ap chars same.0 ∙ start_is in
      let part : e.part ≡ o - start = omega (arith, e.ends, first) in
      let wide : e.token.length ≡ x.length = ap (λ y. y.length) same.1 in
      none e.letter e.kind e.is_letter
      (subst (λ (p : ℕ × ℕ × ℕ). IsPiece rules (typed p.0 e.letter (slice_range t p.1 (p.1 + p.2))) e.kind p.0) (λ j. (part j, first j, wide j)) e.piece)

  pub ends_with : (last : Option Kind) → is_some last ≡ true → MatchOption last ((c : ℕ) (kind : Kind) → IsLetter c → ¬ IsPiece rules (cut c) kind (o - start))
      (λ kind. (c : ℕ) × IsLetter c × IsPiece rules (cut c) kind (o - start)) → EndsAt rules t (map plain items) o (map kind_in (take i items) ++ option_to_list last)
  ends_with None e m = absurd (cc e)
  ends_with (Some kind) e (c, letter, piece) = ends_there c kind letter piece
