-- The offsets of the spans around an offset are those of the nodes that cover it.
use Rattle.views.proofs.Std.{dedup, IsEquivalence, nat_eq_equiv, refl, sym, ap, subst, inl, inr, ◌∙◌, cond, ◌≡◌, ◌≢◌, ℕ, suc, ◌+◌, ◌-◌, ◌<◌, ◌≤◌, ◌⊎◌, ◌&&◌, ◌==◌, Bool, true, false, List, [], ◌∷◌, length, map, drop, All, AllPairs, Contains}
use Rattle.views.proofs.Std.{and_parts, and_from, and_cases, eqb-true, eqb-false, eq-eqb, cases_lt, cases_order, lt-ltb, le-ltb, get_or-map, length-map, All-head, All-tail, All-map, All-weaker, All-contains, AllPairs-cons, Contains-dedup, Contains-from_dedup, arith}
use Rattle.views.proofs.Common.{Symbol, Expression, Node, AreCovering, Covers, Encloses, shortened, span, IsNodeOf, Placed, AreTokens, placed, significant, Grammar, Tree, HaveRoots, all_kinds, Contains-first, Contains-later, Contains-cases, Contains-none, PlainToken as Token}
use Rattle.views.proofs.Common.{IsAround, starts_at, ends_at, offsets_of, spans_all, is_same, inside, IsSpanOf, Holds}
use Rattle.views.proofs.NodesFrom.{nodes_from_start, nodes_from_within}
use Rattle.views.proofs.Nested.{All-each, AllPairs-none, AllPairs-head, AllPairs-tail, same_span, nested_dedup}
use Rattle.views.proofs.BranchesAround.{IsSpanFrom, span_all, node_all, nested_all}
use Rattle.views.proofs.SignificantOrder.{IsWithin, Ends, significant_within, significant_apart, start_before_end, end_within, ends_before}

same_shows : (r s : ℕ × ℕ) → is_same r s ≡ true → r ≡ s
same_shows r s e = let p = and_parts (r.0 == s.0) (r.1 == s.1) e in same_span r s (eqb-true r.0 s.0 p.0) (eqb-true r.1 s.1 p.1)

same_knows : (r s : ℕ × ℕ) → is_same r s ≡ false → r ≢ s
same_knows r s e f = go (and_cases (r.0 == s.0) (r.1 == s.1) e)
  where
    go : ((r.0 == s.0) ≡ false) ⊎ ((r.1 == s.1) ≡ false) → ⊥
    go (inl n) = eqb-false r.0 s.0 n (ap (λ (x : ℕ × ℕ). x.0) f)
    go (inr n) = eqb-false r.1 s.1 n (ap (λ (x : ℕ × ℕ). x.1) f)

same_itself : (r : ℕ × ℕ) → is_same r r ≡ true
same_itself r = and_from (r.0 == r.0) (r.1 == r.1) (eq-eqb r.0 r.0 refl) (eq-eqb r.1 r.1 refl)

same_equiv : IsEquivalence is_same
same_equiv = record { refl = same_itself; symm = λ r s. λ i. nat_eq_equiv.symm r.0 s.0 i && nat_eq_equiv.symm r.1 s.1 i; congr = λ r s t e. ap (λ x. is_same x t) (same_shows r s e) }

Contains-map : {X Y : Type 0} (f : X → Y) (xs : List X) (x : X) → Contains xs x → Contains (map f xs) (f x)
Contains-map f xs x c = (c.0, omega (arith, c.1, length-map xs f), get_or-map f xs c.0 x ∙ ap f c.2)

Contains-map_from : {X Y : Type 0} (f : X → Y) (xs : List X) (y : Y) → Contains (map f xs) y → (x : X) × Contains xs x × (f x ≡ y)
Contains-map_from f [] y c = absurd (Contains-none y c)
Contains-map_from {X} f (x ∷ xs) y c = go (Contains-cases (f x) (map f xs) y c) (λ d. Contains-map_from f xs y d)
  where
    go : (f x ≡ y) ⊎ Contains (map f xs) y → (Contains (map f xs) y → (z : X) × Contains xs z × (f z ≡ y)) → (z : X) × Contains (x ∷ xs) z × (f z ≡ y)
    go (inl e) later = (x, Contains-first x xs, e)
    go (inr d) later = let r = later d in (r.0, Contains-later x xs r.0 r.1, r.2)

AllPairs-map : {X Y : Type 0} (P : X → Type 0) (R : X → X → Type 0) (S : Y → Y → Type 0) (f : X → Y) → ((x y : X) → P x → P y → R x y → S (f x) (f y))
    → (xs : List X) → All P xs → AllPairs R xs → AllPairs S (map f xs)
AllPairs-map P R S f into [] p h = AllPairs-none S
AllPairs-map {X} P R S f into (x ∷ xs) p h =
    AllPairs-cons S (f x) (map f xs)
    (All-map (S (f x)) f xs (All-each (λ y. S (f x) (f y)) xs (λ y c. into x y (All-head P x xs p) (All-contains P xs y (All-tail P x xs p) c) (All-contains (R x) xs y (AllPairs-head R x xs h) c))))
    (AllPairs-map P R S f into xs (All-tail P x xs p) (AllPairs-tail R x xs h))

-- of what stands inside w
AllPairs-inside : (R : ℕ × ℕ → ℕ × ℕ → Type 0) (w : ℕ × ℕ) (rs : List (ℕ × ℕ)) → AllPairs R rs → AllPairs R (inside w rs)
AllPairs-inside R w [] h = h
AllPairs-inside R w (r ∷ rs) h = go (is_same w r)
  where
    go : (b : Bool) → AllPairs R (cond b rs (r ∷ rs))
    go true = AllPairs-tail R r rs h
    go false = h

-- where the first span holds the others, and none is wider than w
inside_only : (w : ℕ × ℕ) (rs : List (ℕ × ℕ)) → AllPairs Encloses rs → All (Holds w) rs → (s : ℕ × ℕ) → Contains (inside w rs) s → (s ≢ w) × Contains rs s
inside_only w [] h k s c = absurd (Contains-none s c)
inside_only w (r ∷ rs) h k s c = go (is_same w r) refl c
  where
    other : Contains rs s → Encloses r s
    other d = All-contains (Encloses r) rs s (AllPairs-head Encloses r rs h) d

    first : Holds w r
    first = All-head (Holds w) r rs k

    differs : (w ≢ r) → (r ≡ s) ⊎ Contains rs s → s ≢ w
    differs n (inl e) f = n (sym f ∙ sym e)
    differs n (inr d) f =
        let o : Encloses r s = other d in
        n (same_span w r (omega (arith, first.0, o.0, ap (λ (x : ℕ × ℕ). x.0) f)) (omega (arith, first.1, o.1, ap (λ (x : ℕ × ℕ). x.1) f)))

    go : (b : Bool) → is_same w r ≡ b → Contains (cond b rs (r ∷ rs)) s → (s ≢ w) × Contains (r ∷ rs) s
    go true e d = let o : Encloses r s = other d in ((λ f. o.2 (sym (same_shows w r e) ∙ sym f)), Contains-later r rs s d)
    go false e d = (differs (same_knows w r e) (Contains-cases r rs s d), d)

inside_all : (w : ℕ × ℕ) (rs : List (ℕ × ℕ)) (s : ℕ × ℕ) → Contains rs s → s ≢ w → Contains (inside w rs) s
inside_all w [] s c n = c
inside_all w (r ∷ rs) s c n = go (is_same w r) refl
  where
    rest : (w ≡ r) → (r ≡ s) ⊎ Contains rs s → Contains rs s
    rest e (inl f) = absurd (n (sym f ∙ sym e))
    rest e (inr d) = d

    go : (b : Bool) → is_same w r ≡ b → Contains (cond b rs (r ∷ rs)) s
    go true e = rest (same_shows w r e) (Contains-cases r rs s c)
    go false e = c

module _ (n : ℕ) (parts : List Placed) (h : All (IsWithin 0 n) parts) (k : AllPairs Ends parts) where
  starts_grow : (i j : ℕ) → i < j → j < length parts → starts_at parts i < starts_at parts j
  starts_grow i j l m = omega (arith, start_before_end 0 n parts h i (omega arith), ends_before parts k i j l m)

  ends_grow : (i j : ℕ) → i < j → j < length parts → ends_at parts i < ends_at parts j
  ends_grow i j l m = omega (arith, start_before_end 0 n parts h j m, ends_before parts k i j l m)

  starts_keep : (i j : ℕ) → i ≤ j → j < length parts → starts_at parts i ≤ starts_at parts j
  starts_keep i j l m = go (cases_order i j)
    where
      go : (i ≡ j) ⊎ ((i < j) ⊎ (j < i)) → starts_at parts i ≤ starts_at parts j
      go (inl e) = omega (arith, ap (starts_at parts) e)
      go (inr (inl q)) = omega (arith, starts_grow i j q m)
      go (inr (inr q)) = absurd (omega arith)

  ends_keep : (i j : ℕ) → i ≤ j → j < length parts → ends_at parts i ≤ ends_at parts j
  ends_keep i j l m = go (cases_order i j)
    where
      go : (i ≡ j) ⊎ ((i < j) ⊎ (j < i)) → ends_at parts i ≤ ends_at parts j
      go (inl e) = omega (arith, ap (ends_at parts) e)
      go (inr (inl q)) = omega (arith, ends_grow i j q m)
      go (inr (inr q)) = absurd (omega arith)

  -- what one place holds the other's offsets do
  offsets_enclose : (r s : ℕ × ℕ) → IsSpanOf (length parts) r → IsSpanOf (length parts) s → Encloses r s → Encloses (offsets_of parts r) (offsets_of parts s)
  offsets_enclose r s p q e = (starts_keep r.0 s.0 e.0 (omega (arith, q.filled, q.to)), ends_keep (s.1 - 1) (r.1 - 1) (omega (arith, e.1)) (omega (arith, p.filled, p.to)), λ f. e.2 (same f))
    where
      from : starts_at parts r.0 ≡ starts_at parts s.0 → r.0 ≡ s.0
      from f = go (cases_order r.0 s.0)
        where
          go : (r.0 ≡ s.0) ⊎ ((r.0 < s.0) ⊎ (s.0 < r.0)) → r.0 ≡ s.0
          go (inl g) = g
          go (inr (inl l)) = absurd (omega (arith, starts_grow r.0 s.0 l (omega (arith, q.filled, q.to)), f))
          go (inr (inr l)) = absurd (omega (arith, e.0))

      to : ends_at parts (r.1 - 1) ≡ ends_at parts (s.1 - 1) → r.1 ≡ s.1
      to f = go (cases_order r.1 s.1)
        where
          go : (r.1 ≡ s.1) ⊎ ((r.1 < s.1) ⊎ (s.1 < r.1)) → r.1 ≡ s.1
          go (inl g) = g
          go (inr (inl l)) = absurd (omega (arith, e.1))
          go (inr (inr l)) = absurd (omega (arith, ends_grow (s.1 - 1) (r.1 - 1) (omega (arith, q.filled)) (omega (arith, p.filled, p.to)), f))

      same : offsets_of parts r ≡ offsets_of parts s → r ≡ s
      same f = same_span r s (from (ap (λ (x : ℕ × ℕ). x.0) f)) (to (ap (λ (x : ℕ × ℕ). x.1) f))

  -- and lie in the text
  offsets_within : (s : ℕ × ℕ) → IsSpanOf (length parts) s → Holds (0, n) (offsets_of parts s)
  offsets_within s p = (omega arith, end_within 0 n parts h (s.1 - 1) (omega (arith, p.filled, p.to)))

-- the whole and what is inside, of which the last 31
pub shortened_is : (w : ℕ × ℕ) (rs : List (ℕ × ℕ)) → shortened (w ∷ rs) ≡ w ∷ drop (length rs - 31) rs
shortened_is w rs = go (cases_lt 32 (length (w ∷ rs)))
  where
    go : (32 < length (w ∷ rs)) ⊎ (length (w ∷ rs) ≤ 32) → shortened (w ∷ rs) ≡ w ∷ drop (length rs - 31) rs
    go (inl l) =
        let n : length (w ∷ rs) - 31 ≡ suc (length rs - 31) = omega arith in
        rw (lt-ltb 32 (length (w ∷ rs)) l) (ap (λ k. w ∷ drop k (w ∷ rs)) n)
    go (inr l) =
        let n : length rs - 31 ≡ 0 = omega arith in
        rw (le-ltb 32 (length (w ∷ rs)) l) (ap (λ k. w ∷ drop k rs) (sym n))

module _ (rules : List Expression) (skips : List Bool) (t : List ℕ) (tokens : List Token) (h : AreTokens rules t tokens)
    (g : Grammar) (trees : List Tree) (symbols : List Symbol) (roots : HaveRoots g trees symbols) (o reached first : ℕ) where
  abbrev parts : List Placed
  parts = significant skips (placed 0 tokens)

  abbrev spans : List (ℕ × ℕ)
  spans = dedup is_same (spans_all reached first 0 trees)

  abbrev reported : List (ℕ × ℕ)
  reported = map (offsets_of parts) spans

  module _ (covered : length (all_kinds trees) ≤ length parts) (a : IsAround parts o reached first) where
    lie : All (IsWithin 0 (length t)) parts
    lie = let e : 0 + length t ≡ length t = omega arith in subst (λ n. All (IsWithin 0 n) parts) e (significant_within rules skips 0 t tokens h)

    apart : AllPairs Ends parts
    apart = significant_apart rules skips 0 t tokens h

    node_of : (s : ℕ × ℕ) → Contains spans s → IsSpanFrom g reached first 0 trees s
    node_of s c = span_all g reached first 0 trees symbols s roots (Contains-from_dedup is_same (spans_all reached first 0 trees) s c)

    pub are_spans : All (IsSpanOf (length parts)) spans
    are_spans = All-each (IsSpanOf (length parts)) spans (λ s c. let b = node_of s c in let w = nodes_from_within g 0 trees b.0 b.1 in
        record { filled = omega (arith, b.2, b.3, b.4, b.5, a.near); to = omega (arith, b.3, w.2, covered) })

    nested : AllPairs Encloses reported
    nested = AllPairs-map (IsSpanOf (length parts)) Encloses Encloses (offsets_of parts) (offsets_enclose (length t) parts lie apart) spans are_spans
        (nested_dedup is_same same_shows same_knows (spans_all reached first 0 trees) (nested_all g reached first a.near 0 trees symbols roots))

    in_text : All (Holds (0, length t)) reported
    in_text = All-map (Holds (0, length t)) (offsets_of parts) spans
        (All-weaker (IsSpanOf (length parts)) (λ s. Holds (0, length t) (offsets_of parts s)) (offsets_within (length t) parts lie apart) spans are_spans)

    only : (r : ℕ × ℕ) → Contains (inside (0, length t) reported) r → (r ≢ (0, length t)) × (n : Node) × IsNodeOf g trees n × Covers parts o n × (r ≡ span parts n)
    only r c =
        let i = inside_only (0, length t) reported nested in_text r c in
        let m = Contains-map_from (offsets_of parts) spans r i.1 in
        let b = node_of m.0 m.1 in
        let n : Node = b.0 in
        let w = nodes_from_within g 0 trees n b.1 in
        let filled : n.from < n.to = omega (arith, b.4, b.5, a.near) in
        let is : r ≡ span parts n = sym m.2 ∙ ap (offsets_of parts) (same_span m.0 (n.from, n.to) (sym b.2) (sym b.3)) in
        (i.0, n, (nodes_from_start g trees n).0 b.1, (filled, (a.starts n.from (omega (arith, w.2, covered))).1 b.4, (a.ends (n.to - 1) (omega (arith, w.2, covered))).1 (omega (arith, b.5))), is)

    all : (n : Node) → IsNodeOf g trees n → Covers parts o n → span parts n ≢ (0, length t) → Contains (inside (0, length t) reported) (span parts n)
    all n is c other =
        let b = (nodes_from_start g trees n).1 is in
        let w = nodes_from_within g 0 trees n b in
        let from : n.from < reached = (a.starts n.from (omega (arith, w.2, covered, c.0))).0 c.1 in
        let to : first ≤ n.to - 1 = (a.ends (n.to - 1) (omega (arith, w.2, covered, c.0))).0 c.2 in
        let here : Contains (spans_all reached first 0 trees) (n.from, n.to) = node_all g reached first 0 trees n b from (omega (arith, to, c.0)) in
        inside_all (0, length t) reported (span parts n)
        (Contains-map (offsets_of parts) spans (n.from, n.to) (Contains-dedup same_equiv same_shows (spans_all reached first 0 trees) (n.from, n.to) here)) other

    -- these are the ranges of the nodes that cover the offset
    pub shown_cover : AreCovering t parts (IsNodeOf g trees) o (inside (0, length t) reported)
    shown_cover = record { nested = AllPairs-inside Encloses (0, length t) reported nested; only = only; all = all }

-- what is inside w where the first one is w, and where it is another
module _ (f : ℕ × ℕ → ℕ × ℕ) (w outer : ℕ × ℕ) (spans rest : List (ℕ × ℕ)) (split : spans ≡ outer ∷ rest) where
  pub inside_same : is_same w (f outer) ≡ true → map f rest ≡ inside w (map f spans)
  inside_same e = rw (split, e) refl

  pub inside_other : is_same w (f outer) ≡ false → map f spans ≡ inside w (map f spans)
  inside_other e = rw (split, e) refl
