-- The significant tokens of a text stand apart, in order, and an offset has its two places among them.
use Rattle.views.proofs.Std.{arith, subst, inl, inr, cond, length-drop, ◌≡◌, ℕ, zero, suc, ◌+◌, ◌<◌, ◌≤◌, ◌⊎◌, ◌↔◌, Bool, true, false, not, List, [], ◌∷◌, length, take, drop, slice_index_or, All, AllPairs, cases_lt, All-nil, All-cons, All-weaker, AllPairs-cons}
use Rattle.views.proofs.Common.{Invalid, Expression, Placed, AreTokens, placed, significant, is_skipped, kinds, end_of, chars-cons, IsPiece-inside, IsAround, starts_at, ends_at, chars, PlainToken as Token}
use Rattle.std.proofs.lemmas.List.{get_or-map}
use Rattle.views.proofs.Nested.{AllPairs-none}

-- a token that isn't empty, from offset o on and up to offset e
pub record IsWithin (o e : ℕ) (x : Placed) : Type 0 where
  pub from : o ≤ x.start
  pub filled : x.start < end_of x
  pub to : end_of x ≤ e

within_more : (o p e : ℕ) → p ≤ o → (x : Placed) → IsWithin o e x → IsWithin p e x
within_more o p e l x h = record { from = omega (arith, h.from); filled = h.filled; to = h.to }

-- the first token ends before the second starts
abbrev pub Ends : Placed → Placed → Type 0
Ends x y = end_of x ≤ y.start

module _ (rules : List Expression) (skips : List Bool) where
  -- they lie in the text
  pub significant_within : (o : ℕ) (t : List ℕ) (xs : List Token) → AreTokens rules t xs → All (IsWithin o (o + length t)) (significant skips (placed o xs))
  significant_within o t [] h = All-nil (IsWithin o (o + length t))
  significant_within o t (x ∷ xs) h = go (not (is_skipped skips x.kind)) (wider (significant_within (o + x.length) (drop x.length t) xs h.1))
    where
      first : Placed
      first = record { start = o; token = x }

      rest : List Placed
      rest = significant skips (placed (o + x.length) xs)

      piece : (1 ≤ x.length) × (x.length ≤ length t)
      piece = IsPiece-inside rules t x.kind x.length h.0.piece

      end : o + x.length + length (drop x.length t) ≡ o + length t
      end = omega (arith, length-drop x.length t, piece.1)

      wider : All (IsWithin (o + x.length) (o + x.length + length (drop x.length t))) rest → All (IsWithin o (o + length t)) rest
      wider k = All-weaker (IsWithin (o + x.length) (o + length t)) (IsWithin o (o + length t)) (within_more (o + x.length) o (o + length t) (omega arith)) rest
          (subst (λ e. All (IsWithin (o + x.length) e) rest) end k)

      go : (b : Bool) → All (IsWithin o (o + length t)) rest → All (IsWithin o (o + length t)) (cond b (first ∷ rest) rest)
      go true later = All-cons (IsWithin o (o + length t)) first rest (record { from = omega arith; filled = omega (arith, piece.0); to = omega (arith, piece.1) }) later
      go false later = later

  -- each ends before the later ones
  pub significant_apart : (o : ℕ) (t : List ℕ) (xs : List Token) → AreTokens rules t xs → AllPairs Ends (significant skips (placed o xs))
  significant_apart o t [] h = AllPairs-none Ends
  significant_apart o t (x ∷ xs) h = go (not (is_skipped skips x.kind)) (significant_apart (o + x.length) (drop x.length t) xs h.1)
    where
      first : Placed
      first = record { start = o; token = x }

      rest : List Placed
      rest = significant skips (placed (o + x.length) xs)

      after : (y : Placed) → IsWithin (o + x.length) (o + x.length + length (drop x.length t)) y → Ends first y
      after y w = w.from

      go : (b : Bool) → AllPairs Ends rest → AllPairs Ends (cond b (first ∷ rest) rest)
      go true later = AllPairs-cons Ends first rest (All-weaker (IsWithin (o + x.length) (o + x.length + length (drop x.length t)))
          (Ends first) after rest (significant_within (o + x.length) (drop x.length t) xs h.1)) later
      go false later = later

abbrev blank : Placed
blank = record { start = 0; token = record { kind = Invalid; length = 0; reach = 0 } }

start_is : (ps : List Placed) (k : ℕ) → k < length ps → starts_at ps k ≡ (slice_index_or ps k blank).start
start_is ps k l = get_or-map (λ x. x.start) ps k blank 0 l

end_is : (ps : List Placed) (k : ℕ) → k < length ps → ends_at ps k ≡ end_of (slice_index_or ps k blank)
end_is ps k l = get_or-map end_of ps k blank 0 l

module _ (o e : ℕ) (ps : List Placed) (h : All (IsWithin o e) ps) where
  start_within : (k : ℕ) → k < length ps → o ≤ starts_at ps k
  start_within k l = let w : IsWithin o e (slice_index_or ps k blank) = h k blank l in omega (arith, w.from, start_is ps k l)

  pub start_before_end : (k : ℕ) → k < length ps → starts_at ps k < ends_at ps k
  start_before_end k l = let w : IsWithin o e (slice_index_or ps k blank) = h k blank l in omega (arith, w.filled, start_is ps k l, end_is ps k l)

  pub end_within : (k : ℕ) → k < length ps → ends_at ps k ≤ e
  end_within k l = let w : IsWithin o e (slice_index_or ps k blank) = h k blank l in omega (arith, w.to, end_is ps k l)

pub ends_before : (ps : List Placed) → AllPairs Ends ps → (j k : ℕ) → j < k → k < length ps → ends_at ps j ≤ starts_at ps k
ends_before ps h j k l m =
    let w : end_of (slice_index_or ps j blank) ≤ (slice_index_or ps k blank).start = h j k blank l m in
    omega (arith, w, start_is ps k m, end_is ps j (omega arith))

-- the two places of an offset before all these tokens, in the first one, and after it
module _ (o b e : ℕ) (ps : List Placed) where
  around_none : All (IsWithin b e) ps → o < b → IsAround ps o 0 0
  around_none h l = record {
    near = omega arith;
    starts = λ k m. let s : b ≤ starts_at ps k = start_within b e ps h k m in ((λ le. absurd (omega arith)), (λ lt. absurd (omega arith)));
    ends = λ k m. let s : b ≤ starts_at ps k = start_within b e ps h k m in let f : starts_at ps k < ends_at ps k = start_before_end b e ps h k m in ((λ _. omega arith), (λ _. omega arith));
  }

  around_first : (x : Placed) → All (IsWithin b e) ps → x.start ≤ o → o < end_of x → o < b → IsAround (x ∷ ps) o 1 0
  around_first x h from to l = record { near = omega arith; starts = starts; ends = ends }
    where
      starts : (k : ℕ) → k < length (x ∷ ps) → (starts_at (x ∷ ps) k ≤ o) ↔ (k < 1)
      starts zero m = ((λ _. omega arith), (λ _. from))
      starts (suc k) m = let s : b ≤ starts_at ps k = start_within b e ps h k (omega arith) in ((λ le. absurd (omega arith)), (λ lt. absurd (omega arith)))

      ends : (k : ℕ) → k < length (x ∷ ps) → (o < ends_at (x ∷ ps) k) ↔ (0 ≤ k)
      ends zero m = ((λ _. omega arith), (λ _. to))
      ends (suc k) m =
          let s : b ≤ starts_at ps k = start_within b e ps h k (omega arith) in
          let f : starts_at ps k < ends_at ps k = start_before_end b e ps h k (omega arith) in
          ((λ _. omega arith), (λ _. omega arith))

around_after : (o reached first : ℕ) (x : Placed) (ps : List Placed) → x.start ≤ o → end_of x ≤ o → IsAround ps o reached first → IsAround (x ∷ ps) o (suc reached) (suc first)
around_after o reached first x ps from to h = record { near = omega (arith, h.near); starts = starts; ends = ends }
  where
    starts : (k : ℕ) → k < length (x ∷ ps) → (starts_at (x ∷ ps) k ≤ o) ↔ (k < suc reached)
    starts zero m = ((λ _. omega arith), (λ _. from))
    starts (suc k) m = let s = h.starts k (omega arith) in ((λ le. let q : k < reached = s.0 le in omega arith), (λ lt. s.1 (omega arith)))

    ends : (k : ℕ) → k < length (x ∷ ps) → (o < ends_at (x ∷ ps) k) ↔ (suc first ≤ k)
    ends zero m = ((λ lt. absurd (omega arith)), (λ le. absurd (omega arith)))
    ends (suc k) m = let s = h.ends k (omega arith) in ((λ lt. let q : first ≤ k = s.0 lt in omega arith), (λ le. s.1 (omega arith)))

-- the token at place p holds the offset, or all tokens end at or before it
pub record IsPlaceOf (b o : ℕ) (xs : List Token) (p : ℕ) : Type 0 where
  pub within : p ≤ length xs
  pub before : b + chars (take p xs) ≤ o
  pub after : p < length xs → o < b + chars (take (suc p) xs)

pub place_of_offset : (b o : ℕ) (xs : List Token) → b ≤ o → (p : ℕ) × IsPlaceOf b o xs p
place_of_offset b o [] l = (0, record { within = omega arith; before = omega arith; after = λ m. absurd (omega arith) })
place_of_offset b o (x ∷ xs) l = go (cases_lt o (b + x.length)) (λ m. place_of_offset (b + x.length) o xs m)
  where
    go : (o < b + x.length) ⊎ (b + x.length ≤ o) → (b + x.length ≤ o → (p : ℕ) × IsPlaceOf (b + x.length) o xs p) → (p : ℕ) × IsPlaceOf b o (x ∷ xs) p
    go (inl m) later = (0, record { within = omega arith; before = omega arith; after = λ n. omega (arith, chars-cons x []) })
    go (inr m) later =
        let r = later m in
        let q : IsPlaceOf (b + x.length) o xs r.0 = r.1 in (
          suc r.0,
          record {
            within = omega (arith, q.within);
            before = omega (arith, q.before, chars-cons x (take r.0 xs));
            after = λ n. let w : o < b + x.length + chars (take (suc r.0) xs) = q.after (omega arith) in omega (arith, w, chars-cons x (take (suc r.0) xs));
          },
        )

-- its place among all tokens gives the two places among the significant ones
module _ (rules : List Expression) (skips : List Bool) (o : ℕ) where
  pub places_around : (b : ℕ) (t : List ℕ) (xs : List Token) (p : ℕ) → AreTokens rules t xs → IsPlaceOf b o xs p
      → IsAround (significant skips (placed b xs)) o (length (kinds skips (take (suc p) xs))) (length (kinds skips (take p xs)))
  places_around b t [] zero h q = record { near = omega arith; starts = λ k m. absurd (omega arith); ends = λ k m. absurd (omega arith) }
  places_around b t [] (suc p) h q = absurd (omega (arith, q.within))
  places_around b t (x ∷ xs) zero h q = go (not (is_skipped skips x.kind))
    where
      first : Placed
      first = record { start = b; token = x }

      rest : List Placed
      rest = significant skips (placed (b + x.length) xs)

      end : ℕ
      end = b + x.length + length (drop x.length t)

      later : All (IsWithin (b + x.length) end) rest
      later = significant_within rules skips (b + x.length) (drop x.length t) xs h.1

      here : o < b + x.length
      here = omega (arith, q.after (omega arith), chars-cons x [])

      go : (s : Bool) → IsAround (cond s (first ∷ rest) rest) o (length (cond s (x.kind ∷ []) [])) 0
      go true = around_first o (b + x.length) end rest first later (omega (arith, q.before)) here here
      go false = around_none o (b + x.length) end rest later here
  places_around b t (x ∷ xs) (suc p) h q = go (not (is_skipped skips x.kind)) (places_around (b + x.length) (drop x.length t) xs p h.1 next)
    where
      first : Placed
      first = record { start = b; token = x }

      rest : List Placed
      rest = significant skips (placed (b + x.length) xs)

      next : IsPlaceOf (b + x.length) o xs p
      next = record {
        within = omega (arith, q.within);
        before = omega (arith, q.before, chars-cons x (take p xs));
        after = λ n. let w : o < b + chars (take (suc (suc p)) (x ∷ xs)) = q.after (omega arith) in omega (arith, w, chars-cons x (take (suc p) xs));
      }

      past : end_of first ≤ o
      past = omega (arith, q.before, chars-cons x (take p xs))

      go : (s : Bool) → IsAround rest o (length (kinds skips (take (suc p) xs))) (length (kinds skips (take p xs)))
          → IsAround (cond s (first ∷ rest) rest) o (length (cond s (x.kind ∷ kinds skips (take (suc p) xs)) (kinds skips (take (suc p) xs))))
          (length (cond s (x.kind ∷ kinds skips (take p xs)) (kinds skips (take p xs))))
      go true later = around_after o (length (kinds skips (take (suc p) xs))) (length (kinds skips (take p xs))) first rest (omega (arith, past)) past later
      go false later = later
