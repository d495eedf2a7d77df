-- Chunks of which at most one is small are few, and a change leaves it at that.
use Rattle.seqtree.proofs.Std.{arith, cases_lt, lt-ltb, le-ltb, ltb-false, drop-drop, All-head, All-tail, sum_by-cons, sum_by-append, sum_by-take-drop, count_by-le-length}
use Rattle.seqtree.proofs.Std.{refl, ap, inl, inr, ◌∙◌, cond, ◌≡◌, ℕ, zero, suc, ◌+◌, ◌*◌, ◌-◌, ◌<◌, ◌≤◌, ◌⊎◌, Bool, true, false, List, [], ◌∷◌, ◌++◌, length, take, drop, count_by, slice_get, Some, All}
use Rattle.seqtree.proofs.Common.{joined, is_small, IsLarge, IsShort, IsMeasure}
use Rattle.seqtree.proofs.Joined.{dropped_more}

module _ {X A : Type 0} (items : X → List A) (size : List A → ℕ) (shortest : ℕ) where
  -- how many are small
  abbrev pub small : List X → ℕ
  small chunks = count_by (is_small items size shortest) chunks

  abbrev one_if_small : X → ℕ
  one_if_small chunk = cond (is_small items size shortest chunk) 1 0

  small-cons : (chunk : X) (chunks : List X) → small (chunk ∷ chunks) ≡ one_if_small chunk + small chunks
  small-cons chunk chunks = sum_by-cons one_if_small chunk chunks

  module _ (longest : ℕ) (measure : IsMeasure size shortest longest) where
    pub nothing : size [] ≡ 0
    nothing = omega (arith, measure.adds [] [])

    size_of_one : (d : ℕ) → d ≤ shortest → (chunk : X) → d ≤ size (items chunk) + d * one_if_small chunk
    size_of_one d l chunk = go (is_small items size shortest chunk) refl
      where
        go : (b : Bool) → is_small items size shortest chunk ≡ b → d ≤ size (items chunk) + d * cond b 1 0
        go true e = omega arith
        go false e = omega (arith, l, ltb-false (size (items chunk)) shortest e)

    fewer : (d : ℕ) → d ≤ shortest → (chunks : List X) → d * length chunks ≤ size (joined items chunks) + d * small chunks
    fewer d l [] = omega arith
    fewer d l (chunk ∷ chunks) =
        omega (arith, fewer d l chunks, size_of_one d l chunk, ap (λ n. d * n) (small-cons chunk chunks), measure.adds (items chunk) (joined items chunks))

    pub few : (d : ℕ) → d ≤ shortest → (chunks : List X) → small chunks ≤ 1 → d * length chunks ≤ size (joined items chunks) + d
    few d l chunks h = go (small chunks) h (fewer d l chunks)
      where
        go : (n : ℕ) → n ≤ 1 → d * length chunks ≤ size (joined items chunks) + d * n → d * length chunks ≤ size (joined items chunks) + d
        go zero m e = omega (arith, e)
        go (suc n) m e =
            let one : suc n ≡ 1 = omega (arith, m) in
            omega (arith, e, ap (λ k. d * k) one)

    -- and chunks that are short are enough of them
    pub enough : (chunks : List X) → All (IsShort items size longest) chunks → size (joined items chunks) ≤ longest * length chunks
    enough [] h = omega (arith, nothing)
    enough (chunk ∷ chunks) h =
        omega (arith, All-head (IsShort items size longest) chunk chunks h, enough chunks (All-tail (IsShort items size longest) chunk chunks h), measure.adds (items chunk) (joined items chunks))

  none_small : (chunks : List X) → All (IsLarge items size shortest) chunks → small chunks ≡ 0
  none_small [] h = refl
  none_small (chunk ∷ chunks) h =
      let large : IsLarge items size shortest chunk = All-head (IsLarge items size shortest) chunk chunks h in
      let one : one_if_small chunk ≡ 0 = ap (λ b. cond b 1 0) (le-ltb (size (items chunk)) shortest large) in
      omega (arith, small-cons chunk chunks, one, none_small chunks (All-tail (IsLarge items size shortest) chunk chunks h))

  -- no more are small from a later one on
  later_fewer : (chunks : List X) (from to : ℕ) → from ≤ to → small (drop to chunks) ≤ small (drop from chunks)
  later_fewer chunks from to l =
      let same : from + (to - from) ≡ to = omega arith in
      omega (arith, sum_by-take-drop one_if_small (drop from chunks) (to - from), ap small (drop-drop (to - from) from chunks ∙ ap (λ k. drop k chunks) same))

  -- after a change: what is new is large or one, and is one where it is small and nothing else is
  pub small_edited : (chunks new : List X) (from to n : ℕ) → from ≤ to → small chunks ≤ 1 → (shortest ≤ n → All (IsLarge items size shortest) new)
      → (n < shortest → length new ≤ 1) → (n < shortest → small (take from chunks) + small (drop to chunks) ≡ 0) → small (take from chunks ++ new ++ drop to chunks) ≤ 1
  small_edited chunks new from to n l before large one room = go (cases_lt n shortest)
    where
      whole : small (take from chunks ++ new ++ drop to chunks) ≡ small (take from chunks) + small new + small (drop to chunks)
      whole = sum_by-append one_if_small (take from chunks ++ new) (drop to chunks) ∙ ap (λ k. k + small (drop to chunks)) (sum_by-append one_if_small (take from chunks) new)

      go : (n < shortest) ⊎ (shortest ≤ n) → small (take from chunks ++ new ++ drop to chunks) ≤ 1
      go (inl h) = omega (arith, whole, room h, one h, count_by-le-length (is_small items size shortest) new)
      go (inr h) = omega (arith, whole, none_small new (large h), later_fewer chunks from to l, before, sum_by-take-drop one_if_small chunks from)

  -- beside a small chunk no other is small
  module _ (chunks : List X) (place : ℕ) (chunk : X) (at : Some chunk ≡ slice_get chunks place) (h : size (items chunk) < shortest) (before : small chunks ≤ 1) where
    counted : small (take place chunks) + 1 + small (drop (place + 1) chunks) ≡ small chunks
    counted =
        let one : one_if_small chunk ≡ 1 = ap (λ b. cond b 1 0) (lt-ltb _ _ h) in
        omega (arith, one, ap small (dropped_more chunks place chunk at), small-cons chunk (drop (place + 1) chunks), sum_by-take-drop one_if_small chunks place)

    pub alone : (to : ℕ) → place + 1 ≤ to → small (take place chunks) + small (drop to chunks) ≡ 0
    alone to l = omega (arith, counted, before, later_fewer chunks (place + 1) to l)
