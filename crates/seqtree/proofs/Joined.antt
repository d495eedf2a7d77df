-- The items of chunks, and what lies before and after one of them.
use Rattle.seqtree.proofs.Std.{◌≡◌, ℕ, zero, suc, ◌+◌, ◌-◌, ◌<◌, ◌≤◌, ◌⊎◌, List, [], ◌∷◌, ◌++◌, length, take, drop, slice_get, slice_index_or, unwrap_or, Some, None, refl, sym, ap, inl, inr, ◌∙◌, get_or}
use Rattle.seqtree.proofs.Std.{arith, length-append, cases_lt, append-nil, length-take, take_all, drop_all, take_more, drop_more, take-append-le, drop-append-le, slice_get_within, slice_get_cases, unwrap_or-slice_get, none-some, take-append-add, drop-append-add}
use Rattle.seqtree.proofs.Common.{joined, IsCut}
use Rattle.std.proofs.Common.{append_assoc}
use Rattle.std.proofs.lemmas.List.{take-append-drop}

-- past the last chunk
pub past_chunk : {X : Type 0} (chunks : List X) (i : ℕ) → slice_get chunks i ≡ None → length chunks ≤ i
past_chunk {X} chunks i h = go (slice_get_cases chunks i).1
  where
    go : ((x : X) × (i < length chunks) × (slice_get chunks i ≡ Some x) × (get_or chunks i x ≡ x)) ⊎ ((length chunks ≤ i) × (slice_get chunks i ≡ None)) → length chunks ≤ i
    go (inl s) = absurd (none-some s.0 (sym h ∙ s.2))
    go (inr n) = n.0

module _ {X : Type 0} (chunks : List X) (i : ℕ) (chunk : X) (at : Some chunk ≡ slice_get chunks i) where
  pub within_chunks : i < length chunks
  within_chunks = slice_get_within chunks i chunk (sym at)

  is_at : slice_index_or chunks i chunk ≡ chunk
  is_at = sym (ap (λ o. unwrap_or o chunk) at ∙ unwrap_or-slice_get chunks i chunk)

  pub taken_more : take (i + 1) chunks ≡ take i chunks ++ chunk ∷ []
  taken_more = take_more chunks i chunk within_chunks ∙ ap (λ c. take i chunks ++ c ∷ []) is_at

  pub dropped_more : drop i chunks ≡ chunk ∷ drop (i + 1) chunks
  dropped_more = drop_more chunks i chunk within_chunks ∙ ap (λ c. c ∷ drop (i + 1) chunks) is_at

module _ {X A : Type 0} (items : X → List A) where
  pub joined-append : (xs ys : List X) → joined items (xs ++ ys) ≡ joined items xs ++ joined items ys
  joined-append [] ys = refl
  joined-append (x ∷ xs) ys = ap (λ t. items x ++ t) (joined-append xs ys) ∙ sym (append_assoc (items x) (joined items xs) (joined items ys))

  -- the items before the chunk at place i
  abbrev pub prefix : List X → ℕ → List A
  prefix chunks i = joined items (take i chunks)

  pub parted : (chunks : List X) (i : ℕ) → joined items chunks ≡ prefix chunks i ++ joined items (drop i chunks)
  parted chunks i = ap (joined items) (sym (take-append-drop i chunks)) ∙ joined-append (take i chunks) (drop i chunks)

  pub prefix-le : (chunks : List X) (i : ℕ) → length (prefix chunks i) ≤ length (joined items chunks)
  prefix-le chunks i = omega (arith, ap length (parted chunks i), length-append (prefix chunks i) (joined items (drop i chunks)))

  -- no fewer items lie before a later chunk
  pub prefix_later : (m n : ℕ) (chunks : List X) → m ≤ n → length (prefix chunks m) ≤ length (prefix chunks n)
  prefix_later zero n chunks l = omega arith
  prefix_later (suc m) n [] l = omega arith
  prefix_later (suc m) zero (x ∷ chunks) l = absurd (omega (arith, l))
  prefix_later (suc m) (suc n) (x ∷ chunks) l =
      omega (arith, prefix_later m n chunks (omega (arith, l)), length-append (items x) (prefix chunks m), length-append (items x) (prefix chunks n))

  -- the chunk of a later cut is no earlier one
  pub in_order : (chunks : List X) (a b m n : ℕ) (f g s t : List A) → a ≤ b → IsCut items chunks a m f g → IsCut items chunks b n s t → m ≤ n
  in_order chunks a b m n f g s t l p q = go (cases_lt n m)
    where
      go : (n < m) ⊎ (m ≤ n) → m ≤ n
      go (inl h) = absurd (omega (arith, l, p.starts, q.ends (omega (arith, h, p.within)), prefix_later (n + 1) m chunks (omega (arith, h))))
      go (inr h) = h

  -- a place in a chunk
  module _ (chunks : List X) (i : ℕ) (chunk : X) (at : Some chunk ≡ slice_get chunks i) where
    pub prefix-more : prefix chunks (i + 1) ≡ prefix chunks i ++ items chunk
    prefix-more =
        ap (joined items) (taken_more chunks i chunk at)
        ∙ joined-append (take i chunks) (chunk ∷ [])
        ∙ ap (λ l. prefix chunks i ++ l) (append-nil (items chunk))

    pub whole_at : prefix chunks i ++ (items chunk ++ joined items (drop (i + 1) chunks)) ≡ joined items chunks
    whole_at = ap (λ l. prefix chunks i ++ joined items l) (sym (dropped_more chunks i chunk at)) ∙ sym (parted chunks i)

    module _ (o : ℕ) (l : length (prefix chunks i) ≤ o) (m : o < length (prefix chunks (i + 1))) where
      pub inside : o - length (prefix chunks i) < length (items chunk)
      inside = omega (arith, m, l, ap length prefix-more, length-append (prefix chunks i) (items chunk))

      far : o ≡ length (prefix chunks i) + (o - length (prefix chunks i))
      far = omega (arith, l)

      short : o - length (prefix chunks i) ≤ length (items chunk)
      short = omega (arith, inside)

      -- cut there
      pub cut_in : (f b : List A) → f ≡ take (o - length (prefix chunks i)) (items chunk) → b ≡ drop (o - length (prefix chunks i)) (items chunk) → IsCut items chunks o i f b
      cut_in f b front back = record {
        within = omega (arith, within_chunks chunks i chunk at);
        before =
            (λ k. take (far k) (sym whole_at k))
            ∙ take-append-add (prefix chunks i) (items chunk ++ joined items (drop (i + 1) chunks)) (o - length (prefix chunks i))
            ∙ ap (λ q. prefix chunks i ++ q) (take-append-le (o - length (prefix chunks i)) (items chunk) (joined items (drop (i + 1) chunks)) short ∙ sym front);
        after =
            (λ k. drop (far k) (sym whole_at k))
            ∙ drop-append-add (prefix chunks i) (items chunk ++ joined items (drop (i + 1) chunks)) (o - length (prefix chunks i))
            ∙ drop-append-le (o - length (prefix chunks i)) (items chunk) (joined items (drop (i + 1) chunks)) short
            ∙ ap (λ q. q ++ joined items (drop (i + 1) chunks)) (sym back);
        starts = l;
        ends = λ _. m;
      }

  -- past the end
  pub all_before : (chunks : List X) (i : ℕ) → slice_get chunks i ≡ None → prefix chunks i ≡ joined items chunks
  all_before chunks i none = ap (joined items) (take_all i chunks (past_chunk chunks i none))

  module _ (chunks : List X) (o i : ℕ) (none : slice_get chunks i ≡ None) (l : length (prefix chunks i) ≤ o) where
    end : length chunks ≤ i
    end = past_chunk chunks i none

    pub past_end : length (joined items chunks) ≤ o
    past_end = omega (arith, l, ap length (all_before chunks i none))

    pub cut_at_end : (f b : List A) → i ≤ length chunks → f ≡ [] → b ≡ [] → IsCut items chunks o i f b
    cut_at_end f b within front back = record {
      within = within;
      before = take_all o (joined items chunks) past_end ∙ sym (ap (λ q. prefix chunks i ++ q) front ∙ append-nil (prefix chunks i) ∙ all_before chunks i none);
      after =
          drop_all o (joined items chunks) past_end
          ∙ ap (joined items) (sym (drop_all (i + 1) chunks (omega (arith, end))))
          ∙ ap (λ q. q ++ joined items (drop (i + 1) chunks)) (sym back);
      starts = l;
      ends = λ m. absurd (omega (arith, m, end));
    }

  -- nothing lies after a cut only where nothing comes after it at all
  pub none_after : (chunks : List X) (o place : ℕ) (f b : List A) → IsCut items chunks o place f b → length b ≡ 0 → length (joined items (drop (place + 1) chunks)) ≡ 0
  none_after chunks o place f b is none = go (cases_lt place (length chunks))
    where
      ahead : List A
      ahead = joined items (drop (place + 1) chunks)

      whole : length (prefix chunks (place + 1)) + length ahead ≡ length (joined items chunks)
      whole = sym (ap length (parted chunks (place + 1)) ∙ length-append (prefix chunks (place + 1)) ahead)

      cut : length (take o (joined items chunks)) + length (drop o (joined items chunks)) ≡ length (joined items chunks)
      cut = sym (length-append (take o (joined items chunks)) (drop o (joined items chunks))) ∙ ap length (take-append-drop o (joined items chunks))

      go : (place < length chunks) ⊎ (length chunks ≤ place) → length ahead ≡ 0
      go (inl l) = absurd (omega (arith, is.ends l, whole, cut, none, ap length is.after, length-append b ahead, length-take o (joined items chunks)))
      go (inr l) = ap (λ r. length (joined items r)) (drop_all (place + 1) chunks (omega (arith, l)))
