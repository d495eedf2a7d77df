-- A list whose chunks give way to other items: what stays the same as more chunks go into those items, and what a change leaves.
use Rattle.seqtree.proofs.Std.{arith, sym, ap, subst, inl, inr, ◌∙◌, length-append, ◌≡◌, ℕ, ◌+◌, ◌-◌, ◌^◌, ◌<◌, ◌≤◌, ◌⊎◌, min, List, ◌++◌, length, take, drop, slice_get, Some, All, cases_lt, append_assoc, length-take, length-drop, drop_all, All-append, All-take, All-drop}
use Rattle.seqtree.proofs.Common.{joined, IsShort, IsMeasure, AreFew, AreCut, HasRoom, IsGap, IsCut}
use Rattle.seqtree.proofs.Joined.{joined-append, prefix-more, dropped_more}
use Rattle.seqtree.proofs.Few.{small, few, small_edited}

module _ {X A : Type 0} (items : X → List A) where
  -- the chunk before goes in
  pub filled_before : (chunks : List X) (from to : ℕ) (list s new : List A) (chunk : X) → 1 ≤ from → Some chunk ≡ slice_get chunks (from - 1)
      → new ≡ items chunk ++ s → IsGap items chunks list from to s → IsGap items chunks list (from - 1) to new
  filled_before chunks from to list s new chunk l at e gap =
      let same : from - 1 + 1 ≡ from = omega arith in
      let before : List A = joined items (take (from - 1) chunks) in
      let prefix : joined items (take from chunks) ≡ before ++ items chunk = ap (λ k. joined items (take k chunks)) (sym same) ∙ prefix-more items chunks (from - 1) chunk at in
      record {
        ordered = omega (arith, gap.ordered);
        within = gap.within;
        filled = gap.filled ∙ ap (λ q. q ++ joined items (drop to chunks)) (ap (λ q. q ++ s) prefix ∙ append_assoc before (items chunk) s ∙ ap (λ q. before ++ q) (sym e));
      }

  -- the chunk after goes in
  pub filled_after : (chunks : List X) (from to : ℕ) (list s new : List A) (chunk : X) → to < length chunks → Some chunk ≡ slice_get chunks to
      → new ≡ s ++ items chunk → IsGap items chunks list from to s → IsGap items chunks list from (to + 1) new
  filled_after chunks from to list s new chunk l at e gap =
      let before : List A = joined items (take from chunks) in
      let ahead : List A = joined items (drop (to + 1) chunks) in
      record {
        ordered = omega (arith, gap.ordered);
        within = omega (arith, l);
        filled =
            gap.filled
            ∙ ap (λ q. before ++ s ++ joined items q) (dropped_more chunks to chunk at)
            ∙ sym (append_assoc (before ++ s) (items chunk) ahead)
            ∙ ap (λ q. q ++ ahead) (append_assoc before s (items chunk) ∙ ap (λ q. before ++ q) (sym e));
      }

  -- the gap as a call names it, which may end past the last chunk
  pub gap_of : (chunks : List X) (from to end : ℕ) (new : List A) → from ≤ to → from ≤ length chunks → end ≡ min to (length chunks)
      → IsGap items chunks (joined items (take from chunks) ++ new ++ joined items (drop to chunks)) from end new
  gap_of chunks from to end new l m e = record {
    ordered = omega (arith, e, l, m);
    within = omega (arith, e);
    filled = ap (λ q. joined items (take from chunks) ++ new ++ joined items q) (go (cases_lt to (length chunks)));
  }
    where
      go : (to < length chunks) ⊎ (length chunks ≤ to) → drop to chunks ≡ drop end chunks
      go (inl h) = let same : to ≡ end = omega (arith, e, h) in ap (λ k. drop k chunks) same
      go (inr h) = drop_all to chunks h ∙ sym (drop_all end chunks (omega (arith, e, h)))

  -- what lies before one cut and after another, with items between them
  pub filled_between : (chunks : List X) (a b m n : ℕ) (f g s t new whole : List A) → a ≤ b → IsCut items chunks a m f g → IsCut items chunks b n s t
      → whole ≡ f ++ new ++ t → joined items (take m chunks) ++ whole ++ joined items (drop (n + 1) chunks) ≡ take a (joined items chunks) ++ new ++ drop b (joined items chunks)
  filled_between chunks a b m n f g s t new whole l p q e =
      let first : List A = joined items (take m chunks) in
      let last : List A = joined items (drop (n + 1) chunks) in
      sym ((λ i. p.before i ++ new ++ q.after i)
      ∙ ap (λ r. r ++ (t ++ last)) (append_assoc first f new)
      ∙ append_assoc first (f ++ new) (t ++ last)
      ∙ ap (λ r. first ++ r) (sym (append_assoc (f ++ new) t last) ∙ ap (λ r. r ++ last) (sym e))
      ∙ sym (append_assoc first whole last))

  -- what a change leaves
  module _ (size : List A → ℕ) (shortest longest : ℕ) (measure : IsMeasure size shortest longest) (chunks cut : List X) (list new : List A) (from to : ℕ)
      (are : AreFew items size shortest longest chunks) (gap : IsGap items chunks list from to new)
      (room : HasRoom items size shortest chunks from to new) (is : AreCut items size shortest longest new cut) where
    joined_are : joined items (take from chunks ++ cut ++ drop to chunks) ≡ list
    joined_are =
        joined-append items (take from chunks ++ cut) (drop to chunks)
        ∙ ap (λ q. q ++ joined items (drop to chunks)) (joined-append items (take from chunks) cut ∙ ap (λ q. joined items (take from chunks) ++ q) is.joined_are)
        ∙ sym gap.filled

    small_one : small items size shortest (take from chunks ++ cut ++ drop to chunks) ≤ 1
    small_one = small_edited items size shortest chunks cut from to (size new) gap.ordered are.small is.large (λ h. is.one (omega (arith, h, measure.some, measure.halves))) room

    pub few_left : size list < 2 ^ 64 → length chunks - (to - from) + length cut < 2 ^ 64
    few_left fits =
        omega (
          arith,
          fits,
          ap size joined_are,
          gap.ordered,
          gap.within,
          few items size shortest longest measure 2 measure.some (take from chunks ++ cut ++ drop to chunks) small_one,
          length-append (take from chunks ++ cut) (drop to chunks),
          length-append (take from chunks) cut,
          length-take from chunks,
          length-drop to chunks,
        )

    pub left : (made : List X) → made ≡ take from chunks ++ cut ++ drop to chunks → (joined items made ≡ list) × AreFew items size shortest longest made
    left made same =
        let Short : X → Type 0 = IsShort items size longest in (
          ap (joined items) same ∙ joined_are,
          record {
            short = subst (All Short) (sym same)
                (All-append Short (take from chunks ++ cut) (drop to chunks) (All-append Short (take from chunks) cut (All-take Short from chunks are.short) is.short)
                (All-drop Short to chunks are.short));
            small = subst (λ (xs : List X). small items size shortest xs ≤ 1) (sym same) small_one;
          },
        )
