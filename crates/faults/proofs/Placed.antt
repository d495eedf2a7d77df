-- Where the significant tokens of a document stand.
use Rattle.std.proofs.Common.{◌≡◌, ◌∙◌, ℕ, ◌+◌, ◌<◌, ◌≤◌, ◌⊎◌, inl, inr, min, List, length, map, ap, arith, refl, sym, subst, slice_get, slice_index_or, take, All, Option, Some, None, IsSomeAnd}
use Rattle.std.proofs.lemmas.Bool.{cases_lt}
use Rattle.std.proofs.lemmas.List.{take_all}
use Rattle.std.proofs.lemmas.Option.{get_or_from_slice_get, slice_get_past, slice_get_within}
use Rattle.std.specs.Prelude.{count_by}
use Rattle.definitions.specs.Answers.{end_of, fault_span}
use Rattle.definitions.specs.Tokens.{Placed}
use Rattle.docs.specs.Docs.{IsCurrent}
use Rattle.docs.specs.Languages.{LanguageData}
use Rattle.docs.specs.declared.doc.Doc.{Doc}
use Rattle.lexer.specs.Tokens.{is_significant, plain}
use Rattle.readings.specs.Contents.{placed_parts}
use Rattle.mending.specs.declared.repair.Repair.{Repair}
use Rattle.faults.specs.Places.{fault_number, span_of_fault}
use Rattle.views.proofs.Significant.{count_of_parts}
use Rattle.views.proofs.SignificantOrder.{IsWithin, significant_within}

module _ (l : LanguageData) (d : Doc) (h : IsCurrent l d) where
  abbrev pub parts : List Placed
  parts = placed_parts l.file (map plain d.tokens.items)

  count : length parts ≡ count_by is_significant d.tokens.items
  count = count_of_parts l.file.skips d.tokens.items h.tokens.marked

  -- past the last token there is none
  pub past : (n : ℕ) → count_by is_significant d.tokens.items ≤ n → fault_span d.text (slice_get parts n) ≡ (length d.text, length d.text)
  past n le = ap (fault_span d.text) (slice_get_past parts n (omega (arith, le, count)))

  -- each ends in the text
  pub ends : (n : ℕ) (x : Placed) → slice_get parts n ≡ Some x → end_of x ≤ length d.text
  ends n x is =
      let all : All (IsWithin 0 (0 + length d.text)) parts = significant_within l.file.patterns l.file.skips 0 d.text (map plain d.tokens.items) h.tokens.tokens in
      let at = all n x (slice_get_within parts n x is) in
      let same : slice_index_or parts n x ≡ x = get_or_from_slice_get parts n x x is in
      let there = subst (IsWithin 0 (0 + length d.text)) same at in
      omega (arith, there.to)

  -- the offsets between which it stands are in the text
  pub stands : (n start end : ℕ) (Has : Placed → Type 0) → IsSomeAnd (slice_get parts n) (λ x. (start ≡ x.start) × (end ≡ end_of x) × Has x)
      → (min start (min end (length d.text)), min end (length d.text)) ≡ fault_span d.text (slice_get parts n)
  stands n start end Has there = by (slice_get parts n) (ends n) there
    where
      by : (o : Option Placed) → ((x : Placed) → o ≡ Some x → end_of x ≤ length d.text) → IsSomeAnd o (λ x. (start ≡ x.start) × (end ≡ end_of x) × Has x)
          → (min start (min end (length d.text)), min end (length d.text)) ≡ fault_span d.text o
      by None within is = absurd is
      by (Some x) within (starts, stops, has) =
          let le = within x refl in
          let first : min start (min end (length d.text)) ≡ x.start = omega (arith, le, starts, stops) in
          let last : min end (length d.text) ≡ end_of x = omega (arith, le, stops) in
          λ i. (first i, last i)

  -- a repair's fault is at the token of its number, or at the end
  pub fault_at : (n : ℕ) (r : Repair) → n ≡ min (fault_number r) (count_by is_significant d.tokens.items) → fault_span d.text (slice_get parts n) ≡ span_of_fault d.text parts r
  fault_at n r is = by (cases_lt (fault_number r) (length parts))
    where
      by : (fault_number r < length parts) ⊎ (length parts ≤ fault_number r) → fault_span d.text (slice_get parts n) ≡ span_of_fault d.text parts r
      by (inl lt) = let same : n ≡ fault_number r = omega (arith, is, lt, count) in ap (λ k. fault_span d.text (slice_get parts k)) same
      by (inr le) = past n (omega (arith, is, le, count)) ∙ sym (past (fault_number r) (omega (arith, le, count)))

-- the first few of a list, at most so many
pub first_of : {A : Type 0} (xs : List A) (n most : ℕ) → n ≡ min (length xs) most → take n xs ≡ take most xs
first_of xs n most is = by (cases_lt most (length xs))
  where
    by : (most < length xs) ⊎ (length xs ≤ most) → take n xs ≡ take most xs
    by (inl lt) = let same : n ≡ most = omega (arith, is, lt) in ap (λ k. take k xs) same
    by (inr le) = take_all n xs (omega (arith, is, le)) ∙ sym (take_all most xs le)
