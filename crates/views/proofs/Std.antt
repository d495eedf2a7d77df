-- What the proofs of this crate cite of std and of the kit's crates, passed on from one place. Declares nothing.
pub use Rattle.std.proofs.Common.{◌&&◌, ◌++◌, ◌+◌, ◌-◌, ◌<◌, ◌==◌, ◌^◌, ◌↔◌, ◌∙◌, ◌∷◌, ◌≡◌, ◌≢◌, ◌≤◌, ◌⊎◌, []}
pub use Rattle.std.proofs.Common.{All, AllPairs, Bool, Contains, Err, IfOk, IfSome, IsSomeAnd, IsTrue, List, MatchOption, MatchResult, None, Ok, Option, Result, Some, ℕ}
pub use Rattle.std.proofs.Common.{ap, cond, count_by, drop, encode_utf8_all, false, get_or, if◌then◌else◌, inl, inr, length, map, nat_eq, nat_lt, option_map, refl, reverse, slice_get, slice_index_or, string_bytes, subst, subst₂, suc, sym, take, true, zero, ⊎_elim}
pub use Rattle.std.proofs.Common.{append_assoc, arith, length-append, length-drop, lit<, rules, take-suc}
pub use denote.Shadow.{shadow}
pub use denote.Text.{Utf8}
unfoldable pub use lib.Utf8.{encode}
pub use Rattle.std.specs.Prelude.{codes, flat_map, min, nat_le, not, slice_index}
pub use Rattle.std.specs.Cmp.{IsEquivalence, IsTotalOrder, both_tied, nat_eq_equiv, unsigned_tied}
pub use Rattle.std.specs.List.{between, dedup, push}
pub use Rattle.std.specs.List.Sorted.{IsPermutation, IsSorted, IsStrictlySortedBy}
pub use Rattle.std.specs.Ordering.{eq_by_cmp, nat_cmp, ordering_then}
pub use Rattle.std.specs.Str.{IsUtf8}
pub use Rattle.std.specs.declared.cmp.Ordering.{Ordering}
pub use Rattle.std.specs.declared.cmp.Ordering.TheVariants.{Equal, Greater, Less}
pub use Rattle.std.proofs.Math.ListN.{get_or-map}
pub use Rattle.std.proofs.Math.Seq.{get_or-append_seam}
pub use Rattle.std.proofs.lemmas.Bool.{and_cases, and_from, and_left, and_parts, and_right, cases_Bool, cases_lt, cases_order, eq-eqb, eqb-false, eqb-true, le-leb, le-ltb, leb-true, lt-ltb, ltb-false, ltb-true, not-false, not-true}
pub use Rattle.std.proofs.lemmas.Cmp.{and_equiv, nat_cmp_total, on_equiv, on_total, ranked, then_total}
pub use Rattle.std.proofs.lemmas.List.{append-nil, drop-map, get_or_append_left, get_or_past, length-map, length-take, map-append, nil_from_length, reverse-append, take_all, take_more}
pub use Rattle.std.proofs.lemmas.List.Concat.{flat_map-cons}
pub use Rattle.std.proofs.lemmas.List.Elements.{All-append, All-cons, All-contains, All-contains_itself, All-head, All-map, All-nil, All-push, All-tail, All-take, All-weaker, Contains-append_cases, Contains-append_left, Contains-append_right, Contains-get_or, Contains-push, Contains-push_cases}
pub use Rattle.std.proofs.lemmas.List.Filters.{dedup_is}
pub use Rattle.std.proofs.lemmas.List.Folds.{flat_map-map}
pub use Rattle.std.proofs.lemmas.List.Kept.{AllPairs-cons, AllPairs-filter, Contains-dedup, Contains-from_dedup, IsStrictlySortedBy-dedup}
pub use Rattle.std.proofs.lemmas.List.Sorted.{Contains-permutation, IsPermutation-sym}
pub use Rattle.std.proofs.lemmas.List.Sums.{count_by-le-length, sum_by-take-le}
pub use Rattle.std.proofs.lemmas.Map.Keys.{Less-from_sorted}
pub use Rattle.std.proofs.lemmas.Option.{get_or_from_slice_get, slice_get_past, slice_get_within}
pub use Rattle.std.proofs.lemmas.Result.{IfOk-weaker}
pub use Rattle.std.proofs.lemmas.Slice.{between_to_end}
pub use Rattle.std.proofs.lemmas.Str.{IsUtf8-string_bytes, chars-append, chars-nil}
