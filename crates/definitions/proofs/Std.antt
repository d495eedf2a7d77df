-- What the proofs of this crate cite of std and of the kit's crates, passed on from one place. Declares nothing.
pub use Rattle.std.proofs.Common.{◌++◌, ◌↔◌, ◌∙◌, IsSomeAnd, IsTrue, ap, arith, cond, drop, encode_utf8_all, inl, inr, length-append, length-drop, map, nat_eq, refl, slice_get, subst, sum_by, sym}
pub use Rattle.std.specs.Prelude.{◌&&◌, ◌+◌, ◌-◌, ◌<◌, ◌==◌, ◌||◌, ◌∷◌, ◌≡◌, ◌≤◌, ◌⊎◌, Bool, Contains, List, None, Option, Some, [], count_by, false, length, min, nat_le, nat_lt, not, slice_index, slice_index_or, suc, take, true, zero, ℕ}
pub use Rattle.std.specs.Char.{IsScalar}
pub use Rattle.std.specs.List.{AllByRecursion, list_all, prefix_len}
pub use Rattle.std.specs.Str.{IsUtf8, all_scalars, chars}
pub use lib.Pointwise.{pointwise}
pub use lib.Utf8.{low_scalar, scalar_cases}
pub use Rattle.std.proofs.lemmas.Bool.{and_from, and_parts, cases_Bool, cases_lt, eq-eqb, eqb-true, false≢true, le-leb, le-ltb, leb-false, leb-true, lt-leb, lt-ltb, ne_eqb, or_cases, or_parts}
pub use Rattle.std.proofs.lemmas.List.{append_assoc, drop-drop, drop-take, drop_at, get_or-drop, get_or_default, length-take, take-append-drop, take-take, take_all, take_at}
pub use Rattle.std.proofs.lemmas.List.Elements.{All-append, All-cons, All-drop, All-from_recursion, All-nil, All-same, All-take}
pub use Rattle.std.proofs.lemmas.List.Folds.{Any-from_list_any, length-prefix_len, list_any-from_Any, list_any_at}
pub use Rattle.std.proofs.lemmas.List.Kept.{AllPairs-from_increasing}
pub use Rattle.std.proofs.lemmas.List.Sums.{AllPass-from_list_all, fails_before_first, passes_at_first, prefix_len_passes, prefix_len_stops, sum_by-cons}
pub use Rattle.std.proofs.lemmas.Slice.Eq.{slice_eq-Decides}
pub use Rattle.std.proofs.lemmas.Str.{chars-encodes}
