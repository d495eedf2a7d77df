-- What the proofs of this crate cite of std and of the kit's crates, passed on from one place. Declares nothing.
pub use Rattle.std.proofs.Common.{◌&&◌, ◌*◌, ◌++◌, ◌+◌, ◌-◌, ◌<◌, ◌==◌, ◌||◌, ◌∙◌, ◌∷◌, ◌≡◌, ◌≢◌, ◌≤◌, ◌⊎◌, []}
pub use Rattle.std.proofs.Common.{All, Bool, Contains, Err, Global, IfErr, IfSome, IsTrue, List, None, Ok, Option, Result, Some, Vec, ℕ}
pub use Rattle.std.proofs.Common.{ap, cond, drop, false, filter, get_or, if◌then◌else◌, inl, inr, length, nat_eq, nat_le, nat_lt, not, refl, slice_get, slice_index_or, subst, suc, sym, take, true, zero}
pub use Rattle.std.proofs.Common.{add-one, arith, length-drop, of_calls, rules, zero-add}
pub use Rattle.std.specs.Prelude.{AllPairs, IsSomeAnd, MatchOption, MatchResult, is_ok, min}
pub use Rattle.std.specs.List.{AllByRecursion, concat, list_any}
pub use Rattle.std.specs.Str.{bytes_eq}
pub use native.Mathlib.Numerals.{unary_clauses}
pub use Rattle.std.proofs.Math.Nat.{mul_comm}
pub use Rattle.std.proofs.lemmas.Bool.{cases_lt, eq-eqb, eqb-true, false_from_ne_true, false≢true, or_cases, or_left, or_parts, or_right}
pub use Rattle.std.proofs.lemmas.Bool.Decides.{eqb_tells, nat_tests}
pub use Rattle.std.proofs.lemmas.Fn.{always_returns_same}
pub use Rattle.std.proofs.lemmas.Grind.{common_steps}
pub use Rattle.std.proofs.lemmas.List.{append-nil, append_assoc, at_drop_all, at_drop_more, drop-drop, drop_all, get_or-append_right, get_or-drop, get_or-take, get_or_append_left, get_or_default, length-append, length-map, length-take, length-take-le, take-append-drop, take_all, take_at, take_more}
pub use Rattle.std.proofs.lemmas.List.Elements.{All-get_or, All-nil, All-push, Contains-append_left, Contains-append_right}
pub use Rattle.std.proofs.lemmas.List.Filters.{All-dedup, dedup_is}
pub use Rattle.std.proofs.lemmas.List.Kept.{AllPairs-from_increasing, Contains-dedup_nat}
pub use Rattle.std.proofs.lemmas.List.Quantifiers.{all_pairs_push}
pub use Rattle.std.proofs.lemmas.List.Sorted.{All-permutation, Contains-permutation, searched}
pub use Rattle.std.proofs.lemmas.List.Sums.{prefix_len-le-length, prefix_len_is, prefix_len_passes, prefix_len_stops}
pub use Rattle.std.proofs.lemmas.Map.Keys.{IsStrictlyIncreasing-dedup}
pub use Rattle.std.proofs.lemmas.Nat.{mul-add-lt}
pub use Rattle.std.proofs.lemmas.Result.{IfErr-weaker, IfOk-weaker}
pub use Rattle.std.proofs.lemmas.Slice.Eq.{bytes_eq-Decides}
pub use Rattle.indexmap.proofs.IndexTableLemmas.Probe.{Into, OneToOne, pigeonhole}
pub use Rattle.indexmap.specs.IndexSet.{insert_key}
