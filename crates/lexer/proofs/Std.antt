-- What the proofs of this crate cite of std and of the kit's crates, passed on from one place. Declares nothing.
pub use Rattle.std.proofs.Common.{◌++◌, ◌+◌, ◌-◌, ◌<◌, ◌==◌, ◌^◌, ◌∙◌, ◌∷◌, ◌≡◌, ◌≢◌, ◌≤◌, ◌⊎◌, []}
pub use Rattle.std.proofs.Common.{All, Bool, IfSome, IsSomeAnd, IsTrue, List, MatchOption, None, Option, Some, ℕ}
pub use Rattle.std.proofs.Common.{ap, cond, count_by, drop, false, filter, if◌then◌else◌, inl, inr, length, map, max, min, nat_eq, nat_le, nat_lt, not, option_copied, refl, slice_get, slice_index, slice_index_or, slice_range, subst, suc, sym, take, true, vec_len, zero}
pub use Rattle.std.proofs.Common.{arith, length-append, length-drop, rules}
pub use Rattle.std.specs.Iterator.{YieldsFirst}
pub use Rattle.std.specs.List.{prefix_len}
pub use mathlib.Core.List.{head-eq_of_cons-eq, tail-eq_of_cons-eq}
pub use Rattle.std.proofs.Math.Seq.{drop-cons, take-append-add}
pub use Rattle.std.proofs.lemmas.Bool.{and_from, and_parts, cases_Bool, cases_lt, eq-eqb, eqb-true, false≢true, le-leb, leb-true, ltb-false, ltb-true}
pub use Rattle.std.proofs.lemmas.List.{append-nil, append_assoc, drop-drop, drop-map, drop-take, drop_all, drop_at, drop_more, get_or-drop, get_or_default, length-map, length-take, map-append, take-append-drop, take-append-le, take-map, take-take, take_all, take_at, take_more}
pub use Rattle.std.proofs.lemmas.List.Elements.{All-append, All-cons, All-drop, All-head, All-more, All-nil, All-tail, All-take, filter-append}
pub use Rattle.std.proofs.lemmas.List.Folds.{Any-from_list_any, list_any_at}
pub use Rattle.std.proofs.lemmas.List.Sums.{count_by-le-length, fails_before_first, length-filter, passes_at_first, prefix_len-le-length, sum_by-append, sum_by-cons, sum_by-take-le, sum_by_push}
pub use Rattle.std.proofs.lemmas.Option.{slice_get-get_or, slice_get_past}
pub use Rattle.std.proofs.lemmas.Grind.{common_steps}
