-- What the proofs of this crate cite of std and of the kit's crates, passed on from one place. Declares nothing.
pub use Rattle.std.proofs.Common.{◌++◌, ◌+◌, ◌-◌, ◌<◌, ◌↔◌, ◌∙◌, ◌∷◌, ◌≡◌, ◌≢◌, ◌≤◌, ◌⊎◌, []}
pub use Rattle.std.proofs.Common.{All, AllPairs, Bool, Contains, IfSome, List, MatchOption, None, Option, Some, ap, drop, false, if◌then◌else◌, inl, inr, is_some, length, option_map, refl, slice_get, slice_index, slice_index_or, slice_set, subst, suc, sym, take, true, zero, ℕ, ⊎_elim}
pub use Rattle.std.proofs.Common.{append_assoc, arith, get_or-set_other, length-append, rules}
pub use Rattle.std.specs.List.{list_any}
pub use Rattle.std.specs.List.Sorted.{IsStrictlyIncreasing}
pub use Rattle.std.proofs.Math.Dec.{eqb}
pub use Rattle.std.proofs.Math.Seq.{append_snoc, drop-cons, take-length}
pub use Rattle.std.proofs.lemmas.Bool.{cases_eq, cases_lt, eqb-true}
pub use Rattle.std.proofs.lemmas.Bool.Decides.{Decides-eqb}
pub use Rattle.std.proofs.lemmas.List.{append-nil, drop_all, get_or-drop, get_or-set_same, get_or_default, get_or_past, length-drop, length-set, length-take-le}
pub use Rattle.std.proofs.lemmas.List.Elements.{All-head, All-push, All-tail, Contains-append_left, Contains-get_or, Contains-push, Contains-push_cases}
pub use Rattle.std.proofs.lemmas.List.Folds.{Any-from_list_any}
pub use Rattle.std.proofs.lemmas.Map.Made.{IsDistinct-from_AllPairs}
pub use Rattle.std.proofs.lemmas.Map.Steps.{length-le_from_distinct_below}
pub use Rattle.std.proofs.lemmas.Result.{IfErr-weaker, IfOk-weaker}
pub use Rattle.std.proofs.lemmas.Grind.{common_steps}
