-- What the proofs of this crate cite of std and of the kit's crates, passed on from one place. Declares nothing.
pub use Rattle.std.proofs.Common.{◌&&◌, ◌++◌, ◌+◌, ◌-◌, ◌<◌, ◌↔◌, ◌∙◌, ◌∷◌, ◌≡◌, ◌≤◌, ◌⊎◌, []}
pub use Rattle.std.proofs.Common.{All, Bool, Contains, Global, IfSome, IsTrue, List, None, Option, Some, Vec, ap, drop, false, if◌then◌else◌, inl, inr, length, map, refl, reverse, slice_get, slice_index_or, slice_set, subst, suc, sym, take, true, zero, ℕ, ⊎_elim}
pub use Rattle.std.proofs.Common.{append_assoc, arith, get_or-set_other, get_or-set_same, length-append, length-set, rules}
pub use Rattle.std.specs.Bool.{Decides}
pub use Rattle.std.specs.Cmp.Lexicographic.{pointwise}
pub use Rattle.std.specs.List.{list_any, position}
pub use Rattle.std.specs.Option.{option_eq}
pub use mathlib.Core.List.{tail-eq_of_cons-eq}
pub use Rattle.std.proofs.Math.Dec.{eqb}
pub use Rattle.std.proofs.Math.Seq.{get_or-append_seam}
pub use Rattle.std.proofs.lemmas.Bool.{cases_eq, cases_lt, eqb-false, eqb-true}
pub use Rattle.std.proofs.lemmas.Bool.Decides.{Decides-and, Decides-eqb}
pub use Rattle.std.proofs.lemmas.List.{get_or-map, get_or_append_left, get_or_default, length-map, map-append, reverse-append}
pub use Rattle.std.proofs.lemmas.List.Elements.{All-cons, All-drop, All-head, All-push, All-tail, Contains-append_left, Contains-get_or, Contains-push, Contains-push_cases}
pub use Rattle.std.proofs.lemmas.List.Folds.{list_any_at}
pub use Rattle.std.proofs.lemmas.List.Quantifiers.{all_pairs_push, position-Some}
pub use Rattle.std.proofs.lemmas.Option.{get_or_from_slice_get}
pub use Rattle.std.proofs.lemmas.Result.{IfOk-weaker, on_ok_weaker}
pub use Rattle.std.proofs.lemmas.Slice.Eq.{slice_eq-Decides}
