-- What the proofs of this crate cite of std and of the kit's crates, passed on from one place. Declares nothing.
pub use Rattle.std.proofs.Common.{◌++◌, ◌+◌, ◌-◌, ◌<◌, ◌==◌, ◌^◌, ◌↔◌, ◌∙◌, ◌∷◌, ◌≡◌, ◌≢◌, ◌≤◌, ◌⊎◌, []}
pub use Rattle.std.proofs.Common.{Bool, Err, IfOk, IfSome, IsSome, List, MatchOption, None, Ok, Option, Result, Some, ap, drop, false, get_or, if◌then◌else◌, inl, inr, length, map, min, option_to_list, refl, slice_get, subst, suc, sym, take, true, zero, ℕ, ⊎_elim}
pub use Rattle.std.proofs.Common.{append_assoc, arith, length-append, length-drop, length-take, rules, take-append-drop}
pub use Rattle.std.specs.Option.{is_some}
pub use mathlib.Core.List.{head-eq_of_cons-eq, tail-eq_of_cons-eq}
pub use Rattle.std.proofs.Math.Seq.{drop-append_seam, get_or-append_seam, take-append-add, take-append_seam}
pub use Rattle.std.proofs.lemmas.Bool.{cases_lt, eq-eqb, eqb-true}
pub use Rattle.std.proofs.lemmas.Grind.{common_steps}
pub use Rattle.std.proofs.lemmas.List.{append-nil, append_cancel_right, drop-append-le, drop_all, get_or_append_left, nil_from_length, take-append-le, take_all, take_at, take_more}
pub use Rattle.std.proofs.lemmas.Option.{slice_get_past, slice_get_within}
