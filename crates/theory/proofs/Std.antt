-- What the proofs of this crate cite of std and of the kit's crates, passed on from one place. Declares nothing.
pub use Rattle.std.proofs.Common.{◌++◌, ◌+◌, ◌<◌, ◌↔◌, ◌∙◌, ◌∷◌, ◌≡◌, ◌≢◌, ◌≤◌, ◌⊎◌, All, List, None, Option, Some, [], ap, append_assoc, arith, drop, inl, inr, length, length-append, refl, slice_index_or, subst, suc, sym, take, take-append-drop, ℕ, ⊎_elim}
pub use mathlib.Core.List.{head-eq_of_cons-eq, tail-eq_of_cons-eq}
pub use Rattle.std.proofs.lemmas.Bool.{cases_eq, cases_lt}
pub use Rattle.std.proofs.lemmas.List.{append-nil, append_cancel_left, append_cancel_right, take-append-le}
pub use Rattle.std.proofs.lemmas.List.Elements.{All-cons, All-nil}
