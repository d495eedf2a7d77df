-- What the proofs of this crate cite of std and of the kit's crates, passed on from one place. Declares nothing.
pub use Rattle.std.proofs.Common.{◌++◌, ◌+◌, ◌-◌, ◌∙◌, ◌∷◌, ◌≡◌, ◌≤◌, List, None, Some, [], ap, arith, below_more, drop, inl, inr, length, length-append, option_copied, refl, slice_get, subst, sym, take, ℕ}
pub use Rattle.std.specs.Prelude.{◌<◌, ◌⊎◌, Bool, false, nat_lt, slice_index_or, suc, true, zero as nought}
pub use Rattle.std.proofs.Math.Seq.{take-append-add}
pub use Rattle.std.proofs.lemmas.Bool.{cases_lt, false≢true, ltb-false, ltb-true}
pub use Rattle.std.proofs.lemmas.List.{length-drop, length-take, take-append-drop, take-append-le, take_all, take_more}
