-- What the proofs of this crate cite of std and of the kit's crates, passed on from one place. Declares nothing.
pub use mathlib.Core.List.{head-eq_of_cons-eq, tail-eq_of_cons-eq}
pub use Rattle.std.proofs.Common.{◌++◌, ◌+◌, ◌-◌, ◌<◌, ◌≤◌, ◌≡◌, ◌∙◌, ◌∷◌, ◌⊎◌, List, Option, Some, [], ap, append_assoc, arith, drop, false, get_or, inl, inr, length, length-append, length-take, refl, rules, subst, suc, sym, take, take-append-drop, true, ℕ}
pub use Rattle.std.proofs.lemmas.List.{append-nil, take-take, take_all}
pub use Rattle.std.specs.Prelude.{All, Bool, IfOk, IfSome, MatchBool}
pub use Rattle.std.proofs.lemmas.List.Elements.{All-take}
