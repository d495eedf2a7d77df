-- What the proofs of this crate cite of std and of the kit's crates, passed on from one place. Declares nothing.
pub use Rattle.std.proofs.Common.{◌&&◌, ◌+◌, ◌<◌, ◌∙◌, ◌∷◌, ◌≡◌, ◌≤◌, ◌⊎◌, Bool, List, None, Option, Some, [], ap, arith, encode_utf8_all, false, inl, inr, le-leb, leb-false, leb-true, length, length-take, map, nat_le, refl, reverse, subst, suc, sym, take, true, zero, ℕ, ⊎_elim}
pub use Rattle.std.specs.Prelude.{Err, IfOk, Ok, Result}
pub use Rattle.std.specs.List.{AllByRecursion}
pub use Rattle.std.specs.Str.{IsUtf8, all_scalars, chars}
pub use mathlib.Core.List.{head-eq_of_cons-eq, tail-eq_of_cons-eq}
pub use Rattle.std.proofs.lemmas.Bool.{and_from, and_parts, cases_eq, cases_lt, lt-leb}
pub use Rattle.std.proofs.lemmas.List.{append-nil, length-append}
pub use Rattle.std.proofs.lemmas.List.Elements.{All-from_recursion, recursion_from_All}
pub use Rattle.std.proofs.lemmas.Str.{chars-encodes, encodes-chars, scalars-chars}
