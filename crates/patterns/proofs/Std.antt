-- What the proofs of this crate cite of std and of the kit's crates, passed on from one place. Declares nothing.
pub use Rattle.std.proofs.Common.{◌&&◌, ◌*◌, ◌++◌, ◌+◌, ◌-◌, ◌<◌, ◌==◌, ◌^◌, ◌||◌, ◌↔◌, ◌∙◌, ◌∷◌, ◌≡◌, ◌≢◌, ◌≤◌, ◌⊎◌, []}
pub use Rattle.std.proofs.Common.{Bool, Err, IsTrue, List, None, Ok, Option, Result, Some, Vec, add-one, ap, append_assoc, arith, cond, drop, false, if◌then◌else◌, inl, inr, le_refl, length, length-append, lit<, lit≤, nat_le, nat_lt, not, refl, rules, subst, suc, sym, true, zero, ℕ}
pub use Rattle.std.proofs.lemmas.Grind.{common_steps}
pub use denote.RawPtr.{null_ptr}
pub use Rattle.std.specs.List.{AllByRecursion, concat, list_all}
pub use Rattle.std.specs.Result.{IfErr, IsErr, IsErrAnd}
pub use Rattle.std.specs.Char.{digit_value}
pub use Rattle.std.specs.Str.{chars}
pub use Rattle.std.specs.declared.alloc.Global.{Global}
pub use Rattle.std.proofs.Math.Nat.{lt_trans, pow-le-pow_right}
pub use Rattle.std.proofs.lemmas.Bool.{and_parts, both_ways, false_from_ne_true, not-true, or_left, or_parts, or_right}
pub use Rattle.std.proofs.lemmas.Bool.Decides.{nat_tests}
pub use Rattle.std.proofs.lemmas.List.{append-nil}
pub use Rattle.std.proofs.lemmas.List.Elements.{recursion_from_All}
pub use Rattle.std.proofs.lemmas.List.Folds.{list_all-append}
pub use Rattle.std.proofs.lemmas.Str.{chars_from_encodes}
