-- What the proofs of this crate cite of std and of the kit's crates, passed on from one place. Declares nothing.
pub use Rattle.std.proofs.Common.{◌++◌, ◌+◌, ◌-◌, ◌<◌, ◌^◌, ◌==◌, ◌↔◌, ◌∙◌, ◌∷◌, ◌≡◌, ◌≤◌, ◌⊎◌, []}
pub use Rattle.std.proofs.Common.{All, Bool, Err, List, MatchOption, None, Option, Some, Vec, ap, cond, drop, encode_utf8, false, filter, get_or, if◌then◌else◌, inl, inr, length, map, max, min, nat_lt, not, option_map, refl, slice_range, subst, suc, sym, take, true, zero, ℕ, ⊎_elim}
pub use Rattle.std.proofs.Common.{arith, le-ltb, leb-false, leb-true, rules}
pub use Rattle.std.specs.Prelude.{IfOk, IsErrAnd, Ok, Result, encode_utf8_all, nat_le}
pub use Rattle.std.specs.Global.{Global}
pub use Rattle.std.specs.List.{AllByRecursion}
pub use Rattle.std.specs.Str.{IsUtf8, chars}
pub use Rattle.std.proofs.Math.Nat.{le-max_left, le-max_right, max-le, min-eq_left, min-eq_right, min-le_left, min-le_right}
pub use Rattle.std.proofs.lemmas.Bool.{cases_lt, eq-eqb, eqb-true, true_from_ne_false}
pub use Rattle.std.proofs.lemmas.List.{append_assoc, drop-drop, drop-take, length-append, length-drop, length-map, length-take, map-append, take-append-drop, take-take, take_all, take_at, take_more}
pub use Rattle.std.proofs.lemmas.List.Elements.{All-append, All-cons, All-drop, All-nil, All-take, All-weaker, recursion_from_All}
pub use Rattle.std.proofs.lemmas.List.Folds.{drop_split}
pub use Rattle.std.proofs.lemmas.Result.{IfOk-weaker, err_from_is_err_and}
pub use Rattle.std.specs.Char.{len_utf8}
pub use Rattle.std.proofs.lemmas.Str.{encodes-IsAscii, encodes-chars, len_utf8_bounds, length-encode, length-le-encodes}
pub use Rattle.std.proofs.lemmas.Str.Ascii.{IsAscii-from_all}
pub use Rattle.std.proofs.lemmas.Grind.{common_steps}
pub use Rattle.std.proofs.lemmas.List.Sums.{length-filter}
