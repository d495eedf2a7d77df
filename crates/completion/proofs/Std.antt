-- What the proofs of this crate cite of std and of the kit's crates, passed on from one place. Declares nothing.
pub use mathlib.Core.List.{head-eq_of_cons-eq, map-map, tail-eq_of_cons-eq}
pub use Rattle.std.proofs.Common.{◌++◌, ◌+◌, ◌-◌, ◌<◌, ◌≤◌, ◌≡◌, ◌∙◌, ◌∷◌, []}
pub use Rattle.std.proofs.Common.{Bool, IsTrue, List, MatchOption, is_some, None, Option, Some, ap, drop, encode_utf8, encode_utf8_all, flat_map, false, get_or, inl, inr, length, map, refl, slice_get, slice_range, slice_set, string_bytes, subst, suc, vec_len, sym, take, true, zero, ℕ}
pub use Rattle.std.proofs.Common.{append_assoc, arith, length-drop, length-take, take-append-drop}
pub use Rattle.std.proofs.lemmas.Bool.{cases_lt, ltb-false, ltb-true}
pub use Rattle.std.proofs.lemmas.Iterator.{YieldsList-from_chars}
pub use Rattle.std.proofs.lemmas.Iterator.Consumers.{YieldsList-end}
pub use Rattle.std.proofs.lemmas.Result.{IfOk-weaker}
pub use Rattle.std.proofs.lemmas.List.{append-nil, map-append, map-id, take_all, drop-drop, drop-take, take-take}
pub use Rattle.std.specs.Prelude.{All, IfOk, IfSome, MatchBool, nat_lt, not, option_to_list}
pub use Rattle.std.proofs.lemmas.List.Elements.{All-take, filter-append}
pub use Rattle.std.proofs.lemmas.List.Sums.{sum_by-take-le}
pub use Rattle.std.specs.Char.Unicode.Lowercase.{is_lowercase}
pub use Rattle.std.specs.List.{list_any}
pub use Rattle.std.specs.Str.{chars as chars_of}
