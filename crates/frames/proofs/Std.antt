-- What the proofs of this crate cite of std and of the kit's crates, passed on from one place. Declares nothing.
pub use Rattle.std.proofs.Common.{◌%◌, ◌&&◌, ◌++◌, ◌+◌, ◌-◌, ◌/◌, ◌<◌, ◌==◌, ◌^◌, ◌||◌, ◌↔◌, ◌∙◌, ◌∷◌, ◌≡◌, ◌≢◌, ◌≤◌, ◌⊎◌, []}
pub use Rattle.std.proofs.Common.{All, Any, Bool, Err, IfErr, IfOk, IfSome, IsErrOf, IsTrue, List, None, Ok, Option, Result, Some, ℕ}
pub use Rattle.std.proofs.Common.{ap, codes, cond, decimal, drop, false, get_or, inl, inr, is_some, length, min, nat_eq, nat_le, nat_lt, not, option_and_then, option_map, refl, reverse, subst, suc, sym, take, true, zero}
pub use Rattle.std.proofs.Common.{add-one, append-nil, append_assoc, arith, drop-cons, length-append, length-drop, rules}
pub use Rattle.std.specs.Char.{digit_value, is_ascii_digit, is_ascii_whitespace}
pub use Rattle.std.specs.Io.KnownBytes.{Appends, Keeps}
pub use Rattle.std.specs.List.{flat_map, list_all, prefix_len, starts_with, suffix_len}
pub use Rattle.std.specs.Option.{ok_or, option_map_or, option_or}
pub use Rattle.std.specs.Str.{bytes_eq}
pub use Rattle.std.specs.Str.Parse.{AllDigits, digits_value}
pub use Rattle.std.proofs.Math.Bool.{or-false, or_assoc}
pub use Rattle.std.proofs.Math.Nat.{pow-le-pow_right}
pub use Rattle.std.proofs.Math.Seq.{take-add, take-append-add, take-append_seam, take-length}
pub use Rattle.std.proofs.lemmas.Bool.{and_parts, cases_lt, le-ltb, leb-true, lt-ltb, or_parts}
pub use Rattle.std.proofs.lemmas.Bool.Decides.{Decides-eqb}
pub use Rattle.std.proofs.lemmas.Fmt.{decimal_digit, decimal_step, length-decimal-le}
pub use Rattle.std.proofs.lemmas.Grind.{common_steps}
pub use Rattle.std.proofs.lemmas.Int.Digits.{digits_value-lt, digits_value_more}
pub use Rattle.std.proofs.lemmas.List.{drop-append-le, drop-drop, drop-take, length-take, map-append, reverse-append, take-append-drop, take-append-le, take-take, take_all, take_more_set}
pub use Rattle.std.proofs.lemmas.List.Elements.{All-cons, All-head, All-nil, All-tail}
pub use Rattle.std.proofs.lemmas.List.Folds.{list_all-append}
pub use Rattle.std.proofs.lemmas.Result.{IfErr-weaker, IfOk-weaker, err_from_is_err_and}
pub use Rattle.std.proofs.lemmas.Slice.Eq.{starts_is}
pub use Rattle.std.proofs.lemmas.Str.Ascii.{trim_ascii_is}
pub use Rattle.std.proofs.lemmas.Str.Parse.{digit_at, digits_value-take-le}
