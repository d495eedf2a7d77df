-- What the proofs of this crate cite of std and of the kit's crates, passed on from one place. Declares nothing.
pub use Rattle.std.proofs.Common.{◌++◌, ◌+◌, ◌-◌, ◌<◌, ◌∙◌, ◌∷◌, ◌≡◌, ◌≤◌, All, List, None, Option, Some, [], ap, append_assoc, arith, cond, drop, encode_utf8_all, inl, inr, is_some, length, length-append, length-drop, refl, rules, slice_get, slice_index_or, string_bytes, subst, sym, take, true, ℕ}
pub use Rattle.std.proofs.lemmas.Grind.{common_steps}
pub use Rattle.std.specs.Prelude.{◌*◌, ◌==◌, ◌||◌, ◌⊎◌, Bool, false, nat_lt, not, slice_index, suc, zero}
pub use Rattle.std.specs.Iterator.{YieldsFirst}
pub use Rattle.std.specs.List.{concat, prefix_len}
pub use Rattle.std.specs.Str.{IsAscii, IsCharBoundary, IsUtf8, chars}
pub use Rattle.std.proofs.Math.Seq.{take-add}
pub use Rattle.std.proofs.lemmas.Bool.{cases_Bool, cases_lt, false≢true, le-leb, ne_eqb}
pub use Rattle.std.proofs.lemmas.Iterator.{YieldsList-from_chars}
pub use Rattle.std.proofs.lemmas.Iterator.Consumers.{YieldsList-end}
pub use Rattle.std.proofs.lemmas.List.{append-nil, drop_at, drop_more, get_or-drop, get_or-take, length-take, map-id, take-append-drop, take_all, take_at, take_more}
pub use Rattle.std.proofs.lemmas.List.Elements.{All-get_or, All-more, All-weaker}
pub use Rattle.std.proofs.lemmas.List.Folds.{length-prefix_len}
pub use Rattle.std.proofs.lemmas.List.Sums.{prefix_len_passes, sum_by-cons, sum_by_push}
pub use Rattle.std.proofs.lemmas.Option.{none-some}
pub use Rattle.std.proofs.lemmas.Str.{IsCharBoundary-after_ascii, IsCharBoundary-start, IsUtf8-from_ascii, chars-IsAscii, chars-append, chars-nil, chars_past_char, encodes-append, encodes-chars, len_utf8_bounds, length-le-encodes}
pub use Rattle.std.proofs.lemmas.Str.Ascii.{IsAscii-from_all}
