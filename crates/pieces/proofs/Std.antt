-- What the proofs of this crate cite of std and of the kit's crates, passed on from one place. Declares nothing.
pub use Rattle.std.proofs.Common.{◌&&◌, ◌*◌, ◌++◌, ◌+◌, ◌-◌, ◌<◌, ◌==◌, ◌^◌, ◌∙◌, ◌∷◌, ◌≡◌, ◌≢◌, ◌≤◌, ◌⊎◌, []}
pub use Rattle.std.proofs.Common.{List, MatchOption, None, Option, Some, ap, arith, cond, drop, encode_utf8_all, inl, inr, length, length-append, length-take, min, nat_lt, not, option_copied, refl, rules, slice_get, slice_index, string_bytes, subst, sym, take, ℕ}
pub use Rattle.std.specs.Prelude.{◌||◌, Bool, encode_utf8, false, nat_le, slice_index_or, suc, take_while, true, zero}
pub use Rattle.std.specs.Char.{len_utf8}
pub use Rattle.std.specs.Iterator.{Yields}
pub use Rattle.std.specs.List.{prefix_len}
pub use Rattle.std.specs.Str.{IsAscii, IsCharBoundary, IsUtf8, all_scalars, chars}
pub use Rattle.std.proofs.Math.Seq.{drop-append_seam, take-append_seam}
pub use Rattle.std.proofs.lemmas.Bool.{and_from, and_left, and_parts, and_right, cases_Bool, cases_lt, eq-eqb, eqb-true, false≢true, le-leb, lt-leb, lt-ltb, ltb-false, ltb-true, ne_eqb, not-true, or_cases, or_left, or_right}
pub use Rattle.std.proofs.lemmas.Iterator.{YieldsList, YieldsList-from_chars}
pub use Rattle.std.proofs.lemmas.Iterator.Consumers.{YieldsList-end, YieldsList-so_far, YieldsList-turn}
pub use Rattle.std.proofs.lemmas.List.{append-nil, append_assoc, drop_all, drop_more, get_or_past, length-drop, length_push, map-id, take-append-drop, take_all, take_at, take_more}
pub use Rattle.std.proofs.lemmas.List.Sums.{sum_by-append, sum_by-cons, sum_by-take-le, take_while-cons}
pub use Rattle.std.proofs.lemmas.Str.{IsCharBoundary-at_seam, IsCharBoundary-past_char, IsCharBoundary-start, IsUtf8-append, IsUtf8-drop, IsUtf8-from_ascii, IsUtf8-take}
pub use Rattle.std.proofs.lemmas.Str.{chars-IsAscii, chars-append, chars-encodes, chars-nil, encode_same, encodes-append, encodes-chars, len_utf8_ascii, len_utf8_bounds, length-encode, length-le-encodes, scalars-chars}
