-- What the proofs of this crate cite of std and of the kit's crates, passed on from one place. Declares nothing.
pub use Rattle.std.proofs.Common.{All, Bool, IfSome, IsUtf8, List, None, Option, Result, Some, ap, ap₂, codes, cond, drop, false, get_or, if◌then◌else◌, is_none, is_some, length, map, max, nat_lt, negsuc, option_and_then, option_map, pos, refl, subst, suc, sym, true, zero, ℕ, ℤ}
pub use Rattle.std.proofs.Common.{arith, drop_at, length-append, lt-ltb, take_at}
pub use Rattle.std.proofs.Common.{[], ◌&&◌, ◌*◌, ◌++◌, ◌+◌, ◌<◌, ◌==◌, ◌^◌, ◌||◌, ◌∙◌, ◌∷◌, ◌≡◌, ◌≤◌}
pub use Rattle.std.specs.Prelude.{unwrap_or, ⊤}
pub use Rattle.std.specs.Char.{IsScalar, digit_value, encode_utf8, is_digit}
pub use Rattle.std.specs.Cmp.Lexicographic.{slice_cmp}
pub use Rattle.std.specs.Ordering.{match_ordering, nat_cmp}
pub use Rattle.std.specs.Str.{bytes_eq, chars, is_utf8}
pub use Rattle.std.specs.declared.cmp.Ordering.{Ordering}
pub use Rattle.std.specs.declared.cmp.Ordering.TheVariants.{Equal, Greater, Less}
pub use lib.Utf8.{low_scalar}
pub use Rattle.std.proofs.lemmas.Bool.{and_parts, cond_both, eqb-true, ltb-true}
pub use Rattle.std.proofs.Math.Seq.{get_or-append_seam}
pub use Rattle.std.proofs.lemmas.List.{append-nil, append_assoc, at_drop_all, at_drop_more, map-append}
pub use Rattle.std.proofs.lemmas.List.Elements.{All-append, All-cons, All-head, All-nil, All-tail}
pub use Rattle.std.proofs.lemmas.Str.{IsCharBoundary-after_ascii, IsCharBoundary-before_ascii, IsUtf8-append, IsUtf8-drop, IsUtf8-encode, IsUtf8-from_ascii, IsUtf8-from_is_utf8, IsUtf8-nil, IsUtf8-take, encode_ascii, encodes-chars, is_utf8-from_IsUtf8, scalars-chars}
pub use Rattle.json.specs.Lex.{Class, Lexeme, Mode, Place}
pub use Rattle.json.specs.Lex.{after_comma, after_key, after_value, backslash, begins_colon, between, class, colon, comma, fresh, if_allowed, in_escape, in_string, in_word, lex_byte, may_begin, may_close, operator, operator_lexeme, other, place_token, quote, space, string_token, token, tokens}
unfoldable pub use Rattle.json.specs.Lex.{lex, punctuate}
pub use Rattle.json.specs.Text.{Within, after_backslash, after_high, after_u, is_high_surrogate, is_low_surrogate, plain, prepend, surrogate_pair}
unfoldable pub use Rattle.json.specs.Text.{code_unit, content, short_escape}
pub use Rattle.json.specs.Token.{Token}
pub use Rattle.json.specs.Word.{after_number, ends_word, head, is_operator, is_space, number_before}
unfoldable pub use Rattle.json.specs.Word.{word}
pub use Rattle.serde_json.proofs.Views.{view-Array}
pub use Rattle.serde_json.specs.Data.{Data, Items, Members, Num, array, boolean, depth, item, items_depth, member, members_depth, negative, no_items, no_members, null, number, object, put, string, unsigned}
pub use Rattle.serde_json.specs.Find.{as_array, as_object, as_str, get, get_member, of_integer}
pub use Rattle.serde_json.specs.Read.{max_depth, number_of, of_items, of_json, of_members, read}
pub use Rattle.serde_json.specs.View.{items_of, items_view, view}
pub use Rattle.serde_json.specs.declared.value.Value.{Value}
pub use Rattle.json.proofs.Printed.Decimals.{IsNumber-decimal, IsNumber-signed_decimal}
pub use Rattle.json.proofs.Printed.Tokens.{tokens-print}
pub use Rattle.json.proofs.Printed.Trees.{ArePrintable-json_tokens, value-json_tokens}
pub use Rattle.json.proofs.Printed.Utf8.{IsUtf8-are_ascii, IsUtf8-boolean, IsUtf8-quoted, are_ascii}
pub use Rattle.serde_json.proofs.Numbers.{number_of-decimal, number_of-negative}
pub use Rattle.serde_json.proofs.Texts.{print-outline}
pub use Rattle.serde_json.specs.Written.{comma_if, compact_text, items_outline, items_text, members_outline, members_text, number_text, outline}
pub use Rattle.std.proofs.lemmas.Fmt.{IsAscii-decimal, IsAscii-signed}
