-- What the proofs of this crate cite of std and of the kit's crates, passed on from one place. Declares nothing.
pub use Rattle.std.proofs.Common.{◌&&◌, ◌*◌, ◌++◌, ◌+◌, ◌<◌, ◌||◌, ◌∙◌, ◌∷◌, ◌≡◌, ◌≢◌, ◌≤◌, []}
pub use Rattle.std.proofs.Common.{Bool, Bor, Err, IfErr, IfOk, List, None, Ok, OnOk, Option, Result, Some, ap, drop, false, filter, get_or, if◌then◌else◌, inr, is_some, length, map, nat_lt, option_map, refl, slice_get, subst, suc, sym, take, true, unwrap_or, zero, ℕ}
pub use Rattle.std.proofs.Common.{append-nil, append_assoc, arith, le-ltb, length-append, lt-ltb, rules, take_all, true≢false}
pub use Rattle.std.specs.Prelude.{cond, not, position}
pub use Rattle.std.specs.Cmp.Lexicographic.{bytes_decides, nat_list_eq_equiv, pointwise}
pub use Rattle.std.specs.List.{cons_option, enumerate_from, filter_map, flat_map, fold, list_any, position_or_len, prefix_len}
pub use Rattle.std.specs.Map.{lookup}
pub use Rattle.std.specs.Option.{option_or}
pub use Rattle.std.specs.Result.{result_and}
pub use Rattle.std.specs.Str.{bytes_eq, chars}
pub use Rattle.std.specs.Str.Lines.{lines}
pub use Rattle.std.proofs.Math.Dec.{eqb}
pub use Rattle.std.proofs.Math.Bool.{or-true}
pub use Rattle.std.proofs.lemmas.Bool.{and_parts, eq-eqb, ltb-false, ltb-true, ne_eqb}
pub use Rattle.std.proofs.lemmas.Grind.{common_steps, flat_map-append}
pub use Rattle.std.proofs.lemmas.Iterator.Consumers.{map_from_collect}
pub use Rattle.std.proofs.lemmas.Iterator.Splits.{YieldsList-from_lines}
pub use Rattle.std.proofs.lemmas.List.{flat_map_more, length-map, length-take-le, length_push, map-append, take-append-drop, take-append-le, take_more}
pub use Rattle.std.proofs.lemmas.List.Elements.{filter-append, filter_map-append}
pub use Rattle.std.proofs.lemmas.List.Folds.{list_any-append, position_or_len_push}
pub use Rattle.std.proofs.lemmas.List.Sums.{fold-append, prefix_len-le-length}
pub use Rattle.std.proofs.lemmas.Map.Text.{hash_map_updates_str}
pub use Rattle.std.proofs.lemmas.Option.{IfSome_then, slice_get_within}
pub use Rattle.std.proofs.lemmas.Result.{MatchResult-weaker, err_from_is_err_and, on_ok_weaker}
pub use Rattle.indexmap.proofs.CallerLemmas.{insert_entry-new}
