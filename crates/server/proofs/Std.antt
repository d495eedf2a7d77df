-- What the proofs of this crate cite of std and of the kit's crates, passed on from one place. Declares nothing.
pub use Rattle.std.proofs.Common.{◌++◌, ◌+◌, ◌-◌, ◌<◌, ◌||◌, ◌↔◌, ◌∙◌, ◌∷◌, ◌≡◌, ◌≢◌, []}
pub use Rattle.std.proofs.Common.{Bool, Err, IfSome, IsSome, List, MatchOption, None, Ok, OnErr, OnOk, Option, Result, Some, ap, cond, drop, false, get_or, if◌then◌else◌, inl, inr, is_some, length, map, min, nat_lt, option_map, refl, string_bytes, subst, sym, take, true, ℕ, ℤ}
pub use Rattle.std.proofs.Common.{append_assoc, arith, w32}
unfoldable pub use Rattle.std.specs.List.Sorted.{IsStrictlySortedBy}
pub use Rattle.std.specs.Cmp.{eq_by_cmp_equiv}
pub use Rattle.std.specs.Cmp.Lexicographic.{slice_cmp}
pub use Rattle.std.specs.FinMap.{contains_key, find, get, get-from_entries, get-insert, get-remove, insert, len, len-empty, len-insert, nat_cmp-IsAntisymmetric, remove, same_map, slice_cmp-IsAntisymmetric}
pub use Rattle.std.specs.Io.KnownBytes.{Appends, Consumes, IsAtEnd, Keeps}
pub use Rattle.std.specs.List.{AllByRecursion}
pub use Rattle.std.specs.Option.{option_copied_mut}
pub use Rattle.std.specs.Ordering.{eq_by_cmp, is_eq, nat_cmp}
pub use Rattle.std.specs.Prelude.{String, string_cmp}
pub use Rattle.std.specs.Result.{is_err}
pub use Rattle.std.specs.Str.{bytes_eq, chars}
pub use Rattle.std.specs.Vec.Iter.{into_iter_items}
pub use Rattle.std.specs.declared.cmp.Ordering.{Ordering}
pub use Rattle.std.specs.declared.cmp.Ordering.TheVariants.{Less}
pub use Rattle.std.proofs.Math.Nat.{min-eq_left}
pub use Rattle.std.proofs.lemmas.Bool.{true_from_ne_false}
pub use Rattle.std.proofs.lemmas.Cmp.{nat_list_cmp_total}
pub use Rattle.std.proofs.lemmas.Grind.{flat_map-append}
pub use Rattle.std.proofs.lemmas.Int.{to_z-of_z}
pub use Rattle.std.proofs.lemmas.List.{append-nil, length-map, length-take, map-append, take-append-drop, take_all, take_more}
pub use Rattle.std.proofs.lemmas.Map.Text.{btree_map_text_same, btree_map_updates_text, is_eq-slice_cmp}
pub use Rattle.std.proofs.lemmas.Result.{IfOk-weaker, err_from_is_err_and}
