-- What the proofs of this crate cite of std and of the kit's crates, passed on from one place. Declares nothing.
pub use Rattle.std.proofs.Common.{All, ◌&&◌, ◌++◌, ◌+◌, ◌-◌, ◌*◌, ◌^◌, ◌<◌, ◌≤◌, ◌≡◌, ◌≢◌, ◌∙◌, ◌∷◌, ◌⊎◌, Bool, List, None, Option, Some, [], ap, append_assoc, arith, cond, drop, false, filter, inl, inr, get_or, length, length-append, map, min, refl, subst, suc, sym, take, true, zero, ℕ}
pub use Rattle.std.specs.Prelude.{◌==◌, ◌%◌, ◌||◌, OnOk, nat_le, nat_lt, not, slice_index, slice_index_or}
pub use Rattle.std.specs.List.{prefix_len, range_with_len}
pub use Rattle.std.proofs.lemmas.Bool.{cases_lt, eq-eqb, eqb-true, false≢true, le-leb, le-ltb, leb-true, lt-leb, lt-ltb, ltb-false, ltb-true, ne_eqb}
pub use Rattle.std.proofs.lemmas.List.{append-nil, drop-drop, drop_more, get_or_append_left, get_or_default, get_or-drop, get_or-take, length-drop, length-take, map-append, take-append-drop, take-take, take_all}
pub use Rattle.std.proofs.lemmas.Result.{on_ok_weaker}
pub use Rattle.std.proofs.Math.Seq.{drop-cons, get_or-append_seam, take-add}
pub use Rattle.std.proofs.lemmas.List.Folds.{length-prefix_len}
pub use Rattle.std.proofs.lemmas.Str.{len_utf8_ascii, len_utf8_bounds}
pub use Rattle.std.proofs.lemmas.List.Elements.{filter-append}
pub use Rattle.std.proofs.lemmas.List.FromFn.{filter_of_map_range_with_len_more}
pub use Rattle.std.proofs.lemmas.List.Sums.{count_by-le-length, prefix_len_passes, prefix_len_stops, sum_by-append, sum_by-cons, sum_by-take-le}
