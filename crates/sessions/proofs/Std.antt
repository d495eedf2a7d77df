-- What the proofs of this crate cite of std and of the kit's crates, passed on from one place. Declares nothing.
pub use Rattle.std.proofs.Common.{All, Bool, Decides, IsUtf8, List, MatchOption, None, Option, Some, ap, append_assoc, arith, cond, drop, encode_utf8_all, false, get_or, if◌then◌else◌, inl, inr, is_some, length, ltb-true, map, min, nat_lt, option_map, pos, refl, subst, sym, take, true, ℕ, ℤ, ⊎_elim}
pub use Rattle.std.proofs.Common.{[], ◌++◌, ◌+◌, ◌<◌, ◌||◌, ◌↔◌, ◌∙◌, ◌∷◌, ◌≡◌, ◌≢◌, ◌⊎◌}
pub use Rattle.std.specs.Cmp.{eq_by_cmp_equiv}
pub use Rattle.std.specs.Cmp.Lexicographic.{slice_cmp}
pub use Rattle.std.specs.FinMap.{contains_key, empty, get, get-empty, get-insert, get-remove, insert, len, len-empty, nat_cmp-IsAntisymmetric, remove, same_map, slice_cmp-IsAntisymmetric}
pub use Rattle.std.specs.Ordering.{eq_by_cmp, is_eq, nat_cmp}
pub use Rattle.std.specs.Str.{chars}
pub use Rattle.std.specs.declared.cmp.Ordering.{Ordering}
pub use Rattle.std.specs.declared.cmp.Ordering.TheVariants.{Equal, Greater, Less}
pub use Rattle.std.proofs.Math.Nat.{min-eq_left}
pub use Rattle.std.proofs.lemmas.Bool.{cases_eq, ltb-false}
pub use Rattle.std.proofs.lemmas.Cmp.{nat_list_cmp_total}
pub use Rattle.std.proofs.lemmas.List.{drop_more, length-drop, map-append, take-append-drop, take_more}
pub use Rattle.std.proofs.lemmas.List.Elements.{All-append, All-from_recursion, All-head, All-tail}
pub use Rattle.std.proofs.lemmas.Grind.{flat_map-append}
pub use Rattle.std.proofs.lemmas.Slice.Eq.{bytes_eq-Decides}
