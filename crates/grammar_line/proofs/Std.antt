-- What the proofs of this crate cite of std and of the kit's crates, passed on from one place. Declares nothing.
pub use Rattle.std.proofs.Common.{◌++◌, ◌-◌, ◌<◌, ◌==◌, ◌∙◌, ◌∷◌, ◌≡◌, ◌≢◌, ◌⊎◌, Bool, IfSome, List, None, Option, Some, [], ap, arith, drop, false, filter, if◌then◌else◌, length, refl, rules, sym, take, tests, true, ℕ, ⊎_elim}
pub use Rattle.std.proofs.lemmas.Bool.{and_parts, false≢true, ne_eqb}
pub use Rattle.std.proofs.lemmas.Grind.{common_steps}
pub use Rattle.std.proofs.lemmas.Iterator.{YieldsList-from_slice}
pub use Rattle.std.proofs.lemmas.Iterator.Consumers.{map_from_collect}
pub use Rattle.std.proofs.lemmas.Iterator.Search.{all_from_yields_List}
pub use Rattle.std.proofs.lemmas.Iterator.Splits.{YieldsList-from_str_split}
pub use Rattle.std.proofs.lemmas.List.{append-nil, drop_all, take-append-drop}
pub use Rattle.std.proofs.lemmas.List.Folds.{list_all-map}
pub use Rattle.std.proofs.lemmas.Str.Pattern.{strip_suffix_char}
pub use Rattle.std.specs.Char.{char_set_contains, len_utf8}
unfoldable pub use Rattle.std.specs.Char.{encode_utf8}
pub use Rattle.std.specs.List.{after_first, flat_map, list_all, slice_split}
pub use Rattle.std.specs.Str.Pattern.{CutsPrefixes, CutsSuffixes, FindsPrefixBy, FindsSuffixBy, HasPassingCharAt, IsTrimEndMatches, IsTrimStartMatches}
