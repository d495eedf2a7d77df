-- What the proofs of this crate cite of std and of the kit's crates, passed on from one place. Declares nothing.
pub use Rattle.std.proofs.Common.{◌&&◌, ◌++◌, ◌+◌, ◌-◌, ◌<◌, ◌==◌, ◌||◌, ◌↔◌, ◌∙◌, ◌∷◌, ◌≡◌, ◌≤◌, ◌⊎◌, []}
pub use Rattle.std.proofs.Common.{All, AllPairs, Bool, Contains, IfSome, List, None, Option, Some, ap, drop, false, if◌then◌else◌, inl, inr, length, refl, slice_get, slice_index_or, slice_set, subst, suc, sym, true, zero, ℕ, ⊎_elim}
pub use Rattle.std.proofs.Common.{arith, get_or-set_other, get_or-set_same, length-append, length-set, rules}
pub use Rattle.std.proofs.Math.Seq.{get_or-append_seam}
pub use Rattle.std.proofs.lemmas.Bool.{and_from, and_parts, cases_eq, cases_lt, eq-eqb, eqb-true, le-ltb, lt-ltb, ne_eqb, or_cases, or_left, or_right}
pub use Rattle.std.proofs.lemmas.List.{get_or_append_left, get_or_default}
pub use Rattle.std.proofs.lemmas.List.Elements.{All-head, All-push, All-tail, Contains-append_left, Contains-push}
pub use Rattle.std.proofs.lemmas.List.Sums.{sum_by-set}
pub use Rattle.std.proofs.lemmas.List.Quantifiers.{all_pairs_push}
pub use Rattle.std.proofs.lemmas.Option.{get_or_from_slice_get, slice_get-get_or, slice_get_cases}
