-- What the proofs of this crate cite of std and of the kit's crates, passed on from one place. Declares nothing.
pub use Rattle.std.proofs.Common.{◌*◌, ◌++◌, ◌+◌, ◌-◌, ◌<◌, ◌^◌, ◌∙◌, ◌∷◌, ◌≡◌, ◌≤◌, ◌⊎◌, []}
pub use Rattle.std.proofs.Common.{All, Bool, List, None, Some, add-zero, ap, ap₂, arith, cond, count_by, drop, false, get_or, inl, inr, length, length-append, max, min, refl, reverse, rules, slice_get, slice_index_or, subst, suc, sym, take, take-append-drop, true, zero, zero-add, ℕ}
pub use Rattle.std.proofs.Math.Nat.{pow-le-pow_right, two-pow-succ}
pub use Rattle.std.proofs.Math.Seq.{drop-append-add, drop-append_seam, take-append-add, take-append_seam}
pub use Rattle.std.proofs.lemmas.Bool.{cases_Bool, cases_lt, le-ltb, lt-ltb, ltb-false}
pub use Rattle.std.proofs.lemmas.Grind.{common_steps}
pub use Rattle.std.proofs.lemmas.Int.Digits.{all_below_base_digits_of, number_digits_of, number_lt}
pub use Rattle.std.proofs.lemmas.List.{append-nil, append_assoc, drop-append-le, drop-drop, drop_all, drop_more, length-drop, length-take, reverse-append, take-append-le, take_all, take_more}
pub use Rattle.std.proofs.lemmas.List.Elements.{All-append, All-cons, All-drop, All-head, All-nil, All-tail, All-take}
pub use Rattle.std.proofs.lemmas.List.Sums.{count_by-le-length, sum_by-append, sum_by-cons, sum_by-take-drop}
pub use Rattle.std.proofs.lemmas.Option.{none-some, slice_get_cases, slice_get_within, unwrap_or-slice_get}
pub use Rattle.std.specs.Int.Digits.{digits_of}
pub use Rattle.std.specs.Prelude.{unwrap_or}
