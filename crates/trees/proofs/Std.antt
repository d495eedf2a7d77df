-- What the proofs of this crate cite of std and of the kit's crates, passed on from one place. Declares nothing.
pub use Rattle.std.proofs.Common.{◌++◌, ◌+◌, ◌-◌, ◌<◌, ◌∙◌, ◌∷◌, ◌≡◌, ◌≢◌, ◌≤◌, []}
pub use Rattle.std.proofs.Common.{Bool, IfSome, List, ap, append_assoc, arith, cond, count_by, drop, false, get_or, inl, inr, length, length-append, length-take, map, min, refl, replicate, rules, set, slice_get, subst, suc, sym, take, take-append-drop, true, zero, ℕ}
pub use Rattle.std.specs.List.{SwappedAt}
pub use Rattle.std.proofs.Math.Seq.{get_or-append_seam}
pub use Rattle.std.proofs.lemmas.Bool.{cases_lt}
pub use Rattle.std.proofs.lemmas.Grind.{common_steps}
pub use Rattle.std.proofs.lemmas.List.{append-nil, drop-drop, drop-set-lt, drop_all, drop_more, get_or-set_other, get_or-set_same, get_or_append_left, get_or_read_under, length-replicate, length-set, take-set-le, take-take, take_all, take_more, take_more_set}
pub use Rattle.std.proofs.lemmas.List.Sums.{count_by-le-length, count_by_more_no, count_by_more_yes, sum_by-cons, sum_by-take-le}
