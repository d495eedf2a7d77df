use Rattle.pieces.proofs.Std.{sym, ◌≡◌, ◌∙◌, List, ℕ, [], ◌∷◌, rules}
use Rattle.pieces.proofs.Common.{Empty, units, Utf8, sums_of}
use Rattle.pieces.proofs.Joins.{units-nil}
use Rattle.pieces.proofs.places.bytes_in.Goals as goal

none : (t : List ℕ) → Empty ≡ sums_of t → 0 ≡ units Utf8 t
none [] e = sym (units-nil Utf8)
none (c ∷ t) e = absurd cc

pub returns-in-Empty : goal.returns-in-Empty
returns-in-Empty c t e = none t (sym c.in-Empty.is ∙ e)

pub returns-in-Filled : goal.returns-in-Filled
returns-in-Filled c = search rules
