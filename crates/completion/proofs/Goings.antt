-- What goes on behind kinds: they themselves, or what repairs make of them.
use Rattle.completion.proofs.Std.{◌≡◌, ◌∷◌, List, [], Option, append-nil, arith, false, refl, subst, sym, ℕ}
use Rattle.completion.proofs.Common.{AreExpected, Grammar, IsSentence, IsViable, Kind, TokenRule, viable_prefix}
use Rattle.mending.specs.declared.repair.Repair.{Repair}
use Rattle.completion.specs.Mended.{As_mended, As_they_are, EndsInvalid, GoOnAs, Not_at_all, mended_before}

-- what is found behind kinds
abbrev pub GoesOn : Grammar → List Repair → List Kind → List (Option ℕ) → Type 0
GoesOn g repairs kinds looks = (others : List Kind) × GoOnAs g repairs kinds others × AreExpected g others looks

pub unmended : (g : Grammar) (repairs : List Repair) (kinds : List Kind) (looks : List (Option ℕ)) → IsViable g kinds → AreExpected g kinds looks → GoesOn g repairs kinds looks
unmended g repairs kinds looks viable expected = (kinds, As_they_are viable refl, expected)

-- nothing goes on where no sentence begins with the kinds
pub nothing_expected : (g : Grammar) (kinds : List Kind) (looks : List (Option ℕ)) → ¬ IsViable g kinds → looks ≡ [] → AreExpected g kinds looks
nothing_expected g kinds looks not none = subst (AreExpected g kinds) (sym none) (
  [],
  false,
  record {
    in_order = λ k lt. absurd (omega (arith, lt));
    each = λ a. (λ (k, lt, is). absurd (omega (arith, lt)), λ v. absurd (not (viable_prefix g kinds (TokenRule a ∷ []) v)));
    ends = (λ e. absurd (cc e), λ s. absurd (not ([], subst (IsSentence g) (sym (append-nil kinds)) s)));
  },
  refl,
)

pub stopped : (g : Grammar) (repairs : List Repair) (kinds : List Kind) (looks : List (Option ℕ)) → ¬ IsViable g kinds → EndsInvalid kinds → looks ≡ []
    → GoesOn g repairs kinds looks
stopped g repairs kinds looks not ends none = (kinds, Not_at_all not ends refl, nothing_expected g kinds looks not none)

pub mended : (g : Grammar) (repairs : List Repair) (kinds : List Kind) (looks : List (Option ℕ)) → ¬ IsViable g kinds → ¬ EndsInvalid kinds
    → AreExpected g (mended_before repairs kinds) looks → GoesOn g repairs kinds looks
mended g repairs kinds looks not ends expected = (mended_before repairs kinds, As_mended not ends refl, expected)
