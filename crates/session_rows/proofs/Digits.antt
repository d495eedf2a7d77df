-- One or more digits: that `[0-9]+` spells it, and that `2` is a text of it, wherever its parts lie in memory.
use Rattle.std.specs.Prelude.{◌≡◌, [], ◌∷◌, codes, false, Vec, refl}
use Rattle.std.proofs.Common.{arith, inl}
use Rattle.std.specs.Global.{Global}
use Rattle.definitions.specs.declared.expression.Interval.{Interval}
use Rattle.definitions.specs.declared.expression.Expression.TheVariants.{Class, Plus'}
use Rattle.definitions.specs.Patterns.{Matches}
use Rattle.definitions.specs.PatternText.{Plain}
use Rattle.definitions.specs.Spelling.{Address, Spells, SpellsAt, Atom, class, plus, one_seq, one_rep}

module _ (p : Address) (v : Vec Interval Global) (digits : v.items ≡ record { first = 48; last = 57 } ∷ []) where
  spelled_class : SpellsAt Atom 0 (Class false v) (Plain 0 91 ∷ Plain 1 48 ∷ Plain 2 45 ∷ Plain 3 57 ∷ Plain 4 93 ∷ [])
  spelled_class = class 0 false v _ (rw digits (
    refl,
    (
      Plain 1 48 ∷ Plain 2 45 ∷ Plain 3 57 ∷ [],
      Plain 4 93 ∷ [],
      refl,
      ((refl, omega arith, omega arith, omega arith), refl, (refl, omega arith, omega arith, omega arith)),
      (Plain 4 93, refl, refl),
    ),
  ))

  pub spelled : Spells (Plus' p (Class false v)) (codes "[0-9]+")
  spelled = one_seq 0 _ (one_rep 0 _ (plus 0 _ _ (Plain 5 43) refl refl spelled_class))

  two : Matches (Class false v) (50 ∷ [])
  two = (50, refl, inl (omega arith), rw digits refl)

  pub matched : Matches (Plus' p (Class false v)) (50 ∷ [])
  matched = ((50 ∷ []) ∷ [], λ e. absurd (cc e), (two, tt), refl)
