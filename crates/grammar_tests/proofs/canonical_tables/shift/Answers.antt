use Rattle.std.proofs.Common.{◌++◌, ◌∷◌, ◌∙◌, [], Some, ap, refl}
use Rattle.definitions.specs.declared.Symbol.TheVariants.{Rule as Terminal}
use Rattle.grammar_tests.proofs.canonical_tables.shift.Goals as goal

pub returns : goal.returns
returns g c = (
  c.requires.0 ++ (Terminal c.args.rule ∷ []),
  c.action.ensures.shifts c.requires.0 c.args.rule c.in-Some-Shift.to c.requires.1 refl
      (c.in-Some-Shift.is ∙ ap (λ m. Some m) c.in-Some-Shift.field-0-is),
)
