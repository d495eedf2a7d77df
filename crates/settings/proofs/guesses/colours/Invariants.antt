use Rattle.std.proofs.Common.{◌≡◌, All, vec_len}
use Rattle.settings.specs.Settings.{IsColour}
use Rattle.settings.proofs.guesses.colours.Given as goal

abbrev pub invariant-loop-rule : goal.invariant-loop-rule
invariant-loop-rule l = record { len : vec_len l.colours ≡ l.rule; types : All IsColour l.colours.items }
