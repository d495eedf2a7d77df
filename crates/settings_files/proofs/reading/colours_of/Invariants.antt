use Rattle.std.proofs.Common.{◌≡◌, All, length, vec_len}
use Rattle.settings.specs.Settings.{IsColour}
use Rattle.settings_files.proofs.reading.colours_of.Given as goal

abbrev pub invariant-loop-key : goal.invariant-loop-key
invariant-loop-key l = record { len : vec_len l.colours ≡ length l.grammar.names; types : All IsColour l.colours.items }
