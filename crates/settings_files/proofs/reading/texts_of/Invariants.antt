use Rattle.std.proofs.Common.{◌≡◌, length, vec_len}
use Rattle.settings_files.proofs.reading.texts_of.Given as goal

abbrev pub invariant-loop-key : goal.invariant-loop-key
invariant-loop-key l = vec_len l.texts ≡ length l.grammar.names
