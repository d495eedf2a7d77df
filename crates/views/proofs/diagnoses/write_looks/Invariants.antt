use Rattle.views.proofs.Std.{shadow, Utf8, ◌++◌, string_bytes}
use Rattle.views.proofs.Common.{listed}
use Rattle.std.specs.Str.{chars}
use Rattle.views.proofs.FaultDiagnostic.{IsListing, names_of}
use Rattle.views.proofs.diagnoses.write_looks.Given as goal

-- the whole is what stood there and the names of all looks
abbrev pub invariant-loop-look : goal.invariant-loop-look
invariant-loop-look l = record {
  text : shadow (Utf8 l.separator);
  listing : IsListing l.grammar.names (chars (string_bytes l.fn.reported) ++ listed (names_of l.grammar.names l.fn.looks)) (string_bytes l.reported) l.separator l.look-iterator;
}
