-- What a text comes to.
use Rattle.std.specs.Prelude.{◌≡◌, ℕ, List, Some, string_bytes}
use Rattle.definitions.specs.declared.Unit.{Unit as Encoding}
use Rattle.definitions.specs.Answers.{Diagnostic}
use Rattle.grammar.specs.Grammars.{FileGrammar}
use Rattle.readings.specs.Answers.{IsReported, Reads, written_tree}
use Rattle.readings.specs.Diagnostics.{IsDiagnosis}
use Rattle.docs.specs.declared.doc.Outcome.{Outcome}
use Rattle.docs.specs.declared.doc.Outcome.TheVariants as comes

-- `IsOutcome encoding file text outcome`: what a text comes to: the text of its tree, or its fault
abbrev pub IsOutcome : Encoding → FileGrammar → List ℕ → Outcome → Type 0
IsOutcome encoding file text (comes.Tree reported) =
    Reads file text (λ reading. Some (string_bytes reported) ≡ written_tree file reading.verdict)
IsOutcome encoding file text (comes.Fault reported) =
    Reads file text (λ reading.
    (fault : Diagnostic) × IsDiagnosis encoding file text reading.tokens reading.verdict (Some fault)
    × IsReported (Some reported) (Some fault))
