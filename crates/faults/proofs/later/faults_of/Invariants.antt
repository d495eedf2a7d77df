use Rattle.std.proofs.Common.{◌≡◌, length, map, take}
use Rattle.definitions.specs.Answers.{range_of}
use Rattle.docs.specs.Docs.{IsCurrent}
use Rattle.docs.specs.Languages.{LanguageData}
use Rattle.lexer.specs.Tokens.{plain}
use Rattle.readings.specs.Contents.{placed_parts}
use Rattle.faults.specs.Places.{AreInText, span_of_fault}
use Rattle.faults.proofs.later.faults_of.Given as goal

abbrev pub invariant-loop-repair : goal.invariant-loop-repair
invariant-loop-repair l = record {
  ranges : (language : LanguageData) → IsCurrent language l.doc
      → map (λ f. f.range) l.faults.items
      ≡ map (λ r. range_of l.doc.unit l.doc.text (span_of_fault l.doc.text (placed_parts language.file (map plain l.doc.tokens.items)) r)) (take l.repair-index l.later);
  places : AreInText l.doc.unit l.doc.text l.faults.items;
  count : length l.faults.items ≡ l.repair-index;
}
