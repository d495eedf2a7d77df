use Rattle.std.specs.List.{All}
use Rattle.outline.specs.Symbols.{IsSpan}
use Rattle.outline.proofs.marks.mended_spans.Given as goal

abbrev pub invariant-loop-origin : goal.invariant-loop-origin
invariant-loop-origin l = record {
  mended : All (IsSpan l.doc.unit l.doc.text) l.mended.items;
  last : IsSpan l.doc.unit l.doc.text l.last;
}
