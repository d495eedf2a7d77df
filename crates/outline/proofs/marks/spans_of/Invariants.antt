use Rattle.std.proofs.Common.{◌≡◌, ◌≤◌, length}
use Rattle.std.specs.List.{All}
use Rattle.outline.specs.Symbols.{IsSpan}
use Rattle.outline.proofs.marks.spans_of.Given as goal

abbrev pub invariant-loop-token : goal.invariant-loop-token
invariant-loop-token l = record {
  spans : All (IsSpan l.fn.unit l.text) l.spans.items;
  text : l.places.text ≡ l.text;
  unit : l.places.unit ≡ l.fn.unit;
  offset : l.places.offset ≡ l.offset;
  within : l.offset ≤ length l.text;
}
