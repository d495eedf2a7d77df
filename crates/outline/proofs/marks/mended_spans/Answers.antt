use Rattle.std.proofs.Common.{subst, sym}
use Rattle.std.specs.List.{All}
use Rattle.std.proofs.lemmas.List.Elements.{All-push}
use Rattle.outline.specs.Symbols.{IsSpan}
use Rattle.outline.proofs.marks.mended_spans.Goals as goal

pub loop-origin-preserved : goal.loop-origin-preserved
loop-origin-preserved c =
    let Is = IsSpan c.args.doc.now.unit c.args.doc.now.text in
    let span = c.span_from-span.result in
    let is = c.span_from-span.ensures in
    record {
      mended = subst (All Is) (sym c.in_ok-push.ensures.items) (All-push Is c.loop-origin.mended.items span c.loop-origin.invariant.mended is);
      last = record { start = is.end; end = is.end };
    }
