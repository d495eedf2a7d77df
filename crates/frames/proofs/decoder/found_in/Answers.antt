use Rattle.frames.proofs.Std.{List, sym, subst, refl, arith}
use Rattle.frames.proofs.Common.{Frame, contents, Open, Splits}
use Rattle.frames.proofs.KeptBytes.{few_begin, more_begin}
use Rattle.frames.proofs.decoder.found_in.Goals as goal

pub returns-then-bytes-awaited-clause-split : goal.returns-then-bytes-awaited-clause-split
returns-then-bytes-awaited-clause-split c =
    subst (λ (frames : List Frame). Splits c.args.bytes.now (contents frames) (Open c.args.bytes.now)) (sym c.new.ensures.items)
    (few_begin c.args.bytes.now c.args.awaited c.requires.waits c.if-bytes-awaited.true)

pub returns-then-bytes-awaited-clause-kept : goal.returns-then-bytes-awaited-clause-kept
returns-then-bytes-awaited-clause-kept c = record {
  tail = few_begin c.args.bytes.now c.args.awaited c.requires.waits c.if-bytes-awaited.true;
  waits = c.requires.waits;
  within = c.requires.within;
  holds = c.requires.holds;
}

pub returns-then-needs_more-clause-split : goal.returns-then-needs_more-clause-split
returns-then-needs_more-clause-split c =
    subst (λ (frames : List Frame). Splits c.args.bytes.now (contents frames) (Open c.args.bytes.now)) (sym c.new-then-needs_more.ensures.items)
    (more_begin c.args.bytes.now (c.if-needs_more.ensures.start.0 refl))

pub returns-then-needs_more-clause-kept : goal.returns-then-needs_more-clause-kept
returns-then-needs_more-clause-kept c = record {
  tail = more_begin c.args.bytes.now (c.if-needs_more.ensures.start.0 refl);
  waits = c.requires.waits;
  within = omega arith;
  holds = c.if-needs_more.ensures.holds refl;
}
