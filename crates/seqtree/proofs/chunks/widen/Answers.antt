use Rattle.std.proofs.Common.{arith, ap, sym, ◌∙◌, ◌≡◌, ◌+◌, ◌-◌, take, option_copied}
use Rattle.seqtree.proofs.Few.{small, alone}
use Rattle.seqtree.proofs.Gaps.{filled_before, filled_after}
use Rattle.seqtree.proofs.Joined.{past_chunk}
use Rattle.seqtree.proofs.chunks.widen.Goals as goal

pub returns-then-from-gt0-clause-same : goal.returns-then-from-gt0-clause-same
returns-then-from-gt0-clause-same g c list gap =
    let at = ap option_copied (sym c.in-Some.is) ∙ c.get.ensures in
    filled_before g.C.Chunk.items c.args.chunks.now c.args.gap.from c.args.gap.to list (g.C.Chunk.list c.args.gap.items)
    (g.C.Chunk.list c.in_ok-items.items) c.in-Some.chunk.now (omega arith) at c.in_ok-items.ensures gap

pub returns-then-from-gt0-clause-room : goal.returns-then-from-gt0-clause-room
returns-then-from-gt0-clause-room g c few short =
    let m = g.C.Chunk in
    let at = ap option_copied (sym c.in-Some.is) ∙ c.get.ensures in
    let less = g.met.C.Chunk.laws.adds (m.items c.in-Some.chunk.now) (m.list c.args.gap.items) in
    alone m.items m.size m.SHORTEST c.args.chunks.now (c.args.gap.from - 1) c.in-Some.chunk.now at (omega (arith, short, ap m.size c.in_ok-items.ensures, less)) few.small c.args.gap.to
    (omega (arith, c.requires.ordered))

pub unreachable-requires-in_default-get : goal.unreachable-requires-in_default-get
unreachable-requires-in_default-get g c =
    let none = sym c.get-then-to-len.ensures ∙ ap option_copied c.in_default-get.is in
    omega (arith, past_chunk c.args.chunks.now c.args.gap.to none, c.len.ensures, c.if-to-len.true)

pub returns-then-to-len-clause-same : goal.returns-then-to-len-clause-same
returns-then-to-len-clause-same g c list gap =
    let at = ap option_copied (sym c.in-Some-get.is) ∙ c.get-then-to-len.ensures in
    filled_after g.C.Chunk.items c.args.chunks.now c.args.gap.from c.args.gap.to list (g.C.Chunk.list c.args.gap.items) (g.C.Chunk.list c.in_ok-items-2.items) c.in-Some-get.chunk.now
    (omega (arith, c.len.ensures, c.if-to-len.true)) at c.in_ok-items-2.ensures gap

pub returns-then-to-len-clause-room : goal.returns-then-to-len-clause-room
returns-then-to-len-clause-room g c few short =
    let m = g.C.Chunk in
    let at = ap option_copied (sym c.in-Some-get.is) ∙ c.get-then-to-len.ensures in
    let less = g.met.C.Chunk.laws.adds (m.list c.args.gap.items) (m.items c.in-Some-get.chunk.now) in
    let first : c.args.gap.from ≡ 0 = omega arith in
    let none = ap (λ k. small m.items m.size m.SHORTEST (take k c.args.chunks.now)) first in
    omega (
      arith,
      none,
      alone m.items m.size m.SHORTEST c.args.chunks.now c.args.gap.to c.in-Some-get.chunk.now at (omega (arith, short, ap m.size c.in_ok-items-2.ensures, less)) few.small
          (c.args.gap.to + 1) (omega arith),
    )
