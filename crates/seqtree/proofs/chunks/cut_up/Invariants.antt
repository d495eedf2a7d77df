use Rattle.seqtree.proofs.Std.{◌++◌, List, reverse}
use Rattle.seqtree.proofs.Common.{AreCut}
use Rattle.seqtree.proofs.chunks.cut_up.Given as goal

-- whatever what is left is cut into, with the chunks so far after it
abbrev pub invariant-loop-left : goal.invariant-loop-left
invariant-loop-left g l = (front : List g.row.C.Denot) → AreCut g.C.Chunk.items g.C.Chunk.size g.C.Chunk.SHORTEST g.C.Chunk.LONGEST (g.C.Chunk.list l.left) front
    → AreCut g.C.Chunk.items g.C.Chunk.size g.C.Chunk.SHORTEST g.C.Chunk.LONGEST (g.C.Chunk.list l.fn.items) (front ++ reverse l.chunks.items)

abbrev pub decreases-loop-left : goal.decreases-loop-left
decreases-loop-left g l = g.C.Chunk.size (g.C.Chunk.list l.left)
