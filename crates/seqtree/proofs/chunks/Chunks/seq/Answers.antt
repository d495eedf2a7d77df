use Rattle.std.proofs.Common.{arith}
use Rattle.seqtree.proofs.Few.{few, enough}
use Rattle.seqtree.proofs.chunks.Chunks.seq.Goals as goal

pub returns-clause-few : goal.returns-clause-few
returns-clause-few g c =
    let m = g.C.Chunk in
    rw (← c.self.view_is) (few m.items m.size m.SHORTEST m.LONGEST g.met.C.Chunk.laws m.SHORTEST (omega arith) c.self.inside.chunks c.self.invariant.small)

pub returns-clause-enough : goal.returns-clause-enough
returns-clause-enough g c =
    let m = g.C.Chunk in
    rw (← c.self.view_is) (enough m.items m.size m.SHORTEST m.LONGEST g.met.C.Chunk.laws c.self.inside.chunks c.self.invariant.short)
