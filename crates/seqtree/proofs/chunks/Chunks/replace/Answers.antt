use Rattle.seqtree.proofs.Std.{arith, ap, ◌∙◌, ◌≡◌, ◌++◌, ℕ, List, length, take, drop}
use Rattle.seqtree.proofs.Common.{joined, AreFew, IsGap}
use Rattle.seqtree.proofs.Gaps.{gap_of, few_left, left}
use Rattle.seqtree.proofs.chunks.Chunks.replace.Goals as goal

gap : (g : _) (c : goal.After-replace-arg-1 g) → let joined_in = joined g.C.Chunk.items in let chunks = c.self.inside.chunks in
    IsGap g.C.Chunk.items chunks (joined_in (take c.args.from chunks) ++ g.C.Chunk.list c.args.items ++ joined_in (drop c.args.to chunks))
    c.in_ok-gap.gap.from c.in_ok-gap.gap.to (g.C.Chunk.list c.in_ok-gap.gap.items)
gap g c =
    c.in_ok-gap.ensures.same _ (gap_of g.C.Chunk.items c.self.inside.chunks c.args.from c.args.to c.min-to.result (g.C.Chunk.list c.args.items) c.requires.ordered
    (omega (arith, c.requires.in_range, ap length c.self.view_is)) (omega (arith, c.min-to.ensures, c.len.ensures)))

pub replace-requires-clause-ordered : goal.replace-requires-clause-ordered
replace-requires-clause-ordered g c = (gap g c).ordered

pub replace-requires-clause-in_range : goal.replace-requires-clause-in_range
replace-requires-clause-in_range g c = (gap g c).within

pub replace-requires-clause-fits : goal.replace-requires-clause-fits
replace-requires-clause-fits g c =
    let m = g.C.Chunk in
    let size_of : List g.row.C.Denot → ℕ = λ chunks. m.size (joined m.items (take c.args.from chunks) ++ m.list c.args.items ++ joined m.items (drop c.args.to chunks)) in
    few_left m.items m.size m.SHORTEST m.LONGEST g.met.C.Chunk.laws c.self.inside.chunks c.in_ok-cut.cut _ (m.list c.in_ok-gap.gap.items) c.in_ok-gap.gap.from
    c.in_ok-gap.gap.to c.self.invariant (gap g c) (c.in_ok-gap.ensures.room c.self.invariant) (rw c.in_ok-cut.ensures c.in_ok-cut_up.ensures)
    (omega (arith, c.requires.fits, ap size_of c.self.view_is))

made : (g : _) (c : goal.Joined-replace g) → let joined_in = joined g.C.Chunk.items in let chunks = c.self.inside.chunks in
    (joined_in c.replace.new.self ≡ joined_in (take c.args.from chunks) ++ g.C.Chunk.list c.args.items ++ joined_in (drop c.args.to chunks))
    × AreFew g.C.Chunk.items g.C.Chunk.size g.C.Chunk.SHORTEST g.C.Chunk.LONGEST c.replace.new.self
made g c =
    let m = g.C.Chunk in
    let gap = gap_of m.items c.self.inside.chunks c.args.from c.args.to c.min-to.result (m.list c.args.items) c.requires.ordered
    (omega (arith, c.requires.in_range, ap length c.self.view_is)) (omega (arith, c.min-to.ensures, c.len.ensures)) in
    left m.items m.size m.SHORTEST m.LONGEST g.met.C.Chunk.laws c.self.inside.chunks c.in_ok-cut.cut _ (m.list c.in_ok-gap.gap.items) c.in_ok-gap.gap.from
    c.in_ok-gap.gap.to c.self.invariant (c.in_ok-gap.ensures.same _ gap) (c.in_ok-gap.ensures.room c.self.invariant)
    (rw c.in_ok-cut.ensures c.in_ok-cut_up.ensures) c.replace.new.self c.replace.ensures.list

pub invariant_of-self : goal.invariant_of-self
invariant_of-self g c = (made g c).1

pub returns-clause-list : goal.returns-clause-list
returns-clause-list g c =
    (made g c).0 ∙ ap (λ chunks. joined g.C.Chunk.items (take c.args.from chunks) ++ g.C.Chunk.list c.args.items ++ joined g.C.Chunk.items (drop c.args.to chunks)) c.self.view_is
