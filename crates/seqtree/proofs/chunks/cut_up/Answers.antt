use Rattle.seqtree.proofs.Std.{◌∷◌, ◌++◌, ◌≡◌, [], reverse, ap, sym, ◌∙◌, arith, reverse-append}
use Rattle.std.proofs.Common.{append_assoc}
use Rattle.seqtree.proofs.Cutting.{none_cut, one_more}
use Rattle.seqtree.proofs.chunks.cut_up.Goals as goal

pub loop-left-preserved : goal.loop-left-preserved
loop-left-preserved g c front cut =
    let m = g.C.Chunk in
    let chunk = c.in_ok-cut_off.field-0 in
    let chunks = c.loop-left.chunks.items in
    let size = c.size-in-loop-left.ensures in
    let most = c.last_size-most.ensures in
    let after : front ++ reverse c.push.new.self.items ≡ (front ++ chunk ∷ []) ++ reverse chunks = ap (λ xs. front ++ reverse xs) c.in_ok-push.ensures.items
    ∙ ap (λ xs. front ++ xs) (reverse-append chunks (chunk ∷ [])) ∙ sym (append_assoc front (chunk ∷ []) (reverse chunks)) in
    rw after (c.loop-left.invariant (front ++ chunk ∷ [])
    (one_more m.items m.size m.SHORTEST m.LONGEST g.met.C.Chunk.laws (m.list c.loop-left.left) (m.list c.cut_off.new.whole) c.last_size-most.result chunk c.in_ok-cut_off.ensures
    most.some most.fits (omega (arith, most.within, size)) (λ h. most.all (omega (arith, h, size)) ∙ size) (λ h. omega (arith, most.left (omega (arith, h, size)), size)) front cut))

pub returns : goal.returns
returns g c =
    let m = g.C.Chunk in
    rw c.reverse.ensures.items (c.loop-left.invariant []
    (none_cut m.items m.size m.SHORTEST m.LONGEST g.met.C.Chunk.laws (m.list c.loop-left.left) (omega (arith, c.size.ensures, c.loop-left-test.false))))
