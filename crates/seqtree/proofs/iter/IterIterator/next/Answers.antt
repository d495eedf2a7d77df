use Rattle.seqtree.proofs.Std.{◌≡◌, ◌∷◌, length, ap, sym, ◌∙◌, arith}
use Rattle.seqtree.proofs.Common.{items_ahead}
use Rattle.seqtree.proofs.Parts.{items_ahead-push, AreParts-below, AreParts-top}
use Rattle.seqtree.proofs.iter.IterIterator.next.Goals as goal

pub first_of-requires : goal.first_of-requires
first_of-requires g c =
    let held = c.self.invariant in
    let all = rw c.in_ok-part.ensures.some at held in
    (omega arith, (AreParts-below 0 _ _ all, AreParts-top 0 _ _ _ (omega arith) all))

left : (g : _) (c : goal.After-first_of g) → c.args.self.now ≡ c.first_of.result.now ∷ items_ahead c.first_of.new.parts
left g c = sym c.self.view_is ∙ (ap items_ahead c.in_ok-part.ensures.some ∙ (items_ahead-push c.pop.new.self c.in_ok-part.part ∙ c.first_of.ensures.items))

pub returns-clause-steps : goal.returns-clause-steps
returns-clause-steps g c = left g c

pub returns-clause-goes : goal.returns-clause-goes
returns-clause-goes g c = let fewer = ap length (left g c) in record { on = λ _. (tt, tt, omega (arith, fewer)); keeps = tt; rests = λ _. tt }
