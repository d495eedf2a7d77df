use Rattle.parser.proofs.StopDecides.{stacks_once}
use Rattle.parser.proofs.laws.stack_unique.Goals as goal

pub returns : goal.returns
returns c g free kinds v w one two is is_too a b = stacks_once g kinds v w one two (c.verdict_unique.ensures g free kinds v w is is_too)
    (λ ts us. c.document_trees_unique.ensures g free kinds v w ts us is is_too) a b
