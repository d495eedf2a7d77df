use Rattle.dfa.proofs.Std.{◌∙◌, searched}
use Rattle.dfa.proofs.MarkedSets.{found_marked}
use Rattle.dfa.proofs.Sets.{rises_ascending}
use Rattle.dfa.proofs.tree.has.Goals as goal

pub returns : goal.returns
returns c =
    let set = c.args.set.now in
    c.is_ok.ensures.value ∙ found_marked set c.args.p c.binary_search.result (searched set c.args.p c.binary_search.result c.binary_search.ensures.position (rises_ascending 0 set c.requires))
