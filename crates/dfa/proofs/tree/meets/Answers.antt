use Rattle.dfa.proofs.Std.{Ok, Err, searched}
use Rattle.dfa.proofs.MarkedSets.{meets_found, meets_next, meets_none}
use Rattle.dfa.proofs.Sets.{rises_ascending}
use Rattle.dfa.proofs.tree.meets.Goals as goal

pub returns-in-Ok : goal.returns-in-Ok
returns-in-Ok c =
    let set = c.args.set.now in
    let s = searched set c.args.from (Ok c.in-Ok.field-0) c.in-Ok.ensures.position (rises_ascending 0 set c.requires.rises) in
    meets_found set c.args.from c.args.count c.in-Ok.field-0 s.0 s.1

pub returns-then-next-set : goal.returns-then-next-set
returns-then-next-set c =
    let set = c.args.set.now in
    let up = rises_ascending 0 set c.requires.rises in
    let s = searched set c.args.from (Err c.in-Err.next) c.in-Err.ensures.position up in
    meets_next set c.args.from c.args.count c.in-Err.next up c.if-next-set.true s.1 s.2

pub returns-else-next-set : goal.returns-else-next-set
returns-else-next-set c =
    let set = c.args.set.now in
    let s = searched set c.args.from (Err c.in-Err.next) c.in-Err.ensures.position (rises_ascending 0 set c.requires.rises) in
    meets_none set c.args.from c.args.count c.in-Err.next c.if-next-set.false s.1
