use Rattle.dfa.proofs.Std.{arith}
use Rattle.dfa.proofs.Common.{members}
use Rattle.dfa.proofs.Numbered.{placed, numbered_key, placed_bound}
use Rattle.dfa.proofs.states.number.Goals as goal

pub returns-then-number-lt-MOST_STATES-clause-placed : goal.returns-then-number-lt-MOST_STATES-clause-placed
returns-then-number-lt-MOST_STATES-clause-placed c = placed c.args.sets.now.keys c.insert_full.new.self.keys c.args.set c.in-Ok.ensures.keys

pub returns-then-number-lt-MOST_STATES-clause-number : goal.returns-then-number-lt-MOST_STATES-clause-number
returns-then-number-lt-MOST_STATES-clause-number c = (numbered_key c.insert_full.new.self.keys c.in-Ok.number c.args.set c.in-Ok.ensures.stored, omega arith)

pub returns-then-number-lt-MOST_STATES-clause-bound : goal.returns-then-number-lt-MOST_STATES-clause-bound
returns-then-number-lt-MOST_STATES-clause-bound c = λ le.
    let p = placed c.args.sets.now.keys c.insert_full.new.self.keys c.args.set c.in-Ok.ensures.keys in
    let n = numbered_key c.insert_full.new.self.keys c.in-Ok.number c.args.set c.in-Ok.ensures.stored in
    placed_bound (members c.args.sets.now.keys) (members c.insert_full.new.self.keys) c.args.set.items c.in-Ok.number 4096 p n (omega arith) le

pub returns-else-number-lt-MOST_STATES-clause-placed : goal.returns-else-number-lt-MOST_STATES-clause-placed
returns-else-number-lt-MOST_STATES-clause-placed c = placed c.args.sets.now.keys c.insert_full.new.self.keys c.args.set c.in-Ok.ensures.keys
