use Rattle.dfa.proofs.Std.{rules, of_calls, arith, sym, ℕ, nat_le, always_returns_same, prefix_len_is}
use Rattle.dfa.proofs.Numbers.{le_trans_test}
use Rattle.dfa.proofs.alphabet.part_of.Goals as goal

pub returns : goal.returns
returns c =
    let xs = c.args.starts.now in
    let p = λ (x : ℕ). nat_le x c.args.c in
    let point = c.partition_point.ensures.partitioned p (always_returns_same _ _ _ (λ a r f k. search (rules, of_calls))) (le_trans_test xs c.args.c c.requires) in
    sym (prefix_len_is p xs c.partition_point.result 0 c.partition_point.ensures.bound (λ k l. point.0 k 0 (omega arith) l) (λ l. point.1 c.partition_point.result 0 (omega arith) l))
