use Rattle.item_sets.proofs.Std.{rules, ◌≡◌, ℕ, ◌↔◌, on_ok_weaker}
use Rattle.item_sets.proofs.Common.{MayFollow, lookahead_at}
use Rattle.item_sets.proofs.worklist.Worklist.insert_before.Goals as goal

pub returns-in-Some : goal.returns-in-Some
returns-in-Some c =
    let g = c.args.self.now.grammar.grammar in
    let is : (k : ℕ) → MayFollow g c.args.after.now c.args.lookahead (lookahead_at k) ↔ (lookahead_at k ≡ c.in-Some.only) = λ k. c.in-Some.ensures g (lookahead_at k) in
    on_ok_weaker c.insert_with.result (λ e. search (rules, is, e)) c.insert_with.ensures
