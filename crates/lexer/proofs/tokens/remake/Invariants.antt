use Rattle.lexer.proofs.Std.{ℕ, ◌≡◌, ◌≤◌, ◌<◌, ◌+◌, ◌-◌, length, drop, take, false}
use Rattle.lexer.proofs.Common.{Leads, is_rejoined, characters, plain_all, prefix_end, AreMade, IsPassed, horizon}
use Rattle.lexer.proofs.tokens.remake.Given as goal

abbrev pub invariant-loop-at : goal.invariant-loop-at
invariant-loop-at g l =
    let xs = l.fn.old.items in
    let from = prefix_end l.edit xs in
    record {
      inside : l.at ≤ length (g.S.Source.text l.source);
      sum : l.at ≡ from + characters l.made.items;
      leads : Leads l.scan.patterns (drop from (g.S.Source.text l.source)) (plain_all l.made.items);
      made : AreMade l.scan.skips l.edit.number l.made.items;
      items : l.old.items ≡ xs;
      passed : IsPassed (horizon l.edit l.at) l.old;
      earlier : (k : ℕ) → k < length l.made.items → is_rejoined l.edit (plain_all xs) (from + characters (take k l.made.items)) ≡ false;
    }

abbrev pub decreases-loop-at : goal.decreases-loop-at
decreases-loop-at g l = length (g.S.Source.text l.source) - l.at
