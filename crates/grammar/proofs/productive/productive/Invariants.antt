use Rattle.grammar.proofs.Std.{◌≡◌, length}
use Rattle.grammar.proofs.Common.{AreSound}
use Rattle.grammar.proofs.NonterminalMarks.{unmarked}
use Rattle.grammar.proofs.productive.productive.Given as goal

abbrev pub invariant-loop-nonterminal : goal.invariant-loop-nonterminal
invariant-loop-nonterminal l = (length l.marks.items ≡ l.nonterminals) × AreSound l.productions l.marks.items

abbrev pub decreases-loop-nonterminal : goal.decreases-loop-nonterminal
decreases-loop-nonterminal l = unmarked l.marks.items
