use Rattle.grammar.proofs.Std.{◌≡◌, true, false, length, slice_index_or}
use Rattle.grammar.proofs.Common.{AreOnlyUsed}
use Rattle.grammar.proofs.NonterminalMarks.{unmarked}
use Rattle.grammar.proofs.used.mark_used.Given as goal

abbrev pub invariant-loop-nonterminal : goal.invariant-loop-nonterminal
invariant-loop-nonterminal l = (length l.marks.items ≡ l.nonterminals) × (slice_index_or l.marks.items l.start false ≡ true) × AreOnlyUsed l.start l.productions l.marks.items

abbrev pub decreases-loop-nonterminal : goal.decreases-loop-nonterminal
decreases-loop-nonterminal l = unmarked l.marks.items
