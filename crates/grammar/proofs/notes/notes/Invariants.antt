use Rattle.grammar.proofs.Std.{◌≡◌, take}
use Rattle.grammar.proofs.Common.{FileGrammar, AreNotes, AreUsed}
use Rattle.grammar.proofs.notes.notes.Given as goal

abbrev pub invariant-loop-symbol : goal.invariant-loop-symbol
invariant-loop-symbol l =
    (f : FileGrammar) → f.skips ≡ l.skips → f.grammar.productions ≡ l.productions → AreUsed f.grammar.start l.productions l.marks → AreNotes f (take l.symbol-index l.defined) l.notes.items
