use Rattle.docs.proofs.Std.{map, take}
use Rattle.docs.proofs.Common.{trees_of_roots, AreSelections, IsCurrent, LanguageData}
use Rattle.docs.proofs.StoredReading.{reading_of}
use Rattle.docs.proofs.doc.Doc.selections.Given as goal

-- what was found around the positions so far, in the trees of the stack
abbrev pub invariant-loop-position : goal.invariant-loop-position
invariant-loop-position l =
    let reading = reading_of l.self (trees_of_roots l.self.store l.self.parse.stack) in
    (language : LanguageData) → IsCurrent language l.self
    → AreSelections l.self.unit language.file l.self.text reading (take l.position-index l.positions) (map (λ s. s.items) l.selections.items)
