use Rattle.outline.specs.Found.{IsFound}
use Rattle.outline.proofs.finder.Finder.all.Given as goal

abbrev pub invariant-loop-at : goal.invariant-loop-at
invariant-loop-at l = IsFound l.fn.self.settings.now l.fn.self.doc.now.unit l.fn.self.doc.now.text l.found
