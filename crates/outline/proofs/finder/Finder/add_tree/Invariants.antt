use Rattle.outline.specs.Found.{IsFound}
use Rattle.outline.proofs.finder.Finder.add_tree.Given as goal

abbrev pub invariant-trees : goal.invariant-trees
invariant-trees l = IsFound l.fn.self.settings.now l.fn.self.doc.now.unit l.fn.self.doc.now.text l.found
