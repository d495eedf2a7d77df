use Rattle.views.proofs.Std.{arith, ℕ, List, ap, length, map, subst, sym, ◌∙◌, dedup_is}
use Rattle.views.proofs.Common.{plain, AreAscending, AreSpanned, placed_parts, trees_of_roots}
use Rattle.views.proofs.LinesOfTokens.{lines_ascend, length-lines, length-significant}
use Rattle.views.proofs.FoldsSorted.{shown_are_folds}
use Rattle.views.proofs.foldable.folds.Goals as goal

pub foldable_lines-requires-clause-ascending : goal.foldable_lines-requires-clause-ascending
foldable_lines-requires-clause-ascending c =
    let lines = c.deref.ensures.value ∙ c.in_ok-lines.ensures c.args.grammar.now.skips c.requires.tokens.marked in
    subst AreAscending (sym lines) (lines_ascend c.args.grammar.now.skips c.args.text.now 0 (map plain c.args.tokens.now.items))

pub foldable_lines-requires-clause-covered : goal.foldable_lines-requires-clause-covered
foldable_lines-requires-clause-covered c =
    let lines = c.deref.ensures.value ∙ c.in_ok-lines.ensures c.args.grammar.now.skips c.requires.tokens.marked in
    let tokens = map plain c.args.tokens.now.items in
    omega (arith, c.requires.roots.covered, ap length lines, length-lines c.args.text.now (placed_parts c.args.grammar.now tokens), length-significant c.args.grammar.now.skips 0 tokens)

pub returns : goal.returns
returns c =
    let lines = c.deref.ensures.value ∙ c.in_ok-lines.ensures c.args.grammar.now.skips c.requires.tokens.marked in
    let trees = trees_of_roots c.args.store.now c.args.roots.now in
    let foldable_lines = subst (λ (ls : List (ℕ × ℕ)). AreSpanned c.args.grammar.now.grammar c.args.grammar.now.folds ls trees c.in_ok-pairs.pairs.items) lines c.in_ok-pairs.ensures in
    shown_are_folds c.args.grammar.now c.args.text.now (map plain c.args.tokens.now.items) trees c.in_ok-pairs.pairs.items c.sort_unstable.new.self.items
    c.dedup.new.self.items foldable_lines c.requires.roots.covered c.sort_unstable.ensures.permutation (dedup_is _ _ _ c.dedup.ensures.filtered) c.sort_unstable.ensures.sorted
