use Rattle.views.proofs.Std.{◌≡◌, slice_index, sym, ◌∙◌, ap, arith, [], get_or-map, get_or_past, chars-nil}
use Rattle.views.proofs.Common.{Production, left_of, FileGrammar, lefts}
use Rattle.views.proofs.tree.name_of.Goals as goal
use Rattle.views.proofs.tree.name_of.Goals.{then-production-productions, else-production-productions}

pub returns-else-nonterminal-nonterminals : goal.returns-else-nonterminal-nonterminals
returns-else-nonterminal-nonterminals c =
    let f : FileGrammar = c.args.grammar.now in
    let none : Production = record { left = 0; right = [] } in
    let left : slice_index (lefts f) c.args.production ≡ left_of f.grammar c.args.production = get_or-map (λ p. p.left) f.grammar.productions c.args.production none in
    let same : c.if-production-productions.nonterminal ≡ slice_index (lefts f) c.args.production = elim c.if-production-productions.branch [
      | then-production-productions w ↦ w.nonterminal-is ∙ w.left-nonterminal.ensures ∙ sym left
      | else-production-productions w ↦ w.nonterminal-is ∙ sym (left ∙ ap (λ p. p.left) (get_or_past f.grammar.productions c.args.production none (omega (arith, w.if-production-productions.false))))
    ] in
    chars-nil ∙ sym (get_or_past f.nonterminals (slice_index (lefts f) c.args.production) [] (omega (arith, same)))
