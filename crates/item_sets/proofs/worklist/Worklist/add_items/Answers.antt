use Rattle.item_sets.proofs.Std.{◌≡◌, ◌∷◌, ◌++◌, [], Some, ap, sym, arith, ◌∙◌}
use Rattle.item_sets.proofs.Common.{left_of, marked, beginning_of}
use Rattle.item_sets.proofs.Beginnings.{one_more, no_more, next_production}
use Rattle.item_sets.proofs.worklist.Worklist.add_items.Goals as goal
use Rattle.item_sets.proofs.worklist.Worklist.add_items.Goals.{then-has+in_ok-push, else-has}

pub loop-column-preserved : goal.loop-column-preserved
loop-column-preserved c =
    let g = c.args.self.now.grammar in
    let rows = c.args.self.now.rows in
    let at = c.loop-column.column in
    let p = c.args.p in
    let old = c.loop-column.items.items in
    let has : c.has.result ≡ marked rows (left_of g.grammar p) at = c.has.ensures ∙ ap (λ n. marked rows n at) (c.left-left.ensures.left ∙ ap (λ h. left_of h.grammar p) c.grammar-grammar.ensures) in
    elim c.if-has.branch [
      | then-has+in_ok-push w ↦
          let new : c.if-has.items.items ≡ old ++ beginning_of p at ∷ [] = ap (λ v. v.items) w.items-is ∙ w.in_ok-push.ensures.items
          ∙ ap (λ n. old ++ record { production = Some n; at = 0; look = w.lookahead_at.result } ∷ []) c.p.view_is
          ∙ ap (λ a. old ++ record { production = Some p; at = 0; look = a } ∷ []) w.lookahead_at.ensures in
          rw new (λ kernel h. one_more g kernel rows p at old (c.loop-column.invariant kernel h) c.requires (sym has ∙ w.if-has.true))
      | else-has w ↦ rw w.items-is (λ kernel h. no_more g kernel rows p at old (c.loop-column.invariant kernel h) (sym has ∙ w.if-has.false))
    ]

pub returns : goal.returns
returns c = λ kernel h.
    let width = c.lookaheads-column-end.ensures.count in
    let grammar = ap (λ g. g.grammar.rules) c.grammar-grammar.ensures in
    let last = c.loop-column-test.false in
    next_production c.args.self.now.grammar kernel c.args.self.now.rows c.args.p c.loop-column.column c.loop-column.items.items
    (c.loop-column.invariant kernel h) (λ j l w m. omega (arith, l, w, width, grammar, last))
