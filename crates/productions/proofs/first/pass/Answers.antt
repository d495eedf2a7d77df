use Rattle.productions.proofs.Std.{rules, ◌≡◌, ◌<◌, ◌≤◌, true, false, length, slice_index_or, slice_set, arith, ap, sym, ◌∙◌, subst, length-set}
use Rattle.productions.proofs.Common.{holds_by, left_of, right_of}
use Rattle.productions.proofs.Numbers.{has_production, production_below}
use Rattle.productions.proofs.Fixpoint.{true_more, unmarked_less, closed_more}
use Rattle.productions.proofs.first.pass.Goals as goal
use Rattle.productions.proofs.first.pass.Goals.{then-not-has+then-holds, then-not-has+else-holds, else-not-has}

pub loop-index-preserved : goal.loop-index-preserved
loop-index-preserved c =
    let g = c.args.productions.now.grammar in
    let p = c.loop-index.index in
    let i = c.loop-index.invariant in
    let lt : p < length g.productions = search rules in
    let h = has_production g p lt in
    let left : c.left-left.result ≡ left_of g p = c.left-left.ensures in
    elim c.if-not-has.branch [
      | then-not-has+then-holds w ↦
          let e : w.mark.new.self ≡ slice_set c.loop-index.marks (left_of g p) true = w.mark.ensures ∙ ap (λ n. slice_set c.loop-index.marks n true) left in
          let n : left_of g p < length c.loop-index.marks = subst (λ k. left_of g p < k) (sym i.wide) (c.requires.sound.left p (left_of g p) (right_of g p) h) in
          let off : slice_index_or c.loop-index.marks (left_of g p) false ≡ false = cc (c.has.ensures, w.if-not-has.true, left) in
          let on : holds_by c.args.look c.args.nullable.now c.loop-index.marks (right_of g p) ≡ true = cc (w.holds.ensures, w.if-holds.true, w.right.ensures) in
          let less = unmarked_less c.loop-index.marks (left_of g p) n off in
          let most = i.at_most in
          rw (w.marks-is, w.changed-is, e) (record {
            wide = length-set c.loop-index.marks (left_of g p) true ∙ i.wide;
            held = true_more g c.args.look c.args.nullable.now c.loop-index.marks p (left_of g p) (right_of g p) c.requires.are_nullable i.held h on;
            closed = λ f. absurd (cc f);
            at_most = omega (arith, less, most);
            fewer = λ _. omega (arith, less, most);
          })
      | then-not-has+else-holds w ↦
          let off : holds_by c.args.look c.args.nullable.now c.loop-index.marks (right_of g p) ≡ false = cc (w.holds.ensures, w.if-holds.false, w.right.ensures) in
          rw (w.marks-is, w.changed-is) (record {
            wide = i.wide;
            held = i.held;
            closed = λ f. closed_more g c.args.look c.args.nullable.now c.loop-index.marks p (i.closed f) (λ e. absurd (cc (e, off)));
            at_most = i.at_most;
            fewer = i.fewer;
          })
      | else-not-has w ↦
          let on : slice_index_or c.loop-index.marks (left_of g p) false ≡ true = cc (c.has.ensures, w.if-not-has.false, left) in
          rw (w.marks-is, w.changed-is) (record {
            wide = i.wide;
            held = i.held;
            closed = λ f. closed_more g c.args.look c.args.nullable.now c.loop-index.marks p (i.closed f) (λ e. on);
            at_most = i.at_most;
            fewer = i.fewer;
          })
    ]

pub returns-clause-closed : goal.returns-clause-closed
returns-clause-closed c = λ f p n right h e.
    let below = production_below c.args.productions.now.grammar p n right h in
    let all : length c.args.productions.now.grammar.productions ≤ c.loop-index.index = search rules in
    c.loop-index.invariant.closed f p n right (omega (arith, below, all)) h e
