use Rattle.dfa.proofs.Std.{◌≡◌, ◌+◌, ◌++◌, length, false, sym, ap, ◌∙◌, subst, take-append-drop, length-append}
use Rattle.dfa.proofs.Common.{IsLiteralTree, count}
use Rattle.dfa.proofs.Trees.{literal_one_of, literal_parts, node}
use Rattle.dfa.proofs.tree.+literal_tree.Goals as goal

pub returns-then-characters-eq1 : goal.returns-then-characters-eq1
returns-then-characters-eq1 t c = literal_one_of c.args.characters.now c.if-characters-eq1.true

pub returns : goal.returns
returns t c =
    let all = c.args.characters.now in
    let front = c.split_at.result.0.now in
    let back = c.split_at.result.1.now in
    let a = c.in_ok-new.field-0.value in
    let b = c.in_ok-new-2.field-0.value in
    let whole : front ++ back ≡ all = (λ i. c.split_at.ensures.front i ++ c.split_at.ensures.back i) ∙ take-append-drop _ all in
    let g : IsLiteralTree front a = subst (IsLiteralTree front) (sym c.in_ok-new.ensures.ok) c.in_ok-first.ensures in
    let h : IsLiteralTree back b = subst (IsLiteralTree back) (sym c.in_ok-new-2.ensures.ok) c.in_ok-last.ensures in
    let many : length all ≡ count a + count b = ap length (sym whole) ∙ length-append front back ∙ sym (λ i. g.many i + h.many i) in
    literal_parts front back all a b _ whole g h (node false (length all) _ _ a b many g.counted h.counted)
