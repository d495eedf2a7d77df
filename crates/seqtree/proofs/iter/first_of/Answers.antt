use Rattle.seqtree.proofs.Std.{◌≡◌, ◌∷◌, ◌++◌, length, ◌+◌, ◌-◌, [], ap, sym, ◌∙◌, arith, length-append}
use Rattle.seqtree.proofs.Common.{items_of, height_of, items_ahead}
use Rattle.seqtree.proofs.Parts.{items_ahead-push, AreParts-push, length_around, drop-to_root, drop-in_left, drop-in_right, no_item}
use Rattle.seqtree.proofs.iter.first_of.Goals as goal
use Rattle.seqtree.proofs.iter.first_of.Goals.{then-before-count, else-before-count}

pub returns-then-skipped-before-clause-items : goal.returns-then-skipped-before-clause-items
returns-then-skipped-before-clause-items g c =
    let is : items_of c.loop-below.below.now ≡ items_of c.node.inside.left ++ c.node.inside.item ∷ items_of c.node.inside.right =
    ap items_of c.in-Some.is ∙ sym (ap (λ d. d.0) (c.node.view_is ∙ c.deref-node.ensures)) in
    let count = length_around _ _ _ _ is in
    let parts = c.loop-below.parts in
    let rest : items_ahead c.if-before-count.parts ≡ items_of c.node.inside.right ++ items_ahead parts = elim c.if-before-count.branch [
      | then-before-count w ↦ ap items_ahead w.parts-is ∙ (ap items_ahead w.push.ensures ∙ items_ahead-push parts _)
      | else-before-count w ↦
          let none = no_item (items_of c.node.inside.right) (omega (arith, count, w.if-before-count.false, c.count.ensures.len, c.count-before.ensures.len)) in
          rw (w.parts-is, none)
    ] in
    let root = drop-to_root _ _ _ _ is c.loop-below.skipped (cc) in
    sym c.loop-below.invariant.left ∙ rw (root, rest)

pub returns-then-skipped-before-clause-parts : goal.returns-then-skipped-before-clause-parts
returns-then-skipped-before-clause-parts g c =
    let is : items_of c.loop-below.below.now ≡ items_of c.node.inside.left ++ c.node.inside.item ∷ items_of c.node.inside.right =
    ap items_of c.in-Some.is ∙ sym (ap (λ d. d.0) (c.node.view_is ∙ c.deref-node.ensures)) in
    let tall : height_of c.loop-below.below.now ≡ c.node.inside.tall = ap height_of c.in-Some.is ∙ sym (ap (λ d. d.1) (c.node.view_is ∙ c.deref-node.ensures)) in
    let count = length_around _ _ _ _ is in
    let all = c.loop-below.invariant in
    elim c.if-before-count.branch [
      | then-before-count w ↦ rw (w.parts-is, w.push.ensures) (AreParts-push 0 (length c.loop-below.parts) c.loop-below.parts _ (omega arith) all.parts (record {
        has_item = omega (arith, count, w.if-before-count.true, c.count.ensures.len, c.count-before.ensures.len);
        room = omega (arith, all.room, tall, c.node.invariant.tall_is);
      }))
      | else-before-count w ↦ rw w.parts-is all.parts
    ]

pub loop-below-preserved-then-skipped-before-2 : goal.loop-below-preserved-then-skipped-before-2
loop-below-preserved-then-skipped-before-2 g c =
    let is : items_of c.loop-below.below.now ≡ items_of c.node.inside.left ++ c.node.inside.item ∷ items_of c.node.inside.right =
    ap items_of c.in-Some.is ∙ sym (ap (λ d. d.0) (c.node.view_is ∙ c.deref-node.ensures)) in
    let tall : height_of c.loop-below.below.now ≡ c.node.inside.tall = ap height_of c.in-Some.is ∙ sym (ap (λ d. d.1) (c.node.view_is ∙ c.deref-node.ensures)) in
    let count = length_around _ _ _ _ is in
    let all = c.loop-below.invariant in
    let parts = c.loop-below.parts in
    let under = c.if-skipped-before-2.true in
    let before = c.count-before.ensures.len in
    let pushed = c.push-then-skipped-before-2.ensures in
    let left = drop-in_left _ _ _ _ is c.loop-below.skipped c.count-before.result (items_ahead parts) under before in
    record {
      parts = rw pushed (AreParts-push 0 (length parts) parts _ (omega arith) all.parts (record { has_item = omega (arith, count, before); room = all.room }));
      has_item = omega (arith, under, before);
      room = omega (arith, all.room, tall, c.node.invariant.tall_is, ap length pushed, length-append parts (record { tree = c.loop-below.below; skipped = c.count-before.result } ∷ []));
      left = rw (pushed, items_ahead-push, left) all.left;
    }

pub loop-below-preserved : goal.loop-below-preserved
loop-below-preserved g c =
    let is : items_of c.loop-below.below.now ≡ items_of c.node.inside.left ++ c.node.inside.item ∷ items_of c.node.inside.right =
    ap items_of c.in-Some.is ∙ sym (ap (λ d. d.0) (c.node.view_is ∙ c.deref-node.ensures)) in
    let tall : height_of c.loop-below.below.now ≡ c.node.inside.tall = ap height_of c.in-Some.is ∙ sym (ap (λ d. d.1) (c.node.view_is ∙ c.deref-node.ensures)) in
    let count = length_around _ _ _ _ is in
    let all = c.loop-below.invariant in
    let before = c.count-before.ensures.len in
    let right = drop-in_right _ _ _ _ is c.loop-below.skipped (c.loop-below.skipped - (c.count-before.result + 1)) (omega (arith, before, c.if-skipped-before.false, c.if-skipped-before-2.false)) in
    record {
      parts = all.parts;
      has_item = omega (arith, count, all.has_item, before, c.if-skipped-before.false, c.if-skipped-before-2.false);
      room = omega (arith, all.room, tall, c.node.invariant.tall_is);
      left = rw (← right) all.left;
    }
