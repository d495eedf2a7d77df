use Rattle.views.proofs.Std.{arith, ◌≡◌, ◌+◌, ◌∷◌, ◌++◌, [], length, subst, subst₂, sym, ap, ◌∙◌, refl}
use Rattle.views.proofs.Common.{IsBelow, Siblings}
use Rattle.views.proofs.WalkGathersFolds.{IsWalking, walking_none, walked, walking_end, walking_end-smaller, count_within, walking_token, walking_line, walking_past-smaller, child_below, production_within, walking_into, walking_into-smaller}
use Rattle.views.proofs.foldable.foldable_lines.Goals as goal

pub loop-children-init : goal.loop-children-init
loop-children-init c =
    let first : Siblings = record { children = c.of.result; from = 0 } in
    let items : c.push.new.self.items ≡ first ∷ [] = c.in_ok-push.ensures.items ∙ ap (λ l. l ++ first ∷ []) c.new-open.ensures.items in
    subst₂ (IsWalking c.args.grammar.now c.args.lines.now c.args.store.now c.args.roots.now) (sym items) (sym c.new-pairs.ensures.items)
    (walking_none _ _ _ _ first c.of.ensures refl c.requires.below c.requires.trees c.requires.covered (omega arith))

pub loop-children-smaller-in_default-next : goal.loop-children-smaller-in_default-next
loop-children-smaller-in_default-next c =
    walking_end-smaller _ _ _ _ _ _ _ _ c.loop-children.invariant c.in-Some.ensures.items

pub loop-children-preserved-in_default-next : goal.loop-children-preserved-in_default-next
loop-children-preserved-in_default-next c =
    walking_end _ _ _ _ _ _ _ _ c.loop-children.invariant c.in-Some.ensures.items c.in_default-next.ensures.steps.0

pub overflow_add-to : goal.overflow_add-to
overflow_add-to c =
    let rest : Siblings = record { children = c.next.new.self; from = 0 } in
    let within = count_within _ _ _ _ _ _ _ _ c.loop-children.invariant c.in-Some.ensures.items _ rest c.in-Some-next.ensures.steps _ c.tokens_of.ensures in
    omega (arith, within, c.loop-children.invariant.few)

pub loop-children-smaller-in_default-child : goal.loop-children-smaller-in_default-child
loop-children-smaller-in_default-child c =
    let rest : Siblings = record { children = c.next.new.self; from = c.in-Some.field-0.from + c.tokens_of.result } in
    walking_past-smaller _ _ _ _ _ _ _ _ c.loop-children.invariant c.in-Some.ensures.items _ rest c.in-Some-next.ensures.steps _ c.tokens_of.ensures refl _ c.in_ok-push-2.ensures.items

pub loop-children-preserved-in_default-child : goal.loop-children-preserved-in_default-child
loop-children-preserved-in_default-child c =
    let rest : Siblings = record { children = c.next.new.self; from = c.in-Some.field-0.from + c.tokens_of.result } in
    walking_token _ _ _ _ _ _ _ _ c.loop-children.invariant c.in-Some.ensures.items _ rest c.in-Some-next.ensures.steps _
    c.tokens_of.ensures refl _ c.in_ok-push-2.ensures.items _ c.in_default-child.is

pub span-requires : goal.span-requires
span-requires c =
    let rest : Siblings = record { children = c.next.new.self; from = 0 } in
    count_within _ _ _ _ _ _ _ _ c.loop-children.invariant c.in-Some.ensures.items _ rest c.in-Some-next.ensures.steps _ c.tokens_of.ensures

pub loop-children-smaller-in_default-span : goal.loop-children-smaller-in_default-span
loop-children-smaller-in_default-span c =
    let rest : Siblings = record { children = c.next.new.self; from = c.in-Some.field-0.from + c.tokens_of.result } in
    walking_past-smaller _ _ _ _ _ _ _ _ c.loop-children.invariant c.in-Some.ensures.items _ rest c.in-Some-next.ensures.steps _ c.tokens_of.ensures refl _ c.in_ok-push-2.ensures.items

pub loop-children-preserved-in_default-span : goal.loop-children-preserved-in_default-span
loop-children-preserved-in_default-span c =
    let rest : Siblings = record { children = c.next.new.self; from = c.in-Some.field-0.from + c.tokens_of.result } in
    walking_line _ _ _ _ _ _ _ _ c.loop-children.invariant c.in-Some.ensures.items _ rest c.in-Some-next.ensures.steps _ c.tokens_of.ensures
    refl _ c.in_ok-push-2.ensures.items c.requires.ascending c.in_default-span.ensures

pub production-requires : goal.production-requires
production-requires c =
    let rest : Siblings = record { children = c.next.new.self; from = 0 } in
    subst (IsBelow (length c.args.store.now)) c.in-Node.is
    (child_below _ _ _ _ _ _ _ _ c.loop-children.invariant c.in-Some.ensures.items _ rest c.in-Some-next.ensures.steps _ c.tokens_of.ensures)

pub add_own-requires : goal.add_own-requires
add_own-requires c =
    let rest : Siblings = record { children = c.next.new.self; from = c.in-Some.field-0.from + c.tokens_of.result } in
    production_within _ _ _ _ _ _ _ _ c.loop-children.invariant c.in-Some.ensures.items _ rest c.in-Some-next.ensures.steps _ c.tokens_of.ensures
    refl _ c.in_ok-push-2.ensures.items _ c.in-Node.is _ c.production.ensures.tree

pub children-requires : goal.children-requires
children-requires c =
    let rest : Siblings = record { children = c.next.new.self; from = 0 } in
    subst (IsBelow (length c.args.store.now)) c.in-Node.is
    (child_below _ _ _ _ _ _ _ _ c.loop-children.invariant c.in-Some.ensures.items _ rest c.in-Some-next.ensures.steps _ c.tokens_of.ensures)

pub loop-children-smaller : goal.loop-children-smaller
loop-children-smaller c =
    let rest : Siblings = record { children = c.next.new.self; from = c.in-Some.field-0.from + c.tokens_of.result } in
    let inner : Siblings = record { children = c.children.result; from = c.in-Some.field-0.from } in
    walking_into-smaller _ _ _ _ _ _ _ _ c.loop-children.invariant c.in-Some.ensures.items _ rest c.in-Some-next.ensures.steps _ c.tokens_of.ensures refl
    _ c.in_ok-push-2.ensures.items _ c.in-Node.is _ c.production.ensures.tree inner c.children.ensures.tree refl _ c.in_ok-push-3.ensures.items

pub loop-children-preserved : goal.loop-children-preserved
loop-children-preserved c =
    let rest : Siblings = record { children = c.next.new.self; from = c.in-Some.field-0.from + c.tokens_of.result } in
    let inner : Siblings = record { children = c.children.result; from = c.in-Some.field-0.from } in
    walking_into _ _ _ _ _ _ _ _ c.loop-children.invariant c.in-Some.ensures.items _ rest c.in-Some-next.ensures.steps _ c.tokens_of.ensures refl _
    c.in_ok-push-2.ensures.items _ c.in-Node.is _ c.production.ensures.tree inner c.children.ensures.tree refl _ c.in_ok-push-3.ensures.items
    c.children.ensures.below _ c.in-Some-span.ensures _ c.in_ok-add_own.ensures

pub returns : goal.returns
returns c =
    walked _ _ _ _ _ _ (omega (arith, c.in_default.ensures.cases, c.in_default.ensures.len)) c.loop-children.invariant
