use Rattle.parser.proofs.Std.{◌≡◌, ◌<◌, ◌∷◌, ◌++◌, length, refl, sym, ap, ◌∙◌, subst, arith, nil_from_length}
use Rattle.parser.proofs.Common.{all_kinds, yield, plain, Child, NodeId, Node, Token, AreBelow, tree, all_below-more, backwards, plain_of}
use Rattle.parser.proofs.Inputs.{none_counted}
use Rattle.parser.proofs.Lists.{backwards-push}
use Rattle.parser.proofs.SecondKind.{second_of}
use Rattle.parser.proofs.input.Input.second_kind.Goals.{In_ok-after, In_ok-next}
use Rattle.parser.proofs.input.Input.second_kind.Goals as goal

-- the first tree stands before the others
whole : (c : In_ok-after) → c.args.self.now ≡ c.in_ok-after.field-0-0.now ∷ backwards c.in_ok-after.after.now
whole c = sym c.self.view_is ∙ ap backwards (sym c.deref.ensures.value ∙ c.in_ok-after.ensures.cases.0) ∙ backwards-push c.in_ok-after.after.now c.in_ok-after.field-0-0.now

-- the next one stands before the rest
next : (c : In_ok-next) (t : Child) → c.in_ok-next.next.now ≡ t → backwards c.empty.after.now ≡ t ∷ backwards c.in_ok-next.rest.now
next c t is =
    let rest = c.in_ok-next.rest.now in
    ap backwards c.in_ok-next.ensures.cases.0 ∙ backwards-push rest c.in_ok-next.next.now ∙ ap (λ x. x ∷ backwards rest) is

-- where it is a node, the store has it
stored : (c : In_ok-next) (id : NodeId) → c.in_ok-next.next.now ≡ Node id → id.index < length c.args.store.now
stored c id is = (subst (AreBelow (length c.args.store.now)) (next c (Node id) is) c.empty.invariant.0).0

pub empty-init : goal.empty-init
empty-init c = ((subst (AreBelow (length c.args.store.now)) (whole (goal.at.empty-init c).In_ok-after) c.requires).1, refl)

pub returns-in-Token : goal.returns-in-Token
returns-in-Token c =
    let at = goal.at.returns-in-Token c in
    let cells = c.args.store.now in
    let rest = backwards c.in_ok-next.rest.now in
    let prefix = next at.In_ok-next (Token c.in-Token.kind) c.in-Token.is in
    (c.in_ok-after.field-0-0.now, backwards c.in_ok-after.after.now, all_kinds (plain_of cells rest), whole at.In_ok-after, sym c.empty.invariant.1 ∙ ap (λ l. all_kinds (plain_of cells l)) prefix)

pub tokens-requires : goal.tokens-requires
tokens-requires c = stored (goal.at.tokens-requires c).In_ok-next c.in-Node.id c.in-Node.is

pub children-requires : goal.children-requires
children-requires c = stored (goal.at.children-requires c).In_ok-next c.in-Node.id c.in-Node.is

pub first_kind-requires : goal.first_kind-requires
first_kind-requires c =
    let inside = stored (goal.at.first_kind-requires c).In_ok-next c.in-Node.id c.in-Node.is in
    all_below-more c.in-Node.id.index (length c.args.store.now) (omega (arith, inside)) c.children.result c.children.ensures.below

pub returns-in-Node : goal.returns-in-Node
returns-in-Node c =
    let at = goal.at.returns-in-Node c in
    let cells = c.args.store.now in
    let tree = c.children.ensures.tree in
    second_of cells c.args.self.now (backwards c.in_ok-after.after.now) (backwards c.in_ok-next.rest.now) c.children.result c.in_ok-after.field-0-0.now
    c.in-Node.id tree.0 tree.1 c.first_kind.result (whole at.In_ok-after)
    (sym c.empty.invariant.1 ∙ ap (λ l. all_kinds (plain_of cells l)) (next at.In_ok-next (Node c.in-Node.id) c.in-Node.is)) tree.2 c.first_kind.ensures

pub empty-preserved : goal.empty-preserved
empty-preserved c =
    let cells = c.args.store.now in
    let prefix = next (goal.at.empty-preserved c).In_ok-next (Node c.in-Node.id) c.in-Node.is in
    let below = subst (AreBelow (length cells)) prefix c.empty.invariant.0 in
    let yielded = yield (plain (tree cells (Node c.in-Node.id))) in
    let zero_tokens : c.tokens.result ≡ 0 = omega (arith, c.if-tokens-gt0.false) in
    let none = nil_from_length yielded (none_counted (length yielded) (sym c.tokens.ensures.is ∙ zero_tokens)) in
    (below.1, sym (ap (λ l. all_kinds (plain_of cells l)) prefix ∙ ap (λ l. l ++ all_kinds (plain_of cells (backwards c.in_ok-next.rest.now))) none) ∙ c.empty.invariant.1)
