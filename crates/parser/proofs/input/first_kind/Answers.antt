use Rattle.parser.proofs.Std.{◌≡◌, List, [], ◌∷◌, ◌++◌, length, sym, ap, ◌∙◌, subst, arith, append-nil, nil_from_length}
use Rattle.parser.proofs.Common.{Kind, all_kinds, yield, plain, Node, Token, AreBelow, tree, all_below-more, plain_of}
use Rattle.parser.proofs.Inputs.{none_counted}
use Rattle.parser.proofs.SecondKind.{into_node, past_empty}
use Rattle.parser.proofs.input.first_kind.Goals.{then-tokens-gt0, else-tokens-gt0}
use Rattle.parser.proofs.input.first_kind.Goals as goal

pub edge-init : goal.edge-init
edge-init c = (c.requires, ([], sym (append-nil (all_kinds (plain_of c.args.store.now c.args.trees)))))

pub returns-in-Token : goal.returns-in-Token
returns-in-Token c =
    let rest = c.next.new.self in
    let kinds = c.edge.invariant.1 in
    let prefix : c.edge.trees ≡ Token c.in-Token.kind ∷ rest = c.in_ok-kind.ensures.steps ∙ ap (λ x. x ∷ rest) c.in-Token.is in
    (all_kinds (plain_of c.args.store.now rest) ++ kinds.0, kinds.1 ∙ ap (λ l. all_kinds (plain_of c.args.store.now l) ++ kinds.0) prefix)

pub tokens-requires : goal.tokens-requires
tokens-requires c =
    let rest = c.next.new.self in
    let prefix : c.edge.trees ≡ Node c.in-Node.id ∷ rest = c.in_ok-kind.ensures.steps ∙ ap (λ x. x ∷ rest) c.in-Node.is in
    (subst (AreBelow (length c.args.store.now)) prefix c.edge.invariant.0).0

pub edge-preserved : goal.edge-preserved
edge-preserved c =
    let cells = c.args.store.now in
    let id = c.in-Node.id in
    let rest = c.next.new.self in
    let all = all_kinds (plain_of cells c.args.trees) in
    let prefix : c.edge.trees ≡ Node id ∷ rest = c.in_ok-kind.ensures.steps ∙ ap (λ x. x ∷ rest) c.in-Node.is in
    let below = subst (AreBelow (length cells)) prefix c.edge.invariant.0 in
    let more = c.edge.invariant.1.0 in
    let kinds : all ≡ all_kinds (plain_of cells (Node id ∷ rest)) ++ more = c.edge.invariant.1.1 ∙ ap (λ l. all_kinds (plain_of cells l) ++ more) prefix in
    elim c.if-tokens-gt0.branch [
      | then-tokens-gt0 w ↦
          let kids = w.children-trees.result in
          let tree = w.children-trees.ensures.tree in
          subst (λ l. AreBelow (length cells) l × ((more : List Kind) × (all ≡ all_kinds (plain_of cells l) ++ more))) (sym w.trees-is) (
            all_below-more id.index (length cells) (omega (arith, below.0)) kids w.children-trees.ensures.below,
            (all_kinds (plain_of cells rest) ++ more, into_node cells id rest kids tree.0 tree.1 all more tree.2 kinds),
          )
      | else-tokens-gt0 w ↦
          let zero_tokens : c.tokens.result ≡ 0 = omega (arith, w.if-tokens-gt0.false) in
          let none = nil_from_length (yield (plain (tree cells (Node id)))) (none_counted (length (yield (plain (tree cells (Node id))))) (sym c.tokens.ensures.is ∙ zero_tokens)) in
          subst (λ l. AreBelow (length cells) l × ((more : List Kind) × (all ≡ all_kinds (plain_of cells l) ++ more))) (sym w.trees-is)
          (below.1, (more, past_empty cells (Node id) rest all more none kinds))
    ]
