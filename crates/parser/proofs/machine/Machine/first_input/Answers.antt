use Rattle.parser.proofs.Std.{◌≡◌, ◌<◌, ◌∷◌, ◌++◌, [], ◌+◌, drop, length, refl, sym, ap, ◌∙◌, subst, arith, rules, common_steps, nil_from_length}
use Rattle.parser.proofs.Common.{yield, plain, plain_all, Node, Token, AreBelow, all_trees, tree, all_below-more, CanReuse, Tries, plain_of, input_of, IsInput, BeginsWithNoNode, ComeFrom}
use Rattle.parser.proofs.LeftEdge.{Step, branch_root, opened, dropped}
use Rattle.parser.proofs.Inputs.{IsOpening, taken, none_counted, kids_kinds, opening_begins, opening_on}
use Rattle.parser.proofs.Reductions.{below-append}
use Rattle.parser.proofs.Reusing.{look_first}
use Rattle.parser.proofs.WhereBranchesComeFrom.{come_all, come_after, come_on, opened_came}
use Rattle.parser.proofs.machine.Machine.first_input.Goals.{In_ok-put_all-in-Node}
use Rattle.parser.proofs.machine.Machine.first_input.Goals as goal

-- the node that the input began with, and the step that puts its children in its place
step : (g : _) (c : In_ok-put_all-in-Node g) → (c.edge.input ≡ Node c.in-Node.id ∷ c.take.new.self) × Step c.args.tables.now.grammar
    (plain_of c.args.store.now c.args.self.now.stack.items) c.args.kinds.now c.args.self.now.read (plain_of c.args.store.now c.put_all.new.self) (plain_of c.args.store.now c.edge.input)
step g c =
    let gr = c.args.tables.now.grammar in
    let kinds = c.args.kinds.now in
    let read = c.args.self.now.read in
    let cells = c.args.store.now in
    let stack = plain_of cells c.args.self.now.stack.items in
    let id = c.in-Node.id in
    let u = plain (tree cells (Node id)) in
    let rest = c.take.new.self in
    let kids = c.children.result in
    let is = c.children.ensures.tree in
    let first = c.in-Some.ensures.0 in
    let old : c.edge.input ≡ Node id ∷ rest = taken c.take.result c.edge.input rest first (Node id) c.take.ensures (c.in-Some.ensures.1 ∙ ap (λ x. x ∷ first) c.in-Node.is) in
    let inp = subst (λ l. IsInput gr cells l kinds read) old c.edge.invariant.input in
    let made = opened gr cells stack kinds read id rest kids is.0 is.1 is.2 inp.parts inp.covers
    (subst (λ kinds. CanReuse gr stack u (drop (read + length (yield u)) kinds) → ⊥) c.edge.invariant.same c.in_default-passes.ensures.is) in (
      old,
      subst (λ l. Step gr stack kinds read (plain_of cells l) (plain_of cells c.edge.input)) (sym c.in_ok-put_all-in-Node.ensures)
          (subst (λ l. Step gr stack kinds read (plain_of cells (kids ++ rest)) (plain_of cells l)) (sym old) made),
    )

pub passes-requires-clause-root : goal.passes-requires-clause-root
passes-requires-clause-root g c =
    let gr = c.args.tables.now.grammar in
    let cells = c.args.store.now in
    let node = c.in-Some.ensures.1 ∙ ap (λ x. x ∷ c.in-Some.ensures.0) c.in-Node.is in
    let inp = subst (λ l. IsInput gr cells l c.args.kinds.now c.args.self.now.read) node c.edge.invariant.input in
    let t = c.tokens.ensures.tree in
    branch_root gr t.0 (plain_all t.2) (plain (tree cells (Node c.in-Node.id))) (ap plain t.3) inp.parts.0

pub edge-preserved-in-Continue-1 : goal.edge-preserved-in-Continue-1
edge-preserved-in-Continue-1 g c =
    let cells = c.args.store.now in
    let id = c.in-Node.id in
    let rest = c.take.new.self in
    let kids = c.children.result in
    let is = c.children.ensures.tree in
    let h = c.edge.invariant in
    let (old, made) = step g (goal.at.edge-preserved-in-Continue-1 g c).In_ok-put_all-in-Node in
    let new : c.put_all.new.self ≡ kids ++ rest = c.in_ok-put_all-in-Node.ensures in
    let below : AreBelow (length cells) (Node id ∷ rest) = subst (AreBelow (length cells)) old h.input.below in
    let inside : id.index < length cells = below.0 in
    record {
      input = record {
        below = subst (AreBelow (length cells)) (sym new)
            (below-append (length cells) kids rest (all_below-more id.index (length cells) (omega (arith, inside)) kids c.children.ensures.below) below.1);
        parts = made.0;
        covers = made.1;
      };
      offers = λ f d. h.offers f (made.2 f d);
      came = come_on 0 0 (all_trees cells c.args.input.now) (all_trees cells c.edge.input) (all_trees cells c.put_all.new.self) h.came
          (subst (λ l. ComeFrom (all_trees cells c.edge.input) 0 (all_trees cells l)) (sym new)
          (subst (λ l. ComeFrom (all_trees cells l) 0 (all_trees cells (kids ++ rest))) (sym old) (opened_came cells kids rest id is.0 is.1 is.2)));
      same = c.in_default-passes.ensures.same ∙ h.same;
      opening = subst (IsOpening cells c.args.input.now) (sym new)
          (opening_on cells c.args.input.now c.edge.input rest kids (Node id) c.requires.full h.opening old (kids_kinds cells kids id is.0 is.1 is.2));
    }

pub edge-smaller-in-Continue-1 : goal.edge-smaller-in-Continue-1
edge-smaller-in-Continue-1 g c = (step g (goal.at.edge-smaller-in-Continue-1 g c).In_ok-put_all-in-Node).1.3

pub edge-preserved : goal.edge-preserved
edge-preserved g c =
    let gr = c.args.tables.now.grammar in
    let kinds = c.args.kinds.now in
    let read = c.args.self.now.read in
    let cells = c.args.store.now in
    let stack = plain_of cells c.args.self.now.stack.items in
    let id = c.in-Node.id in
    let rest = c.take-else-tokens-gt0.new.self in
    let first = c.in-Some.ensures.0 in
    let old : c.edge.input ≡ Node id ∷ rest = taken c.take-else-tokens-gt0.result c.edge.input rest first
    (Node id) c.take-else-tokens-gt0.ensures (c.in-Some.ensures.1 ∙ ap (λ x. x ∷ first) c.in-Node.is) in
    let inp = subst (λ l. IsInput gr cells l kinds read) old c.edge.invariant.input in
    let none : c.tokens.result ≡ 0 = omega (arith, c.if-tokens-gt0.false) in
    let empty = none_counted (length (yield (plain (tree cells (Node id))))) (sym c.tokens.ensures.is ∙ none) in
    let step = dropped gr cells stack kinds read (Node id) rest inp.parts inp.covers empty in
    record {
      input = record { below = inp.below.1; parts = step.0; covers = step.1 };
      offers = (λ f d. c.edge.invariant.offers f (subst (λ l. Tries gr stack (input_of cells l kinds read) f) (sym old) (step.2 f d)));
      came = come_on 0 0 (all_trees cells c.args.input.now) (all_trees cells c.edge.input) (all_trees cells rest) c.edge.invariant.came
          (subst (λ l. ComeFrom (all_trees cells l) 0 (all_trees cells rest)) (sym old)
          (subst (λ n. ComeFrom (all_trees cells (Node id ∷ rest)) n (all_trees cells rest)) empty (come_after (tree cells (Node id)) (all_trees cells rest))));
      same = c.edge.invariant.same;
      opening = opening_on cells c.args.input.now c.edge.input rest [] (Node id) c.requires.full c.edge.invariant.opening old (sym (nil_from_length (yield (plain (tree cells (Node id)))) empty));
    }

pub returns-in-Token-clause-offer : goal.returns-in-Token-clause-offer
returns-in-Token-clause-offer g c =
    let kinds = c.args.kinds.now in
    let read = c.args.self.now.read in
    let rest = c.in-Some.ensures.0 in
    let k = c.in-Token.kind in
    let token : c.edge.input ≡ Token k ∷ rest = c.in-Some.ensures.1 ∙ ap (λ x. x ∷ rest) c.in-Token.is in
    let inp = subst (λ l. IsInput c.args.tables.now.grammar c.args.store.now l kinds read) token c.edge.invariant.input in
    (look_first kinds read k _ inp.covers, subst BeginsWithNoNode (sym token) tt)

pub edge-init : goal.edge-init
edge-init g c = record {
  input = c.requires.input;
  offers = λ f d. d;
  came = come_all (all_trees c.args.store.now c.args.input.now);
  same = refl;
  opening = opening_begins c.args.store.now c.args.input.now;
}

pub passes-requires-clause-not_empty : goal.passes-requires-clause-not_empty
passes-requires-clause-not_empty g c = search rules

pub passes-requires-clause-fits : goal.passes-requires-clause-fits
passes-requires-clause-fits g c = grind (arith, common_steps)

pub edge-smaller : goal.edge-smaller
edge-smaller g c = grind (arith, common_steps)

pub returns-in-Some-passes-clause-offer : goal.returns-in-Some-passes-clause-offer
returns-in-Some-passes-clause-offer g c = grind (arith, common_steps)
