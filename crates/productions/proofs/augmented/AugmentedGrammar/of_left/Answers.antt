use Rattle.productions.proofs.Std.{◌≡◌, ◌<◌, [], All, AllPairs, Contains, length, slice_index_or, sym, subst, ap, ◌∙◌, get_or_default}
use Rattle.productions.proofs.Common.{left_of}
use Rattle.productions.proofs.augmented.AugmentedGrammar.of_left.Goals as goal
use Rattle.productions.proofs.augmented.AugmentedGrammar.of_left.Goals.{After-items}

row_is : (c : After-items) → c.items.result.now ≡ slice_index_or c.self.inside.by_left.items c.args.nonterminal []
row_is c =
    let n = c.args.nonterminal in
    let within : n < length c.self.inside.by_left.items = subst (λ x. n < x) (sym (c.self.invariant.by_left.wide ∙ ap (λ s. s.nonterminals) c.self.view_is)) c.requires in
    c.items.ensures ∙ c.index.ensures ∙ get_or_default c.self.inside.by_left.items n c.index.result.now [] within

pub returns-clause-theirs : goal.returns-clause-theirs
returns-clause-theirs c =
    let n = c.args.nonterminal in
    subst (λ g. All (λ p. (p < length g.grammar.productions) × (left_of g.grammar p ≡ n)) c.items.result.now) c.self.view_is
    (subst (All (λ p. (p < length c.self.inside.productions.grammar.productions) × (left_of c.self.inside.productions.grammar p ≡ n))) (sym (row_is c)) (c.self.invariant.by_left.theirs n))

pub returns-clause-all : goal.returns-clause-all
returns-clause-all c = λ p l e.
    let back = sym c.self.view_is in
    let here = c.self.invariant.by_left.all p (subst (λ g. p < length g.grammar.productions) back l) in
    let left : left_of c.self.inside.productions.grammar p ≡ c.args.nonterminal = subst (λ g. left_of g.grammar p ≡ c.args.nonterminal) back e in
    subst (λ r. Contains r p) (sym (row_is c)) (subst (λ m. Contains (slice_index_or c.self.inside.by_left.items m []) p) left here)

pub returns-clause-rising : goal.returns-clause-rising
returns-clause-rising c = subst (AllPairs (λ p q. p < q)) (sym (row_is c)) (c.self.invariant.by_left.rising c.args.nonterminal)
