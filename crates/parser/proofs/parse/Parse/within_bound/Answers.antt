use Rattle.parser.proofs.Std.{refl, ap, sym, subst, ◌∙◌, ◌≡◌, ◌++◌, drop, length, take, arith, rules}
use Rattle.parser.proofs.Common.{AreBelow, all_trees, renamed, verdict_in, verdict_of}
use Rattle.parser.proofs.Renaming.{renamed_long, verdict_stays, written}
use Rattle.parser.proofs.parse.Parse.within_bound.Goals as goal

pub returns-clause-same : goal.returns-clause-same
returns-clause-same c =
    let old = c.args.store.now in
    let new = c.compact.new.store in
    let cs = c.args.self.stack in
    let done = c.in_ok-compact.ensures in
    let stack : c.deref_mut.result.now ≡ cs = c.deref_mut.ensures.value ∙ ap (λ p. p.stack) c.self.view_is in
    let names = done.names.0 in
    let is : c.compact.new.children ≡ renamed cs names = done.names.1 ∙ ap (λ l. renamed l names) stack in
    let back : take c.self.inside.stack.len (c.compact.new.children ++ drop (length c.compact.new.children) c.self.inside.stack.items) ≡ c.compact.new.children =
    written c.compact.new.children _ c.self.inside.stack.len (omega (arith, ap length is, renamed_long cs names, c.deref_mut.ensures.len, ap length stack)) in
    let trees : all_trees new (renamed cs names) ≡ all_trees old cs = ap (all_trees new) (sym is) ∙ done.trees ∙ ap (all_trees old) stack in
    let halt = c.self.inside.halt in
    let before : verdict_in old (verdict_of halt cs) ≡ verdict_in old c.args.self.verdict = ap (λ l. verdict_in old (verdict_of halt l))
    (sym (ap (λ p. p.stack) c.self.view_is)) ∙ ap (λ p. verdict_in old p.verdict) c.self.view_is in
    record {
      trees = ap (all_trees new) back ∙ done.trees ∙ ap (all_trees old) stack;
      below = subst (AreBelow (length new)) (sym back) done.below;
      verdict = ap (λ l. verdict_in new (verdict_of halt l)) (back ∙ is) ∙ verdict_stays old new halt cs names trees ∙ before;
      root = (halt, refl);
      state = ap (λ p. p.state) c.self.view_is;
      branches = ap (λ p. p.branches) c.self.view_is;
      built = ap (λ p. p.built) c.self.view_is;
      number = ap (λ p. p.number) c.self.view_is;
    }

pub returns-clause-kept : goal.returns-clause-kept
returns-clause-kept c = search rules

pub returns-then-len-bound-clause-bound : goal.returns-then-len-bound-clause-bound
returns-then-len-bound-clause-bound c = search rules
