use Rattle.dfa.proofs.Std.{◌≡◌, ◌∷◌, [], ◌++◌, length, ap, sym, ◌∙◌, subst, arith}
use Rattle.dfa.proofs.Common.{AreRows, AreStates, members}
use Rattle.dfa.proofs.AddedRow.{parts_rise, within_parts}
use Rattle.dfa.proofs.RowOfTrees.{followers_below, followers_rise, row_made, row_reached, set_rises, set_within}
use Rattle.dfa.proofs.Trees.{trees_count, trees_counted}
use Rattle.dfa.proofs.states.States.add_row.Goals as goal

pub followers-requires-clause-rises : goal.followers-requires-clause-rises
followers-requires-clause-rises c =
    let r = c.requires.rules in
    set_rises r.0 r.1 c.args.trees.now c.args.parts.now r.2 c.args.self.now.sets.keys c.len-at.result c.index-set.result.now c.index-set.ensures c.deref-2.result.now r.3 c.deref-2.ensures.value

pub followers-requires-clause-counted : goal.followers-requires-clause-counted
followers-requires-clause-counted c = trees_counted c.requires.rules.0 c.args.trees.now c.requires.rules.2.trees_are

pub first_end-rule-requires-clause-rises : goal.first_end-rule-requires-clause-rises
first_end-rule-requires-clause-rises c =
    let r = c.requires.rules in
    set_rises r.0 r.1 c.args.trees.now c.args.parts.now r.2 c.args.self.now.sets.keys c.len-at.result c.index-set.result.now c.index-set.ensures c.deref-4.result.now r.3 c.deref-4.ensures.value

pub first_end-rule-requires-clause-counted : goal.first_end-rule-requires-clause-counted
first_end-rule-requires-clause-counted c = trees_counted c.requires.rules.0 c.args.trees.now c.requires.rules.2.trees_are

pub write-requires : goal.write-requires
write-requires c =
    let r = c.requires.rules in
    record {
      within = set_within r.0 r.1 c.args.trees.now c.args.parts.now r.2 c.args.self.now.sets.keys c.len-at.result c.index-set.result.now c.index-set.ensures c.deref.result.now
          (length c.args.marks.now.items) r.3 c.deref.ensures.value c.requires.all;
    }

pub write-requires-2 : goal.write-requires-2
write-requires-2 c =
    let r = c.requires.rules in
    record {
      within = set_within r.0 r.1 c.args.trees.now c.args.parts.now r.2 c.args.self.now.sets.keys c.len-at.result c.index-set.result.now c.index-set.ensures c.deref-6.result.now
          (length c.write.new.marks.items) r.3 c.deref-6.ensures.value (c.write.ensures.length ∙ c.requires.all);
    }

pub write-requires-3 : goal.write-requires-3
write-requires-3 c =
    let r = c.requires.rules in
    record {
      within = followers_below r.0 r.1 c.args.trees.now c.args.parts.now r.2 c.args.self.now.sets.keys c.len-at.result c.index-set.result.now c.index-set.ensures
          c.deref-2.result.now c.in_ok-followers.followers.items c.deref-7.result.now (length c.write-2.new.marks.items) c.in_ok-followers.ensures c.deref-7.ensures.value
          (c.write-2.ensures.length ∙ (c.write.ensures.length ∙ c.requires.all));
    }

pub write-requires-4 : goal.write-requires-4
write-requires-4 c =
    let r = c.requires.rules in
    record {
      within = followers_below r.0 r.1 c.args.trees.now c.args.parts.now r.2 c.args.self.now.sets.keys c.len-at.result c.index-set.result.now c.index-set.ensures
          c.deref-2.result.now c.in_ok-followers.followers.items c.deref-10.result.now (length c.write-3.new.marks.items) c.in_ok-followers.ensures c.deref-10.ensures.value
          (c.write-3.ensures.length ∙ (c.write-2.ensures.length ∙ (c.write.ensures.length ∙ c.requires.all)));
    }

pub add_entries-requires-clause-within : goal.add_entries-requires-clause-within
add_entries-requires-clause-within c =
    let r = c.requires.rules in
    within_parts r.0 r.1 c.args.parts.now (length c.deref-8.result.now) r.2.parts_are (ap length c.deref-8.ensures.value ∙ c.write-3.ensures.length
    ∙ c.write-2.ensures.length ∙ c.write.ensures.length ∙ c.requires.all ∙ trees_count r.0 c.args.trees.now r.2.trees_are)

pub add_entries-requires-clause-followers : goal.add_entries-requires-clause-followers
add_entries-requires-clause-followers c =
    let r = c.requires.rules in
    followers_rise r.0 r.1 c.args.trees.now c.args.parts.now r.2 c.args.self.now.sets.keys c.len-at.result c.index-set.result.now c.index-set.ensures c.deref-2.result.now
    c.in_ok-followers.followers.items c.deref-9.result.now c.in_ok-followers.ensures c.deref-9.ensures.value

pub add_entries-requires-clause-holders : goal.add_entries-requires-clause-holders
add_entries-requires-clause-holders c = parts_rise c.requires.rules.0 c.requires.rules.1 c.args.parts.now c.requires.rules.2.parts_are

pub returns-in_err-add_entries-clause-states : goal.returns-in_err-add_entries-clause-states
returns-in_err-add_entries-clause-states c = λ rules starts a s. c.in_err-add_entries.ensures.states rules s
    (row_reached rules starts c.args.trees.now c.args.parts.now a c.args.self.now.sets.keys c.len-at.result c.index-set.result.now c.index-set.ensures
    c.deref-2.result.now c.in_ok-followers.followers.items c.deref-9.result.now c.deref-2.ensures.value c.in_ok-followers.ensures c.deref-9.ensures.value s)

pub returns-in_err-push-clause-states : goal.returns-in_err-push-clause-states
returns-in_err-push-clause-states c = λ rules starts a s. c.in_ok-add_entries.ensures.states rules s
    (row_reached rules starts c.args.trees.now c.args.parts.now a c.args.self.now.sets.keys c.len-at.result c.index-set.result.now c.index-set.ensures
    c.deref-2.result.now c.in_ok-followers.followers.items c.deref-9.result.now c.deref-2.ensures.value c.in_ok-followers.ensures c.deref-9.ensures.value s)

pub returns-clause-states : goal.returns-clause-states
returns-clause-states c = λ rules starts a s. c.in_ok-add_entries.ensures.states rules s
    (row_reached rules starts c.args.trees.now c.args.parts.now a c.args.self.now.sets.keys c.len-at.result c.index-set.result.now c.index-set.ensures
    c.deref-2.result.now c.in_ok-followers.followers.items c.deref-9.result.now c.deref-2.ensures.value c.in_ok-followers.ensures c.deref-9.ensures.value s)

pub returns-clause-rows : goal.returns-clause-rows
returns-clause-rows c = λ rules starts a r.
    let new = members c.add_entries.new.self.sets.keys in
    let accepts = c.args.self.now.accepts.items in
    let at : c.len-at.result ≡ length accepts = omega (arith, c.len-at.ensures) in
    let states : AreStates rules new = c.in_ok-add_entries.ensures.states rules r.states
    (row_reached rules starts c.args.trees.now c.args.parts.now a c.args.self.now.sets.keys c.len-at.result c.index-set.result.now c.index-set.ensures
    c.deref-2.result.now c.in_ok-followers.followers.items c.deref-9.result.now c.deref-2.ensures.value c.in_ok-followers.ensures c.deref-9.ensures.value r.states) in
    let pushed : c.push.new.self.items ≡ accepts ++ c.first_end-rule.result ∷ [] = c.in_ok-push.ensures.items
    ∙ ap (λ v. v.items ++ c.first_end-rule.result ∷ []) c.in_ok-add_entries.ensures.accepts in
    subst (λ x. AreRows rules starts new c.add_entries.new.self.next.items x) (sym pushed)
    (row_made rules starts c.args.trees.now c.args.parts.now a c.args.self.now.sets.keys c.len-at.result c.index-set.result.now c.index-set.ensures new
    c.args.self.now.next.items c.add_entries.new.self.next.items accepts c.first_end-rule.result c.deref-2.result.now c.deref-4.result.now c.in_ok-followers.followers.items
    c.deref-9.result.now at c.deref-2.ensures.value c.deref-4.ensures.value c.in_ok-followers.ensures c.deref-9.ensures.value c.first_end-rule.ensures r states
    c.in_ok-add_entries.ensures.grows (c.in_ok-add_entries.ensures.bound r.bound) c.in_ok-add_entries.ensures.entries)
