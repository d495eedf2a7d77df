use Rattle.dfa.proofs.Std.{◌≡◌, ℕ, ◌-◌, ◌<◌, ◌∙◌, Vec, Global, IfErr, length, arith, rules, IfErr-weaker, length-map}
use Rattle.dfa.proofs.Common.{TooManyStates, members}
use Rattle.dfa.proofs.StateCount.{many_states}
use Rattle.dfa.proofs.states.States.add_rows.Goals as goal

pub returns-in_err-add_row-clause-many : goal.returns-in_err-add_row-clause-many
returns-in_err-add_row-clause-many c =
    let sets = members c.add_row.new.self.sets.keys in
    let many : IfErr c.from_residual.result (λ e. e ≡ TooManyStates → 4096 < length sets) = search rules in
    IfErr-weaker c.from_residual.result _ _
    (λ fault more e rules starts a r. many_states rules sets (c.in_err-add_row.ensures.states rules starts a (c.rows.invariant.rows rules starts a r).states) (more e)) many

pub add_row-requires-clause-rules : goal.add_row-requires-clause-rules
add_row-requires-clause-rules c =
    let r = c.requires.rules in
    (r.0, r.1, r.2, (c.rows.invariant.rows r.0 r.1 r.2 r.3).states)

pub rows-smaller : goal.rows-smaller
rows-smaller c =
    let r = c.requires.rules in
    let rows = c.rows.invariant.rows r.0 r.1 r.2 r.3 in
    let sets = c.rows.self.sets.keys in
    let old = length c.rows.self.accepts.items in
    let more : old < length (members sets) = omega (arith, c.len-in-rows.ensures.len, length-map sets (λ (v : Vec ℕ Global). v.items)) in
    let smaller : 4096 - length c.add_row.new.self.accepts.items < 4096 - old = omega (arith, rows.bound, c.in_ok-add_row.ensures.count, more) in
    smaller

pub rows-preserved : goal.rows-preserved
rows-preserved c = record {
  rows = λ rules starts a r. c.in_ok-add_row.ensures.rows rules starts a (c.rows.invariant.rows rules starts a r);
  blank = c.in_ok-add_row.ensures.blank;
  all = c.in_ok-add_row.ensures.all ∙ c.rows.invariant.all;
}

pub returns-clause-rows : goal.returns-clause-rows
returns-clause-rows c = c.rows.invariant.rows

pub add_row-requires-clause-more : goal.add_row-requires-clause-more
add_row-requires-clause-more c =
    let sets = c.rows.self.sets.keys in
    omega (arith, c.len-in-rows.ensures.len, length-map sets (λ (v : Vec ℕ Global). v.items))

pub returns-clause-all : goal.returns-clause-all
returns-clause-all c =
    let sets = c.rows.self.sets.keys in
    omega (arith, c.len-in-rows.ensures.len, length-map sets (λ (v : Vec ℕ Global). v.items))
