use Rattle.dfa.proofs.Std.{ℕ, List, sym, ap, ◌∙◌, subst, All, Contains}
use Rattle.dfa.proofs.Common.{IsCharacter, all_cuts, AreRows, members, IsAscending, IsAutomaton, part}
use Rattle.dfa.proofs.CompleteTable.{automaton}
use Rattle.dfa.proofs.StateCount.{few}
use Rattle.dfa.proofs.AddedRow.{table_of_rows}
use Rattle.dfa.proofs.automaton.Automaton.build.Goals.{In_ok-states}
use Rattle.dfa.proofs.automaton.Automaton.build.Goals as goal

-- the rows of the states, over the starts of the classes
rows : (c : In_ok-states) → AreRows c.args.patterns.now c.in_ok-starts.starts.items (members c.in_ok-states.states.sets.keys) c.in_ok-states.states.next.items c.in_ok-states.states.accepts.items
rows c = subst (λ (l : List ℕ). AreRows c.args.patterns.now l (members c.in_ok-states.states.sets.keys) c.in_ok-states.states.next.items c.in_ok-states.states.accepts.items)
    c.deref-2.ensures.value c.in_ok-states.ensures.rows

pub states_of-requires-clause-ascending : goal.states_of-requires-clause-ascending
states_of-requires-clause-ascending c = subst IsAscending (sym c.deref-2.ensures.value) c.in_ok-starts.ensures.ascending

pub states_of-requires-clause-cuts : goal.states_of-requires-clause-cuts
states_of-requires-clause-cuts c =
    subst (λ (l : List ℕ). (x : ℕ) → Contains (all_cuts c.args.patterns.now) x → Contains l x) (sym c.deref-2.ensures.value) c.in_ok-starts.ensures.cuts

pub states_of-requires-clause-characters : goal.states_of-requires-clause-characters
states_of-requires-clause-characters c = subst (λ (l : List ℕ). All IsCharacter l) (sym c.deref-2.ensures.value) c.in_ok-starts.ensures.characters

pub new-requires : goal.new-requires
new-requires c =
    let made = c.in_ok-ascii.ensures in
    record {
      table = table_of_rows c.args.patterns.now _ _ _ _ c.in_ok-starts.ensures.ascending (rows (goal.at.new-requires c).In_ok-states) c.in_ok-states.ensures.all;
      full = made.0;
      parts = λ i lt. made.1 i lt ∙ ap (λ s. part s i) c.deref.ensures.value;
    }

pub returns-clause-automaton : goal.returns-clause-automaton
returns-clause-automaton c = subst (IsAutomaton c.args.patterns.now) (sym c.new.ensures)
    (automaton c.args.patterns.now _ _ _ _ c.in_ok-states.ensures.made (rows (goal.at.returns-clause-automaton c).In_ok-states) c.in_ok-states.ensures.all)

pub returns-clause-few : goal.returns-clause-few
returns-clause-few c = few c.args.patterns.now _ _ _ _ c.in_ok-states.ensures.made (rows (goal.at.returns-clause-few c).In_ok-states) c.in_ok-states.ensures.all
