use Rattle.dfa.proofs.Std.{ℕ, ◌+◌, ◌-◌, ◌≡◌, ◌≤◌, List, take, drop, Some}
use Rattle.dfa.proofs.Common.{Expression, IsText, IsRulePrefix, IsState, IsAutomaton, state_after, IsNoted}
use Rattle.dfa.proofs.LongestMatch.{AreBounds}
use Rattle.dfa.proofs.automaton.Automaton.longest.Given as goal

abbrev pub invariant-loop-read : goal.invariant-loop-read
invariant-loop-read g l =
    record {
      in_text : l.read ≤ l.rest;
      state_is : IsState l.self l.state;
      before : g.S.Source.is_before l.source (l.from + l.read) l.ahead;
      bounds : AreBounds l.rest l.best;
      stands : state_after l.self (take l.read (drop l.from (g.S.Source.text l.source))) ≡ Some l.state.number;
      text : IsText (take l.read (drop l.from (g.S.Source.text l.source)));
      so_far : (rules : List Expression) → IsAutomaton rules l.self → ((m : ℕ) → 1 ≤ m → m ≤ l.read → IsRulePrefix rules (take m (drop l.from (g.S.Source.text l.source))))
          × IsNoted rules (drop l.from (g.S.Source.text l.source)) l.read l.state.rule l.best.rule l.best.length;
    }

abbrev pub decreases-loop-read : goal.decreases-loop-read
decreases-loop-read g l = l.rest - l.read
