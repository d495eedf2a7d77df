use Rattle.completion.proofs.Std.{◌+◌, ◌++◌, ◌<◌, ◌≡◌, ◌≤◌, ◌∷◌, ℕ, List, slice_range}
use Rattle.completion.proofs.Common.{Expression, IsAutomaton, IsPiece, Kind, typed}
use Rattle.completion.proofs.places.kind_of_part.Given as goal

abbrev pub invariant-loop-letter : goal.invariant-loop-letter
invariant-loop-letter l = record {
  low : 97 ≤ l.letter;
  characters : (d : ℕ) × (l.characters.items ≡ slice_range l.text l.start (l.start + l.part) ++ d ∷ slice_range l.text (l.start + l.part) l.end);
  none : (rules : List Expression) → IsAutomaton rules l.automaton → (c : ℕ) (kind : Kind) → 97 ≤ c → c < l.letter
      → ¬ IsPiece rules (typed l.part c (slice_range l.text l.start l.end)) kind l.part;
}
