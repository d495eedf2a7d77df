-- The tables of all states.
use Rattle.tables.proofs.Std.{◌≡◌, ◌<◌, ◌≤◌, ℕ, [], None, MatchOption, length, slice_index_or, sym, ◌∙◌, subst, arith}
use Rattle.tables.proofs.Common.{AllProductive, AreMoves, AreAllMoves, IsClashAt, Made, AreMade, Found, AreStates, Shape, seen, AreTables, lr1_no_conflict, Grammar, HasDistinctProductions, HasMoreSetsThan, kind_of, item_of, TableFault, TooManySets, Memory, IsConflictOf, IsRight, RefutesLr1}
use Rattle.tables.proofs.AllSets.{no_conflict}
use Rattle.tables.proofs.SetCount.{no_more_sets}
use Rattle.tables.proofs.Right.{right}
use Rattle.tables.specs.declared.tables.TableFault.TheVariants.{Conflict}

pub tables_all : (g : Shape) (t : Found) → AreStates g t → (m : Made) → AreMade g t.kernels m → length m.gotos ≡ length t.kernels
    → m.clash ≡ None → AreTables g.nonterminals (seen g.grammar m.gotos m.moves)
tables_all g t states m made all none =
    let moves : AreAllMoves g.grammar t.kernels m = subst (λ o. MatchOption o (AreAllMoves g.grammar t.kernels m) (λ f. IsClashAt g t.kernels f)) none made.moves in
    let filled = moves.filled in
    let begins = states.begins in
    let productive = states.sound.productive in
    let each_moves : (s : ℕ) → s < length t.kernels → AreMoves g.grammar t.kernels s (slice_index_or m.moves s []) = λ s l. moves.each s (omega (arith, l, all, filled)) in
    record {
      begins = omega (arith, begins, all, filled);
      filled = sym filled;
      gotos = λ s l. (made.gotos s l).filled;
      moves = λ s l. (moves.each s l).filled;
      right = right g t states m.gotos m.moves (filled ∙ all) (λ s l. made.gotos s (omega (arith, l, all))) each_moves;
      accepted = record {
        free = no_conflict g states.sound productive t.kernels (λ s l. (states.ordered s l).known) states.begins states.start
            (λ s l. made.steps s (omega (arith, l, all))) (λ s. slice_index_or m.moves s []) each_moves;
        productive = productive;
      };
    }

-- where all states have gotos, there are no more sets than states
pub few_sets : (g : Shape) (t : Found) → AreStates g t → (m : Made) → AreMade g t.kernels m → length m.gotos ≡ length t.kernels
    → (limit : ℕ) → length m.gotos ≤ limit → HasMoreSetsThan g.grammar limit → ⊥
few_sets g t states m made all limit few =
    no_more_sets g states.sound states.sound.productive t.kernels (λ s l. (states.ordered s l).known) states.begins states.start
    (λ s l. made.steps s (omega (arith, l, all))) limit (omega (arith, few, all))

pub conflict_right : (g : Grammar) (limit : ℕ) → (HasMoreSetsThan g limit → ⊥) → (f : TableFault) → IsConflictOf g f → IsRight g limit f
conflict_right g limit few TooManySets h = absurd h
conflict_right g limit few (Conflict c) h = (h, few)
conflict_right g limit few Memory h = tt

pub refutes : (g : Grammar) (limit : ℕ) → AllProductive g → HasDistinctProductions g → (f : TableFault) → IsRight g limit f → RefutesLr1 g f
refutes g limit productive distinct (Conflict c) h = λ lr1. lr1_no_conflict g lr1 productive distinct c.prefix.items (kind_of c.look) (item_of g c.first) (item_of g c.second) h.0.conflict
refutes g limit productive distinct d h = tt
