-- What tables say.
use Rattle.std.specs.Prelude.{◌≡◌, ◌<◌, ◌+◌, ◌++◌, ℕ, List, [], ◌∷◌, Option, Some, None, length, slice_index_or}
use Rattle.definitions.specs.declared.Kind.{Kind}
use Rattle.definitions.specs.declared.Symbol.{Symbol}
use Rattle.definitions.specs.declared.Symbol.TheVariants.{Rule as Terminal, Nonterminal}
use Rattle.definitions.specs.Trees.{Grammar}
use Rattle.definitions.specs.Sentences.{AllProductive}
use Rattle.definitions.specs.Items.{Move as LrMove, HasMove, HasItem, HasNoConflict, kind_of}
use Rattle.productions.specs.Lookaheads.{rank}
use Rattle.tables.specs.declared.decisions.Move.{Move}
use Rattle.tables.specs.declared.decisions.Move.TheVariants.{Shift, Reduce, Accept}
use Rattle.tables.specs.Actions.{plain}

-- tables as callers see them, an automaton over the symbols: the grammar, where each nonterminal leads from each state, and the moves of
-- each state by the column of the lookahead
pub record Sets : Type 0 where
  pub grammar : Grammar
  pub gotos : List (List (Option ℕ))
  pub moves : List (List (Option Move))

-- `seen g gotos moves`: tables of the grammar with these rows, as callers see them
abbrev pub seen : Grammar → List (List (Option ℕ)) → List (List (Option Move)) → Sets
seen g gotos moves = record { grammar = g; gotos = gotos; moves = moves }

-- `move_at t s look`: the move of state `s` at the lookahead, if there is one
abbrev pub move_at : Sets → ℕ → Option ℕ → Option Move
move_at t s look = slice_index_or (slice_index_or t.moves s []) (rank look) None

-- `goto_at t s n`: the state that nonterminal `n` leads to from state `s`, if there is one
abbrev pub goto_at : Sets → ℕ → ℕ → Option ℕ
goto_at t s n = slice_index_or (slice_index_or t.gotos s []) n None

-- the state that a shift leads to; other moves lead to none
abbrev pub shifted_to : Option Move → Option ℕ
shifted_to None = None
shifted_to (Some (Shift to)) = Some to
shifted_to (Some (Reduce p)) = None
shifted_to (Some Accept) = None

-- the state after state `s` at a symbol, if there is one: a token rule is shifted, and a nonterminal has its goto
abbrev pub follower : Sets → ℕ → Symbol → Option ℕ
follower t s (Terminal a) = shifted_to (move_at t s (Some a))
follower t s (Nonterminal n) = goto_at t s n

-- `next_state t s x`: the state after `s` at the symbol `x`, if there is one and `s` is one
abbrev pub next_state : Sets → Option ℕ → Symbol → Option ℕ
next_state t None x = None
next_state t (Some s) x = follower t s x

-- `state_from t s prefix`: the state after the symbols from `s` on, if there is one
abbrev pub state_from : Sets → Option ℕ → List Symbol → Option ℕ
state_from t o [] = o
state_from t o (x ∷ prefix) = state_from t (next_state t o x) prefix

-- the state that a prefix leads to, if there is one; state 0 is the first
unfoldable pub state_after : Sets → List Symbol → Option ℕ
state_after t prefix = state_from t (Some 0) prefix

-- the prefix leads to state `s`
pub record IsStateOf (t : Sets) (prefix : List Symbol) (s : ℕ) : Type 0 where
  pub below : s < length t.moves
  pub leads : state_after t prefix ≡ Some s

-- `IsAction g prefix next move`: the move that the items valid for the prefix call for on `next`, or that they call for none
abbrev pub IsAction : Grammar → List Symbol → Option Kind → Option Move → Type 0
IsAction g prefix look None = (move : LrMove) → HasMove g prefix look move → ⊥
IsAction g prefix look (Some move) = HasMove g prefix look (plain move)

-- the grammar has tables: no set has a conflict, and each symbol is productive
pub record IsAccepted (g : Grammar) : Type 0 where
  pub free : HasNoConflict g
  pub productive : AllProductive g

-- state `s` is right for a prefix: some item is valid for the prefix, the state's moves are those that these items call for, and it has a
-- goto on each nonterminal after which some item is valid
pub record IsRightAt (t : Sets) (prefix : List Symbol) (s : ℕ) : Type 0 where
  pub below : s < length t.moves
  pub item : HasItem t.grammar prefix
  pub moves : (look : Option ℕ) → IsAction t.grammar prefix (kind_of look) (move_at t s look)
  pub gotos : (n : ℕ) → goto_at t s n ≡ None → HasItem t.grammar (prefix ++ (Nonterminal n ∷ [])) → ⊥

-- full rows of gotos and of moves for each state, each right for each prefix that leads to it
pub record AreTables (nonterminals : ℕ) (t : Sets) : Type 0 where
  pub begins : 0 < length t.moves
  pub filled : length t.gotos ≡ length t.moves
  pub gotos : (s : ℕ) → s < length t.gotos → length (slice_index_or t.gotos s []) ≡ nonterminals
  pub moves : (s : ℕ) → s < length t.moves → length (slice_index_or t.moves s []) ≡ t.grammar.rules + 1
  pub right : (prefix : List Symbol) (s : ℕ) → state_after t prefix ≡ Some s → IsRightAt t prefix s
  pub accepted : IsAccepted t.grammar
