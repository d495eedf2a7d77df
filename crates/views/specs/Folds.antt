-- The lines of tokens, and what a walk over trees gathers of them.
use Rattle.std.specs.Prelude.{◌≡◌, ℕ, ◌-◌, ◌<◌, ◌≤◌, Bool, false, if◌then◌else◌, List, [], ◌∷◌, ◌++◌, map, slice_index_or, IsTrue}
use Rattle.std.specs.Prelude.{AllPairs, Contains}
use Rattle.definitions.specs.Text.{line_of}
use Rattle.definitions.specs.Tokens.{Placed}
use Rattle.definitions.specs.Trees.{Grammar, Tree}
use Rattle.definitions.specs.Answers.{Node, end_of}
use Rattle.definitions.specs.DocumentNodes.{IsNodeOf}

-- the first and the last line of each token
abbrev pub lines_of : List ℕ → List Placed → List (ℕ × ℕ)
lines_of t tokens = map (λ x. (line_of t x.start, line_of t (end_of x))) tokens

abbrev pub line_at : List (ℕ × ℕ) → ℕ → ℕ × ℕ
line_at lines k = slice_index_or lines k (0, 0)

-- the tokens from one place up to another have these first and last lines, the last one greater
abbrev pub SpanLines : List (ℕ × ℕ) → ℕ → ℕ → ℕ × ℕ → Type 0
SpanLines lines from to p = (from < to) × (p.0 ≡ (line_at lines from).0) × (p.1 ≡ (line_at lines (to - 1)).1) × (p.0 < p.1)

-- no token begins or ends on a line before those of an earlier token
abbrev pub AreAscending : List (ℕ × ℕ) → Type 0
AreAscending lines = AllPairs (λ a b. (a.0 ≤ b.0) × (a.1 ≤ b.1)) lines

-- the node folds and spans these lines
abbrev pub IsFold : List Bool → List (ℕ × ℕ) → Node → ℕ × ℕ → Type 0
IsFold folds lines n p = IsTrue (slice_index_or folds n.symbol false) × SpanLines lines n.from n.to p

-- the lines of the nodes that fold, in some order
pub record AreSpanned (g : Grammar) (folds : List Bool) (lines : List (ℕ × ℕ)) (trees : List Tree) (pairs : List (ℕ × ℕ)) : Type 0 where
  pub only : (p : ℕ × ℕ) → Contains pairs p → (n : Node) × IsNodeOf g trees n × IsFold folds lines n p
  pub all : (n : Node) (p : ℕ × ℕ) → IsNodeOf g trees n → IsFold folds lines n p → Contains pairs p

-- the lines so far and those of a node, where it folds
abbrev pub with_own : Bool → ℕ × ℕ → List (ℕ × ℕ) → List (ℕ × ℕ)
with_own folds pair pairs = if folds then pairs ++ pair ∷ [] else pairs
