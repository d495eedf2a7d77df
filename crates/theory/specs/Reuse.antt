-- The incremental machine, which takes over whole subtrees of the old trees (after Wagner and Graham 1998).
-- Its input is a list of trees: what an edit has left of the old ones, and a leaf for each new kind.
use Rattle.std.specs.Prelude.{◌≡◌, ◌⊎◌, ◌<◌, ℕ, List, [], ◌∷◌, ◌++◌, length, None}
use Rattle.definitions.specs.declared.Kind.{Kind}
use Rattle.definitions.specs.declared.Symbol.{Symbol}
use Rattle.definitions.specs.declared.Symbol.TheVariants.{Nonterminal}
use Rattle.definitions.specs.Trees.{Grammar, Tree, Forest, Leaf, Branch, IsTree, trees, yield, yields, HaveRoots, all_kinds}
use Rattle.definitions.specs.Items.{Move, HasMove}
use Rattle.definitions.specs.Nodes.{StandsIn, place_of}
use Rattle.definitions.specs.TokenEdits.{Splice}
use Rattle.definitions.specs.TreeEdits.{IsKept}
use Rattle.theory.specs.Machine.{look_at, Reduces, Shifts}

-- what is next in the input, and the input after it: a tree to take over, a kind, or the end
pub data NextInput : Type 0 where
  Take : Tree → List Tree → NextInput
  AtToken : Kind → List Tree → NextInput
  AtEnd : NextInput

-- `kinds_of f`: the kinds of a `NextInput` and of the input after it
abbrev pub kinds_of : NextInput → List Kind
kinds_of (Take t ts) = yield t ++ all_kinds ts
kinds_of (AtToken k ts) = k ∷ all_kinds ts
kinds_of AtEnd = []

-- `IsNoTree f`: a kind or the end is next, and no tree to take over
abbrev pub IsNoTree : NextInput → Type 0
IsNoTree (Take t ts) = ⊥
IsNoTree (AtToken k ts) = Unit {0}
IsNoTree AtEnd = Unit {0}

-- the reuse test: the tree has a nonempty yield, and goto by its root leads to a set with a move on what follows it
pub record CanReuse (g : Grammar) (stack : List Tree) (t : Tree) (rest : List Kind) : Type 0 where
  pub root : ℕ
  pub is : IsTree g t (Nonterminal root)
  pub not_empty : 0 < length (yield t)
  pub symbols : List Symbol
  pub roots : HaveRoots g stack symbols
  pub move : Move
  pub called : HasMove g (symbols ++ (Nonterminal root ∷ [])) (look_at rest None) move

-- `Tries g stack input f`: what the left edge of the input offers: its nodes from the top down, those of empty yield dropped
pub data Tries (g : Grammar) (stack : List Tree) : List Tree → NextInput → Type 0 where
  Nothing_left : Tries g stack [] AtEnd
  Dropped : {t : Tree} {ts : List Tree} {f : NextInput} → yield t ≡ [] → Tries g stack ts f → Tries g stack (t ∷ ts) f
  Passed : {t : Tree} {ts : List Tree} → CanReuse g stack t (all_kinds ts) → Tries g stack (t ∷ ts) (Take t ts)
  Opened : {p : ℕ} {us : Forest} {ts : List Tree} {f : NextInput} → (CanReuse g stack (Branch p us) (all_kinds ts) → ⊥)
      → Tries g stack (trees us ++ ts) f → Tries g stack (Branch p us ∷ ts) f
  At_token : {k : Kind} {ts : List Tree} → Tries g stack (Leaf k ∷ ts) (AtToken k ts)

-- `Goes_on g stack input stack' input'`: the moves: a tree that passes the test is taken over, otherwise a kind is shifted or a reduction
-- made
pub data Goes_on (g : Grammar) : List Tree → List Tree → List Tree → List Tree → Type 0 where
  Ends : {stack input : List Tree} → Goes_on g stack input stack input
  Reuses : {stack input stack' input' : List Tree} (t : Tree) (ts : List Tree) → Tries g stack input (Take t ts)
      → CanReuse g stack t (all_kinds ts) → Goes_on g (stack ++ (t ∷ [])) ts stack' input' → Goes_on g stack input stack' input'
  Takes_token : {stack input stack' input' : List Tree} (k : Kind) (ts : List Tree) → Tries g stack input (AtToken k ts)
      → Shifts g stack k → Goes_on g (stack ++ (Leaf k ∷ [])) ts stack' input' → Goes_on g stack input stack' input'
  Makes : {stack input stack' input' : List Tree} (stack1 : List Tree) (f : NextInput) → Tries g stack input f → IsNoTree f
      → Reduces g stack (look_at (all_kinds input) None) stack1 → Goes_on g stack1 input stack' input'
      → Goes_on g stack input stack' input'

-- `MakesAt g run below w`: the run makes the branch `w` above the stack `below`
abbrev pub MakesAt : (g : Grammar) {s i s' i' : List Tree} → Goes_on g s i s' i' → List Tree → Tree → Type 0
MakesAt g Ends below w = ⊥
MakesAt g (Reuses t ts f c more) below w = MakesAt g more below w
MakesAt g (Takes_token k ts f m more) below w = MakesAt g more below w
MakesAt g (Makes s1 f t n r more) below w = ((r.below ≡ below) × (Branch r.number r.ts ≡ w)) ⊎ MakesAt g more below w

-- the input holds the old nodes that the splice hasn't touched, at the places that they move to, and no other branches of nonempty yield
pub record IsPrepared (s : Splice) (old input : List Tree) : Type 0 where
  pub from_old : (lefts : List Tree) (p : ℕ) (us : Forest) → StandsIn input lefts (Branch p us) → 0 < length (yields us)
      → IsKept s old (place_of lefts) p us
  pub all_old : (place p : ℕ) (us : Forest) → IsKept s old place p us
      → (lefts : List Tree) × StandsIn input lefts (Branch p us) × (place_of lefts ≡ place)
