-- What an edit of the kinds keeps of the trees (after Wagner and Graham 1998), and the stamps that show it.
use Rattle.std.specs.Prelude.{◌≡◌, ◌≢◌, ◌⊎◌, ◌≤◌, ◌<◌, ℕ, ◌+◌, ◌↔◌, List, [], ◌∷◌, ◌++◌, length}
use Rattle.definitions.specs.declared.Kind.{Kind}
use Rattle.definitions.specs.TokenEdits.{Splice}
use Rattle.definitions.specs.Trees.{Tree, Forest, Leaf, Branch, Nil, Cons, trees, yields}
use Rattle.definitions.specs.Nodes.{StandsIn, place_of}

-- one of the kinds `start..end` gives way, or new ones come in between two of them
abbrev pub IsTouched : Splice → ℕ → ℕ → Type 0
IsTouched s start end = ((k : ℕ) × (start ≤ k) × (k < end) × (s.from ≤ k) × (k < s.to))
    ⊎ ((s.from ≡ s.to) × (length s.kinds ≢ 0) × (start < s.from) × (s.from < end))

-- a kind that stood at `old` and stays stands at `new` after the splice
abbrev pub IsMoved : Splice → ℕ → ℕ → Type 0
IsMoved s old new = ((old < s.from) × (new ≡ old)) ⊎ ((s.to ≤ old) × (new + s.to ≡ old + s.from + length s.kinds))

-- `IsKept s old place p us`: the branch of production `p` over `us`, as a node of the new trees at this place, is kept: its yield is
-- nonempty, and it was an untouched node of the old trees, at a place that moves to this one
pub record IsKept (s : Splice) (old : List Tree) (place : ℕ) (p : ℕ) (ts : Forest) : Type 0 where
  pub lefts : List Tree
  pub stood : StandsIn old lefts (Branch p ts)
  pub not_empty : 0 < length (yields ts)
  pub untouched : ¬ IsTouched s (place_of lefts) (place_of lefts + length (yields ts))
  pub moved : IsMoved s (place_of lefts) place

-- the node `w` of the new trees, after the left siblings `below`, is a kept node or lies in one
pub record LiesInKept (s : Splice) (old new below : List Tree) (w : Tree) : Type 0 where
  pub at : List Tree
  pub p : ℕ
  pub us : Forest
  pub kept : IsKept s old (place_of at) p us
  pub stands : StandsIn new at (Branch p us)
  pub inner : List Tree
  pub way : StandsIn (Branch p us ∷ []) inner w
  pub is : at ++ inner ≡ below

-- `Built s old place new n`: of the new trees, which begin at this place, `n` branches lie in no kept node
pub data Built (s : Splice) (old : List Tree) : ℕ → List Tree → ℕ → Type 0 where
  Nothing : {place : ℕ} → Built s old place [] 0
  Token : {place : ℕ} {k : Kind} {ts : List Tree} {n : ℕ} → Built s old (place + 1) ts n → Built s old place (Leaf k ∷ ts) n
  Kept : {place p : ℕ} {us : Forest} {ts : List Tree} {n : ℕ} → IsKept s old place p us → Built s old (place + length (yields us)) ts n
      → Built s old place (Branch p us ∷ ts) n
  New : {place p : ℕ} {us : Forest} {ts : List Tree} {m n : ℕ} → ¬ IsKept s old place p us → Built s old place (trees us) m
      → Built s old (place + length (yields us)) ts n → Built s old place (Branch p us ∷ ts) (1 + m + n)

mutual
  -- a tree whose branches carry the number of the edit that made them
  pub data Stamped : Type 0 where
    StampedLeaf : Kind → Stamped
    StampedBranch : (production born : ℕ) → StampedForest → Stamped

  -- the list of stamped trees below a branch
  pub data StampedForest : Type 0 where
    StampedNil : StampedForest
    StampedCons : Stamped → StampedForest → StampedForest

abbrev mutual
  -- `plain t`: a stamped tree without its stamps
  pub plain : Stamped → Tree
  plain (StampedLeaf k) = Leaf k
  plain (StampedBranch p born ts) = Branch p (plain_all ts)

  -- `plain_all f`: a `StampedForest` without its stamps
  pub plain_all : StampedForest → Forest
  plain_all StampedNil = Nil
  plain_all (StampedCons t ts) = Cons (plain t) (plain_all ts)

-- `stamped_trees f`: a `StampedForest` as a list
abbrev pub stamped_trees : StampedForest → List Stamped
stamped_trees StampedNil = []
stamped_trees (StampedCons t ts) = t ∷ stamped_trees ts

-- `plain_trees ts`: a list of stamped trees without their stamps
abbrev pub plain_trees : List Stamped → List Tree
plain_trees [] = []
plain_trees (t ∷ ts) = plain t ∷ plain_trees ts

-- `StampedIn list lefts p born us`: the list has a branch of production `p` over `us` with the stamp `born`, after the left siblings
-- `lefts`
pub data StampedIn : List Stamped → List Tree → (p born : ℕ) → StampedForest → Type 0 where
  StampedTop : {p born : ℕ} {us : StampedForest} {ts : List Stamped} → StampedIn (StampedBranch p born us ∷ ts) [] p born us
  StampedBelow : {q other : ℕ} {us : StampedForest} {ts : List Stamped} {lefts : List Tree} {p born : ℕ} {vs : StampedForest}
      → StampedIn (stamped_trees us) lefts p born vs → StampedIn (StampedBranch q other us ∷ ts) lefts p born vs
  StampedPast : {t : Stamped} {ts : List Stamped} {lefts : List Tree} {p born : ℕ} {us : StampedForest} → StampedIn ts lefts p born us
      → StampedIn (t ∷ ts) (plain t ∷ lefts) p born us

-- the branches that carry the number `n` are exactly those that lie in no kept node
abbrev pub AreStampedExactly : ℕ → Splice → List Tree → List Stamped → Type 0
AreStampedExactly n s old new = (below : List Tree) (p born : ℕ) (us : StampedForest) → StampedIn new below p born us
    → (born ≡ n) ↔ (¬ LiesInKept s old (plain_trees new) below (Branch p (plain_all us)))
