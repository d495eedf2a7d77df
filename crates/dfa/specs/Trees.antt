-- The trees that the positions of rules are kept in, and how they say what the expressions do. The positions of a tree begin at o.
use Rattle.std.specs.Prelude.{◌≡◌, ℕ, zero, suc, ◌+◌, Bool, false, ◌||◌, if◌then◌else◌, List, [], ◌∷◌, ◌++◌, length, Option, Some, None}
use Rattle.definitions.specs.declared.expression.Expression.{Expression}
use Rattle.dfa.specs.declared.tree.Tree.{Tree}
use Rattle.dfa.specs.declared.tree.Tree.TheVariants.{Position, Pair', Plus', Optional'}
use Rattle.definitions.specs.Spelling.{Address}
use Rattle.dfa.specs.Positions.{positions}
use Rattle.dfa.specs.Marks.{mark, literal_end, ends, literal_next, next}

-- how many positions a tree has, as it is stored
abbrev pub count : Tree → ℕ
count Position = 1
count (Pair' c n p a q b) = n
count (Plus' n p a) = n
count (Optional' n p a) = n

-- what is stored is right
abbrev pub IsCounted : Tree → Type 0
IsCounted Position = Unit {0}
IsCounted (Pair' c n p a q b) = (n ≡ count a + count b) × IsCounted a × IsCounted b
IsCounted (Plus' n p a) = (n ≡ count a) × IsCounted a
IsCounted (Optional' n p a) = (n ≡ count a) × IsCounted a

-- whether what was read can end with the tree
abbrev pub tree_ends : List Bool → ℕ → Bool → Tree → Bool
tree_ends marks o start Position = mark marks o
tree_ends marks o start (Pair' c n p a q b) =
    if c then tree_ends marks o start a || tree_ends marks (o + count a) start b
    else tree_ends marks (o + count a) (tree_ends marks o start a) b
tree_ends marks o start (Plus' n p a) = tree_ends marks o start a
tree_ends marks o start (Optional' n p a) = tree_ends marks o start a || start

-- the positions of the tree at which one more character can stand
abbrev pub tree_next : List Bool → ℕ → Bool → Tree → List ℕ
tree_next marks o start Position = if start then o ∷ [] else []
tree_next marks o start (Pair' c n p a q b) =
    tree_next marks o start a ++ tree_next marks (o + count a) (if c then start else tree_ends marks o start a) b
tree_next marks o start (Plus' n p a) = tree_next marks o (tree_ends marks o start a || start) a
tree_next marks o start (Optional' n p a) = tree_next marks o start a

-- `any_mark marks o n`: whether one of the n positions from o on is marked
abbrev pub any_mark : List Bool → ℕ → ℕ → Bool
any_mark marks o zero = false
any_mark marks o (suc n) = mark marks o || any_mark marks (o + 1) n

-- `listed o marks`: the marked positions, where the first mark is that of o
abbrev pub listed : ℕ → List Bool → List ℕ
listed o [] = []
listed o (m ∷ ms) = if m then o ∷ listed (o + 1) ms else listed (o + 1) ms

-- the tree is the two trees, one after another or as a choice
pub record IsJoined (c : Bool) (a b t : Tree) : Type 0 where
  pub many : count t ≡ count a + count b
  pub counted : IsCounted t
  pub ends : (marks : List Bool) (o : ℕ) (start : Bool) → tree_ends marks o start t
      ≡ (if c then tree_ends marks o start a || tree_ends marks (o + count a) start b
      else tree_ends marks (o + count a) (tree_ends marks o start a) b)
  pub next : (marks : List Bool) (o : ℕ) (start : Bool) → tree_next marks o start t
      ≡ tree_next marks o start a ++ tree_next marks (o + count a) (if c then start else tree_ends marks o start a) b

-- the tree has n positions, and its ends and the next positions are these
pub record IsTree (t : Tree) (n : ℕ) (end : List Bool → ℕ → Bool → Bool) (following : List Bool → ℕ → Bool → List Bool) : Type 0 where
  pub many : count t ≡ n
  pub counted : IsCounted t
  pub ends : (marks : List Bool) (o : ℕ) (start : Bool) → tree_ends marks o start t ≡ end marks o start
  pub next : (marks : List Bool) (o : ℕ) (start : Bool) → tree_next marks o start t ≡ listed o (following marks o start)

-- the tree says the same as the expression
abbrev pub IsTreeOf : Expression → Tree → Type 0
IsTreeOf e t = IsTree t (positions e) (λ marks o start. ends marks o start e) (λ marks o start. next marks o start e)

-- the same of a literal
abbrev pub IsLiteralTree : List ℕ → Tree → Type 0
IsLiteralTree xs t = IsTree t (length xs) (λ marks o start. literal_end marks o start xs) (λ marks o start. literal_next marks o start xs)

abbrev pub IsPlus : Tree → Tree → Type 0
IsPlus a t = (p : Address) × (t ≡ Plus' (count a) p a)

abbrev pub IsOptional : Tree → Tree → Type 0
IsOptional a t = (p : Address) × (t ≡ Optional' (count a) p a)

-- the trees of a list of rules
abbrev pub AreTreesOf : List Expression → List Tree → Type 0
AreTreesOf [] [] = Unit {0}
AreTreesOf [] (t ∷ ts) = ⊥
AreTreesOf (e ∷ es) [] = ⊥
AreTreesOf (e ∷ es) (t ∷ ts) = IsTreeOf e t × AreTreesOf es ts

-- `all_counts trees`: how many positions they have, as it is stored
abbrev pub all_counts : List Tree → ℕ
all_counts [] = 0
all_counts (t ∷ ts) = count t + all_counts ts

-- the positions of a list of trees at which one more character can stand
abbrev pub all_tree_next : List Bool → ℕ → Bool → List Tree → List ℕ
all_tree_next marks o start [] = []
all_tree_next marks o start (t ∷ ts) = tree_next marks o start t ++ all_tree_next marks (o + count t) start ts

-- `first_tree_end marks o k trees`: the first tree with which what was read can end, where the first one has the number `k`
abbrev pub first_tree_end : List Bool → ℕ → ℕ → List Tree → Option ℕ
first_tree_end marks o k [] = None
first_tree_end marks o k (t ∷ ts) = if tree_ends marks o false t then Some k else first_tree_end marks (o + count t) (k + 1) ts
