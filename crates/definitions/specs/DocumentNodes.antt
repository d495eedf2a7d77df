-- The nodes of a document as answers take them, and the text of a tree.
use Rattle.std.specs.Prelude.{◌≡◌, ℕ, ◌+◌, List, [], ◌∷◌, length, take, slice_index, slice_index_or}
use Rattle.definitions.specs.declared.Kind.{Kind}
use Rattle.definitions.specs.declared.Symbol.{Symbol}
use Rattle.definitions.specs.Trees.{Grammar, Tree, Forest, Leaf, Branch, Nil, Cons, HasProduction, yields}
use Rattle.definitions.specs.Sentences.{Verdict, HasTree, FaultAt, FaultAtEnd}
use Rattle.definitions.specs.Settled.{IsSettled}
use Rattle.definitions.specs.Nodes.{StandsIn, place_of}
use Rattle.definitions.specs.Answers.{Node, kind_name, node_text}

-- `AreDocumentTrees g x v trees`: the trees of a document with the kinds `x` and the verdict `v`: the tree or, where there is none, what
-- the kinds before the fault settle
abbrev pub AreDocumentTrees : Grammar → List Kind → Verdict → List Tree → Type 0
AreDocumentTrees g x (HasTree t) trees = trees ≡ t ∷ []
AreDocumentTrees g x (FaultAt k) trees = IsSettled g (take k x) trees
AreDocumentTrees g x FaultAtEnd trees = IsSettled g x trees

-- `IsNodeOf g trees n`: `n` is a branch of these trees, at the significant tokens of its yield
abbrev pub IsNodeOf : Grammar → List Tree → Node → Type 0
IsNodeOf g ts n =
    (lefts : List Tree) × (p : ℕ) × (us : Forest) × (right : List Symbol) × StandsIn ts lefts (Branch p us)
    × HasProduction g p n.symbol right × (n.from ≡ place_of lefts) × (n.to ≡ place_of lefts + length (yields us))

abbrev mutual
  -- `tree_text rules nonterminals left t`: the text of a tree: the name of a kind, or of a node with its children
  pub tree_text : List (List ℕ) → List (List ℕ) → List ℕ → Tree → List ℕ
  tree_text rules nonterminals left (Leaf k) = kind_name rules k
  tree_text rules nonterminals left (Branch p us) = node_text (slice_index_or nonterminals (slice_index left p) [])
      (tree_texts rules nonterminals left us)

  -- `tree_texts rules nonterminals left f`: the `tree_text` of each tree of a `Forest`
  pub tree_texts : List (List ℕ) → List (List ℕ) → List ℕ → Forest → List (List ℕ)
  tree_texts rules nonterminals left Nil = []
  tree_texts rules nonterminals left (Cons t ts) = tree_text rules nonterminals left t ∷ tree_texts rules nonterminals left ts
