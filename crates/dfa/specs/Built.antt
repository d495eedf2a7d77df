-- What holds while the states of an automaton are made. A state is a set of positions, and 0 is the start.
use Rattle.std.specs.Prelude.{◌≡◌, ◌≢◌, ℕ, ◌+◌, ◌*◌, ◌<◌, ◌≤◌, ◌⊎◌, Bool, List, [], ◌∷◌, ◌++◌, length, map, filter, slice_index_or}
use Rattle.std.specs.Prelude.{Option, None, Vec, All, Contains}
use Rattle.std.specs.declared.alloc.Global.{Global}
use Rattle.definitions.specs.declared.expression.Expression.{Expression}
use Rattle.definitions.specs.Text.{IsText, IsCharacter}
use Rattle.dfa.specs.Alphabet.{all_cuts, representative}
use Rattle.dfa.specs.Marks.{mark, all_holders}
use Rattle.dfa.specs.Sets.{IsSetOf}
use Rattle.dfa.specs.Table.{part, IsAscending, IsFirst}
use Rattle.dfa.specs.declared.states.States.{States}
use Rattle.dfa.specs.declared.tree.Tree.{Tree}
use Rattle.dfa.specs.Trees.{AreTreesOf}

-- the sets as lists
abbrev pub members : List (Vec ℕ Global) → List (List ℕ)
members keys = map (λ v. v.items) keys

-- the set of some nonempty text
pub record IsReached (rules : List Expression) (set : List ℕ) : Type 0 where
  pub text : List ℕ
  pub is_text : IsText text
  pub nonempty : 1 ≤ length text
  pub is : IsSetOf rules text set

abbrev pub IsAbsent : List (List ℕ) → List ℕ → Type 0
IsAbsent sets set = (i : ℕ) → i < length sets → slice_index_or sets i [] ≢ set

-- the start, and different sets of texts
pub record AreStates (rules : List Expression) (sets : List (List ℕ)) : Type 0 where
  pub begins : 0 < length sets
  pub start : slice_index_or sets 0 [] ≡ []
  pub distinct : (i j : ℕ) → i < j → j < length sets → slice_index_or sets i [] ≢ slice_index_or sets j []
  pub reached : (i : ℕ) → 0 < i → i < length sets → IsReached rules (slice_index_or sets i [])

-- the set is among the new ones, which are the old ones and it at most
abbrev pub Placed : List (List ℕ) → List (List ℕ) → List ℕ → Type 0
Placed old new set = (new ≡ old) ⊎ (new ≡ old ++ set ∷ []) × IsAbsent old set

pub record Grows (old new : List (List ℕ)) : Type 0 where
  pub longer : length old ≤ length new
  pub same : (i : ℕ) → i < length old → slice_index_or new i [] ≡ slice_index_or old i []

-- the set has this number
abbrev pub IsNumber : List (List ℕ) → ℕ → List ℕ → Type 0
IsNumber sets n set = (n < length sets) × (slice_index_or sets n [] ≡ set)

-- of the positions that hold a part's characters, those that are marked
abbrev pub kept : List Bool → List ℕ → List ℕ
kept marks holders = filter (λ p. mark marks p) holders

-- s is the state of the text u
pub record IsStateOf (rules : List Expression) (sets : List (List ℕ)) (s : ℕ) (u : List ℕ) : Type 0 where
  pub is : IsSetOf rules u (slice_index_or sets s [])
  pub first : s ≡ 0 → u ≡ []
  pub begins : u ≡ [] → s ≡ 0

-- the state s leads to the state n at each character of the part k
abbrev pub LeadsTo : List Expression → List ℕ → List (List ℕ) → ℕ → ℕ → ℕ → Type 0
LeadsTo rules starts sets s k n = (n < length sets)
    × ((c : ℕ) (u : List ℕ) → IsCharacter c → part starts c ≡ k → IsStateOf rules sets s u
    → IsSetOf rules (u ++ c ∷ []) (slice_index_or sets n []))

-- the rows of the first states
pub record AreRows (rules : List Expression) (starts : List ℕ) (sets : List (List ℕ)) (next : List ℕ)
    (accepts : List (Option ℕ)) : Type 0 where
  pub states : AreStates rules sets
  pub bound : length sets ≤ 4096
  pub rows : length accepts ≤ length sets
  pub filled : length next ≡ length accepts * (length starts + 1)
  pub entries : (s k : ℕ) → s < length accepts → k ≤ length starts
      → LeadsTo rules starts sets s k (slice_index_or next (s * (length starts + 1) + k) 0)
  pub accepting : (s : ℕ) (u : List ℕ) → s < length accepts → 1 ≤ length u → IsStateOf rules sets s u
      → IsFirst rules u (slice_index_or accepts s None)

-- the holders of the parts of the alphabet that begin at these characters
pub record ArePartsOf (rules : List Expression) (starts : List ℕ) (parts : List (List ℕ)) : Type 0 where
  pub many : length parts ≡ length starts + 1
  pub each : (k : ℕ) → k ≤ length starts → slice_index_or parts k [] ≡ all_holders (representative starts k) 0 rules
  pub ascending : IsAscending starts
  pub cuts : (x : ℕ) → Contains (all_cuts rules) x → Contains starts x
  pub characters : All IsCharacter starts

-- the trees of the rules, and the holders of the parts
pub record AreRules (rules : List Expression) (starts : List ℕ) (trees : List Tree) (parts : List (List ℕ)) : Type 0 where
  pub trees_are : AreTreesOf rules trees
  pub parts_are : ArePartsOf rules starts parts

-- n entries are added to the old ones: the numbers of the sets of the first n parts
pub record AreEntries (old new : List ℕ) (sets : List (List ℕ)) (marks : List Bool) (parts : List (List ℕ)) (n : ℕ) : Type 0 where
  pub many : length new ≡ length old + n
  pub same : (i : ℕ) → i < length old → slice_index_or new i 0 ≡ slice_index_or old i 0
  pub each : (k : ℕ) → k < n → IsNumber sets (slice_index_or new (length old + k) 0) (kept marks (slice_index_or parts k []))

-- the rows of these states are those of the rules, where the parts of the alphabet begin so
abbrev pub HasRows : List Expression → List ℕ → States → Type 0
HasRows rules starts s = AreRows rules starts (members s.sets.keys) s.next.items s.accepts.items
