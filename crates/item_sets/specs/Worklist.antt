-- What the closure of a set calls for: nonterminals, each with a lookahead that may follow it.
use Rattle.std.specs.Prelude.{◌≡◌, ◌<◌, ◌≤◌, ◌+◌, ◌⊎◌, ℕ, Bool, true, false, List, [], ◌∷◌, Option, Some, length, All, Contains}
use Rattle.std.specs.List.{slice_index_or, sum_by}
use Rattle.definitions.specs.declared.Symbol.{Symbol}
use Rattle.definitions.specs.declared.Symbol.TheVariants.{Nonterminal}
use Rattle.definitions.specs.Trees.{Grammar, left_of, right_of}
use Rattle.item_sets.specs.declared.item.Item.{Item}
use Rattle.item_sets.specs.declared.worklist.Entry.{Entry}
use Rattle.productions.specs.First.{unmarked}
use Rattle.productions.specs.Lookaheads.{lookahead_at}
use Rattle.item_sets.specs.Order.{IsRising, IsBefore}
use Rattle.productions.specs.Productions.{Shape}
use Rattle.item_sets.specs.Sets.{after_dot, IsIn}
use Rattle.theory.specs.First.{MayFollow}

-- the worklist of a closure: nonterminals of the grammar with what may follow them, in the order in which they came up, and as marks
pub record Entries : Type 0 where
  pub grammar : Shape
  pub list : List Entry
  pub rows : List (List Bool)

abbrev pub marked : List (List Bool) → ℕ → ℕ → Bool
marked rows n k = slice_index_or (slice_index_or rows n []) k false

-- list and marks have the same
pub record AreEntries (g : Shape) (list : List Entry) (rows : List (List Bool)) : Type 0 where
  pub long : length rows ≡ g.nonterminals
  pub wide : (n : ℕ) → n < length rows → length (slice_index_or rows n []) ≡ g.grammar.rules + 1
  pub known : All (λ x. (x.nonterminal < g.nonterminals) × (x.column < g.grammar.rules + 1)) list
  pub marks : All (λ x. marked rows x.nonterminal x.column ≡ true) list
  pub listed : (n k : ℕ) → marked rows n k ≡ true → Contains list (record { nonterminal = n; column = k })

abbrev pub unmarked_in : List (List Bool) → ℕ
unmarked_in rows = sum_by unmarked rows

-- `AreMarked g rows calls`: each nonterminal and lookahead of which it is true is marked
abbrev pub AreMarked : Shape → List (List Bool) → (ℕ → ℕ → Type 0) → Type 0
AreMarked g rows calls = (n k : ℕ) → k < g.grammar.rules + 1 → calls n k → marked rows n k ≡ true

-- what was in the worklist stays, in its place, and what is called for is added, and nothing else
pub record IsGrownBy (calls : ℕ → ℕ → Type 0) (old new : Entries) : Type 0 where
  pub grammar : new.grammar ≡ old.grammar
  pub keeps : (n k : ℕ) → marked old.rows n k ≡ true → marked new.rows n k ≡ true
  pub added : AreMarked old.grammar new.rows calls
  pub only : (n k : ℕ) → marked new.rows n k ≡ true → (marked old.rows n k ≡ true) ⊎ calls n k
  pub longer : length old.list ≤ length new.list
  pub same : (i : ℕ) (d : Entry) → i < length old.list → slice_index_or new.list i d ≡ slice_index_or old.list i d
  pub count : length new.list + unmarked_in new.rows ≡ length old.list + unmarked_in old.rows

-- these symbols call for n, with the lookahead at k after it
abbrev pub CallFor : Grammar → List Symbol → Option ℕ → ℕ → ℕ → Type 0
CallFor g symbols look n k = (rest : List Symbol) × (symbols ≡ Nonterminal n ∷ rest) × MayFollow g rest look (lookahead_at k)

-- some item of the kernel's closure calls for it
abbrev pub IsCalledFor : Grammar → List Item → ℕ → ℕ → Type 0
IsCalledFor g kernel n k = (i : Item) × IsIn g kernel i × CallFor g (after_dot g i) i.look n k

-- some production of m calls for it
abbrev pub IsExpanded : Grammar → ℕ → ℕ → ℕ → ℕ → Type 0
IsExpanded g m j n k = (p : ℕ) × (p < length g.productions) × (left_of g p ≡ m) × CallFor g (right_of g p) (lookahead_at j) n k

-- marked is exactly what the kernel's closure calls for
pub record AreCalledFor (g : Shape) (kernel : List Item) (rows : List (List Bool)) : Type 0 where
  pub sound : (n k : ℕ) → marked rows n k ≡ true → IsCalledFor g.grammar kernel n k
  pub complete : AreMarked g rows (IsCalledFor g.grammar kernel)

abbrev pub beginning_of : ℕ → ℕ → Item
beginning_of p k = record { production = Some p; at = 0; look = lookahead_at k }

-- the item begins production p, with a lookahead that is marked for n
abbrev pub IsBeginning : List (List Bool) → ℕ → ℕ → Item → Type 0
IsBeginning rows n p i = (k : ℕ) × (marked rows n k ≡ true) × (beginning_of p k ≡ i)

-- these items, in order, are the kernel's, and of the beginnings before production p's with column k those that are marked
pub record HaveBeginnings (g : Shape) (kernel : List Item) (rows : List (List Bool)) (p k : ℕ) (items : List Item) : Type 0 where
  pub rising : IsRising items
  pub before : All (IsBefore p k) items
  pub kept : (i : Item) → Contains kernel i → Contains items i
  pub added : (q j : ℕ) → (q < p) ⊎ ((q ≡ p) × (j < k)) → j < g.grammar.rules + 1 → marked rows (left_of g.grammar q) j ≡ true
      → Contains items (beginning_of q j)
  pub only : (i : Item) → Contains items i
      → Contains kernel i ⊎ ((q : ℕ) × (q < length g.grammar.productions) × IsBeginning rows (left_of g.grammar q) q i)
