-- Marks at the nonterminals that derivations from the start use.
use Rattle.std.specs.Prelude.{◌≡◌, ℕ, ◌<◌, Bool, true, false, List, Some, slice_get, slice_index_or}
use Rattle.definitions.specs.declared.Symbol.{Symbol}
use Rattle.definitions.specs.declared.Symbol.TheVariants.{Nonterminal}
use Rattle.definitions.specs.Trees.{Grammar, Production}
use Rattle.definitions.specs.Sentences.{IsUsed}
use Rattle.grammar.specs.Marks.{are_marked}

-- what stands on the right side of a production whose left side is marked is marked
abbrev pub IsSpread : List Production → List Bool → Type 0
IsSpread ps marks = (p : ℕ) (x : Production) → slice_get ps p ≡ Some x → slice_index_or marks x.left false ≡ true
    → are_marked marks x.right ≡ true

-- n is one of these symbols, and not marked
pub record IsUnmarkedIn (marks : List Bool) (symbols : List Symbol) (n : ℕ) : Type 0 where
  pub place : ℕ
  pub stands : slice_get symbols place ≡ Some (Nonterminal n)
  pub unmarked : slice_index_or marks n false ≡ false

-- and stands on the right side of a production whose left side is
pub record IsReached (ps : List Production) (marks : List Bool) (n : ℕ) : Type 0 where
  pub number : ℕ
  pub production : Production
  pub there : slice_get ps number ≡ Some production
  pub marked : slice_index_or marks production.left false ≡ true
  pub on_right : IsUnmarkedIn marks production.right n

-- the nonterminals on right sides are below a number
abbrev pub AreWithin : List Production → ℕ → Type 0
AreWithin ps count = (p : ℕ) (x : Production) (k n : ℕ) → slice_get ps p ≡ Some x → slice_get x.right k ≡ Some (Nonterminal n) → n < count

-- what is marked is used in the grammar of these productions
abbrev pub AreOnlyUsed : ℕ → List Production → List Bool → Type 0
AreOnlyUsed start ps marks = (g : Grammar) (n : ℕ) → g.start ≡ start → g.productions ≡ ps → slice_index_or marks n false ≡ true
    → IsUsed g (Nonterminal n)

-- and what is used is marked
abbrev pub AreAllUsed : ℕ → List Production → List Bool → Type 0
AreAllUsed start ps marks = (g : Grammar) (n : ℕ) → g.start ≡ start → g.productions ≡ ps → IsUsed g (Nonterminal n)
    → slice_index_or marks n false ≡ true

pub record AreUsed (start : ℕ) (ps : List Production) (marks : List Bool) : Type 0 where
  pub only : AreOnlyUsed start ps marks
  pub all : AreAllUsed start ps marks
