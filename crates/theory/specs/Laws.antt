-- Words of the laws, which are the contracts of src/laws.rt.
use Rattle.std.specs.Prelude.{◌≡◌, ◌↔◌, ◌⊎◌, ℕ, List, [], ◌∷◌, ◌++◌}
use Rattle.definitions.specs.declared.Kind.{Kind}
use Rattle.definitions.specs.declared.Symbol.TheVariants.{Nonterminal}
use Rattle.definitions.specs.Trees.{Grammar, Tree, Leaf, Branch, IsTree, yield, all_kinds}
use Rattle.definitions.specs.Sentences.{IsTreeOf, IsUsed}
use Rattle.definitions.specs.Settled.{IsSettledIn}
use Rattle.definitions.specs.TokenEdits.{Splice}
use Rattle.definitions.specs.TreeEdits.{Stamped, StampedForest, StampedIn, plain_all, plain_trees, AreStampedExactly}
use Rattle.theory.specs.Reuse.{Goes_on, MakesAt, IsPrepared}

-- a root that some derivation from the start uses and a yield have at most one tree
abbrev pub HasOneTreeEach : Grammar → Type 0
HasOneTreeEach g = (n : ℕ) → IsUsed g (Nonterminal n) → (t u : Tree) → IsTree g t (Nonterminal n) → IsTree g u (Nonterminal n)
    → yield t ≡ yield u → t ≡ u

-- of the branches of these trees, exactly those that the run has made carry the number `n`
abbrev pub AreStampedByRun : (g : Grammar) → ℕ → List Stamped → {s i s' i' : List Tree} → Goes_on g s i s' i' → Type 0
AreStampedByRun g n new run = (below : List Tree) (p born : ℕ) (us : StampedForest) → StampedIn new below p born us
    → (born ≡ n) ↔ MakesAt g run below (Branch p (plain_all us))

-- what a parse answers: the one tree; or what the kinds before a fault settle, and the last of these kinds
abbrev pub AreAnswer : Grammar → List Kind → List Tree → Type 0
AreAnswer g kinds new =
    ((t : Tree) × IsTreeOf g kinds t × (new ≡ t ∷ []))
    ⊎ ((x : List Kind) × (rest : List Kind) × (settled : List Tree) × (h : IsSettledIn g x settled) × (kinds ≡ x ++ rest)
    × (new ≡ settled ++ (Leaf h.last ∷ [])))

-- where the incremental machine reads the prepared input, comes to the answer, and stamps what it makes, the stamps are exact
abbrev pub StampsExactly : Grammar → Type 0
StampsExactly g =
    (n : ℕ) (s : Splice) (old input rest : List Tree) (new : List Stamped) (run : Goes_on g [] input (plain_trees new) rest)
    → IsPrepared s old input
    → AreAnswer g (all_kinds input) (plain_trees new)
    → AreStampedByRun g n new run
    → AreStampedExactly n s old new
