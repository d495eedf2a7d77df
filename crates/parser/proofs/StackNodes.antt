-- The nodes and the kinds of what stands on the stack.
use Rattle.parser.proofs.Std.{◌≡◌, ◌↔◌, ◌⊎◌, ℕ, ◌≤◌, List, [], ◌∷◌, ◌++◌, length, take, drop, refl, sym, ap, ◌∙◌, subst, inl, inr, ⊎_elim, arith, length-append, take-append-drop, append-nil}
use Rattle.parser.proofs.Common.{Kind, Grammar, Tree, Forest, Leaf, Branch, all_kinds, yield, Verdict, HasTree, FaultAt, FaultAtEnd, IsVerdict, IsSettled, StandsIn, IsNodeOf, stands_split, not_in_leaf, kinds-append, nowhere, stands_in_prefix, AreStacked, last_leaf}
use Rattle.definitions.specs.Answers.{Node}
use Rattle.parser.proofs.StopDecides.{last-append}

leaf_cases : (x : List Kind) → (last_leaf x ≡ []) ⊎ ((k : Kind) × (last_leaf x ≡ Leaf k ∷ []))
leaf_cases [] = inl refl
leaf_cases (k ∷ []) = inr (k, refl)
leaf_cases (j ∷ k ∷ x) = leaf_cases (k ∷ x)

-- a branch of a list with a leaf after it stands in the list
before_leaf : (trees : List Tree) (x : List Kind) (lefts : List Tree) (p : ℕ) (us : Forest) → StandsIn (trees ++ last_leaf x) lefts (Branch p us) → StandsIn trees lefts (Branch p us)
before_leaf trees x lefts p us w =
    ⊎_elim
    (λ a. a)
    (λ b. absurd (⊎_elim (λ none. nowhere b.1 none) (λ leaf. not_in_leaf b.1 leaf.0 p us leaf.1 refl) (leaf_cases x)))
    (stands_split trees (last_leaf x) w)

pub same_nodes : (g : Grammar) (trees stack : List Tree) (x : List Kind) → stack ≡ trees ++ last_leaf x → (n : Node) → IsNodeOf g stack n ↔ IsNodeOf g trees n
same_nodes g trees stack x e n = (
  λ h. (h.0, h.1, h.2, h.3, before_leaf trees x h.0 h.1 h.2 (subst (λ l. StandsIn l h.0 (Branch h.1 h.2)) e h.4), h.5, h.6, h.7),
  λ h. (h.0, h.1, h.2, h.3, subst (λ l. StandsIn l h.0 (Branch h.1 h.2)) (sym e) (stands_in_prefix (last_leaf x) h.4), h.5, h.6, h.7),
)

-- what a list of kinds settles has with its last kind these kinds
settled_kinds : (g : Grammar) (x : List Kind) (trees : List Tree) → IsSettled g x trees → all_kinds (trees ++ last_leaf x) ≡ x
settled_kinds g [] trees h = ap (λ l. all_kinds (l ++ [])) h
settled_kinds g (k ∷ x) trees h =
    let last : last_leaf (k ∷ x) ≡ Leaf h.last ∷ [] = ap last_leaf h.kinds ∙ last-append (all_kinds trees) h.last in
    ap (λ l. all_kinds (trees ++ l)) last ∙ kinds-append trees (Leaf h.last ∷ []) ∙ sym h.kinds

-- the kinds of the stack are the first ones
pub stacked_prefix : (g : Grammar) (kinds : List Kind) (v : Verdict) (stack : List Tree) → IsVerdict g kinds v → AreStacked g kinds v stack → (rest : List Kind) × (kinds ≡ all_kinds stack ++ rest)
stacked_prefix g kinds (HasTree t) stack h s =
    let all : all_kinds stack ≡ kinds = ap all_kinds s.stack_is ∙ ap (λ l. all_kinds (l ++ [])) s.are ∙ append-nil (yield t) ∙ h.kinds in
    ([], sym (append-nil (all_kinds stack) ∙ all))
stacked_prefix g kinds (FaultAt k) stack h s =
    let all : all_kinds stack ≡ take k kinds = ap all_kinds s.stack_is ∙ settled_kinds g (take k kinds) s.trees s.are in
    (drop k kinds, sym (ap (λ l. l ++ drop k kinds) all ∙ take-append-drop k kinds))
stacked_prefix g kinds FaultAtEnd stack h s =
    let all : all_kinds stack ≡ kinds = ap all_kinds s.stack_is ∙ settled_kinds g kinds s.trees s.are in
    ([], sym (append-nil (all_kinds stack) ∙ all))

pub stacked_length : (g : Grammar) (kinds : List Kind) (v : Verdict) (stack : List Tree) → IsVerdict g kinds v → AreStacked g kinds v stack → length (all_kinds stack) ≤ length kinds
stacked_length g kinds v stack h s =
    let prefix = stacked_prefix g kinds v stack h s in
    omega (arith, ap length prefix.1, length-append (all_kinds stack) prefix.0)
