-- The walk over the nodes of a store that gathers the lines of those that fold.
use Rattle.views.proofs.Std.{min, get_or-append_seam, map-append, get_or_append_left, All-nil, All-push, get_or_from_slice_get, slice_get_within, ◌≡◌, ℕ, ◌+◌, ◌<◌, ◌≤◌, Bool, false, List, [], ◌∷◌, ◌++◌, length, map, slice_index_or, All, arith, refl, sym, ap, subst, subst₂, ◌∙◌, length-append}
use Rattle.views.proofs.Common.{Kind, Symbol, Forest, Branch, HaveRoots, HasProduction, trees, yield, yields, all_kinds, left_of, StampedBranch, StampedForest, plain_all, Node as Place}
use Rattle.views.proofs.Common.{FileGrammar, NodeId, Child, Cell, most, tree, trees_from, forest_of, IsBelow, AreBelow, all_below-more, SpanLines, AreAscending, IsFold, AreSpanned, with_own, IsNodeFrom, trees_of_roots, Siblings}
use Rattle.definitions.specs.TreeEdits.{plain}
use Rattle.trees.specs.declared.store.Child.TheVariants.{Token, Node}
use Rattle.views.proofs.Children.{forest_trees}
use Rattle.views.proofs.FoldSteps.{Ahead, IsGathered, work, gathered_none, all_gathered, gathered_end, gathered_past, gathered_into, first_within, left_side, smaller_past, smaller_into, smaller_end, free_leaf, free_line, own_kept, own_only, all_own}

abbrev pub ahead : List Cell → Siblings → Ahead
ahead cells s = record { trees = trees_of_roots cells s.children; from = s.from }

-- siblings of the store
abbrev pub AreStored : List Cell → Siblings → Type 0
AreStored cells s = AreBelow (length cells) s.children

-- these pairs are gathered of the roots, and these siblings are ahead
pub record IsWalking (f : FileGrammar) (lines : List (ℕ × ℕ)) (cells : List Cell) (roots : List Child) (stack : List Siblings) (pairs : List (ℕ × ℕ)) : Type 0 where
  pub few : length lines ≤ most
  pub stored : All (AreStored cells) stack
  pub gathered : IsGathered f.grammar f.folds lines (trees_of_roots cells roots) (map (ahead cells) stack) pairs

module _ (f : FileGrammar) (lines : List (ℕ × ℕ)) (cells : List Cell) (roots : List Child) where
  pub walking_none : (s : Siblings) → s.children ≡ roots → s.from ≡ 0 → AreBelow (length cells) roots → (symbols : List Symbol) × HaveRoots f.grammar (trees_of_roots cells roots) symbols
      → length (all_kinds (trees_of_roots cells roots)) ≤ length lines → length lines ≤ most → IsWalking f lines cells roots (s ∷ []) []
  walking_none s e start below h short few =
      let same : record { trees = trees_of_roots cells roots; from = 0 } ≡ ahead cells s = λ i. record { trees = trees_of_roots cells (sym e i); from = sym start i } in
      record {
        few = few;
        stored = All-push (AreStored cells) [] s (All-nil (AreStored cells)) (subst (AreBelow (length cells)) (sym e) below);
        gathered = subst (λ (a : Ahead). IsGathered f.grammar f.folds lines (trees_of_roots cells roots) (a ∷ []) []) same
            (gathered_none f.grammar f.folds lines (trees_of_roots cells roots) h.0 h.1 short);
      }

  -- where no siblings are ahead, all is gathered
  pub walked : (stack : List Siblings) (pairs : List (ℕ × ℕ)) → length stack ≡ 0 → IsWalking f lines cells roots stack pairs → AreSpanned f.grammar f.folds lines (trees_of_roots cells roots) pairs
  walked [] pairs e w = all_gathered f.grammar f.folds lines (trees_of_roots cells roots) [] pairs refl w.gathered
  walked (s ∷ stack) pairs e w = absurd (omega (arith, e))

  -- the last siblings
  module _ (stack : List Siblings) (s : Siblings) (old : List Siblings) (pairs : List (ℕ × ℕ)) (before : IsWalking f lines cells roots old pairs) (last : old ≡ stack ++ s ∷ []) where
    w : IsWalking f lines cells roots (stack ++ s ∷ []) pairs
    w = subst (λ l. IsWalking f lines cells roots l pairs) last before

    was : map (ahead cells) stack ++ ahead cells s ∷ [] ≡ map (ahead cells) old
    was = sym (map-append (ahead cells) stack (s ∷ [])) ∙ ap (map (ahead cells)) (sym last)

    below : AreStored cells s
    below = subst (AreStored cells) (get_or-append_seam stack s [] s) (w.stored (length stack) s (omega (arith, length-append stack (s ∷ []))))

    others : All (AreStored cells) stack
    others = λ k d l. subst (AreStored cells) (get_or_append_left stack (s ∷ []) d k l) (w.stored k d (omega (arith, l, length-append stack (s ∷ []))))

    gathered : IsGathered f.grammar f.folds lines (trees_of_roots cells roots) (map (ahead cells) stack ++ ahead cells s ∷ []) pairs
    gathered = subst (λ l. IsGathered f.grammar f.folds lines (trees_of_roots cells roots) l pairs) (map-append (ahead cells) stack (s ∷ [])) w.gathered

    -- are none
    pub walking_end : s.children ≡ [] → IsWalking f lines cells roots stack pairs
    walking_end e = record {
      few = before.few;
      stored = others;
      gathered = gathered_end f.grammar f.folds lines (trees_of_roots cells roots)
          (map (ahead cells) stack) (ahead cells s) pairs gathered (ap (trees_of_roots cells) e);
    }

    pub walking_end-smaller : work (map (ahead cells) stack) < work (map (ahead cells) old)
    walking_end-smaller = subst (λ l. work (map (ahead cells) stack) < work l) was (smaller_end (map (ahead cells) stack) (ahead cells s))

    -- begin with a child, of so many tokens up to the greatest count, which the lines have
    module _ (c : Child) (rest : Siblings) (e : s.children ≡ c ∷ rest.children) (count : ℕ) (counted : count ≡ min most (length (yield (plain (tree cells c))))) where
      within : (to : ℕ) → to ≡ s.from + length (yield (plain (tree cells c))) → to + length (all_kinds (trees_of_roots cells rest.children)) ≤ length lines
      within to end = first_within f.grammar f.folds lines (trees_of_roots cells roots) (map (ahead cells) stack) (ahead cells s) pairs gathered
          (plain (tree cells c)) (trees_of_roots cells rest.children) (ap (trees_of_roots cells) e) to end

      pub exact : s.from + count ≡ s.from + length (yield (plain (tree cells c)))
      exact = omega (arith, counted, before.few, within (s.from + length (yield (plain (tree cells c)))) refl)

      pub count_within : s.from + count ≤ length lines
      count_within = omega (arith, within (s.from + count) exact)

      parts : AreBelow (length cells) (c ∷ rest.children)
      parts = subst (AreBelow (length cells)) e below

      pub child_below : IsBelow (length cells) c
      child_below = parts.0

      rest_stored : All (AreStored cells) (stack ++ rest ∷ [])
      rest_stored = All-push (AreStored cells) stack rest others parts.1

      -- after which the others begin
      module _ (after : rest.from ≡ s.from + count) (new : List Siblings) (pushed : new ≡ stack ++ rest ∷ []) where
        is_new : map (ahead cells) stack ++ ahead cells rest ∷ [] ≡ map (ahead cells) new
        is_new = sym (map-append (ahead cells) stack (rest ∷ [])) ∙ ap (map (ahead cells)) (sym pushed)

        walking_past : ((n : Place) (p : ℕ × ℕ) → IsNodeFrom f.grammar s.from (plain (tree cells c) ∷ []) n → IsFold f.folds lines n p → ⊥) → IsWalking f lines cells roots new pairs
        walking_past free = record {
          few = before.few;
          stored = subst (All (AreStored cells)) (sym pushed) rest_stored;
          gathered = subst (λ l. IsGathered f.grammar f.folds lines (trees_of_roots cells roots) l pairs) is_new
              (gathered_past f.grammar f.folds lines (trees_of_roots cells roots) (map (ahead cells) stack) (ahead cells s) pairs gathered (plain (tree cells c))
              (trees_of_roots cells rest.children) (ap (trees_of_roots cells) e) rest.from (after ∙ exact) free);
        }

        pub walking_token : (k : Kind) → c ≡ Token k → IsWalking f lines cells roots new pairs
        walking_token k is = walking_past (λ n p h g. free_leaf f.grammar f.folds lines (trees_of_roots cells roots) s.from (plain (tree cells c)) k (ap (λ d. plain (tree cells d)) is) n h)

        pub walking_line : AreAscending lines → ((p : ℕ × ℕ) → SpanLines lines s.from rest.from p → ⊥) → IsWalking f lines cells roots new pairs
        walking_line up none = walking_past (free_line f.grammar f.folds lines up s.from rest.from (plain (tree cells c)) (after ∙ exact) (omega (arith, after, count_within)) none)

        pub walking_past-smaller : work (map (ahead cells) new) < work (map (ahead cells) old)
        walking_past-smaller = subst₂ (λ l m. work l < work m) is_new was (smaller_past f.grammar f.folds lines (trees_of_roots cells roots) (map (ahead cells) stack)
            (ahead cells s) pairs gathered (plain (tree cells c)) (trees_of_roots cells rest.children) (ap (trees_of_roots cells) e) rest.from (after ∙ exact))

        -- which is a node of this production over these children
        module _ (id : NodeId) (is : c ≡ Node id) (q : ℕ) (made : (born : ℕ) × (under : StampedForest) × (tree cells (Node id) ≡ StampedBranch q born under)) where
          branch : (under : StampedForest) × (plain (tree cells c) ≡ Branch q (plain_all under))
          branch = (made.1, ap (λ d. plain (tree cells d)) is ∙ ap plain made.2)

          production : (m : ℕ) × (right : List Symbol) × HasProduction f.grammar q m right
          production = left_side f.grammar f.folds lines (trees_of_roots cells roots) (map (ahead cells) stack) (ahead cells s) pairs gathered (plain (tree cells c))
              (trees_of_roots cells rest.children) (ap (trees_of_roots cells) e) rest.from (after ∙ exact) q (plain_all branch.0) branch.1

          pub production_within : q < length f.grammar.productions
          production_within = slice_get_within f.grammar.productions q (record { left = production.0; right = production.1 }) production.2

          module _ (inner : Siblings) (over : (p born : ℕ) × (tree cells (Node id) ≡ StampedBranch p born (forest_of (trees_from [] cells) inner.children)))
              (start : inner.from ≡ s.from) (newer : List Siblings) (opened : newer ≡ new ++ inner ∷ []) where
            abbrev under : Forest
            under = plain_all (forest_of (trees_from [] cells) inner.children)

            is_branch : plain (tree cells c) ≡ Branch q under
            is_branch =
                let same : over.0 ≡ q = cc (sym over.2 ∙ made.2) in
                ap (λ d. plain (tree cells d)) is ∙ ap plain over.2 ∙ ap (λ k. Branch k under) same

            is_newer : map (ahead cells) stack ++ ahead cells rest ∷ [] ++ record { trees = trees under; from = s.from } ∷ [] ≡ map (ahead cells) newer
            is_newer =
                (λ i. is_new i ++ record { trees = forest_trees (trees_from [] cells) inner.children i; from = sym start i } ∷ [])
                ∙ sym (map-append (ahead cells) new (inner ∷ []))
                ∙ ap (map (ahead cells)) (sym opened)

            pub walking_into-smaller : work (map (ahead cells) newer) < work (map (ahead cells) old)
            walking_into-smaller = subst₂ (λ l m. work l < work m) is_newer was (smaller_into f.grammar f.folds lines (trees_of_roots cells roots) (map (ahead cells) stack)
                (ahead cells s) pairs gathered (plain (tree cells c)) (trees_of_roots cells rest.children) (ap (trees_of_roots cells) e) rest.from (after ∙ exact) q under is_branch)

            module _ (inside : AreBelow id.index inner.children) (pair : ℕ × ℕ) (spans : SpanLines lines s.from rest.from pair) where
              inner_stored : AreStored cells inner
              inner_stored =
                  let l : id.index < length cells = subst (IsBelow (length cells)) is child_below in
                  all_below-more id.index (length cells) (omega (arith, l)) inner.children inside

              side : left_of f.grammar q ≡ production.0
              side = ap (λ r. r.left) (get_or_from_slice_get f.grammar.productions q (record { left = production.0; right = production.1 }) (record { left = 0; right = [] }) production.2)

              own : Bool
              own = slice_index_or f.folds (left_of f.grammar q) false

              pub walking_into : (all_pairs : List (ℕ × ℕ)) → all_pairs ≡ with_own (slice_index_or f.folds (left_of f.grammar q) false) pair pairs → IsWalking f lines cells roots newer all_pairs
              unfolding own
              walking_into all_pairs is_own =
                  let end : rest.from ≡ s.from + length (yields under) = after ∙ exact ∙ ap (λ u. s.from + length (yield u)) is_branch in
                  let flag : slice_index_or f.folds production.0 false ≡ own = ap (λ k. slice_index_or f.folds k false) (sym side) in
                  record {
                    few = before.few;
                    stored = subst (All (AreStored cells)) (sym opened) (All-push (AreStored cells) new inner (subst (All (AreStored cells)) (sym pushed) rest_stored) inner_stored);
                    gathered = subst₂ (IsGathered f.grammar f.folds lines (trees_of_roots cells roots)) is_newer (sym is_own)
                        (gathered_into f.grammar f.folds lines (trees_of_roots cells roots) (map (ahead cells) stack) (ahead cells s) pairs gathered (plain (tree cells c))
                        (trees_of_roots cells rest.children) (ap (trees_of_roots cells) e) rest.from (after ∙ exact) q under is_branch (with_own own pair pairs)
                        (own_kept f.grammar f.folds lines q production.0 production.1 production.2 s.from rest.from under end pair spans pairs own)
                        (own_only f.grammar f.folds lines q production.0 production.1 production.2 s.from rest.from under end pair spans pairs own flag)
                        (all_own f.grammar f.folds lines q production.0 production.1 production.2 s.from rest.from under end pair spans pairs own flag));
                  }
