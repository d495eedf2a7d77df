-- One more row of the table, as the trees of the rules give it.
use Rattle.dfa.proofs.Std.{◌≡◌, ℕ, ◌<◌, ◌≤◌, List, [], ◌∷◌, ◌++◌, Option, Some, Vec, Global, length, slice_index_or, nat_eq, sym, ap, ◌∙◌, subst, arith, slice_get, eq-eqb, eqb-true}
use Rattle.dfa.proofs.Common.{Expression, Tree, AreEntries, AreRows, AreRules, AreStates, Grows, IsReached, kept, members, all_next, first_end, marks_of, Rises, all_counts, all_tree_next, first_tree_end}
use Rattle.dfa.proofs.AddedRow.{length-all_next, reached_parts, rows_made, states_rise, within_rules}
use Rattle.dfa.proofs.MarkedSets.{all_listed_below, all_listed_rise, kept_listed, marks_are}
use Rattle.dfa.proofs.Numbered.{stored_at}
use Rattle.dfa.proofs.Trees.{trees_count, trees_end, trees_next}

module _ (rules : List Expression) (starts : List ℕ) (trees : List Tree) (parts : List (List ℕ)) (a : AreRules rules starts trees parts)
    (keys : List (Vec ℕ Global)) (n : ℕ) (k : Vec ℕ Global) (at : slice_get keys n ≡ Some k) where
  -- the set of a state rises
  pub set_rises : (set : List ℕ) → AreStates rules (members keys) → set ≡ k.items → Rises 0 set
  set_rises set states is =
      let st = stored_at keys n k at in
      subst (Rises 0) (st.1 ∙ sym is) (states_rise rules (members keys) n states st.0)

  -- and lies below the end of marks for all positions
  pub set_within : (set : List ℕ) (m : ℕ) → AreStates rules (members keys) → set ≡ k.items → m ≡ all_counts trees → (j : ℕ) → j < length set → slice_index_or set j 0 < m
  set_within set m states is many =
      let st = stored_at keys n k at in
      subst (λ (x : List ℕ). (j : ℕ) → j < length x → slice_index_or x j 0 < m) (st.1 ∙ sym is)
      (λ j l. omega (arith, many, trees_count rules trees a.trees_are, within_rules rules (members keys) n states st.0 j l))

  followers_are : (set followers seen : List ℕ) → followers ≡ all_tree_next (marks_of set) 0 (nat_eq n 0) trees → seen ≡ followers
      → kept (marks_of seen) ≡ kept (all_next (marks_of set) 0 (nat_eq n 0) rules)
  followers_are set followers seen is same = kept_listed seen (all_next (marks_of set) 0 (nat_eq n 0) rules) (same ∙ is ∙ trees_next rules trees (marks_of set) 0 (nat_eq n 0) a.trees_are)

  pub followers_rise : (set followers seen : List ℕ) → followers ≡ all_tree_next (marks_of set) 0 (nat_eq n 0) trees → seen ≡ followers → Rises 0 seen
  followers_rise set followers seen is same = all_listed_rise seen (all_next (marks_of set) 0 (nat_eq n 0) rules) (same ∙ is ∙ trees_next rules trees (marks_of set) 0 (nat_eq n 0) a.trees_are)

  pub followers_below : (set followers seen : List ℕ) (m : ℕ) → followers ≡ all_tree_next (marks_of set) 0 (nat_eq n 0) trees → seen ≡ followers
      → m ≡ all_counts trees → (j : ℕ) → j < length seen → slice_index_or seen j 0 < m
  followers_below set followers seen m is same many = all_listed_below seen (all_next (marks_of set) 0 (nat_eq n 0) rules) m
      (same ∙ is ∙ trees_next rules trees (marks_of set) 0 (nat_eq n 0) a.trees_are) (length-all_next rules (marks_of set) 0 (nat_eq n 0) ∙ sym (trees_count rules trees a.trees_are) ∙ sym many)

  -- where each part leads from it is the set of a text
  pub row_reached : (set followers seen : List ℕ) → set ≡ k.items → followers ≡ all_tree_next (marks_of set) 0 (nat_eq n 0) trees → seen ≡ followers
      → AreStates rules (members keys) → (j : ℕ) → j < length parts → IsReached rules (kept (marks_of seen) (slice_index_or parts j []))
  row_reached set followers seen here is same states =
      let st = stored_at keys n k at in
      reached_parts rules starts parts (members keys) n set (marks_of set) (marks_of seen) (nat_eq n 0) a.parts_are states st.0 (st.1 ∙ sym here)
      (marks_are set) (eqb-true n 0) (eq-eqb n 0) (followers_are set followers seen is same)

  -- and its row is one more row
  pub row_made : (new : List (List ℕ)) (old later : List ℕ) (accepts : List (Option ℕ)) (rule : Option ℕ) (set one followers seen : List ℕ) → n ≡ length accepts
      → set ≡ k.items → one ≡ k.items → followers ≡ all_tree_next (marks_of set) 0 (nat_eq n 0) trees → seen ≡ followers → rule ≡ first_tree_end (marks_of one) 0 0 trees
      → AreRows rules starts (members keys) old accepts → AreStates rules new → Grows (members keys) new → length new ≤ 4096
      → AreEntries old later new (marks_of seen) parts (length parts) → AreRows rules starts new later (accepts ++ rule ∷ [])
  row_made new old later accepts rule set one followers seen last here too is same ends r states g bound entries =
      let st = stored_at keys n k at in
      let lt : length accepts < length (members keys) = subst (λ (m : ℕ). m < length (members keys)) last st.0 in
      let is_set : slice_index_or (members keys) (length accepts) [] ≡ set = ap (λ m. slice_index_or (members keys) m []) (sym last) ∙ st.1 ∙ sym here in
      let first : rule ≡ first_end (marks_of set) 0 0 rules = ends ∙ ap (λ x. first_tree_end (marks_of x) 0 0 trees) (too ∙ sym here) ∙ trees_end rules trees (marks_of set) 0 0 a.trees_are in
      rows_made rules starts parts (members keys) new old later accepts rule set (marks_of set) (marks_of seen) (nat_eq n 0) a.parts_are r lt states g bound is_set
      (marks_are set) (λ e. sym last ∙ eqb-true n 0 e) (λ e. eq-eqb n 0 (last ∙ e)) (followers_are set followers seen is same) entries first
