-- The proofs of the laws, from the lemmas of the other files.
use Rattle.theory.proofs.Std.{◌∙◌, ◌≡◌, ◌⊎◌, ◌+◌, ◌<◌, ◌≤◌, ℕ, List, [], ◌∷◌, ◌++◌, take, None, refl, sym, ap, subst, inl, inr, arith, append-nil, cases_lt}
use Rattle.theory.proofs.Common.{Kind, Grammar, Tree, Leaf, Branch, yield, all_kinds, AllProductive, IsSentence, IsViable, Verdict, HasTree, FaultAt, FaultAtEnd, IsVerdict, HasNoConflict, StandsIn, AreDocumentTrees, plain_trees}
use Rattle.theory.proofs.Common.{look_at, Run, IsStackAfter, CanReuse, Goes_on, AreAnswer, StampsExactly}
use Rattle.theory.proofs.Incremental.{goes_on_passes}
use Rattle.theory.proofs.ReusableNodes.{Taken}
use Rattle.theory.proofs.Theorems.{one_tree, settled_exists, settled_unique, settled_run, reuse}
use Rattle.theory.proofs.Verdicts.{viable_take}
use Rattle.theory.proofs.MadeIsBuilt.{stamps_exact, can_in_tree, can_at_fault}

module _ (g : Grammar) where
  sentence_viable : (x : List Kind) → IsSentence g x → (n : ℕ) → IsViable g (take n x)
  sentence_viable x s n = viable_take g x n (whole s)
    where
      whole : IsSentence g x → IsViable g x
      whole s = ([], subst (IsSentence g) (sym (append-nil x)) s)

  not_first : (x : List Kind) (j k : ℕ) → j < k → IsVerdict g x (FaultAt j) → IsVerdict g x (FaultAt k) → ⊥
  not_first x j k l h m = h.1 (m.2 j l)

  pub verdict_unique : HasNoConflict g → (x : List Kind) (v w : Verdict) → IsVerdict g x v → IsVerdict g x w → v ≡ w
  verdict_unique free x (HasTree t) (HasTree u) h k = ap HasTree (one_tree g free x t u h k)
  verdict_unique free x (HasTree t) (FaultAt k) h m = absurd (m.1 (sentence_viable x (t, h) (k + 1)))
  verdict_unique free x (HasTree t) FaultAtEnd h m = absurd (m.0 (t, h))
  verdict_unique free x (FaultAt j) (HasTree t) h m = absurd (h.1 (sentence_viable x (t, m) (j + 1)))
  verdict_unique free x (FaultAt j) (FaultAt k) h m = go (cases_lt j k) (cases_lt k j)
    where
      go : (j < k) ⊎ (k ≤ j) → (k < j) ⊎ (j ≤ k) → FaultAt j ≡ FaultAt k
      go (inl l) r = absurd (not_first x j k l h m)
      go (inr l) (inl r) = absurd (not_first x k j r m h)
      go (inr l) (inr r) = let same : j ≡ k = omega arith in ap FaultAt same
  verdict_unique free x (FaultAt j) FaultAtEnd h m = absurd (h.1 (viable_take g x (j + 1) m.1))
  verdict_unique free x FaultAtEnd (HasTree t) h m = absurd (h.0 (t, m))
  verdict_unique free x FaultAtEnd (FaultAt k) h m = absurd (m.1 (viable_take g x (k + 1) h.1))
  verdict_unique free x FaultAtEnd FaultAtEnd h m = refl

  of_verdict : HasNoConflict g → (x : List Kind) (v : Verdict) (one two : List Tree) → AreDocumentTrees g x v one → AreDocumentTrees g x v two → one ≡ two
  of_verdict free x (HasTree t) one two h k = h ∙ sym k
  of_verdict free x (FaultAt k) one two h m = settled_unique g free (take k x) one two h m
  of_verdict free x FaultAtEnd one two h k = settled_unique g free x one two h k

  pub document_trees_unique : HasNoConflict g → (x : List Kind) (v w : Verdict) (one two : List Tree) → IsVerdict g x v
      → IsVerdict g x w → AreDocumentTrees g x v one → AreDocumentTrees g x w two → one ≡ two
  document_trees_unique free x v w one two h k p q =
      of_verdict free x v one two p (subst (λ u. AreDocumentTrees g x u two) (sym (verdict_unique free x v w h k)) q)

  pub stack_exists : (x : List Kind) → IsViable g x → (stack : List Tree) × IsStackAfter g x stack
  stack_exists [] v = ([], refl)
  stack_exists (k ∷ x) v =
      let s = settled_exists g (k ∷ x) v in
      let run = settled_run g (k ∷ x) s.0 s.1 in
      (s.0 ++ (Leaf s.1.last ∷ []), (all_kinds s.0, s.1.last, s.0, s.1.kinds, run.0, run.1, refl))

  pub reuse_is_run : AllProductive g → (stack : List Tree) (t : Tree) (rest : List Kind) → CanReuse g stack t rest → Run g (look_at rest None) stack (yield t) (stack ++ (t ∷ []))
  reuse_is_run productive stack t rest c = reuse g productive t c.root c.is stack c.symbols c.roots (look_at rest None) c.move c.called

  pub incremental_is_plain : AllProductive g → (input stack : List Tree) → Goes_on g [] input stack [] → Run g None [] (all_kinds input) stack
  incremental_is_plain productive input stack run =
      let p = goes_on_passes g productive run in
      subst (λ l. Run g None [] l stack) (sym (append-nil p.read) ∙ sym p.split) p.run

  can : (kinds : List Kind) (new : List Tree) → AreAnswer g kinds new → (at : List Tree) (p : ℕ) (us : _) → StandsIn new at (Branch p us) → Taken g [] at p us kinds
  can kinds new (inl (t, h, is)) at p us w = can_in_tree g kinds t h at p us (subst (λ l. StandsIn l at (Branch p us)) is w)
  can kinds new (inr (x, rest, settled, h, split, is)) at p us w =
      subst (Taken g [] at p us) (sym split) (can_at_fault g x rest settled h at p us (subst (λ l. StandsIn l at (Branch p us)) is w))

  pub exact : HasNoConflict g → AllProductive g → StampsExactly g
  exact free productive n s old input rest new run prepared answer stamped =
      stamps_exact g free productive n s old input prepared new run (λ at p us w nonempty. can (all_kinds input) (plain_trees new) answer at p us w) stamped
