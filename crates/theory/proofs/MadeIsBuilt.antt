-- What the incremental machine makes is exactly what lies in no kept node.
use Rattle.theory.proofs.Std.{◌≡◌, ◌⊎◌, ◌↔◌, ◌<◌, ℕ, List, [], ◌∷◌, ◌++◌, length, refl, sym, ap, ◌∙◌, subst, inl, inr, ⊎_elim, arith, append_assoc, append-nil, head-eq_of_cons-eq, tail-eq_of_cons-eq}
use Rattle.theory.proofs.Common.{Kind, Grammar, Tree, Forest, Leaf, Branch, Nil, trees, yields, all_kinds, IsTreeOf, AllProductive, HasNoConflict, IsSettledIn, StandsIn, Top, Below, Past, branches, all_branches, Splice}
use Rattle.theory.proofs.Common.{LiesInKept, Stamped, StampedForest, StampedNil, StampedCons, plain, plain_all, stamped_trees, plain_trees, StampedIn, StampedTop, StampedBelow, StampedPast, AreStampedExactly}
use Rattle.theory.proofs.Common.{MakesAt, IsPrepared, Goes_on, Ends, Reuses, Takes_token, Makes}
use Rattle.theory.proofs.Stack.{stands_in_prefix, stands_after, stands_in_fold, stands_on_top, nowhere}
use Rattle.theory.proofs.ReusableNodes.{Taken, sentence_node}
use Rattle.theory.proofs.KeptIsReused.{TakesOver, stands_branches, branches-append, branches-trees}
use Rattle.theory.proofs.ReuseIsExact.{stands_split, settled_node, EachTaken, TakenIsKept, taken_is_kept, kept_is_taken}

-- a node of a node
pub stands_inside : {l lefts inner : List Tree} {t w : Tree} → StandsIn l lefts t → StandsIn (t ∷ []) inner w → StandsIn l (lefts ++ inner) w
stands_inside (Top {ts = ts}) v = stands_in_prefix ts v
stands_inside (Below w) v = Below (stands_inside w v)
stands_inside (Past w) v = Past (stands_inside w v)

leaf_is_branch : (k : Kind) (q : ℕ) (vs : Forest) → Leaf k ≡ Branch q vs → ⊥
leaf_is_branch k q vs e = cc e

-- a leaf has no branch
pub not_in_leaf : {l lefts : List Tree} {u : Tree} → StandsIn l lefts u → (k : Kind) (q : ℕ) (vs : Forest) → l ≡ Leaf k ∷ [] → u ≡ Branch q vs → ⊥
not_in_leaf Top k q vs e f = absurd (leaf_is_branch k q vs (sym (head-eq_of_cons-eq e) ∙ f))
not_in_leaf (Below {p = p} {us = us} w) k q vs e f = leaf_is_branch k p us (sym (head-eq_of_cons-eq e))
not_in_leaf (Past w) k q vs e f = nowhere w (tail-eq_of_cons-eq e)

abbrev children_of : Tree → Forest
children_of (Leaf k) = Nil
children_of (Branch p ts) = ts

-- a branch at the top of what a reduction leaves: the new one, or one of the old
in_new : {l m : List Tree} {u : Tree} → StandsIn l m u → (p : ℕ) (ts : Forest) → l ≡ Branch p ts ∷ [] → ((m ≡ []) × (Branch p ts ≡ u)) ⊎ StandsIn (trees ts) m u
in_new Top p ts e = inl (refl, sym (head-eq_of_cons-eq e))
in_new {m = m} {u = u} (Below {us = us} w) p ts e = inr (subst (λ l. StandsIn (trees l) m u) (ap children_of (head-eq_of_cons-eq e)) w)
in_new (Past w) p ts e = absurd (nowhere w (tail-eq_of_cons-eq e))

top_case : (p : ℕ) (ts : Forest) (under s below : List Tree) (q : ℕ) (vs : Forest) → s ≡ under ++ trees ts → (A B : Type 0) {m : List Tree}
    → StandsIn (Branch p ts ∷ []) m (Branch q vs) → below ≡ under ++ m → StandsIn s below (Branch q vs) ⊎ (A ⊎ (((under ≡ below) × (Branch p ts ≡ Branch q vs)) ⊎ B))
top_case p ts under s below q vs from A B {m} v h =
    ⊎_elim
    (λ a. inr (inr (inl (sym (append-nil under) ∙ ap (λ l. under ++ l) (sym a.0) ∙ sym h, a.1))))
    (λ b. inl (subst (λ l. StandsIn l below (Branch q vs)) (sym from) (subst (λ l. StandsIn (under ++ trees ts) l (Branch q vs)) (sym h) (stands_after under b))))
    (in_new v p ts refl)

plain-stamped : (us : StampedForest) → plain_trees (stamped_trees us) ≡ trees (plain_all us)
plain-stamped StampedNil = refl
plain-stamped (StampedCons t ts) = ap (λ l. plain t ∷ l) (plain-stamped ts)

-- a stamped branch is a node of the trees without the stamps
pub stamped_stands : {l : List Stamped} {lefts : List Tree} {p born : ℕ} {us : StampedForest} → StampedIn l lefts p born us → StandsIn (plain_trees l) lefts (Branch p (plain_all us))
stamped_stands StampedTop = Top
stamped_stands (StampedBelow {us = vs} {lefts = lefts} {p = p} {vs = us} w) = Below (subst (λ l. StandsIn l lefts (Branch p (plain_all us))) (plain-stamped vs) (stamped_stands w))
stamped_stands (StampedPast w) = Past (stamped_stands w)

module _ (g : Grammar) where
  -- each branch was there before, or was taken over, or was made
  pub made_or_taken : {s i s' i' : List Tree} (run : Goes_on g s i s' i') → (below : List Tree) (q : ℕ) (vs : Forest) → StandsIn s' below (Branch q vs)
      → StandsIn s below (Branch q vs) ⊎ (TakesOver g run below (Branch q vs) ⊎ MakesAt g run below (Branch q vs))
  made_or_taken Ends below q vs w = inl w
  made_or_taken (Reuses {stack = s} t ts f c more) below q vs w =
      ⊎_elim
      (λ v. ⊎_elim (λ a. inl a) (λ b. inr (inl (inl (b.0, b.1, sym b.2)))) (stands_split s (t ∷ []) v))
      (λ v. inr (⊎_elim (λ a. inl (inr a)) (λ b. inr b) v))
      (made_or_taken more below q vs w)
  made_or_taken (Takes_token {stack = s} k ts f m more) below q vs w =
      ⊎_elim
      (λ v. ⊎_elim (λ a. inl a) (λ b. absurd (not_in_leaf b.1 k q vs refl refl)) (stands_split s (Leaf k ∷ []) v))
      (λ v. inr v)
      (made_or_taken more below q vs w)
  made_or_taken (Makes {stack = s} s1 f t n r more) below q vs w =
      ⊎_elim
      (λ v. ⊎_elim
      (λ a. inl (subst (λ l. StandsIn l below (Branch q vs)) (sym r.from_is) (stands_in_prefix (trees r.ts) a)))
      (λ b. top_case r.number r.ts r.below s below q vs r.from_is (TakesOver g more below (Branch q vs)) (MakesAt g more below (Branch q vs)) b.1 b.2)
      (stands_split r.below (Branch r.number r.ts ∷ []) (subst (λ l. StandsIn l below (Branch q vs)) r.to_is v)))
      (λ v. inr (⊎_elim (λ a. inl a) (λ b. inr (inr b)) v))
      (made_or_taken more below q vs w)

  one_branch : (q : ℕ) (vs : Forest) → 0 < branches (Branch q vs)
  one_branch q vs = omega arith

  -- what stands on the stack is not taken over later
  taken_not_before : {s i s' i' : List Tree} (run : Goes_on g s i s' i') → (below : List Tree) (q : ℕ) (vs : Forest) → StandsIn s below (Branch q vs) → TakesOver g run below (Branch q vs) → ⊥
  taken_not_before Ends below q vs w h = h
  taken_not_before (Reuses {stack = s} t ts f c more) below q vs w h =
      ⊎_elim
      (λ a. omega (arith, stands_branches w, one_branch q vs, ap all_branches a.2, branches-append s a.0))
      (λ b. taken_not_before more below q vs (stands_in_prefix (t ∷ []) w) b)
      h
  taken_not_before (Takes_token k ts f m more) below q vs w h = taken_not_before more below q vs (stands_in_prefix (Leaf k ∷ []) w) h
  taken_not_before (Makes s1 f t n r more) below q vs w h =
      taken_not_before more below q vs (subst (λ l. StandsIn l below (Branch q vs)) (sym r.to_is) (stands_in_fold r.below r.number r.ts (subst (λ l. StandsIn l below (Branch q vs)) r.from_is w))) h

  -- nor made later
  made_not_before : {s i s' i' : List Tree} (run : Goes_on g s i s' i') → (below : List Tree) (q : ℕ) (vs : Forest) → StandsIn s below (Branch q vs) → MakesAt g run below (Branch q vs) → ⊥
  made_not_before Ends below q vs w h = h
  made_not_before (Reuses t ts f c more) below q vs w h = made_not_before more below q vs (stands_in_prefix (t ∷ []) w) h
  made_not_before (Takes_token k ts f m more) below q vs w h = made_not_before more below q vs (stands_in_prefix (Leaf k ∷ []) w) h
  made_not_before (Makes s1 f t n r more) below q vs w h =
      ⊎_elim
      (λ a. ⊎_elim
      (λ b. omega (arith, stands_branches b, one_branch q vs, ap all_branches a.0))
      (λ b. omega (arith, stands_branches b.1, branches-trees r.ts, ap branches a.1))
      (stands_split r.below (trees r.ts) (subst (λ l. StandsIn l below (Branch q vs)) r.from_is w)))
      (λ b. made_not_before more below q vs
      (subst (λ l. StandsIn l below (Branch q vs)) (sym r.to_is) (stands_in_fold r.below r.number r.ts (subst (λ l. StandsIn l below (Branch q vs)) r.from_is w))) b)
      h

  -- nothing is both
  pub not_both : {s i s' i' : List Tree} (run : Goes_on g s i s' i') → (below : List Tree) (q : ℕ) (vs : Forest) → TakesOver g run below (Branch q vs) → MakesAt g run below (Branch q vs) → ⊥
  not_both Ends below q vs h k = h
  not_both (Reuses {stack = s} t ts f c more) below q vs h k =
      ⊎_elim
      (λ a. made_not_before more below q vs (subst (λ l. StandsIn (s ++ (t ∷ [])) l (Branch q vs)) a.2 (stands_after s a.1)) k)
      (λ b. not_both more below q vs b k)
      h
  not_both (Takes_token c ts f m more) below q vs h k = not_both more below q vs h k
  not_both (Makes s1 f t n r more) below q vs h k =
      ⊎_elim
      (λ a. taken_not_before more below q vs
      (subst (λ l. StandsIn l below (Branch q vs)) (sym r.to_is) (subst (λ l. StandsIn (r.below ++ (Branch r.number r.ts ∷ [])) l (Branch q vs)) a.0
      (subst (λ u. StandsIn (r.below ++ (Branch r.number r.ts ∷ [])) r.below u) a.1 (stands_on_top r.below (Branch r.number r.ts))))) h)
      (λ b. not_both more below q vs h b)
      k

  -- what lies in what is taken over is taken over
  takes_inside : {s i s' i' : List Tree} (run : Goes_on g s i s' i') → (at : List Tree) (t : Tree) (inner : List Tree) (w : Tree)
      → TakesOver g run at t → StandsIn (t ∷ []) inner w → TakesOver g run (at ++ inner) w
  takes_inside Ends at t inner w h v = h
  takes_inside (Reuses {stack = s} u ts f c more) at t inner w h v =
      ⊎_elim
      (λ a. inl (a.0 ++ inner, stands_inside a.1 v, sym (append_assoc s a.0 inner) ∙ ap (λ l. l ++ inner) a.2))
      (λ b. inr (takes_inside more at t inner w b v))
      h
  takes_inside (Takes_token k ts f m more) at t inner w h v = takes_inside more at t inner w h v
  takes_inside (Makes s1 f n j r more) at t inner w h v = takes_inside more at t inner w h v

  taken_lies : (s : Splice) (old new : List Tree) {stack i s' i' : List Tree} (run : Goes_on g stack i s' i') → EachTaken g (TakenIsKept s old new) run
      → (below : List Tree) (w : Tree) → TakesOver g run below w → LiesInKept s old new below w
  taken_lies s old new Ends each below w h = absurd h
  taken_lies s old new (Reuses {stack = stack} t ts f c more) each below w h =
      ⊎_elim
      (λ a.
      let k = each.0 in
      record { at = stack; p = k.0; us = k.1; kept = k.3; stands = subst (λ u. StandsIn new stack u) k.2 k.4; inner = a.0; way = subst (λ u. StandsIn (u ∷ []) a.0 w) k.2 a.1; is = a.2 })
      (λ b. taken_lies s old new more each.1 below w b)
      h
  taken_lies s old new (Takes_token k ts f m more) each below w h = taken_lies s old new more each below w h
  taken_lies s old new (Makes s1 f t n r more) each below w h = taken_lies s old new more each below w h

  module _ (free : HasNoConflict g) (productive : AllProductive g) where
    -- of the branches of the new trees, the run has made exactly those that lie in no kept node
    pub made_iff_new : (s : Splice) (old input : List Tree) → IsPrepared s old input → {new input' : List Tree} (run : Goes_on g [] input new input')
        → ((at : List Tree) (p : ℕ) (us : Forest) → StandsIn new at (Branch p us) → 0 < length (yields us) → Taken g [] at p us (all_kinds input))
        → (below : List Tree) (q : ℕ) (vs : Forest) → StandsIn new below (Branch q vs) → (MakesAt g run below (Branch q vs) → LiesInKept s old new below (Branch q vs) → ⊥)
        × ((LiesInKept s old new below (Branch q vs) → ⊥) → MakesAt g run below (Branch q vs))
    made_iff_new s old input prep {new} run can below q vs w = (made, new_is_made)
      where
        made : MakesAt g run below (Branch q vs) → LiesInKept s old new below (Branch q vs) → ⊥
        made m l =
            let over = kept_is_taken g free productive s old input prep run l.at l.p l.us (can l.at l.p l.us l.stands l.kept.not_empty) l.stands l.kept in
            not_both run below q vs (subst (λ k. TakesOver g run k (Branch q vs)) l.is (takes_inside run l.at (Branch l.p l.us) l.inner (Branch q vs) over l.way)) m

        new_is_made : (LiesInKept s old new below (Branch q vs) → ⊥) → MakesAt g run below (Branch q vs)
        new_is_made no_kept =
            ⊎_elim
            (λ a. absurd (nowhere a refl))
            (λ b. ⊎_elim (λ t. absurd (no_kept (taken_lies s old new run (taken_is_kept g free productive s old input prep run) below (Branch q vs) t))) (λ m. m) b)
            (made_or_taken run below q vs w)

    -- where the made branches carry the edit's number and no others do, the stamps are exact
    pub stamps_exact : (n : ℕ) (s : Splice) (old input : List Tree) → IsPrepared s old input → (new : List Stamped) {input' : List Tree} (run : Goes_on g [] input (plain_trees new) input')
        → ((at : List Tree) (p : ℕ) (us : Forest) → StandsIn (plain_trees new) at (Branch p us) → 0 < length (yields us) → Taken g [] at p us (all_kinds input))
        → ((below : List Tree) (p born : ℕ) (us : StampedForest) → StampedIn new below p born us → (born ≡ n) ↔ MakesAt g run below (Branch p (plain_all us))) → AreStampedExactly n s old new
    stamps_exact n s old input prep new run can stamps below p born us w =
        let both = made_iff_new s old input prep run can below p (plain_all us) (stamped_stands w) in
        let stamp = stamps below p born us w in
        ((λ e. both.0 (stamp.0 e)), (λ h. stamp.1 (both.1 h)))

  -- each node of a sentence's tree can be taken over
  pub can_in_tree : (x : List Kind) (t : Tree) → IsTreeOf g x t → (at : List Tree) (p : ℕ) (us : Forest) → StandsIn (t ∷ []) at (Branch p us) → Taken g [] at p us x
  can_in_tree x t h at p us w = sentence_node g x t h at p us w

  -- and each node of the stack where the machine stops at a fault
  pub can_at_fault : (x tail : List Kind) (settled : List Tree) → (h : IsSettledIn g x settled) → (at : List Tree) (p : ℕ) (us : Forest)
      → StandsIn (settled ++ (Leaf h.last ∷ [])) at (Branch p us) → Taken g [] at p us (x ++ tail)
  can_at_fault x tail settled h at p us w =
      ⊎_elim
      (λ a. settled_node g x settled h tail at p us a)
      (λ b. absurd (not_in_leaf b.1 h.last p us refl refl))
      (stands_split settled (Leaf h.last ∷ []) w)

  -- runs one after the other
  abbrev pub goes_on_join : {s1 i1 s2 i2 s3 i3 : List Tree} → Goes_on g s1 i1 s2 i2 → Goes_on g s2 i2 s3 i3 → Goes_on g s1 i1 s3 i3
  goes_on_join Ends q = q
  goes_on_join (Reuses t ts f c more) q = Reuses t ts f c (goes_on_join more q)
  goes_on_join (Takes_token k ts f m more) q = Takes_token k ts f m (goes_on_join more q)
  goes_on_join (Makes s1 f t n r more) q = Makes s1 f t n r (goes_on_join more q)

  pub join_takes : {s1 i1 s2 i2 s3 i3 : List Tree} (p : Goes_on g s1 i1 s2 i2) (q : Goes_on g s2 i2 s3 i3) (below : List Tree) (w : Tree)
      → TakesOver g p below w ⊎ TakesOver g q below w → TakesOver g (goes_on_join p q) below w
  join_takes Ends q below w h = ⊎_elim (λ a. absurd a) (λ b. b) h
  join_takes (Reuses t ts f c more) q below w h =
      ⊎_elim (λ a. ⊎_elim (λ x. inl x) (λ y. inr (join_takes more q below w (inl y))) a) (λ b. inr (join_takes more q below w (inr b))) h
  join_takes (Takes_token k ts f m more) q below w h = join_takes more q below w h
  join_takes (Makes s1 f t n r more) q below w h = join_takes more q below w h

  pub join_makes : {s1 i1 s2 i2 s3 i3 : List Tree} (p : Goes_on g s1 i1 s2 i2) (q : Goes_on g s2 i2 s3 i3) (below : List Tree) (w : Tree)
      → MakesAt g p below w ⊎ MakesAt g q below w → MakesAt g (goes_on_join p q) below w
  join_makes Ends q below w h = ⊎_elim (λ a. absurd a) (λ b. b) h
  join_makes (Reuses t ts f c more) q below w h = join_makes more q below w h
  join_makes (Takes_token k ts f m more) q below w h = join_makes more q below w h
  join_makes (Makes s1 f t n r more) q below w h =
      ⊎_elim (λ a. ⊎_elim (λ x. inl x) (λ y. inr (join_makes more q below w (inl y))) a) (λ b. inr (join_makes more q below w (inr b))) h
