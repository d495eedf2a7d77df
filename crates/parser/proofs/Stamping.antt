-- The stamps that a run leaves: of the branches on its stack, those that it has made carry its number.
use Rattle.parser.proofs.Std.{◌≡◌, ◌↔◌, ◌⊎◌, ◌≤◌, ℕ, List, [], ◌∷◌, ◌++◌, refl, sym, ap, ◌∙◌, subst, inl, inr, ⊎_elim, arith, append-nil, head-eq_of_cons-eq, tail-eq_of_cons-eq}
use Rattle.parser.proofs.Common.{Kind, Grammar, Tree, Branch, trees, all_kinds, StandsIn, branches, all_branches, Stamped, StampedLeaf, StampedBranch, StampedForest, StampedNil, StampedCons, plain, plain_all, stamped_trees, plain_trees, StampedIn, StampedTop, StampedBelow, StampedPast}
use Rattle.parser.proofs.Common.{Take, CanReuse, Tries, Goes_on, Ends, Reuses, Takes_token, Makes, MakesAt, goes_on_join, join_makes, join_takes, not_both, stamped_stands, stands_branches, branches-trees, Child, tree_of, trees_of, forest_of, IsMadeBy, AreMadeBy, AreUpTo, AreStampedBy, AreOlder}

-- a stamped branch of two lists joined
pub stamped_split : (one two : List Stamped) {lefts : List Tree} {p born : ℕ} {us : StampedForest} → StampedIn (one ++ two) lefts p born us
    → StampedIn one lefts p born us ⊎ ((more : List Tree) × StampedIn two more p born us × (lefts ≡ plain_trees one ++ more))
stamped_split [] two {lefts = lefts} w = inr (lefts, w, refl)
stamped_split (u ∷ one) two StampedTop = inl StampedTop
stamped_split (u ∷ one) two (StampedBelow w) = inl (StampedBelow w)
stamped_split (u ∷ one) two (StampedPast {lefts = lefts} w) = ⊎_elim (λ l. inl (StampedPast l)) (λ r. inr (r.0, r.1, ap (λ l. plain u ∷ l) r.2)) (stamped_split one two w)

pub stamped_before : {one : List Stamped} (two : List Stamped) {lefts : List Tree} {p born : ℕ} {us : StampedForest} → StampedIn one lefts p born us → StampedIn (one ++ two) lefts p born us
stamped_before two StampedTop = StampedTop
stamped_before two (StampedBelow w) = StampedBelow w
stamped_before two (StampedPast w) = StampedPast (stamped_before two w)

pub stamped_after : (one : List Stamped) {two : List Stamped} {lefts : List Tree} {p born : ℕ} {us : StampedForest}
    → StampedIn two lefts p born us → StampedIn (one ++ two) (plain_trees one ++ lefts) p born us
stamped_after [] w = w
stamped_after (u ∷ one) w = StampedPast (stamped_after one w)

pub nowhere_stamped : {l : List Stamped} {lefts : List Tree} {p born : ℕ} {us : StampedForest} → StampedIn l lefts p born us → l ≡ [] → ⊥
nowhere_stamped StampedTop e = cc e
nowhere_stamped a e = cc e

pub none_in_nothing : (n : ℕ) → AreOlder n []
none_in_nothing n lefts p born us w = absurd (nowhere_stamped w refl)

leaf_is_branch : (k : Kind) (p born : ℕ) (us : StampedForest) → StampedBranch p born us ≡ StampedLeaf k → ⊥
leaf_is_branch k p born us e = cc e

pub no_branch_in_leaf : (k : Kind) {l : List Stamped} {lefts : List Tree} {p born : ℕ} {us : StampedForest} → StampedIn l lefts p born us → l ≡ StampedLeaf k ∷ [] → ⊥
no_branch_in_leaf k (StampedTop {p = p} {born = born} {us = us}) e = leaf_is_branch k p born us (head-eq_of_cons-eq e)
no_branch_in_leaf k (StampedBelow {q = q} {other = other} {us = us} w) e = leaf_is_branch k q other us (head-eq_of_cons-eq e)
no_branch_in_leaf k (StampedPast w) e = nowhere_stamped w (tail-eq_of_cons-eq e)

-- the branch itself, or one below it
pub data InBranch (q n : ℕ) (f : StampedForest) : List Tree → ℕ → ℕ → StampedForest → Type 0 where
  Itself : InBranch q n f [] q n f
  Under : {lefts : List Tree} {p born : ℕ} {us : StampedForest} → StampedIn (stamped_trees f) lefts p born us → InBranch q n f lefts p born us

pub in_branch : (q n : ℕ) (f : StampedForest) {lefts : List Tree} {p born : ℕ} {us : StampedForest} → StampedIn (StampedBranch q n f ∷ []) lefts p born us → InBranch q n f lefts p born us
in_branch q n f StampedTop = Itself
in_branch q n f (StampedBelow w) = Under w
in_branch q n f (StampedPast w) = absurd (nowhere_stamped w refl)

-- the trees of children as a list and as a forest
pub stamped-children : (ts : List Stamped) (cs : List Child) → stamped_trees (forest_of ts cs) ≡ trees_of ts cs
stamped-children ts [] = refl
stamped-children ts (c ∷ cs) = ap (λ l. tree_of ts c ∷ l) (stamped-children ts cs)

pub trees_of-append : (ts : List Stamped) (xs ys : List Child) → trees_of ts (xs ++ ys) ≡ trees_of ts xs ++ trees_of ts ys
trees_of-append ts [] ys = refl
trees_of-append ts (x ∷ xs) ys = ap (λ l. tree_of ts x ∷ l) (trees_of-append ts xs ys)

pub plain-stamped : (us : StampedForest) → plain_trees (stamped_trees us) ≡ trees (plain_all us)
plain-stamped StampedNil = refl
plain-stamped (StampedCons t ts) = ap (λ l. plain t ∷ l) (plain-stamped ts)

-- of a list whose trees are older, so is what is after its first tree, and the first tree
pub none_after : (n : ℕ) (s : Stamped) (ts : List Stamped) → AreOlder n (s ∷ ts) → AreOlder n ts
none_after n s ts h lefts p born us w = h (plain s ∷ lefts) p born us (StampedPast w)

pub none_first : (n : ℕ) (s : Stamped) (ts : List Stamped) → AreOlder n (s ∷ ts) → AreOlder n (s ∷ [])
none_first n s ts h lefts p born us w = h lefts p born us (stamped_before ts w)

-- stamps up to a number
pub older_up_to : (n : ℕ) (ts : List Stamped) → AreOlder n ts → AreUpTo n ts
older_up_to n ts h lefts p born us w = omega (arith, h lefts p born us w)

pub up_to-leaf : (n : ℕ) (k : Kind) → AreUpTo n (StampedLeaf k ∷ [])
up_to-leaf n k lefts p born us w = absurd (no_branch_in_leaf k w refl)

pub up_to-append : (n : ℕ) (one two : List Stamped) → AreUpTo n one → AreUpTo n two → AreUpTo n (one ++ two)
up_to-append n one two h k lefts p born us w = ⊎_elim (λ a. h lefts p born us a) (λ b. k b.0 p born us b.1) (stamped_split one two w)

up_to-branch : (n q : ℕ) (f : StampedForest) → AreUpTo n (stamped_trees f) → {lefts : List Tree} {p born : ℕ} {us : StampedForest} → InBranch q n f lefts p born us → born ≤ n
up_to-branch n q f h Itself = omega arith
up_to-branch n q f h (Under {lefts = lefts} {p = p} {born = born} {us = us} w) = h lefts p born us w

-- a new branch of this number stands in the place of its children
pub up_to-made : (n q : ℕ) (under kids : List Stamped) (f : StampedForest) → stamped_trees f ≡ kids → AreUpTo n (under ++ kids) → AreUpTo n (under ++ (StampedBranch q n f ∷ []))
up_to-made n q under kids f is h =
    up_to-append n under (StampedBranch q n f ∷ [])
    (λ lefts p born us w. h lefts p born us (stamped_before kids w))
    (λ lefts p born us w. up_to-branch n q f (subst (AreUpTo n) (sym is) (λ lefts p born us w. h (plain_trees under ++ lefts) p born us (stamped_after under w))) (in_branch q n f w))

module _ (g : Grammar) where
  -- a branch that two runs make is made by one of them
  pub join_made : {s1 i1 s2 i2 s3 i3 : List Tree} (p : Goes_on g s1 i1 s2 i2) (q : Goes_on g s2 i2 s3 i3) (below : List Tree) (w : Tree)
      → MakesAt g (goes_on_join g p q) below w → MakesAt g p below w ⊎ MakesAt g q below w
  join_made Ends q below w h = inr h
  join_made (Reuses t ts f c more) q below w h = join_made more q below w h
  join_made (Takes_token k ts f m more) q below w h = join_made more q below w h
  join_made (Makes s1 f t n r more) q below w h =
      ⊎_elim (λ a. inl (inl a)) (λ b. ⊎_elim (λ x. inl (inr x)) (λ y. inr y) (join_made more q below w b)) h

  -- a step that makes nothing
  still : {s i s' i' s'' i'' : List Tree} (run : Goes_on g s i s' i') (step : Goes_on g s' i' s'' i'') → ((below : List Tree) (w : Tree) → MakesAt g step below w → ⊥)
      → (born number : ℕ) (below : List Tree) (w : Tree) → (born ≡ number) ↔ MakesAt g run below w → (born ≡ number) ↔ MakesAt g (goes_on_join g run step) below w
  still run step none born number below w h =
      ((λ e. join_makes g run step below w (inl (h.0 e))), (λ m. h.1 (⊎_elim (λ a. a) (λ b. absurd (none below w b)) (join_made run step below w m))))

  pub stamps_token : {s i s' i' s'' i'' : List Tree} (run : Goes_on g s i s' i') (step : Goes_on g s' i' s'' i'') → ((below : List Tree) (w : Tree) → MakesAt g step below w → ⊥)
      → (number : ℕ) (ts : List Stamped) (k : Kind) → AreStampedBy g run number ts → AreStampedBy g (goes_on_join g run step) number (ts ++ (StampedLeaf k ∷ []))
  stamps_token run step none number ts k h lefts p born us w =
      ⊎_elim
      (λ a. still run step none born number lefts (Branch p (plain_all us)) (h lefts p born us a))
      (λ b. absurd (no_branch_in_leaf k b.1 refl))
      (stamped_split ts (StampedLeaf k ∷ []) w)

  pub stamps_taken : {s i i' : List Tree} {top : List Tree} (run : Goes_on g s i top i') (u : Tree) (rest : List Tree) (f : Tries g top i' (Take u rest))
      (c : CanReuse g top u (all_kinds rest)) (number : ℕ) (ts : List Stamped) (v : Stamped) → plain_trees ts ≡ top → plain v ≡ u → AreOlder number (v ∷ [])
      → AreStampedBy g run number ts → AreStampedBy g (goes_on_join g run (Reuses u rest f c Ends)) number (ts ++ (v ∷ []))
  stamps_taken {top = top} run u rest f c number ts v top_is v_is none h lefts p born us w =
      let step : Goes_on g top _ (top ++ (u ∷ [])) rest = Reuses u rest f c Ends in
      let node = Branch p (plain_all us) in
      ⊎_elim
      (λ a. still run step (λ below x m. m) born number lefts node (h lefts p born us a))
      (λ b.
      let stands : StandsIn (u ∷ []) b.0 node = subst (λ l. StandsIn (l ∷ []) b.0 node) v_is (stamped_stands b.1) in
      let place : top ++ b.0 ≡ lefts = ap (λ l. l ++ b.0) (sym top_is) ∙ sym b.2 in
      let takes = join_takes g run step lefts node (inr (inl (b.0, stands, place))) in
      ((λ e. absurd (omega (arith, e, none b.0 p born us b.1))), (λ m. absurd (not_both g (goes_on_join g run step) lefts p (plain_all us) takes m))))
      (stamped_split ts (v ∷ []) w)

  module _ {s i top now top' : List Tree} (run : Goes_on g s i top now) (step : Goes_on g top now top' now) (number q : ℕ) (under kids : List Stamped)
      (f : StampedForest) (kids_are : stamped_trees f ≡ kids) (makes : (below : List Tree) (w : Tree)
      → MakesAt g step below w ↔ ((plain_trees under ≡ below) × (Branch q (plain_all f) ≡ w))) (h : AreStampedBy g run number (under ++ kids)) where
    -- what stands in the list, or below the new branch, is not the new branch
    other : (lefts : List Tree) (p born : ℕ) (us : StampedForest) → (MakesAt g step lefts (Branch p (plain_all us)) → ⊥) → (born ≡ number) ↔ MakesAt g run lefts (Branch p (plain_all us))
        → (born ≡ number) ↔ MakesAt g (goes_on_join g run step) lefts (Branch p (plain_all us))
    other lefts p born us none k =
        let w = Branch p (plain_all us) in
        ((λ e. join_makes g run step lefts w (inl (k.0 e))), (λ m. k.1 (⊎_elim (λ a. a) (λ b. absurd (none b)) (join_made run step lefts w m))))

    not_in_under : (lefts : List Tree) (p born : ℕ) (us : StampedForest) → StampedIn under lefts p born us → MakesAt g step lefts (Branch p (plain_all us)) → ⊥
    not_in_under lefts p born us w m =
        let here = (makes lefts (Branch p (plain_all us))).0 m in
        omega (arith, stands_branches (stamped_stands w), ap all_branches here.0)

    not_in_kids : (more lefts : List Tree) (p born : ℕ) (us : StampedForest) → StampedIn (stamped_trees f) more p born us → MakesAt g step lefts (Branch p (plain_all us)) → ⊥
    not_in_kids more lefts p born us w m =
        let here = (makes lefts (Branch p (plain_all us))).0 m in
        let fits = stands_branches (stamped_stands w) in
        omega (arith, fits, ap branches here.1, ap all_branches (plain-stamped f), branches-trees (plain_all f))

    of_branch : (more lefts : List Tree) (p born : ℕ) (us : StampedForest) → InBranch q number f more p born us → lefts ≡ plain_trees under ++ more
        → (born ≡ number) ↔ MakesAt g (goes_on_join g run step) lefts (Branch p (plain_all us))
    of_branch [] lefts p born us Itself e =
        ((λ same. join_makes g run step lefts (Branch q (plain_all f)) (inr ((makes lefts (Branch q (plain_all f))).1 (sym (e ∙ append-nil (plain_trees under)), refl)))), (λ m. refl))
    of_branch more lefts p born us (Under w) e =
        other lefts p born us (not_in_kids more lefts p born us w) (subst (λ l. (born ≡ number) ↔ MakesAt g run l (Branch p (plain_all us))) (sym e)
        (h (plain_trees under ++ more) p born us (stamped_after under (subst (λ l. StampedIn l more p born us) kids_are w))))

    pub stamps_made : AreStampedBy g (goes_on_join g run step) number (under ++ (StampedBranch q number f ∷ []))
    stamps_made lefts p born us w =
        ⊎_elim
        (λ a. other lefts p born us (not_in_under lefts p born us a) (h lefts p born us (stamped_before kids a)))
        (λ b. of_branch b.0 lefts p born us (in_branch q number f b.1) b.2)
        (stamped_split under (StampedBranch q number f ∷ []) w)

-- where all branches carry the number
mutual
  made_tree : (n : ℕ) (s : Stamped) → ((lefts : List Tree) (p born : ℕ) (us : StampedForest) → StampedIn (s ∷ []) lefts p born us → born ≡ n) → IsMadeBy n s
  made_tree n (StampedLeaf k) h = tt
  made_tree n (StampedBranch p born ts) h = (h [] p born ts StampedTop, made_forest n ts (λ lefts q b us w. h lefts q b us (StampedBelow w)))

  pub made_forest : (n : ℕ) (ts : StampedForest) → ((lefts : List Tree) (p born : ℕ) (us : StampedForest) → StampedIn (stamped_trees ts) lefts p born us → born ≡ n) → AreMadeBy n ts
  made_forest n StampedNil h = tt
  made_forest n (StampedCons s ts) h = (
    made_tree n s (λ lefts p born us w. h lefts p born us (stamped_before (stamped_trees ts) w)),
    made_forest n ts (λ lefts p born us w. h (plain s ∷ lefts) p born us (StampedPast w)),
  )
