-- A shift makes no branch, and a reduction one. How many of a list's branches carry a number.
use Rattle.parser.proofs.Std.{◌≡◌, ◌≢◌, ℕ, ◌+◌, Bool, true, false, List, [], ◌∷◌, ◌++◌, Option, ap, arith, refl, sym, ◌∙◌, ◌==◌, if◌then◌else◌, eq-eqb, eqb-true}
use Rattle.parser.proofs.Common.{Kind, Grammar, Tree, Branch, trees, all_branches, Stamped, StampedBranch, StampedCons, StampedForest, StampedLeaf, StampedNil, StampedIn, StampedBelow, StampedPast, StampedTop, plain, stamped_trees}
use Rattle.parser.proofs.Common.{Reduces, branches-append, branches-trees, branches_by, branches_of_by, all_branches_by, AreOlder}
use Rattle.parser.proofs.Stamping.{stamped_before}

pub reduce_count : (g : Grammar) (stack : List Tree) (look : Option Kind) (stack' : List Tree) → Reduces g stack look stack' → all_branches stack' ≡ all_branches stack + 1
reduce_count g stack look stack' r =
    omega (arith, ap all_branches r.from_is, ap all_branches r.to_is, branches-append r.below (trees r.ts), branches-append r.below (Branch r.number r.ts ∷ []), branches-trees r.ts)

-- ---- the branches with a number

pub by-append : (n : ℕ) (xs ys : List Stamped) → all_branches_by n (xs ++ ys) ≡ all_branches_by n xs + all_branches_by n ys
by-append n [] ys = omega arith
by-append n (x ∷ xs) ys = omega (arith, by-append n xs ys)

pub by-forest : (n : ℕ) (ts : StampedForest) → all_branches_by n (stamped_trees ts) ≡ branches_of_by n ts
by-forest n StampedNil = refl
by-forest n (StampedCons t ts) = ap (λ m. branches_by n t + m) (by-forest n ts)

-- a new branch is one more
pub by-branch : (n p : ℕ) (kids : List Stamped) (ts : StampedForest) → stamped_trees ts ≡ kids → all_branches_by n (StampedBranch p n ts ∷ []) ≡ all_branches_by n kids + 1
by-branch n p kids ts e =
    let here : ◌≡◌ {A = ℕ} (if n == n then 1 else 0) 1 = ap (λ b. if b then 1 else 0) (eq-eqb n n refl) in
    omega (arith, here, by-forest n ts, ap (all_branches_by n) e)

pub other_number : (born n : ℕ) → (born == n) ≡ false → born ≢ n
other_number born n no_match same = let both : true ≡ false = sym (eq-eqb born n same) ∙ no_match in cc both

other : (n born : ℕ) → born ≢ n → (b : Bool) → (born == n) ≡ b → ◌≡◌ {A = ℕ} (if b then 1 else 0) 0
other n born differ true e = absurd (differ (eqb-true born n e))
other n born differ false e = refl

-- trees without the number have no such branches
abbrev pub HaveNone : ℕ → List Stamped → Type 0
HaveNone n ts = (lefts : List Tree) (p born : ℕ) (us : StampedForest) → StampedIn ts lefts p born us → born ≢ n

mutual
  without_tree : (n : ℕ) (s : Stamped) → HaveNone n (s ∷ []) → branches_by n s ≡ 0
  without_tree n (StampedLeaf k) h = refl
  without_tree n (StampedBranch p born ts) h =
      let here : ◌≡◌ {A = ℕ} (if born == n then 1 else 0) 0 = other n born (h [] p born ts StampedTop) (born == n) refl in
      omega (arith, here, without n ts (λ lefts q b us w. h lefts q b us (StampedBelow w)))

  pub without : (n : ℕ) (ts : StampedForest) → HaveNone n (stamped_trees ts) → branches_of_by n ts ≡ 0
  without n StampedNil h = refl
  without n (StampedCons t ts) h =
      omega (arith, without_tree n t (λ lefts p born us w. h lefts p born us (stamped_before (stamped_trees ts) w)), without n ts (λ lefts p born us w. h (plain t ∷ lefts) p born us (StampedPast w)))

pub by-none : (n : ℕ) (s : Stamped) → AreOlder n (s ∷ []) → all_branches_by n (s ∷ []) ≡ 0
by-none n s h = omega (arith, without_tree n s (λ lefts p born us w e. omega (arith, e, h lefts p born us w)))

-- where there are none, no branch carries the number
pub none_by : (n : ℕ) (ts : List Stamped) → all_branches_by n ts ≡ 0 → HaveNone n ts
none_by n ts none lefts p born us w = go lefts p born us w none
  where
    go : {l : List Stamped} (lefts : List Tree) (p born : ℕ) (us : StampedForest) → StampedIn l lefts p born us → all_branches_by n l ≡ 0 → born ≢ n
    go lefts p born us StampedTop e same =
        let here : ◌≡◌ {A = ℕ} (if born == n then 1 else 0) 1 = ap (λ b. if b then 1 else 0) (eq-eqb born n same) in
        omega (arith, e, here)
    go lefts p born us (StampedBelow {us = vs} w) e same = go lefts p born us w (omega (arith, e, by-forest n vs)) same
    go lefts p born us (StampedPast {lefts = inner} w) e same = go inner p born us w (omega (arith, e)) same

-- and older trees have none
pub older_by : (n : ℕ) (ts : List Stamped) → AreOlder n ts → all_branches_by n ts ≡ 0
older_by n [] h = refl
older_by n (t ∷ ts) h =
    omega (arith, by-none n t (λ lefts p born us w. h lefts p born us (stamped_before ts w)), older_by n ts (λ lefts p born us w. h (plain t ∷ lefts) p born us (StampedPast w)))
