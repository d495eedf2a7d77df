-- The branches that carry an edit's number are those that lie in no kept node, so that their count is what the edit has built.
use Rattle.parser.proofs.Std.{◌≡◌, ◌≢◌, ℕ, ◌+◌, ◌<◌, Bool, true, false, List, [], ◌∷◌, ◌++◌, length, refl, sym, ap, ◌∙◌, subst, arith, length-append, ◌==◌, if◌then◌else◌, eqb-true, tail-eq_of_cons-eq}
use Rattle.parser.proofs.Common.{Tree, Forest, Leaf, Branch, trees, yield, yields, all_kinds, StandsIn, Top, Below, Past, place_of, branches, all_branches, Splice}
use Rattle.parser.proofs.Common.{IsKept, LiesInKept, Built, Nothing, Kept, New, Stamped, StampedLeaf, StampedBranch, StampedForest, StampedNil, StampedCons, StampedIn, StampedTop, StampedBelow, StampedPast, plain, plain_all, plain_trees, stamped_trees}
use Rattle.parser.proofs.Common.{stands_inside, stamped_stands, stands_branches, branches-append, branches-trees, all_branches_by, branches_of_by, StampsKept}
use Rattle.definitions.specs.TreeEdits.{Token}
use Rattle.parser.proofs.Counts.{by-forest, other_number, without}
use Rattle.parser.proofs.Stamping.{plain-stamped}

module _ (s : Splice) (old : List Tree) where
  -- a node w of these trees, which begin at this place, lies in a kept one
  pub record IsWithin (place : ℕ) (ts below : List Tree) (w : Tree) : Type 0 where
    pub at : List Tree
    pub p : ℕ
    pub us : Forest
    pub kept : IsKept s old (place + place_of at) p us
    pub stands : StandsIn ts at (Branch p us)
    pub inner : List Tree
    pub way : StandsIn (Branch p us ∷ []) inner w
    pub is : at ++ inner ≡ below

  kept_at : {m n p : ℕ} {us : Forest} → m ≡ n → IsKept s old m p us → IsKept s old n p us
  kept_at {p = p} {us = us} e k = subst (λ l. IsKept s old l p us) e k

  -- of trees that begin at the start this is the definition's word for it
  pub within_lies : (one two below : List Tree) (w : Tree) → one ≡ two → IsWithin 0 one below w → LiesInKept s old two below w
  within_lies one two below w e i =
      record {
        at = i.at;
        p = i.p;
        us = i.us;
        kept = kept_at (let z : 0 + place_of i.at ≡ place_of i.at = omega arith in z) i.kept;
        stands = subst (λ l. StandsIn l i.at (Branch i.p i.us)) e i.stands;
        inner = i.inner;
        way = i.way;
        is = i.is;
      }

  pub lies_within : (one two below : List Tree) (w : Tree) → one ≡ two → LiesInKept s old two below w → IsWithin 0 one below w
  lies_within one two below w e i =
      record {
        at = i.at;
        p = i.p;
        us = i.us;
        kept = kept_at (let z : place_of i.at ≡ 0 + place_of i.at = omega arith in z) i.kept;
        stands = subst (λ l. StandsIn l i.at (Branch i.p i.us)) (sym e) i.stands;
        inner = i.inner;
        way = i.way;
        is = i.is;
      }

  -- what lies after the first tree in a kept node lies in one there
  after : (place : ℕ) {t w : Tree} {ts below at inner : List Tree} {p : ℕ} {us : Forest} → 0 < branches w → StandsIn (t ∷ ts) at (Branch p us)
      → IsKept s old (place + place_of at) p us → StandsIn (Branch p us ∷ []) inner w → at ++ inner ≡ t ∷ below → IsWithin (place + length (yield t)) ts below w
  after place n Top k way e = absurd (omega (arith, n, stands_branches way, ap all_branches e))
  after place {inner = inner} n (Below {us = vs} {lefts = lefts} v) k way e = absurd (omega (arith, n, stands_branches (stands_inside v way), branches-trees vs, ap all_branches e))
  after place {t = t} {inner = inner} {p = p} {us = us} n (Past {lefts = lefts} v) k way e =
      let at' : place + place_of (t ∷ lefts) ≡ place + length (yield t) + place_of lefts = omega (arith, length-append (yield t) (all_kinds lefts)) in
      record { at = lefts; p = p; us = us; kept = kept_at at' k; stands = v; inner = inner; way = way; is = tail-eq_of_cons-eq e }

  -- what lies below a branch that is not kept, in a kept node, lies in one there
  under : (place q : ℕ) (vs : Forest) {w : Tree} {ts below at inner : List Tree} {p : ℕ} {us : Forest} → ¬ IsKept s old place q vs → StandsIn (trees vs) below w
      → StandsIn (Branch q vs ∷ ts) at (Branch p us) → IsKept s old (place + place_of at) p us → StandsIn (Branch p us ∷ []) inner w → at ++ inner ≡ below → IsWithin place (trees vs) below w
  under place q vs none w Top k way e = absurd (none (kept_at (let z : place + 0 ≡ place = omega arith in z) k))
  under place q vs {inner = inner} {p = p} {us = us} none w (Below {lefts = lefts} v) k way e = record { at = lefts; p = p; us = us; kept = k; stands = v; inner = inner; way = way; is = e }
  under place q vs {inner = inner} none w (Past {lefts = lefts} v) k way e = absurd (omega (arith, stands_branches w, branches-trees vs, ap all_branches e, branches-append lefts inner))

  -- the first branch lies in a kept node only where it is one
  first : (place q : ℕ) (vs : Forest) {ts at inner : List Tree} {p : ℕ} {us : Forest} → StandsIn (Branch q vs ∷ ts) at (Branch p us) → IsKept s old (place + place_of at) p us
      → StandsIn (Branch p us ∷ []) inner (Branch q vs) → at ++ inner ≡ [] → IsKept s old place q vs
  first place q vs Top k way e = kept_at (let z : place + 0 ≡ place = omega arith in z) k
  first place q vs (Below v) k way e = absurd (omega (arith, stands_branches (stands_inside v way), branches-trees vs))
  first place q vs (Past v) k way e = absurd (cc e)

  within_first : (place q : ℕ) (vs : Forest) (ts : List Tree) {inner : List Tree} {w : Tree} → IsKept s old place q vs
      → StandsIn (Branch q vs ∷ []) inner w → IsWithin place (Branch q vs ∷ ts) inner w
  within_first place q vs ts {inner = inner} k way =
      record { at = []; p = q; us = vs; kept = kept_at (let z : place ≡ place + 0 = omega arith in z) k; stands = Top; inner = inner; way = way; is = refl }

  within_rest : (place : ℕ) (t : Tree) (ts below : List Tree) (w : Tree) → IsWithin (place + length (yield t)) ts below w → IsWithin place (t ∷ ts) (t ∷ below) w
  within_rest place t ts below w h =
      let at' : place + length (yield t) + place_of h.at ≡ place + place_of (t ∷ h.at) = omega (arith, length-append (yield t) (all_kinds h.at)) in
      record { at = t ∷ h.at; p = h.p; us = h.us; kept = kept_at at' h.kept; stands = Past h.stands; inner = h.inner; way = h.way; is = ap (λ l. t ∷ l) h.is }

  within_below : (place q : ℕ) (vs : Forest) (ts below : List Tree) (w : Tree) → IsWithin place (trees vs) below w → IsWithin place (Branch q vs ∷ ts) below w
  within_below place q vs ts below w h = record { at = h.at; p = h.p; us = h.us; kept = h.kept; stands = Below h.stands; inner = h.inner; way = h.way; is = h.is }

  module _ (n : ℕ) where
    -- the branches of these trees, which begin at this place, carry the number exactly where they lie in no kept one
    pub record IsReported (place : ℕ) (f : StampedForest) : Type 0 where
      pub new : (below : List Tree) (p born : ℕ) (us : StampedForest) → StampedIn (stamped_trees f) below p born us → born ≡ n → ¬ IsWithin place (trees (plain_all f)) below (Branch p (plain_all us))
      pub kept : (below : List Tree) (p born : ℕ) (us : StampedForest) → StampedIn (stamped_trees f) below p born us → born ≢ n → IsWithin place (trees (plain_all f)) below (Branch p (plain_all us))

    shown_rest : (place : ℕ) (t : Stamped) (f : StampedForest) → IsReported place (StampedCons t f) → IsReported (place + length (yield (plain t))) f
    shown_rest place t f h = record {
      new = λ below p born us w e i. h.new (plain t ∷ below) p born us (StampedPast w) e (within_rest place (plain t) (trees (plain_all f)) below (Branch p (plain_all us)) i);
      kept = λ below p born us w e. let i = h.kept (plain t ∷ below) p born us (StampedPast w) e in after place {ts = trees (plain_all f)}
          (let one : 0 < branches (Branch p (plain_all us)) = omega arith in one) i.stands i.kept i.way i.is;
    }

    shown_below : (place q b : ℕ) (f fs : StampedForest) → ¬ IsKept s old place q (plain_all f) → IsReported place (StampedCons (StampedBranch q b f) fs) → IsReported place f
    shown_below place q b f fs none h = record {
      new = λ below p born us w e i. h.new below p born us (StampedBelow w) e (within_below place q (plain_all f) (trees (plain_all fs)) below (Branch p (plain_all us)) i);
      kept = λ below p born us w e. let i = h.kept below p born us (StampedBelow w) e in under place q (plain_all f) {ts = trees (plain_all fs)} none
          (subst (λ l. StandsIn l below (Branch p (plain_all us))) (plain-stamped f) (stamped_stands w)) i.stands i.kept i.way i.is;
    }

    -- the first branch is built, or is kept with all below it
    branch_shown : (place q b : ℕ) (f fs : StampedForest) → IsReported place (StampedCons (StampedBranch q b f) fs)
        → (IsReported place f → Built s old place (trees (plain_all f)) (branches_of_by n f)) → Built s old (place + length (yields (plain_all f))) (trees (plain_all fs))
        (branches_of_by n fs) → (carries : Bool) → (b == n) ≡ carries → Built s old place (Branch q (plain_all f) ∷ trees (plain_all fs))
        ((if carries then 1 else 0) + branches_of_by n f + branches_of_by n fs)
    branch_shown place q b f fs h built rest true e =
        let none = λ (k : IsKept s old place q (plain_all f)). h.new [] q b f StampedTop (eqb-true b n e) (within_first place q (plain_all f) (trees (plain_all fs)) k Top) in
        New none (built (shown_below place q b f fs none h)) rest
    branch_shown place q b f fs h built rest false e =
        let i = h.kept [] q b f StampedTop (other_number b n e) in
        let k = first place q (plain_all f) {ts = trees (plain_all fs)} i.stands i.kept i.way i.is in
        let old_ones : branches_of_by n f ≡ 0 =
        without n f (λ below p born us w same. h.new below p born us (StampedBelow w) same
        (within_first place q (plain_all f) (trees (plain_all fs)) k (Below (subst (λ l. StandsIn l below (Branch p (plain_all us))) (plain-stamped f) (stamped_stands w))))) in
        subst (Built s old place (Branch q (plain_all f) ∷ trees (plain_all fs)))
        (let c : branches_of_by n fs ≡ 0 + branches_of_by n f + branches_of_by n fs = omega (arith, old_ones) in c) (Kept k rest)

    pub all_built : (f : StampedForest) (place : ℕ) → IsReported place f → Built s old place (trees (plain_all f)) (branches_of_by n f)
    all_built StampedNil place h = Nothing
    all_built (StampedCons (StampedLeaf k) fs) place h =
        subst (Built s old place (Leaf k ∷ trees (plain_all fs))) (let c : branches_of_by n fs ≡ 0 + branches_of_by n fs = omega arith in c)
        (Token (all_built fs (place + 1) (shown_rest place (StampedLeaf k) fs h)))
    all_built (StampedCons (StampedBranch q b f) fs) place h =
        branch_shown place q b f fs h (λ t. all_built f place t) (all_built fs (place + length (yields (plain_all f))) (shown_rest place (StampedBranch q b f) fs h)) (b == n) refl

-- ---- of a list of trees

-- the list as a forest
abbrev forest_of_list : List Stamped → StampedForest
forest_of_list [] = StampedNil
forest_of_list (t ∷ ts) = StampedCons t (forest_of_list ts)

listed : (ts : List Stamped) → stamped_trees (forest_of_list ts) ≡ ts
listed [] = refl
listed (t ∷ ts) = ap (λ l. t ∷ l) (listed ts)

pub built_counts : (s : Splice) (old : List Tree) (number : ℕ) (new : List Stamped) → StampsKept number s old new → Built s old 0 (plain_trees new) (all_branches_by number new)
built_counts s old number new shows =
    let f = forest_of_list new in
    let same : stamped_trees f ≡ new = listed new in
    let plain_is : trees (plain_all f) ≡ plain_trees new = sym (plain-stamped f) ∙ ap plain_trees same in
    let shown : IsReported s old number 0 f = record {
      new = λ below p born us w e i. (shows below p born us (subst (λ l. StampedIn l below p born us) same w)).0 e
          (within_lies s old (trees (plain_all f)) (plain_trees new) below (Branch p (plain_all us)) plain_is i);
      kept = λ below p born us w e. lies_within s old (trees (plain_all f)) (plain_trees new) below (Branch p (plain_all us)) plain_is
          ((shows below p born us (subst (λ l. StampedIn l below p born us) same w)).1 e);
    } in
    subst (λ n. Built s old 0 (plain_trees new) n) (sym (by-forest number f) ∙ ap (all_branches_by number) same)
    (subst (λ l. Built s old 0 l (branches_of_by number f)) plain_is (all_built s old number f 0 shown))
