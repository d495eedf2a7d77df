-- Of each edit an answer is given: whether a node is kept can be decided, so that those that lie in no kept one can be counted.
use Rattle.readings.proofs.Std.{◌≡◌, ◌<◌, ◌≤◌, ℕ, ◌+◌, List, [], ◌∷◌, length, refl, sym, ap, subst, ◌∙◌, ◌⊎◌, inl, inr, ⊎_elim, arith, Option, cases_eq, head-eq_of_cons-eq, tail-eq_of_cons-eq}
use Rattle.readings.proofs.Common.{Edit, Kind, Invalid, StandsIn, Top, Below, Past, place_of, all_branches, changed, Splice, made, splice, IsTouched, IsMoved, IsKept, Built, Nothing, Kept, New, Tree, Forest, Leaf, Branch, Nil, Cons, trees, yield, yields}
use Rattle.readings.proofs.Common.{FileGrammar, stands_split, not_in_leaf, nowhere, stands_in_prefix, Reading, AlwaysAnswers, Makes, AlwaysCounts, IsAbove, number_after, edit_of, LastEdit}
use Rattle.definitions.specs.declared.Kind.TheVariants.{Rule as Terminal}
use Rattle.definitions.specs.TreeEdits.{Token}
use Rattle.readings.proofs.Decided.{Decided, both_decided, all_decided, either_decided, not_decided, less_decided, most_decided, same_decided}
use Rattle.readings.proofs.EachEditIsCountedOnce.{above_or_not}

-- ---- whether two trees are the same

kind_decided : (j k : Kind) → Decided (j ≡ k)
kind_decided (Terminal m) (Terminal n) = ⊎_elim (λ e. inl (ap (λ a. Terminal a) e)) (λ apart. inr (λ e. apart (let same : m ≡ n = cc in same))) (cases_eq m n)
kind_decided Invalid Invalid = inl refl
kind_decided j k = inr (λ e. let f : ⊥ = cc in f)

mutual
  tree_decided : (t u : Tree) → Decided (t ≡ u)
  tree_decided (Leaf j) (Leaf k) = ⊎_elim (λ e. inl (ap (λ a. Leaf a) e)) (λ apart. inr (λ e. apart (let same : j ≡ k = cc in same))) (kind_decided j k)
  tree_decided (Branch p ts) (Branch q us) =
      ⊎_elim
      (λ e. ⊎_elim (λ es. inl (ap (λ a. Branch a ts) e ∙ ap (λ b. Branch q b) es)) (λ apart. inr (λ all. apart (let same : ts ≡ us = cc in same))) (forest_decided ts us))
      (λ apart. inr (λ all. apart (let same : p ≡ q = cc in same)))
      (cases_eq p q)
  tree_decided t u = inr (λ e. let f : ⊥ = cc in f)

  forest_decided : (ts us : Forest) → Decided (ts ≡ us)
  forest_decided Nil Nil = inl refl
  forest_decided (Cons t ts) (Cons u us) =
      ⊎_elim
      (λ e. ⊎_elim (λ es. inl (ap (λ a. Cons a ts) e ∙ ap (λ b. Cons u b) es)) (λ apart. inr (λ all. apart (let same : ts ≡ us = cc in same))) (forest_decided ts us))
      (λ apart. inr (λ all. apart (let same : t ≡ u = cc in same)))
      (tree_decided t u)
  forest_decided ts us = inr (λ e. let f : ⊥ = cc in f)

-- ---- whether a branch stands in some trees, after left siblings of which something holds

in_branch : {l lefts : List Tree} {w : Tree} → StandsIn l lefts w → (q : ℕ) (vs : Forest) → l ≡ Branch q vs ∷ [] → ((lefts ≡ []) × (Branch q vs ≡ w)) ⊎ StandsIn (trees vs) lefts w
in_branch Top q vs e = inl (refl, sym (head-eq_of_cons-eq e))
in_branch (Below {us = us} {lefts = lefts} {t = t} w) q vs e = inr (subst (λ (f : Forest). StandsIn (trees f) lefts t) (let same : us ≡ vs = cc in same) w)
in_branch (Past w) q vs e = absurd (nowhere w (tail-eq_of_cons-eq e))

module _ (p : ℕ) (us : Forest) where
  abbrev Stands : (List Tree → Type 0) → List Tree → Type 0
  Stands P ts = (lefts : List Tree) × StandsIn ts lefts (Branch p us) × P lefts

  none_in_nothing : (P : List Tree → Type 0) → ¬ Stands P []
  none_in_nothing P s = nowhere s.1 refl

  first_or_later : (P : List Tree → Type 0) (t : Tree) (ts : List Tree) → Stands P (t ∷ ts) → Stands P (t ∷ []) ⊎ Stands (λ l. P (t ∷ l)) ts
  first_or_later P t ts s = ⊎_elim (λ one. inl (s.0, one, s.2)) (λ rest. inr (rest.0, rest.1, subst P rest.2 s.2)) (stands_split (t ∷ []) ts s.1)

  one_or_more : (P : List Tree → Type 0) (t : Tree) (ts : List Tree) → Decided (Stands P (t ∷ [])) → Decided (Stands (λ l. P (t ∷ l)) ts) → Decided (Stands P (t ∷ ts))
  one_or_more P t ts (inl one) more = inl (one.0, stands_in_prefix ts one.1, one.2)
  one_or_more P t ts (inr isnt) (inl more) = inl (t ∷ more.0, Past more.1, more.2)
  one_or_more P t ts (inr isnt) (inr never) = inr (λ s. ⊎_elim isnt never (first_or_later P t ts s))

  top_or_below : (P : List Tree → Type 0) (q : ℕ) (vs : Forest) → Decided ((Branch q vs ≡ Branch p us) × P []) → Decided (Stands P (trees vs)) → Decided (Stands P (Branch q vs ∷ []))
  top_or_below P q vs (inl at) below = inl ([], subst (λ (t : Tree). StandsIn (t ∷ []) [] (Branch p us)) (sym at.0) Top, at.1)
  top_or_below P q vs (inr isnt) (inl below) = inl (below.0, Below below.1, below.2)
  top_or_below P q vs (inr isnt) (inr never) = inr (λ s. ⊎_elim (λ here. isnt (here.1, subst P here.0 s.2)) (λ under. never (s.0, under, s.2)) (in_branch s.1 q vs refl))

  mutual
    tree_stands : (P : List Tree → Type 0) → ((l : List Tree) → Decided (P l)) → (t : Tree) → Decided (Stands P (t ∷ []))
    tree_stands P decide (Leaf k) = inr (λ s. not_in_leaf s.1 k p us refl refl)
    tree_stands P decide (Branch q vs) = top_or_below P q vs (both_decided (tree_decided (Branch q vs) (Branch p us)) (decide [])) (forest_stands P decide vs)

    forest_stands : (P : List Tree → Type 0) → ((l : List Tree) → Decided (P l)) → (vs : Forest) → Decided (Stands P (trees vs))
    forest_stands P decide Nil = inr (none_in_nothing P)
    forest_stands P decide (Cons t ts) = one_or_more P t (trees ts) (tree_stands P decide t) (forest_stands (λ l. P (t ∷ l)) (λ l. decide (t ∷ l)) ts)

  trees_stand : (P : List Tree → Type 0) → ((l : List Tree) → Decided (P l)) → (ts : List Tree) → Decided (Stands P ts)
  trees_stand P decide [] = inr (none_in_nothing P)
  trees_stand P decide (t ∷ ts) = one_or_more P t ts (tree_stands P decide t) (trees_stand (λ l. P (t ∷ l)) (λ l. decide (t ∷ l)) ts)

-- ---- whether a node is kept, and how many lie in no kept one

module _ (s : Splice) where
  overlap_decided : (a b : ℕ) → Decided ((k : ℕ) × (a ≤ k) × (k < b) × (s.from ≤ k) × (k < s.to))
  overlap_decided a b = by (most_decided s.from a)
    where
      at : (k : ℕ) → a ≤ k → s.from ≤ k → ((j : ℕ) → a ≤ j → s.from ≤ j → k ≤ j) → Decided (k < b) → Decided (k < s.to) → Decided ((k : ℕ) × (a ≤ k) × (k < b) × (s.from ≤ k) × (k < s.to))
      at k more later least (inl below) (inl within) = inl (k, more, below, later, within)
      at k more later least (inl below) (inr out) = inr (λ o. out (let le = least o.0 o.1 o.3 in omega (arith, le, o.4)))
      at k more later least (inr past) within = inr (λ o. past (let le = least o.0 o.1 o.3 in omega (arith, le, o.2)))

      by : Decided (s.from ≤ a) → Decided ((k : ℕ) × (a ≤ k) × (k < b) × (s.from ≤ k) × (k < s.to))
      by (inl le) = at a (omega arith) le (λ j more later. more) (less_decided a b) (less_decided a s.to)
      by (inr more) = at s.from (omega (arith, more)) (omega arith) (λ j later from. from) (less_decided s.from b) (less_decided s.from s.to)

  touched_decided : (a b : ℕ) → Decided (IsTouched s a b)
  touched_decided a b =
      either_decided (overlap_decided a b)
      (all_decided (same_decided s.from s.to) (not_decided (same_decided (length s.kinds) 0)) (less_decided a s.from) (less_decided s.from b))

  moved_decided : (old new : ℕ) → Decided (IsMoved s old new)
  moved_decided old new =
      either_decided
      (both_decided (less_decided old s.from) (same_decided new old))
      (both_decided (most_decided s.to old) (same_decided (new + s.to) (old + s.from + length s.kinds)))

  module _ (old : List Tree) where
    abbrev Stays : ℕ → ℕ → List Tree → Type 0
    Stays place n lefts = (¬ IsTouched s (place_of lefts) (place_of lefts + n)) × IsMoved s (place_of lefts) place

    kept_decided : (place p : ℕ) (us : Forest) → Decided (IsKept s old place p us)
    kept_decided place p us = by (less_decided 0 (length (yields us))) (trees_stand p us (Stays place (length (yields us))) stays old)
      where
        stays : (lefts : List Tree) → Decided (Stays place (length (yields us)) lefts)
        stays lefts = both_decided (not_decided (touched_decided (place_of lefts) (place_of lefts + length (yields us)))) (moved_decided (place_of lefts) place)

        by : Decided (0 < length (yields us)) → Decided (Stands p us (Stays place (length (yields us))) old) → Decided (IsKept s old place p us)
        by (inl some) (inl stood) = inl (record { lefts = stood.0; stood = stood.1; not_empty = some; untouched = stood.2.0; moved = stood.2.1 })
        by (inl some) (inr never) = inr (λ kept. never (kept.lefts, kept.stood, (kept.untouched, kept.moved)))
        by (inr none) stood = inr (λ kept. none kept.not_empty)

    abbrev Counted : ℕ → List Tree → Type 0
    Counted place ts = (n : ℕ) × Built s old place ts n

    branch_counted : (place p : ℕ) (us : Forest) (ts : List Tree) → Decided (IsKept s old place p us) → Counted place (trees us)
        → Counted (place + length (yields us)) ts → Counted place (Branch p us ∷ ts)
    branch_counted place p us ts (inl kept) below rest = (rest.0, Kept kept rest.1)
    branch_counted place p us ts (inr never) below rest = (1 + below.0 + rest.0, New never below.1 rest.1)

    mutual
      tree_counted : (place : ℕ) (t : Tree) (ts : List Tree) → Counted (place + length (yield t)) ts → Counted place (t ∷ ts)
      tree_counted place (Leaf k) ts rest = (rest.0, Token rest.1)
      tree_counted place (Branch p us) ts rest = branch_counted place p us ts (kept_decided place p us) (forest_counted place us) rest

      forest_counted : (place : ℕ) (us : Forest) → Counted place (trees us)
      forest_counted place Nil = (0, Nothing)
      forest_counted place (Cons t ts) = tree_counted place t (trees ts) (forest_counted (place + length (yield t)) ts)

    trees_counted : (place : ℕ) (ts : List Tree) → Counted place ts
    trees_counted place [] = (0, Nothing)
    trees_counted place (t ∷ ts) = tree_counted place t ts (trees_counted (place + length (yield t)) ts)

-- ---- so of each edit an answer is given

makes_some : (file : FileGrammar) (e : Edit) (last : Option LastEdit) (old new : Reading) → (next : LastEdit) × Makes file e last old new next
makes_some file e last old new = by (above_or_not last e.number)
  where
    next : ℕ → LastEdit
    next built = record { number = e.number; scanned = length (made e old.tokens new.tokens); built = built }

    by : IsAbove last e.number ⊎ (¬ IsAbove last e.number) → (next : LastEdit) × Makes file e last old new next
    by (inl above) =
        let counted = trees_counted (splice file.skips e old.tokens new.tokens) old.trees 0 new.trees in
        (next counted.0, record { number = refl; scanned = refl; built = λ is. counted.1; all_built = λ below. absurd (below above) })
    by (inr below) = (next (all_branches new.trees), record { number = refl; scanned = refl; built = λ above. absurd (below above); all_built = λ is. refl })

pub always_counts : (file : FileGrammar) → AlwaysAnswers file → AlwaysCounts file
always_counts file always encoding t range s last was is =
    let old = always.readings t was in
    let new = always.readings (changed encoding t range s) is in
    let some = makes_some file (edit_of encoding t range s (number_after last)) last old.0 new.0 in
    (some.0, record { old = old.0; new = new.0; was = old.1; is = new.1; makes = some.1 })
