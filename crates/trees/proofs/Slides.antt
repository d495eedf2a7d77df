-- Marks, ranks, and the trees of nodes that slide down.
use Rattle.trees.proofs.Std.{◌≡◌, ◌≢◌, ℕ, ◌+◌, ◌<◌, ◌≤◌, zero, suc, Bool, true, false, List, [], ◌∷◌, ◌++◌, length, map, take, drop, min, cond, count_by, get_or, set, refl, sym, ap, ◌∙◌, subst, inl, inr, SwappedAt}
use Rattle.trees.proofs.Std.{arith, length-take, drop-drop, drop-set-lt, get_or-set_other, get_or-set_same, get_or_read_under, length-set, take-set-le, take-take, take_more_set, count_by-le-length, count_by_more_no, count_by_more_yes, sum_by-take-le, cases_lt}
use Rattle.trees.proofs.Common.{Invalid, branches_of, StampedBranch, StampedCons, StampedLeaf, plain_all, yields}
use Rattle.trees.proofs.Common.{NodeId, Child, Token, Node, Cell, all_trees, blank, branch_of, forest_in, most, tree, trees_from, AreBelow, IsBelow, IsCell, IsStore, nodes, mark_all, rank, renamed, AreMarked, AreRanks, IsClosed, IsClosedFrom, IsMarked}
use Rattle.trees.proofs.Cells.{all_below-more, below-at, cell_made, cells-push, grown-new, grown-tree, store_at}

first_of : {X : Type 0} (xs : List X) (k : ℕ) (d : X) → get_or (drop k xs) 0 d ≡ get_or xs k d
first_of xs zero d = refl
first_of [] (suc k) d = refl
first_of (x ∷ xs) (suc k) d = first_of xs k d

-- lists with the same rest have the same next item
pub same_next : {X : Type 0} (xs ys : List X) (k : ℕ) (d : X) → drop k xs ≡ drop k ys → get_or xs k d ≡ get_or ys k d
same_next xs ys k d e = sym (first_of xs k d) ∙ ap (λ l. get_or l 0 d) e ∙ first_of ys k d

-- the next of some children is below the count, where the rest of them is as it was
pub next_below : (n : ℕ) (xs ys : List Child) (k : ℕ) (d c : Child) → drop k xs ≡ drop k ys → AreBelow n ys → k < length ys → get_or xs k d ≡ c → IsBelow n c
next_below n xs ys k d c e h l is = subst (IsBelow n) is (below-at n ys k (get_or xs k d) d h l (same_next xs ys k d e))

-- a child that an item of a list below the count stands for is below it
pub stands_below : {X : Type 0} (child : X → Child) (n : ℕ) (xs : List X) (k : ℕ) (d : X) → AreBelow n (map child xs) → k < length xs → IsBelow n (child (get_or xs k d))
stands_below child n [] k d h l = absurd (omega (arith, l))
stands_below child n (x ∷ xs) zero d h l = h.0
stands_below child n (x ∷ xs) (suc k) d h l = stands_below child n xs k d h.1 (omega (arith, l))

pub root_below : (n : ℕ) (ids : List NodeId) (i : ℕ) (none : NodeId) → AreBelow n (nodes ids) → i < length ids → (get_or ids i none).index < n
root_below = stands_below (λ id. Node id)

pub next-root_below : (n : ℕ) (xs ys : List NodeId) (k : ℕ) (d : NodeId) → drop k xs ≡ drop k ys → AreBelow n (nodes ys) → k < length ys → (get_or xs k d).index < n
next-root_below n xs ys k d e h l = omega (arith, ap (λ id. id.index) (same_next xs ys k d e), root_below n ys k d h l)

-- a mark that is set stays set
set_kept : (marks : List Bool) (i j : ℕ) → get_or marks j false ≡ true → get_or (set marks i true) j false ≡ true
set_kept (m ∷ marks) (suc i) (suc j) e = set_kept marks i j e
set_kept (m ∷ marks) zero zero e = refl
set_kept marks i j e = e

mark-kept_at : (marks : List Bool) (cs : List Child) (j : ℕ) → get_or marks j false ≡ true → get_or (mark_all marks cs) j false ≡ true
mark-kept_at marks [] j e = e
mark-kept_at marks (Token k ∷ cs) j e = mark-kept_at marks cs j e
mark-kept_at marks (Node id ∷ cs) j e = mark-kept_at (set marks id.index true) cs j (set_kept marks id.index j e)

pub mark-kept : (marks : List Bool) (cs : List Child) (c : Child) → IsMarked marks c → IsMarked (mark_all marks cs) c
mark-kept marks cs (Token k) h = tt
mark-kept marks cs (Node id) h = mark-kept_at marks cs id.index h

pub all-kept : (marks : List Bool) (cs ds : List Child) → AreMarked marks ds → AreMarked (mark_all marks cs) ds
all-kept marks cs [] h = tt
all-kept marks cs (d ∷ ds) h = (mark-kept marks cs d h.0, all-kept marks cs ds h.1)

pub mark-long : (marks : List Bool) (cs : List Child) → length (mark_all marks cs) ≡ length marks
mark-long marks [] = refl
mark-long marks (Token k ∷ cs) = mark-long marks cs
mark-long marks (Node id ∷ cs) = mark-long (set marks id.index true) cs ∙ length-set marks id.index true

pub mark-done : (marks : List Bool) (cs : List Child) → AreBelow (length marks) cs → AreMarked (mark_all marks cs) cs
mark-done marks [] h = tt
mark-done marks (Token k ∷ cs) h = (tt, mark-done marks cs h.1)
mark-done marks (Node id ∷ cs) h =
    let next = set marks id.index true in
    (mark-kept_at next cs id.index (get_or-set_same marks id.index true false h.0), mark-done next cs (subst (λ n. AreBelow n cs) (sym (length-set marks id.index true)) h.1))

mark-above : (n : ℕ) (marks : List Bool) (cs : List Child) → AreBelow n cs → (j : ℕ) → n ≤ j → get_or (mark_all marks cs) j false ≡ get_or marks j false
mark-above n marks [] h j l = refl
mark-above n marks (Token k ∷ cs) h j l = mark-above n marks cs h.1 j l
mark-above n marks (Node id ∷ cs) h j l =
    let other : j ≢ id.index = λ e. omega (arith, e, h.0, l) in
    mark-above n (set marks id.index true) cs h.1 j l ∙ get_or-set_other marks id.index j true false other

-- the children of one more node are marked
pub closed_next : (cells : List Cell) (marks : List Bool) (i : ℕ) → IsStore cells → i < length cells → length marks ≡ length cells
    → IsClosedFrom (i + 1) cells marks → IsClosedFrom i cells (mark_all marks (get_or cells i blank).children)
closed_next cells marks i s l m h j le e =
    let cs = (get_or cells i blank).children in
    let inside = (store_at cells s i (get_or cells i blank) blank l refl).inside in
    elim (cases_lt i j) [
      | inl lt ↦ all-kept marks cs (get_or cells j blank).children (h j (omega (arith, lt)) (sym (mark-above i marks cs inside j (omega (arith, lt))) ∙ e))
      | inr ge ↦ let same : i ≡ j = omega (arith, le, ge) in
          subst (λ k. AreMarked (mark_all marks cs) (get_or cells k blank).children) same (mark-done marks cs (all_below-more i (length marks) (omega (arith, l, m)) cs inside))
    ]

pub closed_same : (cells : List Cell) (marks : List Bool) (i : ℕ) → get_or marks i false ≡ false → IsClosedFrom (i + 1) cells marks → IsClosedFrom i cells marks
closed_same cells marks i none h j le e = elim (cases_lt i j) [
  | inl lt ↦ h j (omega (arith, lt)) e
  | inr ge ↦ let same : i ≡ j = omega (arith, le, ge) in
      let f : true ≡ false = sym e ∙ ap (λ k. get_or marks k false) (sym same) ∙ none in
      let g : ⊥ = cc f in absurd g
]

-- one more root is marked
pub roots-marked : (marks : List Bool) (ids : List NodeId) (id : NodeId) → id.index < length marks → AreMarked marks (nodes ids) → AreMarked (set marks id.index true) (nodes (ids ++ (id ∷ [])))
roots-marked marks [] id l h = (get_or-set_same marks id.index true false l, tt)
roots-marked marks (x ∷ ids) id l h = (set_kept marks id.index x.index h.0, roots-marked marks ids id l h.1)

pub rank_le : (marks : List Bool) (i : ℕ) → rank marks i ≤ i
rank_le marks i = omega (arith, count_by-le-length (λ mark. mark) (take i marks), length-take i marks)

pub rank_same : (marks : List Bool) (i : ℕ) → i < length marks → get_or marks i false ≡ false → rank marks (i + 1) ≡ rank marks i
rank_same marks i l e = count_by_more_no (λ mark. mark) marks i false l e

-- a mark is set within the list
set_within : (marks : List Bool) (i : ℕ) → get_or marks i false ≡ true → i < length marks
set_within [] i e = let f : ⊥ = cc e in absurd f
set_within (m ∷ marks) zero e = omega arith
set_within (m ∷ marks) (suc i) e = omega (arith, set_within marks i e)

pub rank_more : (marks : List Bool) (i : ℕ) → get_or marks i false ≡ true → rank marks (i + 1) ≡ rank marks i + 1
rank_more marks i e = count_by_more_yes (λ mark. mark) marks i false (set_within marks i e) e

-- a marked node has a lower rank than those after it
pub rank_lt : (marks : List Bool) (i j : ℕ) → get_or marks i false ≡ true → i < j → rank marks i < rank marks j
rank_lt marks i j e l =
    let part : count_by (λ mark. mark) (take (i + 1) (take j marks)) ≤ rank marks j = sum_by-take-le (λ mark. cond mark 1 0) (take j marks) (i + 1) in
    omega (arith, rank_more marks i e, part, ap (count_by (λ mark. mark)) (take-take (i + 1) j marks (omega (arith, l))))

-- what slid nodes mean: those before `i` that are marked mean under their new names what they meant
abbrev pub Slid : List Cell → List Bool → List ℕ → ℕ → List Cell → Type 0
Slid old marks ranks i new = (id : NodeId) → id.index < i → IsMarked marks (Node id) → tree new (renamed ranks (Node id)) ≡ tree old (Node id)

slid_forest : (old new : List Cell) (marks : List Bool) (ranks : List ℕ) (i : ℕ) (cs : List Child) → Slid old marks ranks i new
    → AreBelow i cs → AreMarked marks cs → forest_in new (map (renamed ranks) cs) ≡ forest_in old cs
slid_forest old new marks ranks i [] h b m = refl
slid_forest old new marks ranks i (Token k ∷ cs) h b m = λ j. StampedCons (StampedLeaf k) (slid_forest old new marks ranks i cs h b.1 m.1 j)
slid_forest old new marks ranks i (Node id ∷ cs) h b m = λ j. StampedCons (h id b.0 m.0 j) (slid_forest old new marks ranks i cs h b.1 m.1 j)

pub slid_below : (marks : List Bool) (ranks : List ℕ) (i : ℕ) (cs : List Child) → AreRanks marks ranks → i ≤ length marks
    → AreBelow i cs → AreMarked marks cs → AreBelow (rank marks i) (map (renamed ranks) cs)
slid_below marks ranks i [] r l b m = tt
slid_below marks ranks i (Token k ∷ cs) r l b m = (tt, slid_below marks ranks i cs r l b.1 m.1)
slid_below marks ranks i (Node id ∷ cs) r l b m =
    (omega (arith, r.each id.index (omega (arith, b.0, l)), rank_lt marks id.index i m.0 b.0), slid_below marks ranks i cs r l b.1 m.1)

-- a node with the new names of its children
abbrev pub slid_cell : List ℕ → Cell → Cell
slid_cell ranks c = record { production = c.production; born = c.born; tokens = c.tokens; size = c.size; children = map (renamed ranks) c.children }

-- one more node slides down
pub record IsNext (old : List Cell) (marks : List Bool) (ranks : List ℕ) (i : ℕ) (new : List Cell) : Type 0 where
  pub store : IsStore new
  pub trees : Slid old marks ranks (i + 1) new

pub slid_next : (old new : List Cell) (marks : List Bool) (ranks : List ℕ) (i : ℕ) → IsStore old → IsStore new → i < length old → length marks ≡ length old
    → IsClosed old marks → AreRanks marks ranks → get_or marks i false ≡ true → length new ≡ rank marks i → Slid old marks ranks i new
    → IsNext old marks ranks i (new ++ (slid_cell ranks (get_or old i blank) ∷ []))
slid_next old new marks ranks i so sn l m cl r e n h =
    let c = get_or old i blank in
    let next = slid_cell ranks c in
    let at = store_at old so i c blank l refl in
    let marked = cl i (omega arith) e in
    let forest = slid_forest old new marks ranks i c.children h at.inside marked in
    let below = slid_below marks ranks i c.children r (omega (arith, l, m)) at.inside marked in
    let is : IsCell (trees_from [] new) next = cell_made new next (map (renamed ranks) c.children) refl (subst (λ k. AreBelow k (map (renamed ranks) c.children)) (sym n) below)
    (subst (λ f. c.tokens ≡ min most (length (yields (plain_all f)))) (sym forest) at.cell.tokens) (subst (λ f. c.size ≡ min most (1 + branches_of (plain_all f))) (sym forest) at.cell.size) in
    let meant : branch_of (trees_from [] new) next ≡ get_or (trees_from [] old) i (StampedLeaf Invalid) = ap (λ f. StampedBranch c.production c.born f) forest ∙ sym at.is in
    record {
      store = cells-push [] new next sn is;
      trees = λ id lt k. elim (cases_lt id.index i) [
        | inl before ↦ grown-tree new next (renamed ranks (Node id)) (omega (arith, n, r.each id.index (omega (arith, before, l, m)), rank_lt marks id.index i k before)) ∙ h id before k
        | inr after ↦ let same : id.index ≡ i = omega (arith, lt, after) in
            grown-new new next (record { index = get_or ranks id.index 0 }) (omega (arith, n, r.each id.index (omega (arith, lt, l, m)), ap (rank marks) same))
            ∙ meant ∙ ap (λ k. get_or (trees_from [] old) k (StampedLeaf Invalid)) (sym same)
      ];
    }

-- all nodes have slid: the trees of marked children are what they were, under the new names
pub slid_trees : (old new : List Cell) (marks : List Bool) (ranks : List ℕ) (cs : List Child) → ((c : Child) → IsMarked marks c → tree new (renamed ranks c) ≡ tree old c)
    → AreMarked marks cs → all_trees new (map (renamed ranks) cs) ≡ all_trees old cs
slid_trees old new marks ranks [] h m = refl
slid_trees old new marks ranks (c ∷ cs) h m = λ i. h c m.0 i ∷ slid_trees old new marks ranks cs h m.1 i

pub marked_below : (marks : List Bool) (cs : List Child) → AreMarked marks cs → AreBelow (length marks) cs
marked_below marks [] m = tt
marked_below marks (Token k ∷ cs) m = (tt, marked_below marks cs m.1)
marked_below marks (Node id ∷ cs) m = (set_within marks id.index m.0, marked_below marks cs m.1)

swapped_take : (xs : List Cell) (next i : ℕ) (y z w : Cell) → next ≤ i → i < length xs → take (next + 1) (set (set (set xs next y) i z) next w) ≡ take next xs ++ (w ∷ [])
swapped_take xs next i y z w le l =
    let ys = set (set xs next y) i z in
    let long : length ys ≡ length xs = length-set (set xs next y) i z ∙ length-set xs next y in
    take_more_set ys next w (omega (arith, le, l, long)) ∙ ap (λ l. l ++ (w ∷ [])) (take-set-le next (set xs next y) i z le ∙ take-set-le next xs next y (omega arith))

swapped_drop : (xs : List Cell) (next i : ℕ) (y z w : Cell) → next ≤ i → drop (i + 1) (set (set (set xs next y) i z) next w) ≡ drop (i + 1) xs
swapped_drop xs next i y z w le =
    drop-set-lt (i + 1) (set (set xs next y) i z) next w (omega (arith, le)) ∙ drop-set-lt (i + 1) (set xs next y) i z (omega arith) ∙ drop-set-lt (i + 1) xs next y (omega (arith, le))

rest_more : (xs ys : List Cell) (i : ℕ) → drop i xs ≡ drop i ys → drop (i + 1) xs ≡ drop (i + 1) ys
rest_more xs ys i e = sym (drop-drop 1 i xs) ∙ ap (drop 1) e ∙ drop-drop 1 i ys

-- the marked ones of the first `i` nodes stand at the start, and the nodes from `i` on are as they were
pub record IsSlidTo (old : List Cell) (marks : List Bool) (ranks : List ℕ) (i : ℕ) (cells : List Cell) (next : ℕ) : Type 0 where
  pub long : length cells ≡ length old
  pub next_is : next ≡ rank marks i
  pub rest : drop i cells ≡ drop i old
  pub store : IsStore (take next cells)
  pub trees : Slid old marks ranks i (take next cells)

pub slid_skip : (old : List Cell) (marks : List Bool) (ranks : List ℕ) (i : ℕ) (cells : List Cell) (next : ℕ) → i < length marks → get_or marks i false ≡ false
    → IsSlidTo old marks ranks i cells next → IsSlidTo old marks ranks (i + 1) cells next
slid_skip old marks ranks i cells next l e h = record {
  long = h.long;
  next_is = h.next_is ∙ sym (rank_same marks i l e);
  rest = rest_more cells old i h.rest;
  store = h.store;
  trees = λ id lt k. elim (cases_lt id.index i) [
    | inl before ↦ h.trees id before k
    | inr after ↦ let same : id.index ≡ i = omega (arith, lt, after) in
        let f : true ≡ false = sym k ∙ ap (λ j. get_or marks j false) same ∙ e in
        let g : ⊥ = cc f in absurd g
  ];
}

pub slid_step : (old : List Cell) (marks : List Bool) (ranks : List ℕ) (i : ℕ) (cells : List Cell) (next : ℕ) (swapped : List Cell) (was cell : Cell) → IsStore old
    → length marks ≡ length old → IsClosed old marks → AreRanks marks ranks → get_or marks i false ≡ true → IsSlidTo old marks ranks i cells next
    → SwappedAt cells swapped next i → was ≡ get_or swapped next was → cell ≡ slid_cell ranks was → IsSlidTo old marks ranks (i + 1) (set swapped next cell) (next + 1)
slid_step old marks ranks i cells next swapped was cell so m cl r e h s read is =
    let within = set_within marks i e in
    let le : next ≤ i = omega (arith, h.next_is, rank_le marks i) in
    let l : i < length cells = omega (arith, within, m, h.long) in
    let is_slid : cell ≡ slid_cell ranks (get_or old i blank) =
    is ∙ ap (slid_cell ranks) (get_or_read_under old i (length old) was blank (read ∙ s.0 was ∙ same_next cells old i was h.rest) (omega (arith, within, m)) refl) in
    let all : set swapped next cell ≡ set (set (set cells next (get_or cells i blank)) i (get_or cells next blank)) next
    (slid_cell ranks (get_or old i blank)) = λ k. set (s.3 blank k) next (is_slid k) in
    let taken = ap (take (next + 1)) all ∙ swapped_take cells next i (get_or cells i blank) (get_or cells next blank) (slid_cell ranks (get_or old i blank)) le l in
    let long : length (take next cells) ≡ rank marks i = omega (arith, length-take next cells, le, l, h.next_is) in
    let more = slid_next old (take next cells) marks ranks i so h.store (omega (arith, within, m)) m cl r e long h.trees in
    record {
      long = ap length all ∙ length-set (set (set cells next (get_or cells i blank)) i (get_or cells next blank)) next (slid_cell ranks (get_or old i blank))
          ∙ length-set (set cells next (get_or cells i blank)) i (get_or cells next blank) ∙ length-set cells next (get_or cells i blank) ∙ h.long;
      next_is = omega (arith, h.next_is, rank_more marks i e);
      rest = ap (drop (i + 1)) all ∙ swapped_drop cells next i (get_or cells i blank) (get_or cells next blank) (slid_cell ranks (get_or old i blank)) le ∙ rest_more cells old i h.rest;
      store = subst IsStore (sym taken) more.store;
      trees = subst (Slid old marks ranks (i + 1)) (sym taken) more.trees;
    }

pub swapped_below : (old : List Cell) (marks : List Bool) (ranks : List ℕ) (i : ℕ) (cells : List Cell) (next : ℕ) (swapped : List Cell) (cell : Cell) → IsStore old
    → length marks ≡ length old → AreRanks marks ranks → get_or marks i false ≡ true → IsSlidTo old marks ranks i cells next
    → SwappedAt cells swapped next i → cell ≡ get_or swapped next cell → AreBelow (length ranks) cell.children
swapped_below old marks ranks i cells next swapped cell so m r e h s is =
    let within = set_within marks i e in
    let at = store_at old so i cell cell (omega (arith, within, m)) (is ∙ s.0 cell ∙ same_next cells old i cell h.rest) in
    all_below-more i (length ranks) (omega (arith, within, r.long)) cell.children at.inside
