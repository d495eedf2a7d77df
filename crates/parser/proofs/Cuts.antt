-- What a cut of a list of trees keeps of them: their kinds, their nodes, and what holds of each.
use Rattle.parser.proofs.Std.{◌≡◌, ◌⊎◌, ℕ, ◌+◌, ◌<◌, ◌≤◌, zero, suc, get_or, min, List, [], ◌∷◌, ◌++◌, length, refl, sym, ap, ◌∙◌, subst, inl, inr, ⊎_elim, arith, append_assoc, length-append}
use Rattle.parser.proofs.Common.{Grammar, Tree, Forest, Leaf, Branch, trees, yield, yields, all_kinds, StandsIn, Top, Below, Past, place_of, plain, plain_trees}
use Rattle.parser.proofs.Common.{stands_in_prefix, stands_after, closed, NodeId, Child, Node, Cell, AreBelow, all_trees, most, tree, trees_from, all_below-more, plain_of, AreParts, ComeFrom, AreOlder, kinds_in, AreChildren, IsSplitAt, Here, Used_up, Whole}
use Rattle.parser.specs.Cuts.{Opened}
use Rattle.parser.proofs.LeftEdge.{branch_lighter, kinds_opened, open_parts, weight}
use Rattle.parser.proofs.Reductions.{below-append, plain-append, plain-children, kids_of}
use Rattle.parser.proofs.WhereBranchesComeFrom.{come_all, come_older, come_on, come_past, opened_came}
use Rattle.parser.proofs.Stamping.{stamped_after, stamped_before, stamped_split, trees_of-append}

-- the tree at this place of the other list, with as many kinds before it
abbrev pub Found : List Tree → List Tree → Tree → Type 0
Found two lefts t = (before : List Tree) × StandsIn two before t × (all_kinds before ≡ all_kinds lefts)

-- every node of the one list is one of the other
abbrev pub FindsAll : List Tree → List Tree → Type 0
FindsAll one two = (lefts : List Tree) (t : Tree) → StandsIn one lefts t → Found two lefts t

-- the tree doesn't hold kinds on both sides of n
abbrev pub IsAside : ℕ → List Tree → Tree → Type 0
IsAside n lefts t = (place_of lefts + length (yield t) ≤ n) ⊎ (n ≤ place_of lefts)

-- every node of the one list that is not cut at n is one of the other
abbrev pub FindsAside : ℕ → List Tree → List Tree → Type 0
FindsAside n one two = (lefts : List Tree) (t : Tree) → StandsIn one lefts t → 0 < length (yield t) → IsAside n lefts t → Found two lefts t

same_nodes : (n : ℕ) (one two : List Tree) → one ≡ two → FindsAside n one two
same_nodes n one two e lefts t w m a = (lefts, subst (λ l. StandsIn l lefts t) e w, refl)

-- one tree more before both lists
past_all : (u : Tree) (one two : List Tree) → FindsAll one two → FindsAll (u ∷ one) (u ∷ two)
past_all u one two h lefts t Top = ([], Top, refl)
past_all u one two h lefts t (Below w) = (lefts, Below w, refl)
past_all u one two h lefts t (Past {lefts = inner} w) = let r = h inner t w in (u ∷ r.0, Past r.1, ap (λ l. yield u ++ l) r.2)

past_aside : (u : Tree) (one two : List Tree) (m n : ℕ) → length (yield u) + m ≡ n → FindsAside m one two → FindsAside n (u ∷ one) (u ∷ two)
past_aside u one two m n e h lefts t Top k a = ([], Top, refl)
past_aside u one two m n e h lefts t (Below w) k a = (lefts, Below w, refl)
past_aside u one two m n e h lefts t (Past {lefts = inner} w) k a =
    let r = h inner t w k (⊎_elim (λ x. inl (omega (arith, x, e, length-append (yield u) (all_kinds inner)))) (λ x. inr (omega (arith, x, e, length-append (yield u) (all_kinds inner)))) a) in
    (u ∷ r.0, Past r.1, ap (λ l. yield u ++ l) r.2)

-- the first tree is opened
opened_all : (p : ℕ) (us : Forest) (ts one : List Tree) → FindsAll one (trees us ++ ts) → FindsAll one (Branch p us ∷ ts)
opened_all p us ts one h lefts t w = let r = h lefts t w in let c = closed p us ts r.0 t r.1 in (c.0, c.1, c.2 ∙ r.2)

opened_aside : (p : ℕ) (us : Forest) (ts two : List Tree) (n : ℕ) → 0 < n → n < length (yields us) → FindsAside n (trees us ++ ts) two → FindsAside n (Branch p us ∷ ts) two
opened_aside p us ts two n some less h lefts t Top k a = absurd (⊎_elim (λ x. omega (arith, x, less)) (λ x. omega (arith, x, some)) a)
opened_aside p us ts two n some less h lefts t (Below w) k a = h lefts t (stands_in_prefix ts w) k a
opened_aside p us ts two n some less h lefts t (Past {lefts = inner} w) k a =
    let same = kinds_opened us inner in
    let aside : IsAside n (trees us ++ inner) t = ⊎_elim (λ x. inl (omega (arith, x, ap length same))) (λ x. inr (omega (arith, x, ap length same))) a in
    let r = h (trees us ++ inner) t (stands_after (trees us) w) k aside in
    (r.0, r.1, r.2 ∙ same)

pub taken_lighter : (t : Tree) (ts : List Tree) → weight ts < weight (t ∷ ts)
taken_lighter (Leaf k) ts = omega arith
taken_lighter (Branch p us) ts = omega (arith, length-append (yields us) (all_kinds ts))

pub older-append : (n : ℕ) (cells : List Cell) (one two : List Child) → AreOlder n (all_trees cells one) → AreOlder n (all_trees cells two) → AreOlder n (all_trees cells (one ++ two))
older-append n cells one two h k =
    subst (AreOlder n) (sym (trees_of-append (trees_from [] cells) one two))
    (λ lefts p born us w. ⊎_elim (λ a. h lefts p born us a) (λ b. k b.0 p born us b.1) (stamped_split (all_trees cells one) (all_trees cells two) w))

module _ (cells : List Cell) where
  -- an opened node is a branch over its children
  module _ {id : NodeId} {kids : List Child} (of_id : AreChildren cells id kids) where
    abbrev us : Forest
    us = kids_of cells kids

    is_branch : Branch of_id.production us ≡ plain (tree cells (Node id))
    is_branch = sym (ap plain of_id.is)

    before_it : (cs : List Child) → trees us ++ plain_of cells cs ≡ plain_of cells (kids ++ cs)
    before_it cs = ap (λ l. l ++ plain_of cells cs) (sym (plain-children (trees_from [] cells) kids)) ∙ sym (plain-append cells kids cs)

    -- what leads from the opened list to another, or back, leads from the branch
    over : (P : List Tree → List Tree → Type 0) (cs : List Child) → P (trees us ++ plain_of cells cs) (Branch of_id.production us ∷ plain_of cells cs)
        → P (plain_of cells (kids ++ cs)) (plain_of cells (Node id ∷ cs))
    over P cs h = subst (λ t. P (plain_of cells (kids ++ cs)) (t ∷ plain_of cells cs)) is_branch (subst (λ l. P l (Branch of_id.production us ∷ plain_of cells cs)) (before_it cs) h)

    pub opened_lighter : (cs : List Child) → weight (plain_of cells (kids ++ cs)) < weight (plain_of cells (Node id ∷ cs))
    opened_lighter cs = over (λ one two. weight one < weight two) cs (branch_lighter of_id.production us (plain_of cells cs))

    pub opened_kinds : (cs : List Child) → all_kinds (plain_of cells (kids ++ cs)) ≡ all_kinds (plain_of cells (Node id ∷ cs))
    opened_kinds cs = over (λ one two. all_kinds one ≡ all_kinds two) cs (kinds_opened us (plain_of cells cs))

    opened_parts : (g : Grammar) (cs : List Child) → AreParts g (plain_of cells (Node id ∷ cs)) → AreParts g (plain_of cells (kids ++ cs))
    opened_parts g cs = over (λ one two. AreParts g two → AreParts g one) cs (open_parts g of_id.production us (plain_of cells cs))

    pub opened_below : (n : ℕ) (cs : List Child) → AreBelow n (Node id ∷ cs) → AreBelow n (kids ++ cs)
    opened_below n cs h = let inside : id.index < n = h.0 in below-append n kids cs (all_below-more id.index n (omega (arith, inside)) kids of_id.below) h.1

    opened_from : (cs : List Child) (one : List Tree) → FindsAll one (plain_of cells (kids ++ cs)) → FindsAll one (plain_of cells (Node id ∷ cs))
    opened_from cs one = over (λ l m. FindsAll one l → FindsAll one m) cs (opened_all of_id.production us (plain_of cells cs) one)

    opened_keeps : (cs : List Child) (two : List Tree) (n : ℕ) → 0 < n → n < kinds_in cells (Node id)
        → FindsAside n (plain_of cells (kids ++ cs)) two → FindsAside n (plain_of cells (Node id ∷ cs)) two
    opened_keeps cs two n some less = over (λ l m. FindsAside n l two → FindsAside n m two) cs
        (opened_aside of_id.production us (plain_of cells cs) two n some (subst (λ t. n < length (yield t)) (sym is_branch) less))

  -- the two sides together have the kinds of the list
  pub cut_kinds : {n : ℕ} {cs start back : List Child} → IsSplitAt cells n cs start back → all_kinds (plain_of cells cs) ≡ all_kinds (plain_of cells start) ++ all_kinds (plain_of cells back)
  cut_kinds (Whole {c = c} {start = start} {back = back} e d) = ap (λ l. yield (plain (tree cells c)) ++ l) (cut_kinds d)
      ∙ sym (append_assoc (yield (plain (tree cells c))) (all_kinds (plain_of cells start)) (all_kinds (plain_of cells back)))
  cut_kinds (Opened {cs = cs} some less of_id d) = sym (opened_kinds of_id cs) ∙ cut_kinds d
  cut_kinds d = refl

  pub cut_below : (m : ℕ) {n : ℕ} {cs start back : List Child} → IsSplitAt cells n cs start back → AreBelow m cs → AreBelow m start × AreBelow m back
  cut_below m Here h = (tt, h)
  cut_below m Used_up h = (tt, tt)
  cut_below m (Whole e d) h = let r = cut_below m d h.1 in ((h.0, r.0), r.1)
  cut_below m (Opened {cs = cs} some less of_id d) h = cut_below m d (opened_below of_id m cs h)

  pub cut_parts : (g : Grammar) {n : ℕ} {cs start back : List Child} → IsSplitAt cells n cs start back → AreParts g (plain_of cells cs)
      → AreParts g (plain_of cells start) × AreParts g (plain_of cells back)
  cut_parts g Here h = (tt, h)
  cut_parts g Used_up h = (tt, tt)
  cut_parts g (Whole e d) h = let r = cut_parts g d h.1 in ((h.0, r.0), r.1)
  cut_parts g (Opened {cs = cs} some less of_id d) h = cut_parts g d (opened_parts of_id g cs h)

  -- each stamped branch of the parts was one of the list
  pub cut_came : {n : ℕ} {cs start back : List Child} → IsSplitAt cells n cs start back → ComeFrom (all_trees cells cs) 0 (all_trees cells start ++ all_trees cells back)
  cut_came (Here {cs = cs}) = come_all (all_trees cells cs)
  cut_came Used_up = come_all []
  cut_came (Whole {c = c} {cs = cs} {start = start} {back = back} e d) = come_past (tree cells c) (all_trees cells cs) (all_trees cells start ++ all_trees cells back) (cut_came d)
  cut_came (Opened {id = id} {kids = kids} {cs = cs} {start = start} {back = back} some less of_id d) =
      come_on 0 0 (all_trees cells (Node id ∷ cs)) (all_trees cells (kids ++ cs)) (all_trees cells start ++ all_trees cells back)
      (opened_came cells kids cs id of_id.production of_id.born of_id.is) (cut_came d)

  pub cut_older : (number : ℕ) {n : ℕ} {cs start back : List Child} → IsSplitAt cells n cs start back → AreOlder number (all_trees cells cs)
      → AreOlder number (all_trees cells start) × AreOlder number (all_trees cells back)
  cut_older number {cs = cs} {start = start} {back = back} cut h =
      let prefixes = all_trees cells start in
      let backs = all_trees cells back in
      let all = come_older number 0 (all_trees cells cs) (prefixes ++ backs) (cut_came cut) h in (
        (λ lefts p born us w. all lefts p born us (stamped_before backs w)),
        (λ lefts p born us w. all (plain_trees prefixes ++ lefts) p born us (stamped_after prefixes w)),
      )

  -- each node of the parts stood in the list
  pub cut_from : {n : ℕ} {cs start back : List Child} → IsSplitAt cells n cs start back → FindsAll (plain_of cells start ++ plain_of cells back) (plain_of cells cs)
  cut_from (Whole {c = c} {cs = cs} {start = start} {back = back} e d) = past_all (plain (tree cells c)) (plain_of cells start ++ plain_of cells back) (plain_of cells cs) (cut_from d)
  cut_from (Opened {cs = cs} {start = start} {back = back} some less of_id d) = opened_from of_id cs (plain_of cells start ++ plain_of cells back) (cut_from d)
  cut_from d = λ lefts t w. (lefts, w, refl)

  -- each node that is not cut stands in a part
  pub cut_keeps : {n : ℕ} {cs start back : List Child} → IsSplitAt cells n cs start back → FindsAside n (plain_of cells cs) (plain_of cells start ++ plain_of cells back)
  cut_keeps (Here {cs = cs}) = same_nodes 0 (plain_of cells cs) (plain_of cells cs) refl
  cut_keeps (Used_up {n = n}) = same_nodes n [] [] refl
  cut_keeps (Whole {m = m} {n = n} {c = c} {cs = cs} {start = start} {back = back} e d) = past_aside (plain (tree cells c))
      (plain_of cells cs) (plain_of cells start ++ plain_of cells back) m n e (cut_keeps d)
  cut_keeps (Opened {n = n} {cs = cs} {start = start} {back = back} some less of_id d) = opened_keeps of_id cs (plain_of cells start ++ plain_of cells back) n some less (cut_keeps d)

  -- trees that fit stay whole, before what is cut
  pub cut_after : (xs : List Child) (m n : ℕ) {ys start back : List Child} → place_of (plain_of cells xs) + m ≡ n → IsSplitAt cells m ys start back → IsSplitAt cells n (xs ++ ys) (xs ++ start) back
  cut_after [] m n {ys} {start} {back} e d = let same : m ≡ n = omega (arith, e) in subst (λ k. IsSplitAt cells k ys start back) same d
  cut_after (x ∷ xs) m n e d =
      Whole {m = place_of (plain_of cells xs) + m} (omega (arith, e, length-append (yield (plain (tree cells x))) (all_kinds (plain_of cells xs))))
      (cut_after xs m (place_of (plain_of cells xs) + m) refl d)

-- what the store counts is the number of kinds, where there are not too many
pub counted : (count : ℕ) → count ≤ most → min most count ≡ count
counted count fits = grind (arith, fits)

pub counted_in : (cells : List Cell) (cs : List Child) (i : ℕ) (d : Child) → i < length cs → kinds_in cells (get_or cs i d) ≤ place_of (plain_of cells cs)
counted_in cells [] i d l = absurd (omega (arith, l))
counted_in cells (c ∷ cs) zero d l = omega (arith, length-append (yield (plain (tree cells c))) (all_kinds (plain_of cells cs)))
counted_in cells (c ∷ cs) (suc i) d l = omega (arith, counted_in cells cs i d (omega (arith, l)), length-append (yield (plain (tree cells c))) (all_kinds (plain_of cells cs)))

pub not_counted : (count left : ℕ) → left < min most count → left < count
not_counted count left less = grind (arith, less)

pub place_push : (cells : List Cell) (cs : List Child) (c : Child) → place_of (plain_of cells (cs ++ (c ∷ []))) ≡ place_of (plain_of cells cs) + kinds_in cells c
place_push cells [] c = omega (arith, length-append (yield (plain (tree cells c))) [])
place_push cells (x ∷ cs) c =
    omega (
      arith,
      place_push cells cs c,
      length-append (yield (plain (tree cells x))) (all_kinds (plain_of cells (cs ++ (c ∷ [])))),
      length-append (yield (plain (tree cells x))) (all_kinds (plain_of cells cs)),
    )
