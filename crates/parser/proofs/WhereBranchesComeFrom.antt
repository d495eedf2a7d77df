-- Where the branches that the machine takes over come from, and which ones it adds.
use Rattle.parser.proofs.Std.{◌≡◌, ◌≢◌, ℕ, ◌+◌, ◌<◌, ◌≤◌, Bool, true, false, List, [], ◌∷◌, ◌++◌, length, drop, refl, sym, ap, ◌∙◌, subst, ⊎_elim, arith, length-append, append_assoc, ◌==◌, if◌then◌else◌, eq-eqb, append-nil, drop-append-le, drop_all}
use Rattle.parser.proofs.Common.{Kind, Tree, Branch, yield, yields, all_kinds, place_of, Splice, IsMoved, Stamped, StampedLeaf, StampedBranch, StampedForest, StampedNil, StampedCons, StampedIn, StampedTop, StampedBelow, StampedPast, plain, plain_all, stamped_trees, plain_trees}
use Rattle.parser.proofs.Common.{kinds-append, kinds-trees, NodeId, Child, Token, Node, Cell, AreBelow, all_trees, branch_of, forest_in, forest_of, tree, trees_from, from-length, grown-trees}
use Rattle.parser.proofs.Common.{Skips, HasMade, plain_of, CameFrom, ComeFrom, MoveFrom, AreOlder, KeepStamps, all_numbered, numbered, numbered_in}
use Rattle.parser.proofs.Counts.{HaveNone}
use Rattle.parser.proofs.Reductions.{below-prefix, plain-append}
use Rattle.parser.proofs.Stamping.{in_branch, InBranch, Itself, Under, no_branch_in_leaf, nowhere_stamped, plain-stamped, stamped-children, stamped_after, stamped_before, stamped_split, trees_of-append}
use Rattle.parser.proofs.Stamps.{grown_by_one, made_stamped, trees-stay}

pub place-append : (one two : List Tree) → place_of (one ++ two) ≡ place_of one + place_of two
place-append one two = ap length (kinds-append one two) ∙ length-append (all_kinds one) (all_kinds two)

-- ---- lists of trees

pub come_all : (ts : List Stamped) → ComeFrom ts 0 ts
come_all ts lefts p born us w = (lefts, w, omega arith)

pub come_on : (m n : ℕ) (old mid new : List Stamped) → ComeFrom old m mid → ComeFrom mid n new → ComeFrom old (m + n) new
come_on m n old mid new h k lefts p born us w =
    let two = k lefts p born us w in
    let one = h two.0 p born us two.1 in
    (one.0, one.1, omega (arith, one.2, two.2))

pub come_older : (number place : ℕ) (old ts : List Stamped) → ComeFrom old place ts → AreOlder number old → AreOlder number ts
come_older number place old ts h older lefts p born us w = let one = h lefts p born us w in older one.0 p born us one.1

-- after the first tree
pub come_after : (s : Stamped) (ts : List Stamped) → ComeFrom (s ∷ ts) (length (yield (plain s))) ts
come_after s ts lefts p born us w = (plain s ∷ lefts, StampedPast w, length-append (yield (plain s)) (all_kinds lefts))

-- one tree more at the start
pub come_past : (s : Stamped) (old ts : List Stamped) → ComeFrom old 0 ts → ComeFrom (s ∷ old) 0 (s ∷ ts)
come_past s old ts h lefts p born us StampedTop = ([], StampedTop, omega arith)
come_past s old ts h lefts p born us (StampedBelow w) = (lefts, StampedBelow w, omega arith)
come_past s old ts h lefts p born us (StampedPast {lefts = inner} w) =
    let one = h inner p born us w in
    (plain s ∷ one.0, StampedPast one.1, omega (arith, one.2, length-append (yield (plain s)) (all_kinds inner), length-append (yield (plain s)) (all_kinds one.0)))

-- the first tree is opened
come_opened : (q b : ℕ) (f : StampedForest) (ts : List Stamped) → ComeFrom (StampedBranch q b f ∷ ts) 0 (stamped_trees f ++ ts)
come_opened q b f ts lefts p born us w =
    ⊎_elim
    (λ a. (lefts, StampedBelow a, omega arith))
    (λ c.
    let kinds : place_of (plain_trees (stamped_trees f)) ≡ length (yields (plain_all f)) = ap place_of (plain-stamped f) ∙ ap length (kinds-trees (plain_all f)) in
    (Branch q (plain_all f) ∷ c.0, StampedPast c.1, omega (arith, kinds, ap place_of c.2, place-append (plain_trees (stamped_trees f)) c.0, length-append (yields (plain_all f)) (all_kinds c.0))))
    (stamped_split (stamped_trees f) ts w)

-- what stands after some trees
come_gone : (gone ts : List Stamped) → ComeFrom (gone ++ ts) (place_of (plain_trees gone)) ts
come_gone gone ts lefts p born us w = (plain_trees gone ++ lefts, stamped_after gone w, place-append (plain_trees gone) lefts)

-- ---- children

pub opened_came : (cells : List Cell) (kids rest : List Child) (id : NodeId) (p b : ℕ) → tree cells (Node id) ≡ StampedBranch p b (forest_of (trees_from [] cells) kids)
    → ComeFrom (all_trees cells (Node id ∷ rest)) 0 (all_trees cells (kids ++ rest))
opened_came cells kids rest id p b e =
    let ts = trees_from [] cells in
    let one = come_opened p b (forest_of ts kids) (all_trees cells rest) in
    let opened : stamped_trees (forest_of ts kids) ++ all_trees cells rest ≡ all_trees cells (kids ++ rest) =
    ap (λ l. l ++ all_trees cells rest) (stamped-children ts kids) ∙ sym (trees_of-append ts kids rest) in
    subst (λ l. ComeFrom (all_trees cells (Node id ∷ rest)) 0 l) opened (subst (λ s. ComeFrom (s ∷ all_trees cells rest) 0 (stamped_trees (forest_of ts kids) ++ all_trees cells rest)) (sym e) one)

pub skipped_came : (cells : List Cell) (rest rest' : List Child) → Skips cells rest rest' → ComeFrom (all_trees cells rest) 0 (all_trees cells rest')
skipped_came cells rest rest' k =
    let parts : all_trees cells k.0 ++ all_trees cells rest' ≡ all_trees cells rest = sym (ap (all_trees cells) k.1 ∙ trees_of-append (trees_from [] cells) k.0 rest') in
    let none : place_of (plain_of cells k.0) ≡ 0 = ap length k.2 in
    subst (λ n. ComeFrom (all_trees cells rest) n (all_trees cells rest')) none
    (subst (λ l. ComeFrom l (place_of (plain_of cells k.0)) (all_trees cells rest')) parts (come_gone (all_trees cells k.0) (all_trees cells rest')))

-- older trees, put together
pub older_token : (number : ℕ) (k : Kind) (ts : List Stamped) → AreOlder number ts → AreOlder number (StampedLeaf k ∷ ts)
older_token number k ts h lefts p born us (StampedPast {lefts = inner} w) = h inner p born us w

pub older_node : (number q b : ℕ) (f : StampedForest) (ts : List Stamped) → b < number → AreOlder number (stamped_trees f ++ ts) → AreOlder number (StampedBranch q b f ∷ ts)
older_node number q b f ts less h lefts p born us StampedTop = less
older_node number q b f ts less h lefts p born us (StampedBelow w) = h lefts p born us (stamped_before ts w)
older_node number q b f ts less h lefts p born us (StampedPast {lefts = inner} w) = h (plain_trees (stamped_trees f) ++ inner) p born us (stamped_after (stamped_trees f) w)

-- what is at the start, once empty trees are skipped and nodes opened
pub prefix_from : (cells : List Cell) (old full now : List Child) → Skips cells old full → ComeFrom (all_trees cells full) 0 (all_trees cells now)
    → ComeFrom (all_trees cells old) 0 (all_trees cells now)
prefix_from cells old full now skips h = come_on 0 0 (all_trees cells old) (all_trees cells full) (all_trees cells now) (skipped_came cells old full skips) h

pub skipped_left : (input : List Stamped) (cells : List Cell) (read : ℕ) (old full : List Child) → ComeFrom input read (all_trees cells old)
    → Skips cells old full → ComeFrom input read (all_trees cells full)
skipped_left input cells read old full came skips =
    let n : read + 0 ≡ read = omega arith in
    subst (λ m. ComeFrom input m (all_trees cells full)) n (come_on read 0 input (all_trees cells old) (all_trees cells full) came (skipped_came cells old full skips))

pub prefix_came : (input : List Stamped) (cells : List Cell) (read : ℕ) (old full now : List Child) → ComeFrom input read (all_trees cells old) → Skips cells old full
    → ComeFrom (all_trees cells full) 0 (all_trees cells now) → ComeFrom input read (all_trees cells now)
prefix_came input cells read old full now came skips h =
    let n : read + 0 ≡ read = omega arith in
    subst (λ m. ComeFrom input m (all_trees cells now)) n (come_on read 0 input (all_trees cells old) (all_trees cells now) came (prefix_from cells old full now skips h))

-- ---- the branches with a number

pub numbered-append : (n : ℕ) (one two : List Stamped) → all_numbered n (one ++ two) ≡ all_numbered n one ++ all_numbered n two
numbered-append n [] two = refl
numbered-append n (t ∷ one) two = ap (λ l. numbered n t ++ l) (numbered-append n one two) ∙ sym (append_assoc (numbered n t) (all_numbered n one) (all_numbered n two))

numbered-forest : (n : ℕ) (ts : StampedForest) → all_numbered n (stamped_trees ts) ≡ numbered_in n ts
numbered-forest n StampedNil = refl
numbered-forest n (StampedCons t ts) = ap (λ l. numbered n t ++ l) (numbered-forest n ts)

-- a new branch comes after those of its children
numbered-branch : (n p : ℕ) (kids : List Stamped) (ts : StampedForest) → stamped_trees ts ≡ kids → all_numbered n (StampedBranch p n ts ∷ []) ≡ all_numbered n kids ++ (StampedBranch p n ts ∷ [])
numbered-branch n p kids ts e =
    let one = StampedBranch p n ts ∷ [] in
    let here : (if n == n then one else []) ≡ one = ap (λ b. if b then one else []) (eq-eqb n n refl) in
    append-nil (numbered_in n ts ++ (if n == n then one else [])) ∙ (λ i. (sym (numbered-forest n ts) ∙ ap (all_numbered n) e) i ++ here i)

not_this : (n born : ℕ) (x : Stamped) → born ≢ n → (b : Bool) → (born == n) ≡ b → (if b then x ∷ [] else []) ≡ []
not_this n born x differ true e = absurd (differ (eqb_is born n e))
  where
    eqb_is : (a b : ℕ) → (a == b) ≡ true → a ≡ b
    eqb_is a b same = grind (arith, same)
not_this n born x differ false e = refl

mutual
  none_numbered : (n : ℕ) (s : Stamped) → HaveNone n (s ∷ []) → numbered n s ≡ []
  none_numbered n (StampedLeaf k) h = refl
  none_numbered n (StampedBranch p born ts) h =
      (λ i. none_numbered_in n ts (λ lefts q b us w. h lefts q b us (StampedBelow w)) i ++ not_this n born (StampedBranch p born ts) (h [] p born ts StampedTop) (born == n) refl i)

  none_numbered_in : (n : ℕ) (ts : StampedForest) → HaveNone n (stamped_trees ts) → numbered_in n ts ≡ []
  none_numbered_in n StampedNil h = refl
  none_numbered_in n (StampedCons t ts) h =
      (λ i. none_numbered n t (λ lefts p born us w. h lefts p born us (stamped_before (stamped_trees ts) w)) i ++ none_numbered_in n ts
      (λ lefts p born us w. h (plain t ∷ lefts) p born us (StampedPast w)) i)

-- ---- the moves of the machine

pub came_begins : (number : ℕ) (cells : List Cell) (input : List Child) → CameFrom (all_trees cells input) (length cells) number cells [] 0 input
came_begins number cells input = record {
  place = refl;
  longer = omega arith;
  left = come_all (all_trees cells input);
  kept = λ lefts p born us w differ. absurd (nowhere_stamped w refl);
  added = drop_all (length cells) (trees_from [] cells) (omega (arith, from-length [] cells));
}

module _ (input : List Stamped) (before number : ℕ) (cells : List Cell) (stack : List Child) (read : ℕ) (rest : List Child) (h : CameFrom input before number cells stack read rest) where
  -- a tree is taken over
  pub came_taken : (now' rest' : List Child) (id : NodeId) → now' ≡ Node id ∷ rest' → ComeFrom input read (all_trees cells now') → AreOlder number (all_trees cells now')
      → CameFrom input before number cells (stack ++ (Node id ∷ [])) (read + length (yield (plain (tree cells (Node id))))) rest'
  came_taken now' rest' id now_is came' older' =
      let s = tree cells (Node id) in
      let ts = all_trees cells rest' in
      let came : ComeFrom input read (s ∷ ts) = subst (λ l. ComeFrom input read (all_trees cells l)) now_is came' in
      let older : AreOlder number (s ∷ ts) = subst (λ l. AreOlder number (all_trees cells l)) now_is older' in
      let stack_is = trees_of-append (trees_from [] cells) stack (Node id ∷ []) in
      let none : all_numbered number (s ∷ []) ≡ [] = append-nil (numbered number s) ∙ none_numbered number s (λ lefts p born us w e. omega (arith, e, older lefts p born us (stamped_before ts w))) in
      record {
        place = omega (arith, ap place_of (plain-append cells stack (Node id ∷ [])), place-append (plain_of cells stack) (plain s ∷ []), h.place, length-append (yield (plain s)) []);
        longer = h.longer;
        left = come_on read (length (yield (plain s))) input (s ∷ ts) ts came (come_after s ts);
        kept = λ lefts p born us w differ. ⊎_elim
            (λ a. h.kept lefts p born us a differ)
            (λ b. let one = came b.0 p born us (stamped_before ts b.1) in (one.0, one.1, omega (arith, one.2, ap place_of b.2, place-append (plain_of cells stack) b.0, h.place)))
            (stamped_split (all_trees cells stack) (s ∷ []) (subst (λ l. StampedIn l lefts p born us) stack_is w));
        added = h.added ∙ sym (ap (all_numbered number) stack_is ∙ numbered-append number (all_trees cells stack) (s ∷ [])
            ∙ ap (λ l. all_numbered number (all_trees cells stack) ++ l) none ∙ append-nil (all_numbered number (all_trees cells stack)));
      }

  -- a token comes onto the stack
  pub came_shifted : (rest' : List Child) (k : Kind) → ComeFrom input (read + 1) (all_trees cells rest') → CameFrom input before number cells (stack ++ (Token k ∷ [])) (read + 1) rest'
  came_shifted rest' k came' =
      let stack_is = trees_of-append (trees_from [] cells) stack (Token k ∷ []) in
      record {
        place = omega (arith, ap place_of (plain-append cells stack (Token k ∷ [])), place-append (plain_of cells stack) (plain (StampedLeaf k) ∷ []), h.place);
        longer = h.longer;
        left = came';
        kept = λ lefts p born us w differ. ⊎_elim
            (λ a. h.kept lefts p born us a differ)
            (λ b. absurd (no_branch_in_leaf k b.1 refl))
            (stamped_split (all_trees cells stack) (StampedLeaf k ∷ []) (subst (λ l. StampedIn l lefts p born us) stack_is w));
        added = h.added ∙ sym (ap (all_numbered number) stack_is ∙ numbered-append number (all_trees cells stack) (StampedLeaf k ∷ []) ∙ append-nil (all_numbered number (all_trees cells stack)));
      }

  -- a branch is made
  pub came_reduced : (p : ℕ) (new : List Cell) (stack' : List Child) → HasMade cells stack p number new stack' → AreBelow (length cells) stack → (rest' : List Child)
      → AreBelow (length cells) rest' → ComeFrom input read (all_trees cells rest') → CameFrom input before number new stack' read rest'
  came_reduced p new stack' made below rest' below' came' =
      let under = made.under in
      let kids = made.kids in
      let f = forest_in cells kids in
      let node = StampedBranch p number f in
      let kids_are : stamped_trees f ≡ all_trees cells kids = stamped-children (trees_from [] cells) kids in
      let under_below = below-prefix (length cells) under kids (subst (AreBelow (length cells)) made.stack_is below) in
      let parts : all_trees cells stack ≡ all_trees cells under ++ all_trees cells kids = ap (all_trees cells) made.stack_is ∙ trees_of-append (trees_from [] cells) under kids in
      let now_is : all_trees new stack' ≡ all_trees cells under ++ (node ∷ []) = ap (all_trees new) made.stack_is' ∙ made_stamped cells new p number under kids made.id made.grown under_below in
      let same_rest : all_trees new rest' ≡ all_trees cells rest' = ap (λ l. all_trees l rest') made.grown.cells_are ∙ trees-stay cells made.grown.cell rest' below' in
      let cell : branch_of (trees_from [] cells) made.grown.cell ≡ node =
      (λ j. StampedBranch (made.grown.production_is j) (made.grown.born_is j) (forest_of (trees_from [] cells) (made.grown.children_are j))) in
      let store : trees_from [] new ≡ trees_from [] cells ++ (node ∷ []) = ap (trees_from []) made.grown.cells_are
      ∙ grown-trees cells made.grown.cell ∙ ap (λ s. trees_from [] cells ++ (s ∷ [])) cell in
      let inside : before ≤ length (trees_from [] cells) = omega (arith, h.longer, from-length [] cells) in
      let kinds : place_of (plain_trees (all_trees cells kids)) ≡ length (yields (plain_all f)) = ap (λ l. place_of (plain_trees l)) (sym kids_are)
      ∙ ap place_of (plain-stamped f) ∙ ap length (kinds-trees (plain_all f)) in
      record {
        place = omega (
          arith,
          h.place,
          ap (λ l. place_of (plain_trees l)) parts,
          ap (λ l. place_of (plain_trees l)) now_is,
          place_trees (all_trees cells under) (all_trees cells kids),
          place_trees (all_trees cells under) (node ∷ []),
          kinds,
          length-append (yields (plain_all f)) [],
        );
        longer = omega (arith, h.longer, grown_by_one cells stack p number new stack' made);
        left = subst (ComeFrom input read) (sym same_rest) came';
        kept = λ lefts q born us w differ. ⊎_elim
            (λ a. h.kept lefts q born us (subst (λ l. StampedIn l lefts q born us) (sym parts) (stamped_before (all_trees cells kids) a)) differ)
            (λ b. under_branch under kids f parts kids_are b.0 lefts q born us (in_branch p number f b.1) b.2 differ)
            (stamped_split (all_trees cells under) (node ∷ []) (subst (λ l. StampedIn l lefts q born us) now_is w));
        added = ap (drop before) store ∙ drop-append-le before (trees_from [] cells) (node ∷ []) inside ∙ ap (λ l. l ++ (node ∷ []))
            (h.added ∙ ap (all_numbered number) parts ∙ numbered-append number (all_trees cells under) (all_trees cells kids))
            ∙ append_assoc (all_numbered number (all_trees cells under)) (all_numbered number (all_trees cells kids)) (node ∷ [])
            ∙ ap (λ l. all_numbered number (all_trees cells under) ++ l) (sym (numbered-branch number p (all_trees cells kids) f kids_are))
            ∙ sym (ap (all_numbered number) now_is ∙ numbered-append number (all_trees cells under) (node ∷ []));
      }
    where
      place_trees : (one two : List Stamped) → place_of (plain_trees (one ++ two)) ≡ place_of (plain_trees one) + place_of (plain_trees two)
      place_trees one two = ap place_of (joined one two) ∙ place-append (plain_trees one) (plain_trees two)
        where
          joined : (x y : List Stamped) → plain_trees (x ++ y) ≡ plain_trees x ++ plain_trees y
          joined [] y = refl
          joined (s ∷ x) y = ap (λ l. plain s ∷ l) (joined x y)

      under_branch : (under kids : List Child) (f : StampedForest) → all_trees cells stack ≡ all_trees cells under ++ all_trees cells kids → stamped_trees f ≡ all_trees cells kids
          → (more lefts : List Tree) (q born : ℕ) (us : StampedForest) → InBranch p number f more q born us → lefts ≡ plain_of cells under ++ more → born ≢ number
          → (at : List Tree) × StampedIn input at q born us × (place_of at ≡ place_of lefts)
      under_branch under kids f parts kids_are more lefts q born us Itself e differ = absurd (differ refl)
      under_branch under kids f parts kids_are more lefts q born us (Under w) e differ =
          let there : StampedIn (all_trees cells stack) (plain_of cells under ++ more) q born us = subst (λ l. StampedIn l (plain_of cells under ++ more) q born us)
          (sym parts) (stamped_after (all_trees cells under) (subst (λ l. StampedIn l more q born us) kids_are w)) in
          h.kept lefts q born us (subst (λ l. StampedIn (all_trees cells stack) l q born us) (sym e) there) differ

-- what doesn't carry the number at the end moves from the old trees
pub keep_stamps : (s : Splice) (old input : List Stamped) (before number : ℕ) (cells : List Cell) (stack : List Child) (read : ℕ) (rest : List Child)
    → CameFrom input before number cells stack read rest → MoveFrom s old input → KeepStamps number s old (all_trees cells stack)
keep_stamps s old input before number cells stack read rest came moved lefts p born us w differ some =
    let one = came.kept lefts p born us w differ in
    let two = moved one.0 p born us one.1 some in
    (two.0, two.1, subst (IsMoved s (place_of two.0)) one.2 two.2)
