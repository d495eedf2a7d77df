-- What the edits of a document make, and that one answer reports it.
use Rattle.docs.proofs.Std.{◌≡◌, ◌<◌, ◌≤◌, ℕ, zero, suc, ◌+◌, ◌-◌, List, [], ◌∷◌, ◌++◌, length, map, min, refl, sym, ap, subst, ◌∙◌, ◌⊎◌, inl, inr, ⊎_elim, Bool, true, false, arith, ◌==◌, Option, Some, None, if◌then◌else◌, cases_lt, eq-eqb, eqb-true, length-map, min-eq_left, min-eq_right}
use Rattle.docs.proofs.Common.{Edit, Kind, Range, Stats, Encoding, StandsIn, branches, branches_of, all_branches, changed, span, Splice, made, splice, IsKept, Built, Nothing, Kept, New, Stamped, StampedLeaf, StampedBranch, StampedForest, StampedNil, StampedCons, plain_trees, plain_tree as plain}
use Rattle.docs.proofs.Common.{Tree, Forest, Leaf, Branch}
use Rattle.docs.proofs.Common.{significant_kinds, plain_token}
use Rattle.docs.proofs.Common.{AreMadeBy, IsMadeBy, plain_of, AreOlder, none_by, older_by, AreUpTo, before_fault, last_leaf, branches_by, branches_of_by, all_branches_by, verdict_in}
use Rattle.docs.proofs.Common.{stands_split, not_in_leaf, nowhere, stands_in_prefix}
use Rattle.docs.proofs.Common.{Child, all_trees, forest_in, forest_of, trees_of, tree_of}
use Rattle.docs.proofs.Common.{IsReading, IsNext, AreStats, ReportsLast, IsAbove, number_of, number_after, edit_of, LastEdit}
use Rattle.docs.proofs.Common.{Doc, last_edit, open_document, IsCurrent, LanguageData}
use Rattle.definitions.specs.TreeEdits.{Token, plain_all}
use Rattle.docs.proofs.StoredReading.{reading_of, stacked_reading, stacked_trees}

-- ---- a last leaf is no node

leaf_has_none : (x : List Kind) → all_branches (last_leaf x) ≡ 0
leaf_has_none (j ∷ k ∷ x) = leaf_has_none (k ∷ x)
leaf_has_none d = refl

branches_before : (ts : List Tree) (x : List Kind) → all_branches (ts ++ last_leaf x) ≡ all_branches ts
branches_before [] x = leaf_has_none x
branches_before (t ∷ ts) x = ap (λ n. branches t + n) (branches_before ts x)

leaf_or_none : (x : List Kind) → (last_leaf x ≡ []) ⊎ ((k : Kind) × (last_leaf x ≡ Leaf k ∷ []))
leaf_or_none [] = inl refl
leaf_or_none (k ∷ []) = inr (k, refl)
leaf_or_none (j ∷ k ∷ x) = leaf_or_none (k ∷ x)

stands_before : (ts : List Tree) (x : List Kind) {lefts : List Tree} {p : ℕ} {us : Forest} → StandsIn (ts ++ last_leaf x) lefts (Branch p us) → StandsIn ts lefts (Branch p us)
stands_before ts x {p = p} {us = us} stands =
    ⊎_elim
    (λ a. a)
    (λ b. absurd (⊎_elim (λ none. nowhere b.1 none) (λ leaf. not_in_leaf b.1 leaf.0 p us leaf.1 refl) (leaf_or_none x)))
    (stands_split ts (last_leaf x) stands)

module _ (s : Splice) (old : List Tree) (x : List Kind) where
  kept_longer : {place p : ℕ} {us : Forest} → IsKept s old place p us → IsKept s (old ++ last_leaf x) place p us
  kept_longer kept = record { lefts = kept.lefts; stood = stands_in_prefix (last_leaf x) kept.stood; not_empty = kept.not_empty; untouched = kept.untouched; moved = kept.moved }

  kept_before : {place p : ℕ} {us : Forest} → IsKept s (old ++ last_leaf x) place p us → IsKept s old place p us
  kept_before kept = record { lefts = kept.lefts; stood = stands_before old x kept.stood; not_empty = kept.not_empty; untouched = kept.untouched; moved = kept.moved }

  built_of : {place n : ℕ} {new : List Tree} → Built s (old ++ last_leaf x) place new n → Built s old place new n
  built_of Nothing = Nothing
  built_of (Token rest) = Token (built_of rest)
  built_of (Kept kept rest) = Kept (kept_before kept) (built_of rest)
  built_of (New never below rest) = New (λ kept. never (kept_longer kept)) (built_of below) (built_of rest)

  built_leaf : (y : List Kind) {place n : ℕ} → Built s old place (last_leaf y) n → n ≡ 0
  built_leaf [] Nothing = refl
  built_leaf (k ∷ []) (Token Nothing) = refl
  built_leaf (j ∷ k ∷ y) built = built_leaf (k ∷ y) built

  built_prefix : (new : List Tree) (y : List Kind) {place n : ℕ} → Built s old place (new ++ last_leaf y) n → Built s old place new n
  built_prefix [] y {place = place} built = subst (λ n. Built s old place [] n) (sym (built_leaf y built)) Nothing
  built_prefix (Leaf k ∷ new) y (Token rest) = Token (built_prefix new y rest)
  built_prefix (Branch p us ∷ new) y (Kept kept rest) = Kept kept (built_prefix new y rest)
  built_prefix (Branch p us ∷ new) y (New never below rest) = New never below (built_prefix new y rest)

  built_before : (new : List Tree) (y : List Kind) {n : ℕ} → Built s (old ++ last_leaf x) 0 (new ++ last_leaf y) n → Built s old 0 new n
  built_before new y built = built_prefix new y (built_of built)

-- ---- where all are made by one edit, its nodes are all there are

same_number : (n : ℕ) → ◌≡◌ {A = ℕ} (if n == n then 1 else 0) 1
same_number n = ap (λ b. if b then 1 else 0) (eq-eqb n n refl)

mutual
  made_branches : (n : ℕ) (t : Stamped) → IsMadeBy n t → branches_by n t ≡ branches (plain t)
  made_branches n (StampedLeaf k) is = refl
  made_branches n (StampedBranch p born ts) is =
      ap (λ b. (if b == n then 1 else 0) + branches_of_by n ts) is.0 ∙ (ap (λ one. one + branches_of_by n ts) (same_number n) ∙ ap (λ m. 1 + m) (made_below n ts is.1))

  made_below : (n : ℕ) (ts : StampedForest) → AreMadeBy n ts → branches_of_by n ts ≡ branches_of (plain_all ts)
  made_below n StampedNil are = refl
  made_below n (StampedCons t ts) are =
      ap (λ a. a + branches_of_by n ts) (made_branches n t are.0) ∙ ap (λ b. branches (plain t) + b) (made_below n ts are.1)

pub all_made : (n : ℕ) (ts : List Stamped) (cs : List Child) → AreMadeBy n (forest_of ts cs) → all_branches_by n (trees_of ts cs) ≡ all_branches (plain_trees (trees_of ts cs))
all_made n ts [] are = refl
all_made n ts (c ∷ cs) are =
    ap (λ a. a + all_branches_by n (trees_of ts cs)) (made_branches n (tree_of ts c) are.0) ∙ ap (λ b. branches (plain (tree_of ts c)) + b) (all_made n ts cs are.1)

-- ---- the edit after the last one

abbrev pub edit_shown : ℕ → ℕ → ℕ → Option LastEdit
edit_shown n scanned built = if n == 0 then None else Some (record { number = n; scanned = scanned; built = built })

module _ (n scanned built : ℕ) where
  abbrev reported : LastEdit
  reported = record { number = n; scanned = scanned; built = built }

  shown_number : number_of (edit_shown n scanned built) ≡ n
  shown_number = by (n == 0) refl
    where
      by : (b : Bool) → (n == 0) ≡ b → number_of (if b then None else Some reported) ≡ n
      by true e = sym (eqb-true n 0 e)
      by false e = refl

  shown_last : 0 < n → edit_shown n scanned built ≡ Some reported
  shown_last more = by (n == 0) refl
    where
      by : (b : Bool) → (n == 0) ≡ b → ◌≡◌ {A = Option LastEdit} (if b then None else Some reported) (Some reported)
      by true e = absurd (omega (arith, more, eqb-true n 0 e))
      by false e = refl

pub next_positive : (n m : ℕ) → m ≡ min (n + 1) 18_446_744_073_709_551_615 → 0 < m
next_positive n m is = by (cases_lt 18_446_744_073_709_551_615 (n + 1))
  where
    by : (18_446_744_073_709_551_615 < n + 1) ⊎ (n + 1 ≤ 18_446_744_073_709_551_615) → 0 < m
    by (inl less) =
        let under : 18_446_744_073_709_551_615 ≤ n + 1 = omega (arith, less) in
        let e = min-eq_right under in
        omega (arith, is, e)
    by (inr more) = let e = min-eq_left more in omega (arith, is, e)

pub next_later : (n m : ℕ) → m ≡ min (n + 1) 18_446_744_073_709_551_615 → n ≤ 18_446_744_073_709_551_615 → n ≤ m
next_later n m is fits = grind (arith, is, fits)

-- the number of the edit after the last one
pub number_after_edit : (d e : Doc) → e.parse.number ≡ min (d.parse.number + 1) 18_446_744_073_709_551_615 → e.parse.number ≡ number_after (last_edit d)
number_after_edit d e number = number ∙ ap (λ n. min (n + 1) 18_446_744_073_709_551_615) (sym (shown_number d.parse.number d.tokens.scanned d.parse.built))

pub same_edit : (encoding : Encoding) (text : List ℕ) (range : Option Range) (s : List ℕ) (away : ℕ × ℕ) (inserted reported number : ℕ)
    → away ≡ span encoding text range → inserted ≡ length s → reported ≡ number
    → record { at = away.0; removed = away.1 - away.0; inserted = inserted; number = reported } ≡ edit_of encoding text range s number
same_edit encoding text range s away inserted reported number places long same =
    let first : Edit = record { at = away.0; removed = away.1 - away.0; inserted = inserted; number = reported } in
    let place : first ≡ record { at = (span encoding text range).0; removed = (span encoding text range).1 - (span encoding text range).0; inserted = inserted; number = reported } =
    ap (λ (p : ℕ × ℕ). record { at = p.0; removed = p.1 - p.0; inserted = inserted; number = reported }) places in
    place ∙ (ap (λ n. record { at = (span encoding text range).0; removed = (span encoding text range).1 - (span encoding text range).0; inserted = n; number = reported }) long
    ∙ ap (edit_of encoding text range s) same)

-- a number is above every stamp of the nodes exactly where the counts of the last edit say so
module _ (d : Doc) (number : ℕ) (ts : List Stamped) where
  older_above : AreUpTo d.parse.number ts → d.parse.built ≡ all_branches_by d.parse.number ts → IsAbove (last_edit d) number → AreOlder number ts
  older_above up_to built above = by (d.parse.number == 0) refl above
    where
      by : (none : Bool) → (d.parse.number == 0) ≡ none → IsAbove (if none then None else Some (reported d.parse.number d.tokens.scanned d.parse.built)) number → AreOlder number ts
      by true e more lefts p born us w = omega (arith, more, up_to lefts p born us w, eqb-true d.parse.number 0 e)
      by false e more lefts p born us w =
          ⊎_elim
          (λ less. omega (arith, less, up_to lefts p born us w))
          (λ same. omega (arith, same.0, up_to lefts p born us w, none_by d.parse.number ts (sym built ∙ same.1) lefts p born us w))
          more

  above_older : d.parse.built ≡ all_branches_by d.parse.number ts → d.parse.number ≤ number → 0 < number → AreOlder number ts → IsAbove (last_edit d) number
  above_older built later some older = by (d.parse.number == 0)
    where
      by : (none : Bool) → IsAbove (if none then None else Some (reported d.parse.number d.tokens.scanned d.parse.built)) number
      by true = some
      by false =
          ⊎_elim
          (λ less. inl less)
          (λ more. let same : d.parse.number ≡ number = omega (arith, later, more) in inr (same, built ∙ older_by d.parse.number ts (subst (λ n. AreOlder n ts) (sym same) older)))
          (cases_lt d.parse.number number)

-- the kinds before the fault, where there is one
abbrev before : Doc → List Kind
before d = before_fault (significant_kinds d.tokens.items) (verdict_in d.store d.parse.verdict)

-- what is kept of a document, and of that which a change made of it
module _ (l : LanguageData) (d e : Doc) (current : IsCurrent l d) (current_next : IsCurrent l e) where
  abbrev Older : Type 0
  Older = AreOlder e.parse.number (all_trees d.store d.parse.stack)

  abbrev Spliced : Splice → Type 0
  Spliced s = Older → Built s (plain_of d.store d.parse.stack) 0 (plain_of e.store e.parse.stack) e.parse.built

  abbrev MadeAnew : Type 0
  MadeAnew = ¬ Older → AreMadeBy e.parse.number (forest_in e.store e.parse.stack)

  nodes_built : (s : Splice) → Spliced s → Older → Built s (stacked_trees l d current) 0 (stacked_trees l e current_next) e.parse.built
  nodes_built s built older =
      let was = current.parse.stop.stack in
      let is = current_next.parse.stop.stack in
      let old = subst (λ (ts : List Tree). Built s ts 0 (plain_of e.store e.parse.stack) e.parse.built) was.stack_is (built older) in
      let new = subst (λ (ts : List Tree). Built s (was.trees ++ last_leaf (before d)) 0 ts e.parse.built) is.stack_is old in
      built_before s was.trees (before d) is.trees (before e) new

  pub next_is : (encoding : Encoding) (range : Option Range) (s : List ℕ) (change : Edit) (spliced : Splice) → d.parse.number ≤ 18_446_744_073_709_551_615 → e.text ≡ changed encoding d.text range s
      → e.parse.number ≡ min (d.parse.number + 1) 18_446_744_073_709_551_615 → change ≡ edit_of encoding d.text range s e.parse.number
      → spliced ≡ splice l.file.skips change (map plain_token d.tokens.items) (map plain_token e.tokens.items)
      → e.tokens.scanned ≡ length (made change (map plain_token d.tokens.items) (map plain_token e.tokens.items)) → Spliced spliced → MadeAnew
      → (next : LastEdit) × (last_edit e ≡ Some next) × IsNext encoding l.file d.text range s (last_edit d) next
  next_is encoding range s change spliced fits text number edit same scanned built anew =
      let old : number_of (last_edit d) ≡ d.parse.number = shown_number d.parse.number d.tokens.scanned d.parse.built in
      let after : number_after (last_edit d) ≡ e.parse.number = sym (number_after_edit d e number) in
      let so : change ≡ edit_of encoding d.text range s (number_after (last_edit d)) = edit ∙ ap (edit_of encoding d.text range s) (sym after) in
      let reading : IsReading l.file (changed encoding d.text range s) (reading_of e (stacked_trees l e current_next)) =
      subst (λ (t : List ℕ). IsReading l.file t (reading_of e (stacked_trees l e current_next))) text (stacked_reading l e current_next) in (
        record { number = e.parse.number; scanned = e.tokens.scanned; built = e.parse.built },
        shown_last e.parse.number e.tokens.scanned e.parse.built (next_positive d.parse.number e.parse.number number),
        record {
          old = reading_of d (stacked_trees l d current);
          new = reading_of e (stacked_trees l e current_next);
          was = stacked_reading l d current;
          is = reading;
          makes = record {
            number = sym after;
            scanned = subst (λ (x : Edit). e.tokens.scanned ≡ length (made x (map plain_token d.tokens.items) (map plain_token e.tokens.items))) so scanned;
            built = λ above. subst (λ (x : Splice). Built x (stacked_trees l d current) 0 (stacked_trees l e current_next) e.parse.built)
                (same ∙ ap (λ (x : Edit). splice l.file.skips x (map plain_token d.tokens.items) (map plain_token e.tokens.items)) so)
                (nodes_built spliced built (older_above d e.parse.number (all_trees d.store d.parse.stack) current.parse.older current.parse.built (subst (IsAbove (last_edit d)) after above)));
            all_built = λ below. current_next.parse.built
                ∙ (all_made e.parse.number _ e.parse.stack
                (anew (λ older. below (subst (IsAbove (last_edit d)) (sym after) (above_older d e.parse.number (all_trees d.store d.parse.stack) current.parse.built
                (next_later d.parse.number e.parse.number number fits) (next_positive d.parse.number e.parse.number number) older))))
                ∙ (ap all_branches current_next.parse.stop.stack.stack_is ∙ branches_before (stacked_trees l e current_next) (before e)));
          };
        },
      )

-- what is reported of a document
pub stats_are : (l : LanguageData) (d : Doc) → IsCurrent l d → (stats : Stats) → stats.edit ≡ d.parse.number → stats.scanned ≡ d.tokens.scanned
    → stats.tokens ≡ length d.tokens.items → stats.branches ≡ d.parse.branches → stats.built ≡ d.parse.built → stats.nodes ≡ length d.store
    → AreStats l.file (open_document d) stats
stats_are l d current stats edit scanned tokens branches built nodes = record {
  reading = reading_of d (stacked_trees l d current);
  is = stacked_reading l d current;
  tokens = tokens ∙ sym (length-map d.tokens.items plain_token);
  branches = branches ∙ (current.parse.branches ∙ (ap all_branches current.parse.stop.stack.stack_is ∙ branches_before (stacked_trees l d current) (before d)));
  last = by d.parse.number refl;
  nodes = let few = current.bounded in omega (arith, few, nodes, branches);
}
  where
    by : (n : ℕ) → d.parse.number ≡ n → ReportsLast (edit_shown n d.tokens.scanned d.parse.built) stats
    by zero none = (edit ∙ none, scanned ∙ (current.scanned none ∙ sym tokens), built ∙ (current.built none ∙ sym branches))
    by (suc n) some = subst (λ (last : Option LastEdit). ReportsLast last stats) (sym (shown_last (suc n) d.tokens.scanned d.parse.built (omega arith))) (edit ∙ some, scanned, built)
