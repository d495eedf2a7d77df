-- The children that a splice leaves, with the new kinds between them, are an input for the kinds after the splice.
use Rattle.parser.proofs.Std.{◌≡◌, ◌≢◌, ◌⊎◌, ℕ, ◌+◌, ◌-◌, ◌<◌, ◌≤◌, List, [], ◌∷◌, ◌++◌, length, take, drop, map, refl, sym, ap, ◌∙◌, subst, inl, inr, ⊎_elim, arith, append_assoc, length-append, take-append-drop, drop-append_seam, take-append_seam, take-append-add, cases_lt, append-nil}
use Rattle.parser.proofs.Common.{Kind, Grammar, Tree, Branch, Leaf, all_kinds, plain_all, plain_trees, StampedForest, StampedIn, StandsIn, place_of, Splice, spliced}
use Rattle.parser.proofs.Common.{IsPrepared, stamped_stands, stands_length, kinds-append, Child, Token, Cell, AreBelow, all_trees, trees_from, plain_of, AreParts, IsInput, before_leaves, input_of, leaves, MoveFrom, AreOlder, IsSplitAt}
use Rattle.parser.proofs.Running.{kinds_leaves}
use Rattle.parser.proofs.LeftEdge.{parts-append}
use Rattle.parser.proofs.Reductions.{below-append, plain-append}
use Rattle.parser.proofs.Stamping.{nowhere_stamped, stamped_after, stamped_before, stamped_split, trees_of-append}
use Rattle.parser.proofs.Cuts.{cut_after, cut_below, cut_came, cut_kinds, cut_older, cut_parts, older-append}
use Rattle.parser.proofs.WhereBranchesComeFrom.{place-append}
use Rattle.parser.proofs.Prepared.{no_branch, prepared_short, prepared_within}

-- new has the new kinds in the place of what the splice takes away of the old trees, or what there is of these where they end
-- before the splice
pub data IsReplaced (cells : List Cell) (s : Splice) (old : List Child) : List Child → Type 0 where
  Within : {prefix back gone rest : List Child} → IsSplitAt cells s.from old prefix back → place_of (plain_of cells prefix) ≡ s.from → IsSplitAt cells (s.to - s.from) back gone rest
      → place_of (plain_of cells gone) ≤ s.to - s.from → (place_of (plain_of cells gone) ≡ s.to - s.from) ⊎ (rest ≡ []) → IsReplaced cells s old (prefix ++ (map Token s.kinds ++ rest))
  Short : {prefix : List Child} → IsSplitAt cells s.from old prefix [] → place_of (plain_of cells prefix) < s.from → IsReplaced cells s old prefix

-- kinds as children
plain-tokens : (cells : List Cell) (ks : List Kind) → plain_of cells (map Token ks) ≡ leaves ks
plain-tokens cells [] = refl
plain-tokens cells (k ∷ ks) = ap (λ l. Leaf k ∷ l) (plain-tokens cells ks)

below-tokens : (n : ℕ) (ks : List Kind) → AreBelow n (map Token ks)
below-tokens n [] = tt
below-tokens n (k ∷ ks) = (tt, below-tokens n ks)

parts-leaves : (g : Grammar) (ks : List Kind) → AreParts g (leaves ks)
parts-leaves g [] = tt
parts-leaves g (k ∷ ks) = (tt, parts-leaves g ks)

no_stamped : (cells : List Cell) (ks : List Kind) {lefts : List Tree} {p born : ℕ} {us : StampedForest} → StampedIn (all_trees cells (map Token ks)) lefts p born us → ⊥
no_stamped cells ks {lefts} {p} {born} {us} w = no_branch ks (subst (λ l. StandsIn l lefts (Branch p (plain_all us))) (plain-tokens cells ks) (stamped_stands w))

-- trees whose kinds begin a list are covered by it
covers_prefix : (ts : List Tree) (ks tail : List Kind) → ks ≡ all_kinds ts ++ tail → all_kinds (before_leaves ts ks 0) ≡ ks
covers_prefix ts ks tail e =
    let at : 0 + length (all_kinds ts) ≡ length (all_kinds ts) = omega arith in
    let rest : drop (0 + length (all_kinds ts)) ks ≡ tail = ap (λ n. drop n ks) at ∙ ap (drop (length (all_kinds ts))) e ∙ drop-append_seam (all_kinds ts) tail in
    kinds-append ts (leaves (drop (0 + length (all_kinds ts)) ks)) ∙ ap (λ l. all_kinds ts ++ l) (kinds_leaves (drop (0 + length (all_kinds ts)) ks) ∙ rest) ∙ sym e

covered : (ts : List Tree) (ks : List Kind) → all_kinds (before_leaves ts ks 0) ≡ ks → ks ≡ all_kinds ts ++ drop (0 + length (all_kinds ts)) ks
covered ts ks e = sym e ∙ kinds-append ts (leaves (drop (0 + length (all_kinds ts)) ks)) ∙ ap (λ l. all_kinds ts ++ l) (kinds_leaves (drop (0 + length (all_kinds ts)) ks))

take_at : (ks x y : List Kind) (n : ℕ) → ks ≡ x ++ y → length x ≡ n → take n ks ≡ x
take_at ks x y n e l = ap (λ m. take m ks) (sym l) ∙ ap (take (length x)) e ∙ take-append_seam x y

drop_at : (ks x y : List Kind) (n : ℕ) → ks ≡ x ++ y → length x ≡ n → drop n ks ≡ y
drop_at ks x y n e l = ap (λ m. drop m ks) (sym l) ∙ ap (drop (length x)) e ∙ drop-append_seam x y

take_more : (ks x y : List Kind) (n : ℕ) → ks ≡ x ++ y → length x ≤ n → take n ks ≡ x ++ take (n - length x) y
take_more ks x y n e l = let at : n ≡ length x + (n - length x) = omega (arith, l) in ap (λ m. take m ks) at ∙ ap (take (length x + (n - length x))) e ∙ take-append-add x y (n - length x)

module _ (cells : List Cell) (s : Splice) (ordered : s.from ≤ s.to) where
  -- the list of children, as trees
  within_trees : (prefix rest : List Child) → plain_of cells (prefix ++ (map Token s.kinds ++ rest)) ≡ plain_of cells prefix ++ (leaves s.kinds ++ plain_of cells rest)
  within_trees prefix rest =
      plain-append cells prefix (map Token s.kinds ++ rest) ∙ ap (λ l. plain_of cells prefix ++ l)
      (plain-append cells (map Token s.kinds) rest ∙ ap (λ l. l ++ plain_of cells rest) (plain-tokens cells s.kinds))

  pub replaced_prepared : (s.from ≡ s.to → length s.kinds ≢ 0) → {old new : List Child} → IsReplaced cells s old new → (ks : List Kind) → IsPrepared s (plain_of cells old) (input_of cells new ks 0)
  replaced_prepared changes {old} (Within {prefix = prefix} {rest = rest} first reached second fits filled) ks =
      let trees = within_trees prefix rest in
      let after = drop (0 + place_of (plain_of cells (prefix ++ (map Token s.kinds ++ rest)))) ks in
      subst (λ l. IsPrepared s (plain_of cells old) (l ++ leaves after)) (sym trees)
      (prepared_within s cells ordered changes first reached second fits (⊎_elim (λ e. inl e) (λ e. inr (ap (plain_of cells) e)) filled) after)
  replaced_prepared changes (Short {prefix = prefix} first short) ks =
      prepared_short s cells ordered changes first refl short (drop (0 + place_of (plain_of cells prefix)) ks)

  pub replaced_older : (number : ℕ) {old new : List Child} → IsReplaced cells s old new → AreOlder number (all_trees cells old) → AreOlder number (all_trees cells new)
  replaced_older number (Within {prefix = prefix} {rest = rest} first reached second fits filled) h =
      let one = cut_older cells number first h in
      let two = cut_older cells number second one.1 in
      older-append number cells prefix (map Token s.kinds ++ rest) one.0 (older-append number cells (map Token s.kinds) rest (λ lefts p born us w. absurd (no_stamped cells s.kinds w)) two.1)
  replaced_older number (Short first short) h = (cut_older cells number first h).0

  -- what stands before the splice stays where it is
  prefix_moved : {old prefix back : List Child} → IsSplitAt cells s.from old prefix back → place_of (plain_of cells prefix) ≤ s.from → MoveFrom s (all_trees cells old) (all_trees cells prefix)
  prefix_moved {back = back} first fits lefts p born us w some =
      let one = cut_came cells first lefts p born us (stamped_before (all_trees cells back) w) in
      (one.0, one.1, inl (omega (arith, one.2, stands_length (stamped_stands w), some, fits), omega (arith, one.2)))

  -- and what stands after it goes with the kinds
  back_moved : {old prefix back gone rest : List Child} → IsSplitAt cells s.from old prefix back → place_of (plain_of cells prefix) ≡ s.from
      → IsSplitAt cells (s.to - s.from) back gone rest → (place_of (plain_of cells gone) ≡ s.to - s.from) ⊎ (rest ≡ [])
      → (lefts : List Tree) (p born : ℕ) (us : StampedForest) → StampedIn (all_trees cells rest) lefts p born us → (at : List Tree)
      × StampedIn (all_trees cells old) at p born us × (place_of at ≡ s.to + place_of lefts)
  back_moved {prefix = prefix} {gone = gone} {rest = rest} first reached second filled lefts p born us w =
      let prefixes = all_trees cells prefix in
      let gones = all_trees cells gone in
      let two = cut_came cells second (plain_trees gones ++ lefts) p born us (stamped_after gones w) in
      let one = cut_came cells first (plain_trees prefixes ++ two.0) p born us (stamped_after prefixes two.1) in
      let all : place_of (plain_of cells gone) ≡ s.to - s.from = ⊎_elim (λ e. e) (λ none. absurd (nowhere_stamped w (ap (all_trees cells) none))) filled in
      (one.0, one.1, omega (arith, one.2, two.2, place-append (plain_trees prefixes) two.0, place-append (plain_trees gones) lefts, reached, all, ordered))

  pub replaced_moved : {old new : List Child} → IsReplaced cells s old new → MoveFrom s (all_trees cells old) (all_trees cells new)
  replaced_moved {old} (Within {prefix = prefix} {rest = rest} first reached second fits filled) lefts p born us w some =
      let prefixes = all_trees cells prefix in
      let tokens = all_trees cells (map Token s.kinds) in
      let rests = all_trees cells rest in
      let ts = trees_from [] cells in
      let parts : all_trees cells (prefix ++ (map Token s.kinds ++ rest)) ≡ prefixes ++ (tokens ++ rests) = trees_of-append ts prefix (map Token s.kinds ++ rest)
      ∙ ap (λ l. prefixes ++ l) (trees_of-append ts (map Token s.kinds) rest) in
      let long : place_of (plain_trees tokens) ≡ length s.kinds = ap place_of (plain-tokens cells s.kinds) ∙ ap length (kinds_leaves s.kinds) in
      ⊎_elim
      (λ a. prefix_moved first (omega (arith, reached)) lefts p born us a some)
      (λ b. ⊎_elim
      (λ c. absurd (no_stamped cells s.kinds c))
      (λ c.
      let one = back_moved first reached second filled c.0 p born us c.1 in
      let place : place_of lefts ≡ s.from + (length s.kinds + place_of c.0) =
      omega (arith, ap place_of b.2, place-append (plain_trees prefixes) b.0, reached, ap place_of c.2, place-append (plain_trees tokens) c.0, long) in
      (one.0, one.1, inr (omega (arith, one.2), omega (arith, one.2, place))))
      (stamped_split tokens rests b.1))
      (stamped_split prefixes (tokens ++ rests) (subst (λ l. StampedIn l lefts p born us) parts w))
  replaced_moved {old} (Short first short) lefts p born us w some = prefix_moved first (omega (arith, short)) lefts p born us w some

  pub replaced_below : (n : ℕ) {old new : List Child} → IsReplaced cells s old new → AreBelow n old → AreBelow n new
  replaced_below n (Within {prefix = prefix} {rest = rest} first reached second fits filled) h =
      let one = cut_below cells n first h in
      let two = cut_below cells n second one.1 in
      below-append n prefix (map Token s.kinds ++ rest) one.0 (below-append n (map Token s.kinds) rest (below-tokens n s.kinds) two.1)
  replaced_below n (Short first short) h = (cut_below cells n first h).0

  replaced_parts : (g : Grammar) {old new : List Child} → IsReplaced cells s old new → AreParts g (plain_of cells old) → AreParts g (plain_of cells new)
  replaced_parts g (Within {prefix = prefix} {rest = rest} first reached second fits filled) h =
      let one = cut_parts cells g first h in
      let two = cut_parts cells g second one.1 in
      subst (AreParts g) (sym (within_trees prefix rest)) (parts-append g (plain_of cells prefix) (leaves s.kinds ++ plain_of cells rest) one.0
      (parts-append g (leaves s.kinds) (plain_of cells rest) (parts-leaves g s.kinds) two.1))
  replaced_parts g (Short first short) h = (cut_parts cells g first h).0

  -- the kinds of the new list begin the kinds after the splice
  begins : {old new : List Child} → IsReplaced cells s old new → (ks tail : List Kind) → ks ≡ all_kinds (plain_of cells old) ++ tail
      → (more : List Kind) × (spliced s ks ≡ all_kinds (plain_of cells new) ++ more)
  begins {old} (Within {prefix = prefix} {back = back} {gone = gone} {rest = rest} first reached second fits filled) ks tail e =
      let f = all_kinds (plain_of cells prefix) in
      let b = all_kinds (plain_of cells back) in
      let d = all_kinds (plain_of cells gone) in
      let r = all_kinds (plain_of cells rest) in
      let split : ks ≡ f ++ (b ++ tail) = e ∙ ap (λ l. l ++ tail) (cut_kinds cells first) ∙ append_assoc f b tail in
      let split_back : b ++ tail ≡ d ++ (r ++ tail) = ap (λ l. l ++ tail) (cut_kinds cells second) ∙ append_assoc d r tail in
      let split_to : ks ≡ (f ++ d) ++ (r ++ tail) = split ∙ ap (λ l. f ++ l) split_back ∙ sym (append_assoc f d (r ++ tail)) in
      let at_from : take s.from ks ≡ f = take_at ks f (b ++ tail) s.from split reached in
      let new : all_kinds (plain_of cells (prefix ++ (map Token s.kinds ++ rest))) ≡ f ++ (s.kinds ++ r) = ap all_kinds (within_trees prefix rest)
      ∙ kinds-append (plain_of cells prefix) (leaves s.kinds ++ plain_of cells rest)
      ∙ ap (λ l. f ++ l) (kinds-append (leaves s.kinds) (plain_of cells rest) ∙ ap (λ l. l ++ r) (kinds_leaves s.kinds)) in
      let joined : (more : List Kind) → drop s.to ks ≡ r ++ more → spliced s ks ≡ all_kinds (plain_of cells (prefix ++ (map Token s.kinds ++ rest))) ++ more = λ more e'.
      (λ i. at_from i ++ (s.kinds ++ e' i)) ∙ sym (append_assoc f (s.kinds ++ r) more ∙ ap (λ l. f ++ l) (append_assoc s.kinds r more)) ∙ ap (λ l. l ++ more) (sym new) in
      ⊎_elim
      (λ all. (tail, joined tail (drop_at ks (f ++ d) (r ++ tail) s.to split_to (omega (arith, length-append f d, reached, all, ordered)))))
      (λ none. (drop s.to ks, joined (drop s.to ks) (ap (λ l. l ++ drop s.to ks) (sym (ap (λ l. all_kinds (plain_of cells l)) none)))))
      filled
  begins (Short {prefix = prefix} first short) ks tail e =
      let f = all_kinds (plain_of cells prefix) in
      let split : ks ≡ f ++ tail = e ∙ ap (λ l. l ++ tail) (cut_kinds cells first ∙ append-nil f) in
      let rest = take (s.from - length f) tail in
      (rest ++ (s.kinds ++ drop s.to ks), ap (λ l. l ++ (s.kinds ++ drop s.to ks)) (take_more ks f tail s.from split (omega (arith, short))) ∙ append_assoc f rest (s.kinds ++ drop s.to ks))

  pub replaced_input : (g : Grammar) {old new : List Child} → IsReplaced cells s old new → (ks : List Kind) → IsInput g cells old ks 0 → IsInput g cells new (spliced s ks) 0
  replaced_input g {old} {new} r ks h =
      let b = begins r ks (drop (0 + place_of (plain_of cells old)) ks) (covered (plain_of cells old) ks h.covers) in
      record { below = replaced_below (length cells) r h.below; parts = replaced_parts g r h.parts; covers = covers_prefix (plain_of cells new) (spliced s ks) b.0 b.1 }

-- the trees that stay whole at the start, and what the first cut after them leaves
module _ (cells : List Cell) (s : Splice) (old : List Child) (whole left missing : ℕ) (start prefix back : List Child) (at : place_of (plain_of cells (take whole old)) + left ≡ s.from)
    (start_is : start ≡ drop whole old) (cut : IsSplitAt cells left start prefix back) (left_is : place_of (plain_of cells prefix) + missing ≡ left) where
  first_cut : IsSplitAt cells s.from old (take whole old ++ prefix) back
  first_cut = subst (λ l. IsSplitAt cells s.from l (take whole old ++ prefix) back) (take-append-drop whole old)
      (cut_after cells (take whole old) left s.from at (subst (λ l. IsSplitAt cells left l prefix back) start_is cut))

  first_place : place_of (plain_of cells (take whole old ++ prefix)) + missing ≡ s.from
  first_place = omega (arith, at, left_is, ap place_of (plain-append cells (take whole old) prefix), place-append (plain_of cells (take whole old)) (plain_of cells prefix))

  pub within : missing ≡ 0 → (gone rest new : List Child) (wanting : ℕ) → IsSplitAt cells (s.to - s.from) back gone rest → place_of (plain_of cells gone) + wanting ≡ s.to - s.from
      → (0 < wanting → rest ≡ []) → new ≡ take whole old ++ (prefix ++ (map Token s.kinds ++ rest)) → IsReplaced cells s old new
  within none gone rest new wanting second rest_is used_up e =
      let filled : (place_of (plain_of cells gone) ≡ s.to - s.from) ⊎ (rest ≡ []) = ⊎_elim (λ some. inr (used_up some)) (λ all. inl (omega (arith, rest_is, all))) (cases_lt 0 wanting) in
      subst (IsReplaced cells s old) (append_assoc (take whole old) prefix (map Token s.kinds ++ rest) ∙ sym e)
      (Within first_cut (omega (arith, first_place, none)) second (omega (arith, rest_is)) filled)

  pub short : 0 < missing → back ≡ [] → (new : List Child) → new ≡ take whole old ++ (prefix ++ back) → IsReplaced cells s old new
  short some none new e =
      let same : take whole old ++ prefix ≡ new = ap (λ l. take whole old ++ l) (sym (append-nil prefix) ∙ ap (λ l. prefix ++ l) (sym none)) ∙ sym e in
      subst (IsReplaced cells s old) same (Short (subst (IsSplitAt cells s.from old (take whole old ++ prefix)) none first_cut) (omega (arith, first_place, some)))
