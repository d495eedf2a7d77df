-- The old trees, with the new kinds between the parts that a splice leaves of them.
use Rattle.parser.proofs.Std.{◌≡◌, ◌≢◌, ◌⊎◌, ℕ, ◌+◌, ◌-◌, ◌<◌, ◌≤◌, List, [], ◌∷◌, ◌++◌, length, refl, sym, ap, ◌∙◌, subst, inl, inr, ⊎_elim, arith, head-eq_of_cons-eq, tail-eq_of_cons-eq, cases_lt, append-nil}
use Rattle.parser.proofs.Common.{Kind, Tree, Forest, Leaf, Branch, yields, all_kinds, StandsIn, Top, Below, Past, place_of, Splice, IsKept, IsMoved, IsTouched, IsPrepared, nowhere, stands_after, stands_in_prefix, stands_split, stands_length, Child, Cell, plain_of, leaves, IsSplitAt}
use Rattle.parser.proofs.Running.{kinds_leaves}
use Rattle.parser.proofs.WhereBranchesComeFrom.{place-append}
use Rattle.parser.proofs.Cuts.{cut_from, cut_keeps, cut_kinds}

leaf_is_branch : (k : Kind) (p : ℕ) (us : Forest) → Leaf k ≡ Branch p us → ⊥
leaf_is_branch k p us e = cc e

-- kinds alone have no branches
no_branch_in : (ks : List Kind) {l lefts : List Tree} {t : Tree} {p : ℕ} {us : Forest} → StandsIn l lefts t → l ≡ leaves ks → t ≡ Branch p us → ⊥
no_branch_in [] w e f = nowhere w e
no_branch_in (k ∷ ks) Top e f = leaf_is_branch k _ _ (sym (head-eq_of_cons-eq e) ∙ f)
no_branch_in (k ∷ ks) (Below w) e f = leaf_is_branch k _ _ (sym (head-eq_of_cons-eq e))
no_branch_in (k ∷ ks) (Past w) e f = no_branch_in ks w (tail-eq_of_cons-eq e) f

pub no_branch : (ks : List Kind) {lefts : List Tree} {p : ℕ} {us : Forest} → StandsIn (leaves ks) lefts (Branch p us) → ⊥
no_branch ks w = no_branch_in ks w refl refl

-- the kinds before a node that stands after these trees
split_place : (prefix more at lefts : List Tree) → all_kinds at ≡ all_kinds lefts → at ≡ prefix ++ more → place_of prefix + place_of more ≡ place_of lefts
split_place prefix more at lefts same e = omega (arith, ap length same, ap place_of e, place-append prefix more)

module _ (s : Splice) where
  -- what stands before the splice, or after it, is not touched
  before_untouched : (start end : ℕ) → end ≤ s.from → IsTouched s start end → ⊥
  before_untouched start end le t = ⊎_elim (λ k. omega (arith, le, k.2, k.3)) (λ k. omega (arith, le, k.3)) t

  after_untouched : (start end : ℕ) → s.from ≤ s.to → s.to ≤ start → IsTouched s start end → ⊥
  after_untouched start end ordered le t = ⊎_elim (λ k. omega (arith, le, k.1, k.4)) (λ k. omega (arith, ordered, le, k.2)) t

  -- what holds kinds on both sides, or a kind that is taken away, is touched, where the splice changes anything
  across_touched : (start end : ℕ) → (s.from ≡ s.to → length s.kinds ≢ 0) → s.from ≤ s.to → start < s.from → s.from < end → IsTouched s start end
  across_touched start end changes ordered lt more =
      ⊎_elim
      (λ some. inl (s.from, omega (arith, lt), more, omega arith, some))
      (λ none. let same : s.from ≡ s.to = omega (arith, none, ordered) in inr (same, changes same, lt, more))
      (cases_lt s.from s.to)

  inside_touched : (start end : ℕ) → s.from ≤ start → start < s.to → start < end → IsTouched s start end
  inside_touched start end ge lt some = inl (start, omega arith, some, ge, lt)

  -- where there is nothing to do, nothing moves
  pub unmoved : s.from ≡ s.to → length s.kinds ≡ 0 → (place : ℕ) → IsMoved s place place
  unmoved same none place = ⊎_elim (λ lt. inl (lt, refl)) (λ le. inr (omega (arith, le, same), omega (arith, same, none))) (cases_lt place s.from)

  -- where there is nothing to do, the old trees are prepared
  pub prepared_same : (old : List Tree) (ks : List Kind) → s.from ≡ s.to → length s.kinds ≡ 0 → IsPrepared s old (old ++ leaves ks)
  prepared_same old ks same none = record {
    from_old = λ lefts p us w nonempty. ⊎_elim
        (λ a. record { lefts = lefts; stood = a; not_empty = nonempty; untouched = λ t. ⊎_elim (λ k. omega (arith, same, k.3, k.4)) (λ k. k.1 none) t; moved = unmoved same none (place_of lefts) })
        (λ b. absurd (no_branch ks b.1))
        (stands_split old (leaves ks) w);
    all_old = λ place p us kept. (kept.lefts, stands_in_prefix (leaves ks) kept.stood, ⊎_elim (λ a. sym a.1) (λ b. omega (arith, b.1, same, none)) kept.moved);
  }

  module _ (cells : List Cell) (ordered : s.from ≤ s.to) (changes : s.from ≡ s.to → length s.kinds ≢ 0) {old prefix back : List Child} (first : IsSplitAt cells s.from old prefix back) where
    abbrev olds : List Tree
    olds = plain_of cells old

    abbrev prefixes : List Tree
    prefixes = plain_of cells prefix

    abbrev backs : List Tree
    backs = plain_of cells back

    prefix_kept : place_of prefixes ≤ s.from → (lefts : List Tree) (p : ℕ) (us : Forest) → StandsIn prefixes lefts (Branch p us) → 0 < length (yields us) → IsKept s olds (place_of lefts) p us
    prefix_kept fits lefts p us w some =
        let r = cut_from cells first lefts (Branch p us) (stands_in_prefix backs w) in
        let ends : place_of lefts + length (yields us) ≤ s.from = omega (arith, fits, stands_length w) in
        record {
          lefts = r.0;
          stood = r.1;
          not_empty = some;
          untouched = before_untouched (place_of r.0) (place_of r.0 + length (yields us)) (omega (arith, ends, ap length r.2));
          moved = inl (omega (arith, ends, some, ap length r.2), sym (ap length r.2));
        }

    -- a kept node before the splice stands at the start
    kept_before : (place p : ℕ) (us : Forest) (kept : IsKept s olds place p us) → place_of kept.lefts + length (yields us) ≤ s.from → (place_of prefixes ≡ s.from)
        ⊎ (backs ≡ []) → (lefts : List Tree) × StandsIn prefixes lefts (Branch p us) × (place_of lefts ≡ place)
    kept_before place p us kept le reached =
        let r = cut_keeps cells first kept.lefts (Branch p us) kept.stood kept.not_empty (inl le) in
        let stays : place_of kept.lefts ≡ place = ⊎_elim (λ a. sym a.1) (λ b. absurd (omega (arith, b.0, le, ordered, kept.not_empty))) kept.moved in
        ⊎_elim
        (λ a. (r.0, a, ap length r.2 ∙ stays))
        (λ b. absurd (⊎_elim
        (λ e. omega (arith, e, le, kept.not_empty, split_place prefixes b.0 r.0 kept.lefts r.2 b.2))
        (λ none. nowhere b.1 none)
        reached))
        (stands_split prefixes backs r.1)

    -- where the old trees end before the splice, they are all there is
    pub prepared_short : backs ≡ [] → place_of prefixes < s.from → (ks : List Kind) → IsPrepared s olds (prefixes ++ leaves ks)
    prepared_short none short ks = record {
      from_old = λ lefts p us w some. ⊎_elim
          (λ a. prefix_kept (omega (arith, short)) lefts p us a some)
          (λ b. absurd (no_branch ks b.1))
          (stands_split prefixes (leaves ks) w);
      all_old = λ place p us kept.
          let all : place_of olds ≡ place_of prefixes = ap length (cut_kinds cells first ∙ ap (λ l. all_kinds prefixes ++ all_kinds l) none ∙ append-nil (all_kinds prefixes)) in
          let r = kept_before place p us kept (omega (arith, all, short, stands_length kept.stood)) (inr none) in
          (r.0, stands_in_prefix (leaves ks) r.1, r.2);
    }

    -- where they reach it, the new kinds stand between what is before the splice and what is after it
    module _ (reached : place_of prefixes ≡ s.from) {gone rest : List Child} (second : IsSplitAt cells (s.to - s.from) back gone rest)
        (fits : place_of (plain_of cells gone) ≤ s.to - s.from) (filled : (place_of (plain_of cells gone) ≡ s.to - s.from) ⊎ (plain_of cells rest ≡ [])) where
      abbrev gones : List Tree
      gones = plain_of cells gone

      abbrev rests : List Tree
      rests = plain_of cells rest

      -- where there is a node after the splice, all that it takes away was there
      gone_to : {lefts : List Tree} {t : Tree} → StandsIn rests lefts t → s.from + place_of gones ≡ s.to
      gone_to w = ⊎_elim (λ e. omega (arith, e, ordered)) (λ none. absurd (nowhere w none)) filled

      -- a node after the splice stood in the old trees
      stood_after : (lefts : List Tree) (t : Tree) → StandsIn rests lefts t → (before : List Tree) × StandsIn olds before t × (place_of before ≡ s.to + place_of lefts)
      stood_after lefts t w =
          let two = cut_from cells second (gones ++ lefts) t (stands_after gones w) in
          let one = cut_from cells first (prefixes ++ two.0) t (stands_after prefixes two.1) in
          (one.0, one.1, omega (arith, ap length one.2, place-append prefixes two.0, reached, ap length two.2, place-append gones lefts, gone_to w))

      back_kept : (lefts : List Tree) (p : ℕ) (us : Forest) → StandsIn rests lefts (Branch p us) → 0 < length (yields us) → IsKept s olds (s.from + (length s.kinds + place_of lefts)) p us
      back_kept lefts p us w some =
          let r = stood_after lefts (Branch p us) w in
          record {
            lefts = r.0;
            stood = r.1;
            not_empty = some;
            untouched = after_untouched (place_of r.0) (place_of r.0 + length (yields us)) ordered (omega (arith, r.2));
            moved = inr (omega (arith, r.2), omega (arith, r.2));
          }

      -- a kept node after the splice stands after it
      kept_after : (place p : ℕ) (us : Forest) (kept : IsKept s olds place p us) → s.to ≤ place_of kept.lefts → (lefts : List Tree)
          × StandsIn rests lefts (Branch p us) × (s.from + (length s.kinds + place_of lefts) ≡ place)
      kept_after place p us kept le =
          let t = Branch p us in
          let some = kept.not_empty in
          let one = cut_keeps cells first kept.lefts t kept.stood some (inr (omega (arith, le, ordered))) in
          ⊎_elim
          (λ a. absurd (omega (arith, stands_length a, reached, le, ordered, some, ap length one.2)))
          (λ b.
          let there : s.from + place_of b.0 ≡ place_of kept.lefts = omega (arith, split_place prefixes b.0 one.0 kept.lefts one.2 b.2, reached) in
          let two = cut_keeps cells second b.0 t b.1 some (inr (omega (arith, there, le))) in
          ⊎_elim
          (λ a. absurd (omega (arith, stands_length a, fits, there, le, some, ap length two.2)))
          (λ d. (d.0, d.1, ⊎_elim (λ m. absurd (omega (arith, m.0, le, ordered))) (λ m. omega (arith, m.1, there, split_place gones d.0 two.0 b.0 two.2 d.2, gone_to d.1)) kept.moved))
          (stands_split gones rests two.1))
          (stands_split prefixes backs one.1)

      abbrev new : List Tree
      new = prefixes ++ (leaves s.kinds ++ rests)

      new_kept : (lefts : List Tree) (p : ℕ) (us : Forest) → StandsIn new lefts (Branch p us) → 0 < length (yields us) → IsKept s olds (place_of lefts) p us
      new_kept lefts p us w some =
          ⊎_elim
          (λ a. prefix_kept (omega (arith, reached)) lefts p us a some)
          (λ b. ⊎_elim
          (λ c. absurd (no_branch s.kinds c))
          (λ c.
          let place : s.from + (length s.kinds + place_of c.0) ≡ place_of lefts =
          omega (arith, ap place_of b.2, place-append prefixes b.0, reached, ap place_of c.2, place-append (leaves s.kinds) c.0, ap length (kinds_leaves s.kinds)) in
          subst (λ n. IsKept s olds n p us) place (back_kept c.0 p us c.1 some))
          (stands_split (leaves s.kinds) rests b.1))
          (stands_split prefixes (leaves s.kinds ++ rests) w)

      module _ (place p : ℕ) (us : Forest) (kept : IsKept s olds place p us) where
        abbrev start : ℕ
        start = place_of kept.lefts

        kept_in_prefix : start < s.from → (lefts : List Tree) × StandsIn new lefts (Branch p us) × (place_of lefts ≡ place)
        kept_in_prefix lt =
            ⊎_elim
            (λ more. absurd (kept.untouched (across_touched start (start + length (yields us)) changes ordered lt more)))
            (λ le. let r = kept_before place p us kept le (inl reached) in (r.0, stands_in_prefix (leaves s.kinds ++ rests) r.1, r.2))
            (cases_lt s.from (start + length (yields us)))

        kept_at_back : s.from ≤ start → (lefts : List Tree) × StandsIn new lefts (Branch p us) × (place_of lefts ≡ place)
        kept_at_back ge =
            ⊎_elim
            (λ lt. absurd (kept.untouched (inside_touched start (start + length (yields us)) ge lt (omega (arith, kept.not_empty)))))
            (λ le.
            let r = kept_after place p us kept le in
            let at = prefixes ++ (leaves s.kinds ++ r.0) in
            let there : place_of at ≡ place = omega (arith, place-append prefixes (leaves s.kinds ++ r.0), reached, place-append (leaves s.kinds) r.0, ap length (kinds_leaves s.kinds), r.2) in
            (at, stands_after prefixes (stands_after (leaves s.kinds) r.1), there))
            (cases_lt start s.to)

        kept_new : (lefts : List Tree) × StandsIn new lefts (Branch p us) × (place_of lefts ≡ place)
        kept_new = ⊎_elim kept_in_prefix kept_at_back (cases_lt start s.from)

      pub prepared_within : (ks : List Kind) → IsPrepared s olds (new ++ leaves ks)
      prepared_within ks = record {
        from_old = λ lefts p us w some. ⊎_elim (λ a. new_kept lefts p us a some) (λ b. absurd (no_branch ks b.1)) (stands_split new (leaves ks) w);
        all_old = λ place p us kept. let r = kept_new place p us kept in (r.0, stands_in_prefix (leaves ks) r.1, r.2);
      }
