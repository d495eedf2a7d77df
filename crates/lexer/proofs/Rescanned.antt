-- The tokens after a rescan are those of the edited text, and the kept ones are those that the edit keeps.
use Rattle.lexer.proofs.Std.{drop-map, cases_lt, and_parts, leb-true, false≢true, append_assoc, map-append, length-take, take_all, take_at, drop_at, take-append-le, passes_at_first, fails_before_first, sum_by-append, All-append, All-take, All-drop, arith, length-append, length-drop}
use Rattle.lexer.proofs.Std.{refl, sym, ap, subst, inl, inr, ◌∙◌, ◌≡◌, ℕ, ◌+◌, ◌-◌, ◌<◌, ◌≤◌, ◌⊎◌, ◌^◌, true, false, List, [], ◌++◌, length, take, drop, slice_range, slice_index_or, All, count_by, if◌then◌else◌}
use Rattle.lexer.proofs.Common.{chars, prefix_before, leads_tokens, Edit, edit, AreTokens, boundaries, is_skipped, kinds, kept_before, is_rejoined, rejoin, same_kinds, gone, made_by, IsSpliced, Splice, splice, length-boundaries, AreTokens-drop, drop-edit, Kind}
use Rattle.lexer.proofs.Common.{Lexicon, Token, kind_in, plain, is_significant, characters, Fits, plain_all, prefix_end, significant_kinds, change, IsEdited, IsRemade, AreRescanned, AreTokensAfter}
use Rattle.lexer.proofs.SignificantKinds.{length-kinds, kinds_plain, count_range, spliced_kinds}
use Rattle.lexer.proofs.Boundaries.{length-plain, boundary_at}
use Rattle.lexer.proofs.Remakes.{chars-plain, plain-take, all_lead, many as kept_length, not_before, tokens_length}

plain-drop : (n : ℕ) (xs : List Token) → plain_all (drop n xs) ≡ drop n (plain_all xs)
plain-drop n xs = sym (drop-map plain n xs)

-- places of a list of kinds that give way to others, unless these are the same
abbrev replaced : ℕ → ℕ → List Kind → List Kind → Splice
replaced from to before after = if same_kinds before after then record { from = from; to = from; kinds = [] } else record { from = from; to = to; kinds = after }

module _ (lexicon : Lexicon) (e : Edit) (items : List Token) (u : List ℕ) (h : IsEdited lexicon e items u) (made : List Token) (to : ℕ) (r : IsRemade lexicon e items u made to) where
  abbrev kept : List Token
  kept = take (kept_before e (plain_all items)) items

  abbrev new : List Token
  new = kept ++ (made ++ drop to items)

  many : length kept ≡ kept_before e (plain_all items)
  many = kept_length lexicon e items u h

  sum : chars (plain_all kept ++ plain_all made) ≡ prefix_end e items + characters made
  sum = ap chars (sym (map-append plain kept made)) ∙ chars-plain (kept ++ made) ∙ sum_by-append (λ x. x.length) kept made

  past : e.at + e.inserted ≤ prefix_end e items + characters made
  past = leb-true _ _ (and_parts _ _ r.rejoins).0

  -- after the place of rejoining both texts are the same
  same_tail : drop (prefix_end e items + characters made) u ≡ drop (characters (take to items)) h.text
  same_tail =
      let k = prefix_end e items + characters made - (e.at + e.inserted) in
      let here : prefix_end e items + characters made ≡ e.at + length h.piece + k = omega (arith, past, h.inserted) in
      let there : e.at + e.removed + k ≡ characters (take to items) = omega (arith, past, r.moved) in
      ap (λ v. drop (prefix_end e items + characters made) v) h.new_text ∙ ap (λ n. drop n (edit h.text e.at (e.at + e.removed) h.piece)) here
      ∙ drop-edit h.text h.piece e.at (e.at + e.removed) k (omega (arith, h.inside)) ∙ ap (λ n. drop n h.text) there

  tail_tokens : AreTokens lexicon.patterns (drop (prefix_end e items + characters made) u) (plain_all (drop to items))
  tail_tokens =
      let old : AreTokens lexicon.patterns (drop (slice_index_or (boundaries 0 (plain_all items)) to 0) h.text) (drop to (plain_all items)) =
      AreTokens-drop lexicon.patterns h.text 0 0 to (plain_all items) h.tokens.tokens (omega (arith, length-plain items, r.within)) in
      let placed : AreTokens lexicon.patterns (drop (characters (take to items)) h.text) (drop to (plain_all items)) =
      subst (λ n. AreTokens lexicon.patterns (drop n h.text) (drop to (plain_all items))) (boundary_at items to 0 r.within) old in
      subst (λ v. AreTokens lexicon.patterns v (plain_all (drop to items))) (sym same_tail)
      (subst (λ xs. AreTokens lexicon.patterns (drop (characters (take to items)) h.text) xs) (sym (plain-drop to items)) placed)

  -- they are the tokens of the new text
  pub remade_tokens : AreTokens lexicon.patterns u (plain_all new)
  remade_tokens =
      let parts : (plain_all kept ++ plain_all made) ++ plain_all (drop to items) ≡ plain_all new =
      append_assoc (plain_all kept) (plain_all made) (plain_all (drop to items)) ∙ ap (λ ys. plain_all kept ++ ys) (sym (map-append plain made (drop to items)))
      ∙ sym (map-append plain kept (made ++ drop to items)) in
      subst (λ xs. AreTokens lexicon.patterns u xs) parts
      (leads_tokens lexicon.patterns u (plain_all kept ++ plain_all made) (plain_all (drop to items)) (all_lead lexicon e items u h made r.leads)
      (subst (λ n. AreTokens lexicon.patterns (drop n u) (plain_all (drop to items))) (sym sum) tail_tokens))

  pub remade_marked : All (λ x. x.skipped ≡ is_skipped lexicon.skips (kind_in x)) new
  remade_marked =
      let P = λ (x : Token). x.skipped ≡ is_skipped lexicon.skips (kind_in x) in
      All-append P kept (made ++ drop to items) (All-take P (kept_before e (plain_all items)) items h.tokens.marked)
      (All-append P made (drop to items) r.anew.marked (All-drop P to items h.tokens.marked))

  split_new : new ≡ (kept ++ made) ++ drop to items
  split_new = sym (append_assoc kept made (drop to items))

  boundary_new : (i : ℕ) → i ≤ length (kept ++ made) → slice_index_or (boundaries 0 (plain_all new)) i 0 ≡ characters (take i (kept ++ made))
  boundary_new i l =
      boundary_at new i 0 (omega (arith, ap length split_new, length-append (kept ++ made) (drop to items)))
      ∙ ap (λ xs. characters (take i xs)) split_new ∙ ap characters (take-append-le i (kept ++ made) (drop to items) l)

  -- the place of rejoining stands after the prefix and what was made
  pub rejoin_is : rejoin e (plain_all items) (plain_all new) ≡ length (kept ++ made)
  rejoin_is = go (cases_lt (rejoin e (plain_all items) (plain_all new)) (length (kept ++ made))) (cases_lt (length (kept ++ made)) (rejoin e (plain_all items) (plain_all new)))
    where
      long : length (kept ++ made) < length (boundaries 0 (plain_all new))
      long = omega (arith, length-boundaries 0 (plain_all new), length-plain new, ap length split_new, length-append (kept ++ made) (drop to items))

      go : (rejoin e (plain_all items) (plain_all new) < length (kept ++ made)) ⊎ (length (kept ++ made) ≤ rejoin e (plain_all items) (plain_all new))
          → (length (kept ++ made) < rejoin e (plain_all items) (plain_all new)) ⊎ (rejoin e (plain_all items) (plain_all new) ≤ length (kept ++ made))
          → rejoin e (plain_all items) (plain_all new) ≡ length (kept ++ made)
      go (inl lt) _ =
          let found : is_rejoined e (plain_all items) (slice_index_or (boundaries 0 (plain_all new)) (rejoin e (plain_all items) (plain_all new)) 0) ≡ true =
          passes_at_first (is_rejoined e (plain_all items)) (boundaries 0 (plain_all new)) 0 (omega (arith, long)) in
          let none : is_rejoined e (plain_all items) (slice_index_or (boundaries 0 (plain_all new)) (rejoin e (plain_all items) (plain_all new)) 0) ≡ false =
          subst (λ n. is_rejoined e (plain_all items) n ≡ false) (sym (boundary_new (rejoin e (plain_all items) (plain_all new)) (omega arith)))
          (not_before lexicon e items u h made r.earlier (rejoin e (plain_all items) (plain_all new)) lt) in
          absurd (false≢true (sym none ∙ found))
      go (inr _) (inl lt) =
          let none : is_rejoined e (plain_all items) (slice_index_or (boundaries 0 (plain_all new)) (length (kept ++ made)) 0) ≡ false =
          fails_before_first (is_rejoined e (plain_all items)) (boundaries 0 (plain_all new)) (length (kept ++ made)) 0 lt in
          let whole : characters (take (length (kept ++ made)) (kept ++ made)) ≡ prefix_end e items + characters made =
          ap characters (take_all (length (kept ++ made)) (kept ++ made) (omega arith)) ∙ sum_by-append (λ x. x.length) kept made in
          let found : is_rejoined e (plain_all items) (slice_index_or (boundaries 0 (plain_all new)) (length (kept ++ made)) 0) ≡ true =
          subst (λ n. is_rejoined e (plain_all items) n ≡ true) (sym (boundary_new (length (kept ++ made)) (omega arith) ∙ whole)) r.rejoins in
          absurd (false≢true (sym none ∙ found))
      go (inr a) (inr b) = omega arith

  -- the old tokens from `to` on are those after the place of rejoining
  pub to_is : length items - (length new - rejoin e (plain_all items) (plain_all new)) ≡ to
  to_is = omega (arith, rejoin_is, ap length split_new, length-append (kept ++ made) (drop to items), length-drop to items, r.within)

  pub prefix_to : Fits items → kept_before e (plain_all items) ≤ to
  prefix_to f = elim (cases_lt to (kept_before e (plain_all items))) [
    | inl lt ↦
        let before_it : slice_index_or (boundaries 0 (plain_all items)) to 0 < e.at = prefix_before lexicon.patterns h.text e (plain_all items) to h.tokens.tokens lt in
        let at : slice_index_or (boundaries 0 (plain_all items)) to 0 ≡ characters (take to items) = boundary_at items to 0 r.within in
        absurd (omega (arith, before_it, at, past, r.moved))
    | inr le ↦ le
  ]

  range_made : slice_range new (kept_before e (plain_all items)) (rejoin e (plain_all items) (plain_all new)) ≡ made
  range_made =
      let after_prefix : drop (kept_before e (plain_all items)) new ≡ made ++ drop to items = drop_at kept (made ++ drop to items) (kept_before e (plain_all items)) many in
      let n : length made ≡ rejoin e (plain_all items) (plain_all new) - kept_before e (plain_all items) = omega (arith, rejoin_is, length-append kept made, many) in
      ap (take (rejoin e (plain_all items) (plain_all new) - kept_before e (plain_all items))) after_prefix
      ∙ take_at made (drop to items) (rejoin e (plain_all items) (plain_all new) - kept_before e (plain_all items)) n

  pub remade_kept : AreRescanned e items new
  remade_kept = record {
    prefix_kept = take_at kept (made ++ drop to items) (kept_before e (plain_all items)) many;
    rest_kept =
        ap (λ n. drop n new) rejoin_is ∙ ap (drop (length (kept ++ made))) split_new ∙ drop_at (kept ++ made) (drop to items) (length (kept ++ made)) refl ∙ ap (λ n. drop n items) (sym to_is);
    stamped = subst (λ xs. All (λ x. x.born ≡ e.number) xs) (sym range_made) r.anew.stamped;
  }

  -- and their sums fit
  pub remade_fits : Fits items → length u ≤ 1048576 → Fits new
  remade_fits f l = record {
    short = omega (arith, tokens_length lexicon.patterns u new remade_tokens, l);
    nonempty =
        let P = λ (x : Token). 1 ≤ x.length in
        All-append P kept (made ++ drop to items) (All-take P (kept_before e (plain_all items)) items f.nonempty) (All-append P made (drop to items) r.anew.nonempty (All-drop P to items f.nonempty));
    near =
        let P = λ (x : Token). x.reach ≤ 2 ^ 30 in
        All-append P kept (made ++ drop to items) (All-take P (kept_before e (plain_all items)) items f.near)
        (All-append P made (drop to items) (λ k d m. let q : (slice_index_or made k d).reach ≤ 1048577 = r.anew.near k d m in omega arith) (All-drop P to items f.near));
  }

  pub scanned_is : length made ≡ length (slice_range (plain_all new) (kept_before e (plain_all items)) (rejoin e (plain_all items) (plain_all new)))
  scanned_is =
      sym (length-take (rejoin e (plain_all items) (plain_all new) - kept_before e (plain_all items)) (drop (kept_before e (plain_all items)) (plain_all new))
      ∙ omega (
        arith,
        length-drop (kept_before e (plain_all items)) (plain_all new),
        rejoin_is,
        length-plain new,
        ap length split_new,
        length-append (kept ++ made) (drop to items),
        length-append kept made,
        many,
      ))

  -- the kinds of the tokens gone give way to those of the tokens made
  pub spliced : Fits items → change items (kept_before e (plain_all items)) to (significant_kinds made) ≡ splice lexicon.skips e (plain_all items) (plain_all new)
  spliced f =
      let P = λ (x : Token). x.skipped ≡ is_skipped lexicon.skips (kind_in x) in
      let place = kept_before e (plain_all items) in
      let rest = rejoin e (plain_all items) (plain_all new) in
      let before_it : kinds lexicon.skips (take place (plain_all items)) ≡ significant_kinds (take place items) =
      ap (kinds lexicon.skips) (sym (plain-take place items)) ∙ kinds_plain lexicon.skips (take place items) (All-take P place items h.tokens.marked) in
      let from : length (kinds lexicon.skips (take place (plain_all items))) ≡ count_by is_significant (take place items) = ap length before_it ∙ length-kinds (take place items) in
      let end : length (plain_all items) - (length (plain_all new) - rest) ≡ to = omega (arith, to_is, length-plain items, length-plain new) in
      let before : kinds lexicon.skips (gone e (plain_all items) (plain_all new)) ≡ significant_kinds (slice_range items place to) =
      ap (λ n. kinds lexicon.skips (slice_range (plain_all items) place n)) end
      ∙ ap (kinds lexicon.skips) (ap (take (to - place)) (sym (plain-drop place items)) ∙ sym (plain-take (to - place) (drop place items)))
      ∙ kinds_plain lexicon.skips (slice_range items place to) (All-take P (to - place) (drop place items) (All-drop P place items h.tokens.marked)) in
      let after : kinds lexicon.skips (made_by e (plain_all items) (plain_all new)) ≡ significant_kinds made =
      ap (kinds lexicon.skips) (ap (take (rest - place)) (sym (plain-drop place new)) ∙ sym (plain-take (rest - place) (drop place new)) ∙ ap plain_all range_made)
      ∙ kinds_plain lexicon.skips made r.anew.marked in
      let sum : count_by is_significant (take to items) ≡ length (kinds lexicon.skips (take place (plain_all items))) + length (kinds lexicon.skips (gone e (plain_all items) (plain_all new))) =
      omega (arith, from, ap length before, count_range items place to (prefix_to f)) in
      λ i. replaced (sym from i) (sum i) (sym before i) (sym after i)

  -- so they are the tokens after the edit
  pub remade_after : (n : ℕ) (s : Splice) → Fits items → s ≡ change items (kept_before e (plain_all items)) to (significant_kinds made)
      → AreTokensAfter lexicon e u s (record { items = items; scanned = n }) (record { items = new; scanned = length made })
  remade_after n s f shown = record {
    tokens = record { tokens = remade_tokens; marked = remade_marked };
    kept = remade_kept;
    splice = shown ∙ spliced f;
    kinds = subst (λ x. IsSpliced x (significant_kinds items) (significant_kinds new)) (sym shown)
        (spliced_kinds items made (kept_before e (plain_all items)) to (prefix_to f));
    scanned = scanned_is;
  }
