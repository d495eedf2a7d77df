-- The selection that the two places of an offset give, and that each offset has one.
use Rattle.views.proofs.Std.{dedup, length-map, count_by-le-length, arith, refl, sym, ap, subst, ◌∙◌, ◌≡◌, ◌<◌, ◌≤◌, ◌^◌, ℕ, suc, List, ◌∷◌, length, map, take, reverse, count_by, All}
use Rattle.views.proofs.Common.{Range, Symbol, Encoding, range_of, shortened, Placed, AreTokens, kinds, Tree, HaveRoots, all_kinds, map-significant, PlainToken as Token}
use Rattle.views.proofs.Common.{FileGrammar, lexicon_of, Stored, AreTokensOf, is_significant, plain, Child, Cell, IsAround, IsSpanOf, inside, is_same, offsets_of, spans_all, AreRootsOf, IsSelectionOf, placed_parts, trees_of_roots}
use Rattle.views.proofs.SignificantOrder.{place_of_offset, places_around}
use Rattle.views.proofs.LocatedOffset.{few}
use Rattle.views.proofs.SpansAround.{are_spans, shown_cover}
use Rattle.views.proofs.Significant.{count_of_parts}

module _ (encoding : Encoding) (file : FileGrammar) (t : List ℕ) (tokens : List Token) (trees : List Tree) (symbols : List Symbol)
    (h : AreTokens file.patterns t tokens) (roots : HaveRoots file.grammar trees symbols) (covered : length (all_kinds trees) ≤ length (kinds file.skips tokens)) where
  parts_cover : length (all_kinds trees) ≤ length (placed_parts file tokens)
  parts_cover = omega (arith, covered, ap length (map-significant file.skips 0 tokens), length-map (placed_parts file tokens) (λ (x : Placed). x.token.kind))

  -- the offsets of the spans that two places give
  abbrev pub reported : ℕ → ℕ → List (ℕ × ℕ)
  reported reached first = shortened ((0, length t) ∷ inside (0, length t) (map (offsets_of (placed_parts file tokens)) (dedup is_same (spans_all reached first 0 trees))))

  pub selected : (o reached first : ℕ) → IsAround (placed_parts file tokens) o reached first
      → IsSelectionOf encoding file t tokens trees o (reverse (map (range_of encoding t) (reported reached first)))
  selected o reached first a = (
    reported reached first,
    (
      inside (0, length t) (map (offsets_of (placed_parts file tokens)) (dedup is_same (spans_all reached first 0 trees))),
      shown_cover file.patterns file.skips t tokens h file.grammar trees symbols roots o reached first parts_cover a,
      refl,
    ),
    refl,
  )

  spans_lie : (o reached first : ℕ) → IsAround (placed_parts file tokens) o reached first → All (IsSpanOf (length (placed_parts file tokens))) (dedup is_same (spans_all reached first 0 trees))
  spans_lie o reached first a = are_spans file.patterns file.skips t tokens h file.grammar trees symbols roots o reached first parts_cover a

  -- each offset has a selection
  pub some_selection : (o : ℕ) → (ranges : List Range) × IsSelectionOf encoding file t tokens trees o ranges
  some_selection o =
      let p = place_of_offset 0 o tokens (omega arith) in
      let reached = length (kinds file.skips (take (suc p.0) tokens)) in
      let first = length (kinds file.skips (take p.0 tokens)) in
      (reverse (map (range_of encoding t) (reported reached first)), selected o reached first (places_around file.patterns file.skips o 0 t tokens p.0 h p.1))

-- the same of stored tokens and of roots in a store
module _ (encoding : Encoding) (file : FileGrammar) (t : List ℕ) (items : List Stored) (cells : List Cell) (roots : List Child)
    (h : AreTokensOf (lexicon_of file) t items) (r : AreRootsOf file cells (map plain items) roots) where
  counted : length (placed_parts file (map plain items)) ≡ count_by is_significant items
  counted = count_of_parts file.skips items h.marked

  -- the roots have no more tokens than the text has characters
  pub roots_fit : length t ≤ 2 ^ 30 → length (all_kinds (trees_of_roots cells roots)) < 2 ^ 64
  roots_fit short =
      let covered = parts_cover encoding file t (map plain items) (trees_of_roots cells roots) r.symbols h.tokens r.are_trees r.covered in
      omega (arith, covered, counted, count_by-le-length is_significant items, few file t items h short)

  pub spans_stand : (o reached first : ℕ) → IsAround (placed_parts file (map plain items)) o reached first
      → All (IsSpanOf (count_by is_significant items)) (dedup is_same (spans_all reached first 0 (trees_of_roots cells roots)))
  spans_stand o reached first a =
      subst (λ n. All (IsSpanOf n) (dedup is_same (spans_all reached first 0 (trees_of_roots cells roots)))) counted
      (spans_lie encoding file t (map plain items) (trees_of_roots cells roots) r.symbols h.tokens r.are_trees r.covered o reached first a)

  module _ (o reached first : ℕ) (a : IsAround (placed_parts file (map plain items)) o reached first) (n : ℕ) (spans offsets : List (ℕ × ℕ))
      (whole : n ≡ length t) (all : spans ≡ dedup is_same (spans_all reached first 0 (trees_of_roots cells roots)))
      (some : offsets ≡ shortened ((0, n) ∷ inside (0, n) (map (offsets_of (placed_parts file (map plain items))) spans))) where
    same : offsets ≡ reported encoding file t (map plain items) (trees_of_roots cells roots) r.symbols h.tokens r.are_trees r.covered reached first
    same =
        let kept = λ (m : ℕ) (ss : List (ℕ × ℕ)). shortened ((0, m) ∷ inside (0, m) (map (offsets_of (placed_parts file (map plain items))) ss)) in
        some ∙ (λ i. kept (whole i) (all i))

    pub selected_roots : (ranges : List Range) → ranges ≡ reverse (map (range_of encoding t) offsets) → IsSelectionOf encoding file t (map plain items) (trees_of_roots cells roots) o ranges
    selected_roots ranges is =
        subst (IsSelectionOf encoding file t (map plain items) (trees_of_roots cells roots) o)
        (sym (is ∙ ap (λ ss. reverse (map (range_of encoding t) ss)) same))
        (selected encoding file t (map plain items) (trees_of_roots cells roots) r.symbols h.tokens r.are_trees r.covered o reached first a)
