-- The parts on some lines of a text's tokens, one token after another.
use Rattle.colours.proofs.Std.{◌++◌, ◌+◌, ◌*◌, ◌≤◌, ◌≡◌, ◌∙◌, ◌∷◌, List, Option, [], ap, append_assoc, append-nil, arith, drop, filter-append, length, map, map-append, min, subst, sym, take, take-append-drop, ℕ}
use Rattle.colours.proofs.Common.{offset, position, chars, chars-plain, characters, PlainToken, Position, Encoding, kind_in, plain, Token, AreEncoded, IsUpTo, start_of, Part, colour_of, coloured_from, decoded, decoded_from, parts_in, origin, within}
use Rattle.colours.proofs.OutsideLines.{all_behind, all_in_front, coloured_both}
use Rattle.colours.proofs.PositionsAscend.{position-mono}
use Rattle.colours.proofs.Walks.{IsAt, at-is, at-next}
use Rattle.colours.proofs.Windows.{is_on}
use Rattle.colours.specs.Steps.{Step}

-- These numbers say the parts on the lines `lo..hi` of the tokens before an offset, at which the walk stands, and the rest of the tokens begins
-- there.
pub record AreWithin (encoding : Encoding) (t : List ℕ) (palette : List (Option ℕ)) (lo hi : ℕ) (items : List Token) (numbers : List ℕ)
    (last : Position) (at : Step) (rest : List Token) : Type 0 where
  pub parts : List Part
  pub offset : ℕ
  pub here : IsAt encoding t offset at
  pub encoded : AreEncoded parts numbers last
  pub ordered : IsUpTo last (position encoding t offset)
  pub listed : parts ++ within lo hi (coloured_from encoding t palette offset (map plain rest)) ≡ within lo hi (coloured_from encoding t palette 0 (map plain items))

-- the first token that reaches past an offset
pub within_start : (encoding : Encoding) (t : List ℕ) (palette : List (Option ℕ)) (lo hi : ℕ) (items rest : List Token) (numbers : List ℕ) (last : Position)
    (first : ℕ) (at : Step) → AreEncoded [] numbers last → last ≡ origin → at.unit ≡ encoding → at.text ≡ t → at.offset ≡ characters (take first items)
    → at.offset ≤ length t → at.offset ≤ offset encoding t (start_of lo) → rest ≡ drop first items
    → AreWithin encoding t palette lo hi items numbers last at rest
within_start encoding t palette lo hi items rest numbers last first at none begin unit text o inside near r =
    let xs : List PlainToken = map plain (take first items) in
    let ys : List PlainToken = map plain (drop first items) in
    let length_is : chars xs ≡ at.offset = chars-plain (take first items) ∙ sym o in
    let here : 0 + chars xs ≡ at.offset = omega (arith, length_is) in
    let both : map plain items ≡ xs ++ ys = ap (map plain) (sym (take-append-drop first items)) ∙ map-append plain (take first items) (drop first items) in
    record {
      parts = [];
      offset = at.offset;
      here = record { unit = unit; text = text; place = omega (arith, inside) };
      encoded = none;
      ordered = subst (λ (q : Position). IsUpTo q (position encoding t at.offset)) (sym begin) (record { lines = omega arith; units = λ e. omega arith });
      listed = ap (λ (zs : List Token). within lo hi (coloured_from encoding t palette at.offset (map plain zs))) r
          ∙ ap (λ n. within lo hi (coloured_from encoding t palette n ys)) (sym here)
          ∙ ap (λ ps. ps ++ within lo hi (coloured_from encoding t palette (0 + chars xs) ys)) (sym (all_in_front encoding t palette lo hi 0 xs (omega (arith, here, near))))
          ∙ sym (filter-append (is_on lo hi) (coloured_from encoding t palette 0 xs) (coloured_from encoding t palette (0 + chars xs) ys))
          ∙ ap (within lo hi) (sym (coloured_both encoding t palette 0 xs ys))
          ∙ ap (λ zs. within lo hi (coloured_from encoding t palette 0 zs)) (sym both);
    }

module _ (encoding : Encoding) (t : List ℕ) (palette : List (Option ℕ)) (lo hi : ℕ) (items : List Token) (numbers : List ℕ) (last : Position) (at next : Step)
    (x : Token) (rest : List Token) (h : AreWithin encoding t palette lo hi items numbers last at (x ∷ rest))
    (v : next.unit ≡ at.unit) (e : next.text ≡ at.text) (p : next.offset ≡ min (at.offset + x.length) (length at.text)) where
  there : IsAt encoding t (h.offset + x.length) next
  there = at-next encoding t h.offset x.length at next h.here v e p

  start_is : position at.unit at.text at.offset ≡ position encoding t h.offset
  start_is = at-is encoding t h.offset at h.here

  end_is : position next.unit next.text next.offset ≡ position encoding t (h.offset + x.length)
  end_is = at-is encoding t (h.offset + x.length) next there

  pub last_before : (from : Position) → from ≡ position at.unit at.text at.offset → IsUpTo last from
  last_before from f = subst (λ (q : Position). IsUpTo last q) (sym (f ∙ start_is)) h.ordered

  pub ascends : (from to : Position) → from ≡ position at.unit at.text at.offset → to ≡ position next.unit next.text next.offset → IsUpTo from to
  ascends from to f g = subst (λ (q : Position). IsUpTo q to) (sym (f ∙ start_is))
      (subst (λ (q : Position). IsUpTo (position encoding t h.offset) q) (sym (g ∙ end_is)) (position-mono encoding t h.offset (h.offset + x.length) (omega arith)))

  abbrev after : List Part
  after = coloured_from encoding t palette (h.offset + x.length) (map plain rest)

  pub within_more : (more : List ℕ) (later : Position) (colour : Option ℕ) (from to : Position) → from ≡ position at.unit at.text at.offset
      → to ≡ position next.unit next.text next.offset → colour ≡ colour_of palette (kind_in x)
      → AreEncoded (h.parts ++ within lo hi (parts_in next.unit next.text from to colour)) more later → IsUpTo later to
      → AreWithin encoding t palette lo hi items more later next rest
  within_more more later colour from to f g same encoded up =
      let first : from ≡ position encoding t h.offset = f ∙ start_is in
      let second : to ≡ position encoding t (h.offset + x.length) = g ∙ end_is in
      let mine : parts_in next.unit next.text from to colour ≡ parts_in encoding t from to colour =
      ap (λ u. parts_in u next.text from to colour) there.unit ∙ ap (λ u. parts_in encoding u from to colour) there.text in
      record {
        parts = h.parts ++ within lo hi (parts_in encoding t from to colour);
        offset = h.offset + x.length;
        here = there;
        encoded = subst (λ ps. AreEncoded (h.parts ++ within lo hi ps) more later) mine encoded;
        ordered = subst (λ (q : Position). IsUpTo later q) second up;
        listed = append_assoc h.parts (within lo hi (parts_in encoding t from to colour)) (within lo hi after)
            ∙ ap (λ ps. h.parts ++ ps) (sym (filter-append (is_on lo hi) (parts_in encoding t from to colour) after))
            ∙ ap (λ (q : Position). h.parts ++ within lo hi (parts_in encoding t q to colour ++ after)) first
            ∙ ap (λ (q : Position). h.parts ++ within lo hi (parts_in encoding t (position encoding t h.offset) q colour ++ after)) second
            ∙ ap (λ c. h.parts ++ within lo hi (parts_in encoding t (position encoding t h.offset) (position encoding t (h.offset + x.length)) c ++ after)) same
            ∙ h.listed;
      }

-- at the end of the lines or of the tokens
module _ (encoding : Encoding) (t : List ℕ) (palette : List (Option ℕ)) (lo hi : ℕ) (items : List Token) (numbers : List ℕ) (last : Position)
    (at : Step) (rest : List Token) (h : AreWithin encoding t palette lo hi items numbers last at rest)
    (none : within lo hi (coloured_from encoding t palette h.offset (map plain rest)) ≡ []) where
  said : decoded numbers ≡ h.parts
  said = ap (decoded_from origin) (sym (append-nil numbers)) ∙ h.encoded.decoded [] ∙ append-nil h.parts

  pub within_all : decoded numbers ≡ within lo hi (coloured_from encoding t palette 0 (map plain items))
  within_all = said ∙ sym (append-nil h.parts) ∙ ap (λ ps. h.parts ++ ps) (sym none) ∙ h.listed

  pub within_whole : length numbers ≡ 5 * length (decoded numbers)
  within_whole = h.encoded.whole ∙ ap (λ ps. 5 * length ps) (sym said)

pub none_below : (encoding : Encoding) (t : List ℕ) (palette : List (Option ℕ)) (lo hi : ℕ) (items : List Token) (numbers : List ℕ) (last : Position)
    (at : Step) (rest : List Token) (h : AreWithin encoding t palette lo hi items numbers last at rest) (start : Position)
    → start ≡ position at.unit at.text at.offset → hi ≤ start.line → within lo hi (coloured_from encoding t palette h.offset (map plain rest)) ≡ []
none_below encoding t palette lo hi items numbers last at rest h start is far =
    all_behind encoding t palette lo hi h.offset (map plain rest) (subst (λ (q : Position). hi ≤ q.line) (is ∙ at-is encoding t h.offset at h.here) far)
