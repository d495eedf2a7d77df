-- The parts of a text's tokens, one token after another.
use Rattle.colours.specs.Steps.{Step}
use Rattle.colours.proofs.Std.{◌++◌, ◌+◌, ◌*◌, ◌≡◌, ◌∙◌, ◌∷◌, List, Option, [], ap, append_assoc, append-nil, arith, length, map, min, subst, sym, ℕ}
use Rattle.colours.proofs.Common.{position-min, position, Position, Encoding, kind_in, plain, Token, AreEncoded, IsUpTo, Part, colour_of, coloured_from, decoded, decoded_from, parts_in, origin}
use Rattle.colours.proofs.PositionsAscend.{position-mono}

pub up_to-trans : (p q r : Position) → IsUpTo p q → IsUpTo q r → IsUpTo p r
up_to-trans p q r a b = record {
  lines = omega (arith, a.lines, b.lines);
  units = λ e. let first : p.line ≡ q.line = omega (arith, a.lines, b.lines) in
      let second : q.line ≡ r.line = omega (arith, a.lines, b.lines) in
      omega (arith, a.units first, b.units second);
}

-- A walk stands at an offset, or at the end of the text where that comes before it.
pub record IsAt (encoding : Encoding) (t : List ℕ) (offset : ℕ) (at : Step) : Type 0 where
  pub unit : at.unit ≡ encoding
  pub text : at.text ≡ t
  pub place : at.offset ≡ min offset (length t)

-- it has the position of the offset
pub at-is : (encoding : Encoding) (t : List ℕ) (o : ℕ) (at : Step) → IsAt encoding t o at → position at.unit at.text at.offset ≡ position encoding t o
at-is encoding t o at h =
    ap (λ v. position v at.text at.offset) h.unit ∙ ap (λ u. position encoding u at.offset) h.text ∙ ap (position encoding t) h.place ∙ position-min encoding t o

min-more : (n o k : ℕ) → min (min o n + k) n ≡ min (o + k) n
min-more n o k = omega arith

-- and goes on
pub at-next : (encoding : Encoding) (t : List ℕ) (o k : ℕ) (at next : Step) → IsAt encoding t o at → next.unit ≡ at.unit → next.text ≡ at.text
    → next.offset ≡ min (at.offset + k) (length at.text) → IsAt encoding t (o + k) next
at-next encoding t o k at next h v e p = record {
  unit = v ∙ h.unit;
  text = e ∙ h.text;
  place = p ∙ ap (λ n. min (at.offset + k) (length n)) h.text ∙ ap (λ n. min (n + k) (length t)) h.place ∙ min-more (length t) o k;
}

-- These numbers say the parts of the tokens before an offset, at which the walk stands, and the rest of the tokens begins there.
pub record AreColoured (encoding : Encoding) (t : List ℕ) (palette : List (Option ℕ)) (items : List Token) (numbers : List ℕ) (last : Position)
    (at : Step) (rest : List Token) : Type 0 where
  pub parts : List Part
  pub offset : ℕ
  pub here : IsAt encoding t offset at
  pub encoded : AreEncoded parts numbers last
  pub ordered : IsUpTo last (position encoding t offset)
  pub listed : parts ++ coloured_from encoding t palette offset (map plain rest) ≡ coloured_from encoding t palette 0 (map plain items)

module _ (encoding : Encoding) (t : List ℕ) (palette : List (Option ℕ)) (items : List Token) (numbers : List ℕ) (last : Position) (at next : Step)
    (x : Token) (rest : List Token) (h : AreColoured encoding t palette items numbers last at (x ∷ rest))
    (v : next.unit ≡ at.unit) (e : next.text ≡ at.text) (p : next.offset ≡ min (at.offset + x.length) (length at.text)) where
  there : IsAt encoding t (h.offset + x.length) next
  there = at-next encoding t h.offset x.length at next h.here v e p

  start_is : position at.unit at.text at.offset ≡ position encoding t h.offset
  start_is = at-is encoding t h.offset at h.here

  end_is : position next.unit next.text next.offset ≡ position encoding t (h.offset + x.length)
  end_is = at-is encoding t (h.offset + x.length) next there

  pub last_before : (from : Position) → from ≡ position at.unit at.text at.offset → IsUpTo last from
  last_before from f = subst (λ (q : Position). IsUpTo last q) (sym (f ∙ start_is)) h.ordered

  pub ascends : (from to : Position) → from ≡ position at.unit at.text at.offset → to ≡ position next.unit next.text next.offset → IsUpTo from to
  ascends from to f g = subst (λ (q : Position). IsUpTo q to) (sym (f ∙ start_is))
      (subst (λ (q : Position). IsUpTo (position encoding t h.offset) q) (sym (g ∙ end_is)) (position-mono encoding t h.offset (h.offset + x.length) (omega arith)))

  abbrev after : List Part
  after = coloured_from encoding t palette (h.offset + x.length) (map plain rest)

  pub coloured_more : (more : List ℕ) (end : Position) (colour : Option ℕ) (from to : Position) → from ≡ position at.unit at.text at.offset
      → to ≡ position next.unit next.text next.offset → colour ≡ colour_of palette (kind_in x)
      → AreEncoded (h.parts ++ parts_in next.unit next.text from to colour) more end → IsUpTo end to
      → AreColoured encoding t palette items more end next rest
  coloured_more more end colour from to f g same encoded up =
      let first : from ≡ position encoding t h.offset = f ∙ start_is in
      let second : to ≡ position encoding t (h.offset + x.length) = g ∙ end_is in
      let mine : parts_in next.unit next.text from to colour ≡ parts_in encoding t from to colour =
      ap (λ u. parts_in u next.text from to colour) there.unit ∙ ap (λ u. parts_in encoding u from to colour) there.text in
      record {
        parts = h.parts ++ parts_in encoding t from to colour;
        offset = h.offset + x.length;
        here = there;
        encoded = subst (λ ps. AreEncoded (h.parts ++ ps) more end) mine encoded;
        ordered = subst (λ (q : Position). IsUpTo end q) second up;
        listed = append_assoc h.parts (parts_in encoding t from to colour) after
            ∙ ap (λ (q : Position). h.parts ++ (parts_in encoding t q to colour ++ after)) first
            ∙ ap (λ (q : Position). h.parts ++ (parts_in encoding t (position encoding t h.offset) q colour ++ after)) second
            ∙ ap (λ c. h.parts ++ (parts_in encoding t (position encoding t h.offset) (position encoding t (h.offset + x.length)) c ++ after)) same
            ∙ h.listed;
      }

-- at the start, no token is gone over
pub coloured_start : (encoding : Encoding) (t : List ℕ) (palette : List (Option ℕ)) (items rest : List Token) (numbers : List ℕ) (last : Position)
    (at : Step) → AreEncoded [] numbers last → last ≡ origin → at.text ≡ t → at.unit ≡ encoding → at.offset ≡ 0 → rest ≡ items
    → AreColoured encoding t palette items numbers last at rest
coloured_start encoding t palette items rest numbers last at none begin text unit place all = record {
  parts = [];
  offset = 0;
  here = record { unit = unit; text = text; place = place ∙ omega arith };
  encoded = none;
  ordered = subst (λ (q : Position). IsUpTo q (position encoding t 0)) (sym begin) (record { lines = omega arith; units = λ e. omega arith });
  listed = ap (λ (xs : List Token). coloured_from encoding t palette 0 (map plain xs)) all;
}

-- at the end, all numbers are those of all tokens
pub coloured_all : (encoding : Encoding) (t : List ℕ) (palette : List (Option ℕ)) (items : List Token) (numbers : List ℕ) (last : Position)
    (at : Step) → AreColoured encoding t palette items numbers last at [] → decoded numbers ≡ coloured_from encoding t palette 0 (map plain items)
coloured_all encoding t palette items numbers last at h =
    ap (decoded_from origin) (sym (append-nil numbers)) ∙ h.encoded.decoded [] ∙ h.listed

pub coloured_whole : (encoding : Encoding) (t : List ℕ) (palette : List (Option ℕ)) (items : List Token) (numbers : List ℕ) (last : Position)
    (at : Step) → AreColoured encoding t palette items numbers last at [] → length numbers ≡ 5 * length (decoded numbers)
coloured_whole encoding t palette items numbers last at h =
    let said : decoded numbers ≡ h.parts = ap (decoded_from origin) (sym (append-nil numbers)) ∙ h.encoded.decoded [] ∙ append-nil h.parts in
    h.encoded.whole ∙ ap (λ ps. 5 * length ps) (sym said)
