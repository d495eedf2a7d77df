-- The rows of tokens, listed one after another.
use Rattle.views.proofs.Std.{IsUtf8, map-append, arith, sym, ap, subst, ◌∙◌, append_assoc, ◌≡◌, ◌<◌, ℕ, suc, ◌+◌, min, take, slice_index_or, List, [], ◌∷◌, ◌++◌, length, map, encode_utf8_all, take-suc}
use Rattle.views.proofs.Common.{Encoding, position, kind_name, range_of, position-min, encodes-chars, Place, FileGrammar, Token, kind_in, in_utf8, rows_from, rows_of, Range}
use Rattle.std.specs.Str.{chars}

-- what a row says, with its name as characters in place of bytes
abbrev pub in_characters : List ℕ × Range → List ℕ × Range
in_characters r = (chars r.0, r.1)

-- These rows, which say what they do in bytes, are listed, of the tokens before an offset. The walk stands there, or at the end of the
-- text where that comes before it, and the rest of the tokens begins there.
pub record IsReported {R : Type 0} (said : R → List ℕ × Range) (encoding : Encoding) (f : FileGrammar) (t : List ℕ) (items : List Token) (rows : List R)
    (at : Place) (rest : List Token) : Type 0 where
  pub offset : ℕ
  pub unit : at.unit ≡ encoding
  pub text : at.text ≡ t
  pub place : at.offset ≡ min offset (length t)
  pub reported : map (λ r. in_characters (said r)) rows ++ rows_from encoding f t offset rest ≡ rows_of encoding f t items
  pub spelled : map said rows ≡ map in_utf8 (map (λ r. in_characters (said r)) rows)

-- the walk has the position of the offset
pub position-place : (encoding : Encoding) (t : List ℕ) (at : Place) (o : ℕ) → at.unit ≡ encoding → at.text ≡ t
    → at.offset ≡ min o (length t) → position at.unit at.text at.offset ≡ position encoding t o
position-place encoding t at o w e p = ap (λ v. position v at.text at.offset) w ∙ ap (λ u. position encoding u at.offset) e ∙ ap (position encoding t) p ∙ position-min encoding t o

pub min-more : (n o k : ℕ) → min (min o n + k) n ≡ min (o + k) n
min-more n o k = omega arith

pub shown_more : {R : Type 0} (said : R → List ℕ × Range) (encoding : Encoding) (f : FileGrammar) (t : List ℕ) (items : List Token)
    (rows : List R) (at next : Place) (x : Token) (rest : List Token) (r : R)
    → IsReported said encoding f t items rows at (x ∷ rest) → next.unit ≡ at.unit → next.text ≡ at.text → next.offset ≡ min (at.offset + x.length) (length at.text)
    → chars (said r).0 ≡ kind_name f.names (kind_in x) → IsUtf8 (said r).0
    → (said r).1.start ≡ position at.unit at.text at.offset → (said r).1.end ≡ position next.unit next.text next.offset
    → IsReported said encoding f t items (rows ++ r ∷ []) next rest
shown_more {R} said encoding f t items rows at next x rest r h v e p name utf8 from to =
    let unit : next.unit ≡ encoding = v ∙ h.unit in
    let text : next.text ≡ t = e ∙ h.text in
    let place : next.offset ≡ min (h.offset + x.length) (length t) =
    p ∙ ap (λ n. min (at.offset + x.length) (length n)) h.text ∙ ap (λ n. min (n + x.length) (length t)) h.place ∙ min-more (length t) h.offset x.length in
    let start = from ∙ position-place encoding t at h.offset h.unit h.text h.place in
    let end = to ∙ position-place encoding t next (h.offset + x.length) unit text place in
    let spoken : R → List ℕ × Range = λ y. in_characters (said y) in
    let row : spoken r ≡ (kind_name f.names (kind_in x), range_of encoding t (h.offset, h.offset + x.length)) = λ i. (name i, record { start = start i; end = end i }) in
    let bytes : (said r).0 ≡ encode_utf8_all (chars (said r).0) = sym (encodes-chars (said r).0 utf8) in
    let spelled : said r ≡ in_utf8 (spoken r) = λ i. (bytes i, (said r).1) in
    record {
      offset = h.offset + x.length;
      unit = unit;
      text = text;
      place = place;
      reported = ap (λ rs. rs ++ rows_from encoding f t (h.offset + x.length) rest) (map-append spoken rows (r ∷ []))
          ∙ append_assoc (map spoken rows) (spoken r ∷ []) (rows_from encoding f t (h.offset + x.length) rest)
          ∙ ap (λ y. map spoken rows ++ (y ∷ rows_from encoding f t (h.offset + x.length) rest)) row
          ∙ h.reported;
      spelled = map-append said rows (r ∷ [])
          ∙ (λ i. h.spelled i ++ spelled i ∷ [])
          ∙ sym (map-append in_utf8 (map spoken rows) (spoken r ∷ []))
          ∙ ap (map in_utf8) (sym (map-append spoken rows (r ∷ [])));
    }

-- the names of one rule more
pub named_more : {N : Type 0} (f : N → List ℕ) (names : List (List ℕ)) (found : List N) (k : ℕ) (n : N) → map f found ≡ take k names
    → k < length names → f n ≡ slice_index_or names k [] → map f (found ++ n ∷ []) ≡ take (k + 1) names
named_more f names found k n same below is =
    let next : suc k ≡ k + 1 = omega arith in
    map-append f found (n ∷ []) ∙ (λ i. same i ++ is i ∷ [])
    ∙ sym (subst (λ m. take m names ≡ take k names ++ slice_index_or names k [] ∷ []) next (take-suc names k [] below))
