-- The lines of tokens: listed one after another, ascending, and those that nodes span.
use Rattle.views.proofs.Std.{min, nat_le, not, slice_index, refl, sym, ap, ◌∙◌, cond, ◌≡◌, ◌↔◌, ℕ, zero, suc, ◌+◌, ◌-◌, ◌<◌, ◌≤◌, Bool, true, false, List, [], ◌∷◌, ◌++◌, length, map, slice_index_or, All, AllPairs}
use Rattle.views.proofs.Std.{le-leb, leb-true, append-nil, length-map, All-nil, All-cons, All-head, All-tail, All-weaker, AllPairs-cons, AllPairs-filter, arith, append_assoc}
use Rattle.views.proofs.Common.{Invalid, Utf16, line_of, position, break_ends, PlainToken, Placed, placed, is_skipped, significant, kinds, Node, SpansLines, end_of, ended, ended-cons, map-significant, Token, kind_in, plain, Place, lines_of, line_at, SpanLines, AreAscending}
use Rattle.views.proofs.RowsOfTokens.{position-place, min-more}

-- the lines of the significant ones of tokens, of which the first starts at offset o
abbrev pub lines_from : List Bool → List ℕ → ℕ → List Token → List (ℕ × ℕ)
lines_from skips t o items = lines_of t (significant skips (placed o (map plain items)))

abbrev pub AreMarked : List Bool → List Token → Type 0
AreMarked skips items = All (λ x. x.skipped ≡ is_skipped skips (kind_in x)) items

-- These lines are listed, of the tokens before an offset. The walk stands there, or at the end of the text where that comes before
-- it, and the rest of the tokens begins there.
pub record IsLined (skips : List Bool) (t : List ℕ) (items : List Token) (lines : List (ℕ × ℕ)) (at : Place) (rest : List Token) : Type 0 where
  pub offset : ℕ
  pub unit : at.unit ≡ Utf16
  pub text : at.text ≡ t
  pub place : at.offset ≡ min offset (length t)
  pub reported : lines ++ lines_from skips t offset rest ≡ lines_from skips t 0 items
  pub marked : AreMarked skips rest

line-position : (t : List ℕ) (o : ℕ) → (position Utf16 t o).line ≡ line_of t o
unfolding position
line-position t o = refl

line-place : (t : List ℕ) (at : Place) (o : ℕ) → at.unit ≡ Utf16 → at.text ≡ t → at.offset ≡ min o (length t) → (position at.unit at.text at.offset).line ≡ line_of t o
line-place t at o w e p = ap (λ q. q.line) (position-place Utf16 t at o w e p) ∙ line-position t o

module _ (skips : List Bool) (t : List ℕ) (items : List Token) (lines : List (ℕ × ℕ)) (at next : Place) (x : Token) (rest : List Token) (h : IsLined skips t items lines at (x ∷ rest))
    (v : next.unit ≡ at.unit) (e : next.text ≡ at.text) (p : next.offset ≡ min (at.offset + x.length) (length at.text)) where
  next_text : next.text ≡ t
  next_text = e ∙ h.text

  next_place : next.offset ≡ min (h.offset + x.length) (length t)
  next_place =
      p ∙ ap (λ n. min (at.offset + x.length) (length n)) h.text ∙ ap (λ n. min (n + x.length) (length t)) h.place ∙ min-more (length t) h.offset x.length

  mark : x.skipped ≡ is_skipped skips (kind_in x)
  mark = All-head (λ y. y.skipped ≡ is_skipped skips (kind_in y)) x rest h.marked

  marks : AreMarked skips rest
  marks = All-tail (λ y. y.skipped ≡ is_skipped skips (kind_in y)) x rest h.marked

  first_line : ℕ × ℕ
  first_line = (line_of t h.offset, line_of t (h.offset + x.length))

  from_first : (b : Bool) → is_skipped skips (kind_in x) ≡ b → lines_from skips t h.offset (x ∷ rest) ≡ cond b
      (lines_from skips t (h.offset + x.length) rest) (first_line ∷ lines_from skips t (h.offset + x.length) rest)
  unfolding first_line
  from_first false s = ap (λ c. lines_of t (cond (not c) (record { start = h.offset; token = plain x } ∷ significant skips (placed (h.offset + x.length) (map plain rest)))
      (significant skips (placed (h.offset + x.length) (map plain rest))))) s
  from_first true s = ap (λ c. lines_of t (cond (not c) (record { start = h.offset; token = plain x } ∷ significant skips (placed (h.offset + x.length) (map plain rest)))
      (significant skips (placed (h.offset + x.length) (map plain rest))))) s

  pub lined_skipped : x.skipped ≡ true → IsLined skips t items lines next rest
  lined_skipped s = record {
    offset = h.offset + x.length;
    unit = v ∙ h.unit;
    text = next_text;
    place = next_place;
    reported = ap (λ l. lines ++ l) (sym (from_first true (sym mark ∙ s))) ∙ h.reported;
    marked = marks;
  }

  pub lined_more : x.skipped ≡ false → (l : ℕ × ℕ) → l.0 ≡ (position at.unit at.text at.offset).line
      → l.1 ≡ (position next.unit next.text next.offset).line → IsLined skips t items (lines ++ l ∷ []) next rest
  unfolding first_line
  lined_more s l from to =
      let start = from ∙ line-place t at h.offset h.unit h.text h.place in
      let end = to ∙ line-place t next (h.offset + x.length) (v ∙ h.unit) next_text next_place in
      let same : l ≡ first_line = λ i. (start i, end i) in
      record {
        offset = h.offset + x.length;
        unit = v ∙ h.unit;
        text = next_text;
        place = next_place;
        reported = append_assoc lines (l ∷ []) (lines_from skips t (h.offset + x.length) rest)
            ∙ ap (λ k. lines ++ (k ∷ lines_from skips t (h.offset + x.length) rest)) same
            ∙ ap (λ k. lines ++ k) (sym (from_first false (sym mark ∙ s)))
            ∙ h.reported;
        marked = marks;
      }

pub lined_all : (skips : List Bool) (t : List ℕ) (items : List Token) (lines : List (ℕ × ℕ)) (at : Place) → IsLined skips t items lines at [] → lines ≡ lines_from skips t 0 items
lined_all skips t items lines at h = sym (append-nil lines) ∙ h.reported

-- a later offset stands on no earlier line
ended-mono : (o p : ℕ) (ends : List ℕ) → o ≤ p → ended o ends ≤ ended p ends
ended-mono o p [] l = omega arith
ended-mono o p (e ∷ ends) l = go (nat_le e o) refl (nat_le e p) refl (ended-mono o p ends l)
  where
    go : (a : Bool) → nat_le e o ≡ a → (b : Bool) → nat_le e p ≡ b → ended o ends ≤ ended p ends → ended o (e ∷ ends) ≤ ended p (e ∷ ends)
    go false x b y h = omega (arith, ended-cons o e ends false x, ended-cons p e ends b y, h)
    go true x true y h = omega (arith, ended-cons o e ends true x, ended-cons p e ends true y, h)
    go true x false y h = absurd (cc (le-leb e p (omega (arith, leb-true e o x))))

pub line_of-mono : (t : List ℕ) (o p : ℕ) → o ≤ p → line_of t o ≤ line_of t p
unfolding line_of
line_of-mono t o p l = ended-mono o p (break_ends 0 t) l

abbrev IsFrom : ℕ → Placed → Type 0
IsFrom o x = o ≤ x.start

abbrev IsEarlier : Placed → Placed → Type 0
IsEarlier a b = (a.start ≤ b.start) × (end_of a ≤ end_of b)

placed_from : (o : ℕ) (xs : List PlainToken) → All (IsFrom o) (placed o xs)
placed_from o [] = All-nil (IsFrom o)
placed_from o (x ∷ xs) = All-cons (IsFrom o) (record { start = o; token = x }) (placed (o + x.length) xs) (omega arith)
    (All-weaker (IsFrom (o + x.length)) (IsFrom o) (λ y l. omega arith) (placed (o + x.length) xs) (placed_from (o + x.length) xs))

placed_ascend : (o : ℕ) (xs : List PlainToken) → AllPairs IsEarlier (placed o xs)
placed_ascend o [] = λ i j d l m. absurd (omega (arith, m))
placed_ascend o (x ∷ xs) =
    AllPairs-cons IsEarlier (record { start = o; token = x }) (placed (o + x.length) xs)
    (All-weaker (IsFrom (o + x.length)) (IsEarlier (record { start = o; token = x })) (λ y l. (omega arith, omega arith)) (placed (o + x.length) xs) (placed_from (o + x.length) xs))
    (placed_ascend (o + x.length) xs)

pub length-lines : (t : List ℕ) (xs : List Placed) → length (lines_of t xs) ≡ length xs
length-lines t xs = length-map {B = ℕ × ℕ} xs (λ (y : Placed). (line_of t y.start, line_of t (end_of y)))

line-map : (t : List ℕ) (xs : List Placed) (x : Placed) (d : ℕ × ℕ) (k : ℕ) → k < length xs → slice_index_or (lines_of t xs) k d
    ≡ (line_of t (slice_index_or xs k x).start, line_of t (end_of (slice_index_or xs k x)))
line-map t [] x d k l = absurd (omega (arith, l))
line-map t (y ∷ ys) x d zero l = refl
line-map t (y ∷ ys) x d (suc k) l = line-map t ys x d k (omega (arith, l))

ascending : (t : List ℕ) (xs : List Placed) → AllPairs IsEarlier xs → AreAscending (lines_of t xs)
ascending t xs up i j d l m =
    let x : Placed = record { start = 0; token = record { kind = Invalid; length = 0; reach = 0 } } in
    let within : j < length xs = omega (arith, m, length-lines t xs) in
    let a = line-map t xs x d i (omega arith) in
    let b = line-map t xs x d j within in
    let e = up i j x l within in
    (omega (arith, ap (λ (q : ℕ × ℕ). q.0) a, ap (λ (q : ℕ × ℕ). q.0) b, line_of-mono t _ _ e.0), omega (arith, ap (λ (q : ℕ × ℕ). q.1) a, ap (λ (q : ℕ × ℕ). q.1) b, line_of-mono t _ _ e.1))

-- the lines of the tokens of a text ascend
pub lines_ascend : (skips : List Bool) (t : List ℕ) (o : ℕ) (xs : List PlainToken) → AreAscending (lines_of t (significant skips (placed o xs)))
lines_ascend skips t o xs = ascending t (significant skips (placed o xs)) (AllPairs-filter IsEarlier (λ x. not (is_skipped skips x.token.kind)) (placed o xs) (placed_ascend o xs))

-- there are as many significant tokens as kinds of theirs
pub length-significant : (skips : List Bool) (o : ℕ) (xs : List PlainToken) → length (significant skips (placed o xs)) ≡ length (kinds skips xs)
length-significant skips o xs = sym (length-map (significant skips (placed o xs)) (λ (y : Placed). y.token.kind)) ∙ ap length (map-significant skips o xs)

line-start : (t : List ℕ) (xs : List Placed) (k : ℕ) → k < length xs → (line_at (lines_of t xs) k).0 ≡ line_of t (slice_index (map (λ x. x.start) xs) k)
line-start t [] k l = absurd (omega (arith, l))
line-start t (x ∷ xs) zero l = refl
line-start t (x ∷ xs) (suc k) l = line-start t xs k (omega (arith, l))

line-end : (t : List ℕ) (xs : List Placed) (k : ℕ) → k < length xs → (line_at (lines_of t xs) k).1 ≡ line_of t (slice_index (map end_of xs) k)
line-end t [] k l = absurd (omega (arith, l))
line-end t (x ∷ xs) zero l = refl
line-end t (x ∷ xs) (suc k) l = line-end t xs k (omega (arith, l))

-- the lines that a node's tokens span are those that the node spans
pub spans_lines : (t : List ℕ) (xs : List Placed) (n : Node) (p : ℕ × ℕ) → n.to ≤ length xs → SpanLines (lines_of t xs) n.from n.to p ↔ SpansLines t xs n p
spans_lines t xs n p within = (
  λ h. (h.0, h.1 ∙ line-start t xs n.from (omega (arith, h.0)), h.2 ∙ line-end t xs (n.to - 1) (omega (arith, h.0)), h.3),
  λ h. (h.0, h.1 ∙ sym (line-start t xs n.from (omega (arith, h.0))), h.2 ∙ sym (line-end t xs (n.to - 1) (omega (arith, h.0))), h.3),
)
