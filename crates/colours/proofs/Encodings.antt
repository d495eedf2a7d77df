-- Numbers of parts, one part after another, and the parts of what stands between two positions, one line after another.
use Rattle.colours.proofs.Std.{◌++◌, ◌+◌, ◌-◌, ◌≤◌, ◌≡◌, ◌∙◌, ◌<◌, ◌==◌, List, ap, append_assoc, arith, cond, eq-eqb, filter, inl, inr, map, nat_lt, refl, subst, sym, ℕ, range_with_len, filter_of_map_range_with_len_more}
use Rattle.colours.proofs.Common.{Position, Encoding, AreEncoded, IsUpTo, part_if, Part, line_end, part_on, parts_between}
use Rattle.colours.proofs.Windows.{differ}

-- the parts on the lines above line `l`
abbrev pub parts_above : Encoding → List ℕ → ℕ → Position → Position → ℕ → List Part
parts_above encoding t colour from to l =
    filter (λ part. nat_lt 0 part.length) (map (part_on encoding t colour from to) (range_with_len from.line (l - from.line)))

pub parts_next : (encoding : Encoding) (t : List ℕ) (colour : ℕ) (from to : Position) (l start end : ℕ) → from.line ≤ l
    → start ≡ cond (l == from.line) from.character 0 → end ≡ cond (l == to.line) to.character (line_end encoding t l)
    → parts_above encoding t colour from to (l + 1) ≡ parts_above encoding t colour from to l ++ part_if l start (end - start) colour
parts_next encoding t colour from to l start end below s e =
    let more : l + 1 - from.line ≡ l - from.line + 1 = omega arith in
    let here : from.line + (l - from.line) ≡ l = omega arith in
    ap (λ n. filter (λ part. nat_lt 0 part.length) (map (part_on encoding t colour from to) (range_with_len from.line n))) more
    ∙ filter_of_map_range_with_len_more (λ part. nat_lt 0 part.length) (part_on encoding t colour from to) from.line (l - from.line) l here
    ∙ ap (λ (x : ℕ). parts_above encoding t colour from to l ++ part_if l x (cond (l == to.line) to.character (line_end encoding t l) - x) colour) (sym s)
    ∙ ap (λ (x : ℕ). parts_above encoding t colour from to l ++ part_if l start (x - start) colour) (sym e)

-- to old numbers were put those of what stands between two positions above line `l`, on which the rest begins at `start`
pub record ArePushed (encoding : Encoding) (t : List ℕ) (colour : ℕ) (from to : Position) (old : List ℕ) (old_last : Position) (numbers : List ℕ)
    (last : Position) (l start : ℕ) : Type 0 where
  pub ordered : IsUpTo last (record { line = l; character = start })
  pub begins : start ≡ cond (l == from.line) from.character 0
  pub encoded : (parts : List Part) → AreEncoded parts old old_last → AreEncoded (parts ++ parts_above encoding t colour from to l) numbers last

module _ (encoding : Encoding) (t : List ℕ) (colour : ℕ) (from to : Position) (old : List ℕ) (old_last : Position) (numbers : List ℕ) (last : Position) where
  -- one line more
  pub pushed_more : (l start end : ℕ) (more : List ℕ) (later : Position) → ArePushed encoding t colour from to old old_last numbers last l start
      → from.line ≤ l → l < to.line → end ≡ line_end encoding t l
      → ((parts : List Part) → AreEncoded parts numbers last → AreEncoded (parts ++ part_if l start (end - start) colour) more later)
      → IsUpTo later (record { line = l; character = start }) → ArePushed encoding t colour from to old old_last more later (l + 1) 0
  pushed_more l start end more later h low high e pushed up =
      let ends : end ≡ cond (l == to.line) to.character (line_end encoding t l) = e ∙ sym (ap (λ b. cond b to.character (line_end encoding t l)) (differ l to.line (inl high))) in
      record {
        ordered = record { lines = omega (arith, up.lines); units = λ same. omega arith };
        begins = sym (ap (λ b. cond b from.character 0) (differ (l + 1) from.line (inr (omega arith))));
        encoded = λ parts is.
            subst (λ ps. AreEncoded ps more later) (append_assoc parts (parts_above encoding t colour from to l) (part_if l start (end - start) colour)
            ∙ ap (λ ps. parts ++ ps) (sym (parts_next encoding t colour from to l start end low h.begins ends)))
            (pushed (parts ++ parts_above encoding t colour from to l) (h.encoded parts is));
      }

  -- and the last one
  pub pushed_all : (l start : ℕ) (more : List ℕ) (later : Position) → ArePushed encoding t colour from to old old_last numbers last l start
      → from.line ≤ l → l ≡ to.line
      → ((parts : List Part) → AreEncoded parts numbers last → AreEncoded (parts ++ part_if to.line start (to.character - start) colour) more later)
      → (parts : List Part) → AreEncoded parts old old_last → AreEncoded (parts ++ parts_between encoding t colour from to) more later
  pushed_all l start more later h low here pushed parts is =
      let begins : start ≡ cond (to.line == from.line) from.character 0 = h.begins ∙ ap (λ n. cond (n == from.line) from.character 0) here in
      let ends : to.character ≡ cond (to.line == to.line) to.character (line_end encoding t to.line) =
      sym (ap (λ b. cond b to.character (line_end encoding t to.line)) (eq-eqb to.line to.line refl)) in
      let so_far : AreEncoded (parts ++ parts_above encoding t colour from to to.line) numbers last =
      subst (λ n. AreEncoded (parts ++ parts_above encoding t colour from to n) numbers last) here (h.encoded parts is) in
      subst (λ ps. AreEncoded ps more later) (append_assoc parts (parts_above encoding t colour from to to.line) (part_if to.line start (to.character - start) colour)
      ∙ ap (λ ps. parts ++ ps) (sym (parts_next encoding t colour from to to.line start to.character (omega arith) begins ends)))
      (pushed (parts ++ parts_above encoding t colour from to to.line) so_far)
