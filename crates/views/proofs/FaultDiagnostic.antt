-- What is reported of a fault.
use Rattle.views.proofs.Std.{flat_map, codes, flat_map-cons, slice_get_past, chars-append, IsUtf8, arith, refl, sym, ap, subst, ◌∙◌, append_assoc, ◌≡◌, ℕ, ◌<◌, Bool, true, false, List, [], ◌∷◌, ◌++◌, length, map, take, slice_get, Option, Some, None, IsSomeAnd, option_map, All}
use Rattle.views.proofs.Common.{Kind, Rule, Encoding, IsVerdict, position, Grammar, Placed, kinds, Diagnostic, end_of, fault_span, listed, message, name_or_end, range_of}
use Rattle.views.proofs.Common.{FileGrammar, Token, significant_kinds, plain, kinds_plain, length-kinds, Verdict, StopsAt, StopsAtEnd, AreExpectedAt, IsParseOf, Stop, verdict_in, AreExpected, in_file_order, Sets, Cell, placed_parts, IsDiagnosis, IsFaultAfter, looks}
use Rattle.std.specs.Str.{chars}
use Rattle.std.proofs.Common.{length-take}
use Rattle.views.proofs.Significant.{IsMarked, count_of_parts}

-- the names of what could have stood at a fault
abbrev pub names_of : List (List ℕ) → List (Option ℕ) → List (List ℕ)
names_of names expected = map (name_or_end names) (map (option_map Rule) expected)

-- texts, with a separator before the first one, and a comma and a space between each two
abbrev pub continued : List ℕ → List (List ℕ) → List ℕ
continued separator [] = []
continued separator (x ∷ xs) = separator ++ (x ++ flat_map (λ y. codes ", " ++ y) xs)

continued-none : (xs : List (List ℕ)) → continued [] xs ≡ listed xs
continued-none [] = refl
continued-none (x ∷ xs) = refl

continued-comma : (xs : List (List ℕ)) → continued (codes ", ") xs ≡ flat_map (λ y. codes ", " ++ y) xs
continued-comma [] = refl
continued-comma (x ∷ xs) = sym (append_assoc (codes ", ") x (flat_map (λ y. codes ", " ++ y) xs)) ∙ sym (flat_map-cons (λ y. codes ", " ++ y) x xs)

-- the bytes have the names that were written, and what is left to write is the rest of the text
abbrev pub IsListing : List (List ℕ) → List ℕ → List ℕ → List ℕ → List (Option ℕ) → Type 0
IsListing names all bytes separator rest = chars bytes ++ continued (chars separator) (names_of names rest) ≡ all

pub listing_begun : (names : List (List ℕ)) (bytes : List ℕ) (expected : List (Option ℕ)) → IsListing names (chars bytes ++ listed (names_of names expected)) bytes [] expected
unfolding chars
listing_begun names bytes expected = ap (λ x. chars bytes ++ x) (continued-none (names_of names expected))

pub listing_more : (names : List (List ℕ)) (all bytes separator : List ℕ) (look : Option ℕ) (rest : List (Option ℕ)) (between new name : List ℕ)
    → IsListing names all bytes separator (look ∷ rest) → IsUtf8 bytes → IsUtf8 between → between ≡ bytes ++ separator → new ≡ between ++ name
    → chars name ≡ name_or_end names (option_map Rule look) → IsListing names all new (codes ", ") rest
unfolding chars
listing_more names all bytes separator look rest between new name h u v e f named =
    let x = name_or_end names (option_map Rule look) in
    let xs = names_of names rest in
    let more = flat_map (λ y. codes ", " ++ y) xs in
    ap (λ y. y ++ continued (chars (codes ", ")) xs) (ap chars f ∙ chars-append between name v ∙ ap (λ y. y ++ chars name) (ap chars e ∙ chars-append bytes separator u)
    ∙ ap (λ y. (chars bytes ++ chars separator) ++ y) named)
    ∙ ap (λ y. ((chars bytes ++ chars separator) ++ x) ++ y) (continued-comma xs)
    ∙ append_assoc (chars bytes ++ chars separator) x more
    ∙ append_assoc (chars bytes) (chars separator) (x ++ more)
    ∙ h

-- a message is written in four steps
pub message_written : (names : List (List ℕ)) (found : Option Kind) (expected : List (Option ℕ)) (none one name two three four : List ℕ) → none ≡ []
    → one ≡ none ++ codes "unexpected " → two ≡ one ++ name → three ≡ two ++ codes "; expected "
    → chars four ≡ chars three ++ listed (names_of names expected) → chars name ≡ name_or_end names found → IsUtf8 one → IsUtf8 two
    → chars four ≡ message names found (map (option_map Rule) expected)
unfolding chars message
message_written names found expected none one name two three four a b c d e named u v =
    let first : chars one ≡ codes "unexpected " = ap chars (b ∙ ap (λ x. x ++ codes "unexpected ") a) in
    let second : chars two ≡ codes "unexpected " ++ name_or_end names found = ap chars c ∙ chars-append one name u ∙ ap (λ x. x ++ chars name) first ∙ ap (λ x. codes "unexpected " ++ x) named in
    let third : chars three ≡ (codes "unexpected " ++ name_or_end names found) ++ codes "; expected " = ap chars d
    ∙ chars-append two (codes "; expected ") v ∙ ap (λ x. x ++ codes "; expected ") second in
    e ∙ ap (λ x. x ++ listed (names_of names expected)) third

-- what the tables expect, as what is reported
looks-are : (rules : List ℕ) (at_end : Bool) → map (option_map Rule) (in_file_order rules at_end) ≡ looks rules at_end
looks-are [] true = refl
looks-are [] false = refl
looks-are (r ∷ rules) at_end = ap (λ ls. Some (Rule r) ∷ ls) (looks-are rules at_end)

module _ (encoding : Encoding) (f : FileGrammar) (t : List ℕ) (items : List Token) (marked : All (IsMarked f.skips) items) (expected : List (Option ℕ)) where
  abbrev parts : List Placed
  parts = placed_parts f (map plain items)

  abbrev all : List Kind
  all = significant_kinds items

  -- a diagnostic with this range and this message
  reported : (x : List Kind) (d : Diagnostic) (found : Option Placed) → slice_get parts (length x) ≡ found → AreExpected f.grammar x expected
      → d.range ≡ range_of encoding t (fault_span t found)
      → d.message ≡ message f.names (option_map (λ y. y.token.kind) found) (map (option_map Rule) expected)
      → IsFaultAfter encoding f t (map plain items) x (Some d)
  reported x d found at e range spelled =
      let same : map (option_map Rule) expected ≡ looks e.0 e.1 = ap (map (option_map Rule)) e.3 ∙ looks-are e.0 e.1 in
      let place = range ∙ ap (λ o. range_of encoding t (fault_span t o)) (sym at) in
      let text = spelled ∙ ap (message f.names (option_map (λ y. y.token.kind) found)) same ∙ ap (λ o. message f.names (option_map (λ y. y.token.kind) o) (looks e.0 e.1)) (sym at) in
      (e.0, e.1, e.2, λ i. Some (record { range = place i; message = text i }))

  -- at a token
  pub shown_at : (k start end : ℕ) (kind : Kind) (d : Diagnostic) → k < length all
      → IsSomeAnd (slice_get parts k) (λ y. (start ≡ y.start) × (end ≡ end_of y) × (kind ≡ y.token.kind))
      → AreExpected f.grammar (take k all) expected
      → d.range.start ≡ position encoding t start → d.range.end ≡ position encoding t end
      → d.message ≡ message f.names (Some kind) (map (option_map Rule) expected)
      → IsFaultAfter encoding f t (map plain items) (take k (kinds f.skips (map plain items))) (Some d)
  shown_at k start end kind d within there e from to spelled =
      subst (λ x. IsFaultAfter encoding f t (map plain items) (take k x) (Some d)) (sym (kinds_plain f.skips items marked)) (go (slice_get parts k) refl there)
    where
      long : length (take k all) ≡ k
      long = omega (arith, length-take k all, within)

      go : (found : Option Placed) → slice_get parts k ≡ found → IsSomeAnd found (λ y. (start ≡ y.start) × (end ≡ end_of y) × (kind ≡ y.token.kind))
          → IsFaultAfter encoding f t (map plain items) (take k all) (Some d)
      go None at h = absurd h
      go (Some y) at h =
          let first = from ∙ ap (position encoding t) h.0 in
          let last = to ∙ ap (position encoding t) h.1 in
          reported (take k all) d (Some y) (ap (slice_get parts) long ∙ at) e (λ i. record { start = first i; end = last i })
          (spelled ∙ ap (λ j. message f.names (Some j) (map (option_map Rule) expected)) h.2)

  -- at the end
  pub shown_at_end : (d : Diagnostic) → AreExpected f.grammar all expected
      → d.range.start ≡ position encoding t (length t) → d.range.end ≡ position encoding t (length t)
      → d.message ≡ message f.names None (map (option_map Rule) expected)
      → IsFaultAfter encoding f t (map plain items) (kinds f.skips (map plain items)) (Some d)
  shown_at_end d e from to spelled =
      let past : slice_get parts (length all) ≡ None = slice_get_past parts (length all) (omega (arith, count_of_parts f.skips items marked, length-kinds items)) in
      subst (λ x. IsFaultAfter encoding f t (map plain items) x (Some d)) (sym (kinds_plain f.skips items marked))
      (reported all d None past e (λ i. record { start = from i; end = to i }) spelled)

  -- the parser's verdict gives the fault
  module _ (g : Grammar) (same : g ≡ f.grammar) (cells : List Cell) (v : Verdict) (e : AreExpectedAt g all (verdict_in cells v) expected) where
    pub diagnosis_at : (k start end : ℕ) (kind : Kind) (d : Diagnostic) → v ≡ StopsAt k → k < length all
        → IsSomeAnd (slice_get parts k) (λ y. (start ≡ y.start) × (end ≡ end_of y) × (kind ≡ y.token.kind))
        → d.range.start ≡ position encoding t start → d.range.end ≡ position encoding t end
        → d.message ≡ message f.names (Some kind) (map (option_map Rule) expected)
        → IsDiagnosis encoding f t (map plain items) (verdict_in cells v) (Some d)
    diagnosis_at k start end kind d is within there from to spelled =
        let may : AreExpected f.grammar (take k all) expected = subst (λ g. AreExpected g (take k all) expected) same (subst (λ w. AreExpectedAt g all (verdict_in cells w) expected) is e) in
        subst (λ w. IsDiagnosis encoding f t (map plain items) (verdict_in cells w) (Some d)) (sym is) (shown_at k start end kind d within there may from to spelled)

    pub diagnosis_at_end : (d : Diagnostic) → v ≡ StopsAtEnd
        → d.range.start ≡ position encoding t (length t) → d.range.end ≡ position encoding t (length t)
        → d.message ≡ message f.names None (map (option_map Rule) expected)
        → IsDiagnosis encoding f t (map plain items) (verdict_in cells v) (Some d)
    diagnosis_at_end d is from to spelled =
        let may : AreExpected f.grammar all expected = subst (λ g. AreExpected g all expected) same (subst (λ w. AreExpectedAt g all (verdict_in cells w) expected) is e) in
        subst (λ w. IsDiagnosis encoding f t (map plain items) (verdict_in cells w) (Some d)) (sym is) (shown_at_end d may from to spelled)

-- the fault lies before the end
pub fault_within : (t : Sets) (kinds : List Kind) (cells : List Cell) (parse : Stop) (k : ℕ) → IsParseOf t kinds cells parse → parse.verdict ≡ StopsAt k → k < length kinds
fault_within t kinds cells parse k h e = (subst (λ v. IsVerdict t.grammar kinds (verdict_in cells v)) e h.stop.verdict).0
