-- The lines that CR LF ends are the field lines of a header part.
use Rattle.frames.proofs.Std.{◌≡◌, ◌-◌, ℕ, Bool, true, false, List, [], ◌∷◌, ◌++◌, length, take, drop, refl, ap, sym, ◌∙◌, inl, inr, Option, Some, None, nat_eq, cond, All, starts_with, flat_map}
use Rattle.frames.proofs.Std.{arith, append_assoc, length-append, Decides-eqb, starts_is, take-append-drop, length-take, All-nil, All-cons, All-head, All-tail, take-append_seam}
use Rattle.frames.proofs.Common.{through, line_end, onto_first_line, lines_of, IsWhole, AreFieldLines}
use Rattle.frames.proofs.PrefixDecides.{through_stays, through_bounds}
use Rattle.frames.proofs.Lines.{first_line, no_line, none_at}

-- lines with their ends
abbrev joined : List (List ℕ) → List ℕ
joined lines = flat_map (λ line. line ++ line_end) lines

-- a line holds no CR LF
abbrev IsSingle : List ℕ → Type 0
IsSingle line = through line_end line ≡ None

-- CR LF begins where CR and LF stand
starts_so : (b c : ℕ) (bytes : List ℕ) → starts_with nat_eq (b ∷ c ∷ bytes) line_end ≡ true → (b ≡ 13) × (c ≡ 10)
starts_so b c bytes h =
    let e = (starts_is Decides-eqb (b ∷ c ∷ bytes) line_end (starts_with nat_eq (b ∷ c ∷ bytes) line_end) refl).0 h in
    (cc, cc)

not_at_end : (b : ℕ) (bytes : List ℕ) → starts_with nat_eq (b ∷ 13 ∷ bytes) line_end ≡ false
not_at_end b bytes = by_test (starts_with nat_eq (b ∷ 13 ∷ bytes) line_end) refl
  where
    by_test : (t : Bool) → starts_with nat_eq (b ∷ 13 ∷ bytes) line_end ≡ t → starts_with nat_eq (b ∷ 13 ∷ bytes) line_end ≡ false
    by_test true h = let p = starts_so b 13 bytes h in let wrong : 13 ≡ 10 = p.1 in absurd (omega (arith, wrong))
    by_test false h = h

-- a line is the first one where its end follows
line_first : (line rest : List ℕ) → IsSingle line → lines_of (line ++ (line_end ++ rest)) ≡ line ∷ lines_of rest
line_first [] rest h = refl
line_first (b ∷ []) rest h = ap (λ t. cond t ([] ∷ lines_of (10 ∷ rest)) (onto_first_line b (lines_of (line_end ++ rest)))) (not_at_end b (10 ∷ rest))
line_first (b ∷ c ∷ line) rest h =
    let more = line ++ (line_end ++ rest) in
    let p = none_at (starts_with nat_eq (b ∷ c ∷ line) line_end) 2 (through line_end (c ∷ line)) h in
    ap (λ t. cond t ([] ∷ lines_of more) (onto_first_line b (lines_of (c ∷ more)))) p.0 ∙ ap (onto_first_line b) (line_first (c ∷ line) rest p.1)

lines_joined : (lines : List (List ℕ)) → All IsSingle lines → lines_of (joined lines) ≡ lines
lines_joined [] h = refl
lines_joined (line ∷ lines) h =
    ap lines_of (append_assoc line line_end (joined lines)) ∙ line_first line (joined lines) (All-head IsSingle line lines h)
    ∙ ap (λ ls. line ∷ ls) (lines_joined lines (All-tail IsSingle line lines h))

joined_before : (b c : ℕ) (lines : List (List ℕ)) (rest : List ℕ) → joined lines ≡ c ∷ rest → joined (onto_first_line b lines) ≡ b ∷ c ∷ rest
joined_before b c [] rest h = cc
joined_before b c (line ∷ lines) rest h = ap (λ bytes. b ∷ bytes) h

module _ (b c : ℕ) (more : List ℕ) where
  joined_step : (t : Bool) → starts_with nat_eq (b ∷ c ∷ more) line_end ≡ t → joined (lines_of more) ≡ more → joined (lines_of (c ∷ more)) ≡ c ∷ more → joined (lines_of (b ∷ c ∷ more)) ≡ b ∷ c ∷ more
  joined_step true h after later =
      let p = starts_so b c more h in
      ap (λ t. joined (cond t ([] ∷ lines_of more) (onto_first_line b (lines_of (c ∷ more))))) h ∙ ap (λ l. line_end ++ l) after ∙ (λ i. sym p.0 i ∷ sym p.1 i ∷ more)
  joined_step false h after later =
      ap (λ t. joined (cond t ([] ∷ lines_of more) (onto_first_line b (lines_of (c ∷ more))))) h ∙ joined_before b c (lines_of (c ∷ more)) more later

-- bytes that CR LF ends are their lines
joined_lines : (bytes : List ℕ) → joined (lines_of (bytes ++ line_end)) ≡ bytes ++ line_end
joined_lines [] = refl
joined_lines (b ∷ []) = ap (λ t. joined (cond t ([] ∷ lines_of (10 ∷ [])) (onto_first_line b (lines_of line_end)))) (not_at_end b (10 ∷ []))
joined_lines (b ∷ c ∷ bytes) = joined_step b c (bytes ++ line_end) (starts_with nat_eq (b ∷ c ∷ (bytes ++ line_end)) line_end) refl (joined_lines bytes) (joined_lines (c ∷ bytes))

-- what stands before the first CR LF holds none
prefix_single : (bytes : List ℕ) (n : ℕ) → through line_end bytes ≡ Some n → IsSingle (take (n - 2) bytes)
prefix_single bytes n h = by_size (through line_end (take (n - 2) bytes)) refl
  where
    by_size : (o : Option ℕ) → through line_end (take (n - 2) bytes) ≡ o → IsSingle (take (n - 2) bytes)
    by_size None e = e
    by_size (Some m) e =
        let there = through_stays line_end (take (n - 2) bytes) (drop (n - 2) bytes) m e in
        let twice : Some n ≡ Some m = sym h ∙ ap (through line_end) (sym (take-append-drop (n - 2) bytes)) ∙ there in
        let same : n ≡ m = cc in
        absurd (omega (arith, same, through_bounds line_end bytes n h, through_bounds line_end (take (n - 2) bytes) m e, length-take (n - 2) bytes))

first_single : (bytes line : List ℕ) (lines : List (List ℕ)) → lines_of bytes ≡ line ∷ lines → IsSingle line
first_single bytes line lines h = by_size (through line_end bytes) refl
  where
    by_size : (o : Option ℕ) → through line_end bytes ≡ o → IsSingle line
    by_size None e = let wrong : [] ≡ line ∷ lines = sym (no_line bytes e) ∙ h in cc
    by_size (Some n) e =
        let same : take (n - 2) bytes ∷ lines_of (drop n bytes) ≡ line ∷ lines = sym (first_line bytes n e) ∙ h in
        let prefix : take (n - 2) bytes ≡ line = cc in
        ap (through line_end) (sym prefix) ∙ prefix_single bytes n e

before_single : (b : ℕ) (lines : List (List ℕ)) → All IsSingle lines → ((line : List ℕ) (later : List (List ℕ)) → onto_first_line b lines ≡ line ∷ later → IsSingle line)
    → All IsSingle (onto_first_line b lines)
before_single b [] h first = All-nil IsSingle
before_single b (line ∷ lines) h first = All-cons IsSingle (b ∷ line) lines (first (b ∷ line) lines refl) (All-tail IsSingle line lines h)

single_step : (b c : ℕ) (bytes : List ℕ) (t : Bool) → starts_with nat_eq (b ∷ c ∷ bytes) line_end ≡ t → All IsSingle (lines_of bytes)
    → All IsSingle (lines_of (c ∷ bytes)) → All IsSingle (lines_of (b ∷ c ∷ bytes))
single_step b c bytes true h after later = rw h (All-cons IsSingle [] (lines_of bytes) refl after)
single_step b c bytes false h after later = rw h (before_single b (lines_of (c ∷ bytes)) later (λ line rest e. first_single (b ∷ c ∷ bytes) line rest (rw h e)))

-- no line holds CR LF
lines_single : (bytes : List ℕ) → All IsSingle (lines_of bytes)
lines_single (b ∷ c ∷ bytes) = single_step b c bytes (starts_with nat_eq (b ∷ c ∷ bytes) line_end) refl (lines_single bytes) (lines_single (c ∷ bytes))
lines_single d = All-nil IsSingle

-- the prefix of a header part without the CR LF at its end
longest_header_of : (bytes : List ℕ) → take (length (bytes ++ line_end) - 2) (bytes ++ line_end) ≡ bytes
longest_header_of bytes = let e : length (bytes ++ line_end) - 2 ≡ length bytes = omega (arith, length-append bytes line_end) in
    ap (λ n. take n (bytes ++ line_end)) e ∙ take-append_seam bytes line_end

-- a whole header part has them
pub has_field_lines : (part : List ℕ) → IsWhole part → AreFieldLines part (lines_of (take (length part - 2) part))
has_field_lines part (inl h) = record { parts = h ∙ ap (λ p. joined (lines_of (take (length p - 2) p)) ++ line_end) (sym h); single = lines_single (take (length part - 2) part) }
has_field_lines part (inr h) =
    let ended = h.0 ++ line_end in
    let whole : part ≡ ended ++ line_end = h.1 ∙ sym (append_assoc h.0 line_end line_end) in
    record {
      parts = whole ∙ ap (λ l. l ++ line_end) (sym (ap (λ p. joined (lines_of (take (length p - 2) p))) whole ∙ ap (λ l. joined (lines_of l)) (longest_header_of ended) ∙ joined_lines h.0));
      single = lines_single (take (length part - 2) part);
    }

-- and no others
pub field_lines_are : (part : List ℕ) (lines : List (List ℕ)) → AreFieldLines part lines → lines_of (take (length part - 2) part) ≡ lines
field_lines_are part lines h = ap (λ p. lines_of (take (length p - 2) p)) h.parts ∙ ap lines_of (longest_header_of (joined lines)) ∙ lines_joined lines h.single
