-- The lines that CR LF ends.
use Rattle.frames.proofs.Std.{◌≡◌, ◌-◌, ◌≤◌, ℕ, suc, Bool, true, false, List, [], ◌∷◌, take, drop, refl, ap, sym, ◌∙◌, arith, inl, inr, Option, Some, None, option_map, is_some, nat_eq, cond, Result, Ok, Err, ok_or, option_or, option_map_or, starts_with}
use Rattle.frames.proofs.Common.{FrameFault, NoLength, through, line_end, line_fault, line_length, onto_first_line, lines_of, lines_length}
use Rattle.frames.proofs.PrefixDecides.{at_step, through_bounds}

-- a line goes on after a byte
line_on : (b m : ℕ) (bytes : List ℕ) → 2 ≤ m → take (suc m - 2) (b ∷ bytes) ≡ b ∷ take (m - 2) bytes
line_on b m bytes low = let e : suc m - 2 ≡ suc (m - 2) = omega (arith, low) in ap (λ n. take n (b ∷ bytes)) e

-- the first line ends where CR LF stands first
pub first_line : (bytes : List ℕ) (n : ℕ) → through line_end bytes ≡ Some n → lines_of bytes ≡ take (n - 2) bytes ∷ lines_of (drop n bytes)
first_line [] n h = cc
first_line (b ∷ []) n h = absurd (omega (arith, through_bounds line_end (b ∷ []) n h))
first_line (b ∷ c ∷ bytes) n h = elim (at_step (starts_with nat_eq (b ∷ c ∷ bytes) line_end) 2 n (through line_end (c ∷ bytes)) h) [
  | inl p ↦
      ap (λ t. cond t ([] ∷ lines_of bytes) (onto_first_line b (lines_of (c ∷ bytes)))) p.0 ∙ ap (λ k. take (k - 2) (b ∷ c ∷ bytes) ∷ lines_of (drop k (b ∷ c ∷ bytes))) (sym p.1)
  | inr q ↦
      let low = (through_bounds line_end (c ∷ bytes) q.1 q.2).0 in
      ap (λ t. cond t ([] ∷ lines_of bytes) (onto_first_line b (lines_of (c ∷ bytes)))) q.0 ∙ ap (onto_first_line b) (first_line (c ∷ bytes) q.1 q.2)
      ∙ ap (λ l. l ∷ lines_of (drop q.1 (c ∷ bytes))) (sym (line_on b q.1 (c ∷ bytes) low)) ∙ ap (λ k. take (k - 2) (b ∷ c ∷ bytes) ∷ lines_of (drop k (b ∷ c ∷ bytes))) (sym q.3)
]

pub none_at : (b : Bool) (k : ℕ) (o : Option ℕ) → cond b (Some k) (option_map suc o) ≡ None → (b ≡ false) × (o ≡ None)
none_at true k o h = cc
none_at false k None h = (refl, refl)
none_at false k (Some m) h = cc

-- where no CR LF stands, no line ends
pub no_line : (bytes : List ℕ) → through line_end bytes ≡ None → lines_of bytes ≡ []
no_line (b ∷ c ∷ bytes) h =
    let p = none_at (starts_with nat_eq (b ∷ c ∷ bytes) line_end) 2 (through line_end (c ∷ bytes)) h in
    ap (λ t. cond t ([] ∷ lines_of bytes) (onto_first_line b (lines_of (c ∷ bytes)))) p.0 ∙ ap (onto_first_line b) (no_line (c ∷ bytes) p.1)
no_line d h = refl

passed : (o : Option FrameFault) (given new : Option ℕ) (lines : List (List ℕ)) → Ok new ≡ option_map_or (λ f. Err f) o (Ok given)
    → option_map_or (λ f. Err f) o (lines_length given lines) ≡ lines_length new lines
passed None given new lines h = let same : new ≡ given = cc in ap (λ t. lines_length t lines) (sym same)
passed (Some f) given new lines h = cc

failed : (o : Option FrameFault) (given : Option ℕ) (later : Result ℕ FrameFault) (fault : FrameFault)
    → Err fault ≡ option_map_or (λ f. Err f) o (Ok given) → option_map_or (λ f. Err f) o later ≡ Err fault
failed None given later fault h = cc
failed (Some f) given later fault h = let same : fault ≡ f = cc in ap (λ (g : FrameFault). Err g) (sym same)

module _ (bytes : List ℕ) (n : ℕ) (given : Option ℕ) (ends : through line_end bytes ≡ Some n) where
  -- what the first line makes of what was given, or its fault
  abbrev first_shown : Result (Option ℕ) FrameFault
  first_shown =
      let line = take (n - 2) bytes in
      option_map_or (λ fault. Err fault) (line_fault (is_some given) line) (Ok (option_or given (line_length line)))

  -- where it has no fault, the lines after it decide
  pub line_passed : (rest : List ℕ) (new : Option ℕ) → rest ≡ drop n bytes → Ok new ≡ first_shown → lines_length given (lines_of bytes) ≡ lines_length new (lines_of rest)
  line_passed rest new is_rest h =
      let line = take (n - 2) bytes in
      ap (lines_length given) (first_line bytes n ends) ∙ passed (line_fault (is_some given) line) (option_or given (line_length line)) new
      (lines_of (drop n bytes)) h ∙ ap (λ r. lines_length new (lines_of r)) (sym is_rest)

  -- else it decides
  pub line_failed : (fault : FrameFault) → Err fault ≡ first_shown → lines_length given (lines_of bytes) ≡ Err fault
  line_failed fault h =
      let line = take (n - 2) bytes in
      let new = option_or given (line_length line) in
      ap (lines_length given) (first_line bytes n ends) ∙ failed (line_fault (is_some given) line) new (lines_length new (lines_of (drop n bytes))) fault h

-- after the last line, what was given is the length
pub lines_passed : (bytes : List ℕ) (given : Option ℕ) → through line_end bytes ≡ None → lines_length given (lines_of bytes) ≡ ok_or given NoLength
lines_passed bytes given h = ap (lines_length given) (no_line bytes h)
