-- The header part that is computed is the shortest prefix that is a whole one.
use Rattle.frames.proofs.Std.{◌≡◌, ◌≢◌, ◌+◌, ◌≤◌, ℕ, suc, Bool, true, false, List, [], ◌∷◌, ◌++◌, length, take, drop, refl, ap, sym, ◌∙◌, inl, inr, Option, Some, None, option_map, nat_eq, cond, ◌↔◌, starts_with}
use Rattle.frames.proofs.Std.{arith, length-append, append_assoc, Decides-eqb, cases_lt, starts_is, take-append-drop, length-take, take-append_seam}
use Rattle.frames.proofs.Common.{through, header_size, line_end, blank_line, IsWhole, IsHeaderPart}
use Rattle.frames.proofs.PrefixDecides.{at_step, size_step, size_bound}

-- a prefix that is found ends with the needle
pub through_ends : (needle xs : List ℕ) (n : ℕ) → through needle xs ≡ Some n → (lines : List ℕ) × (take n xs ≡ lines ++ needle)
through_ends needle [] n h = cc
through_ends needle (b ∷ xs) n h = elim (at_step (starts_with nat_eq (b ∷ xs) needle) (length needle) n (through needle xs) h) [
  | inl p ↦
      let e = (starts_is Decides-eqb (b ∷ xs) needle (starts_with nat_eq (b ∷ xs) needle) refl).0 p.0 in
      ([], ap (λ k. take k (b ∷ xs)) p.1 ∙ ap (take (length needle)) e ∙ take-append_seam needle (drop (length needle) (b ∷ xs)))
  | inr q ↦ let r = through_ends needle xs q.1 q.2 in (b ∷ r.0, ap (λ k. take k (b ∷ xs)) q.3 ∙ ap (λ l. b ∷ l) r.1)
]

found_step : (t : Bool) (k m bound : ℕ) (o : Option ℕ) → o ≡ Some m → k ≤ bound → suc m ≤ bound → (n : ℕ) × (cond t (Some k) (option_map suc o) ≡ Some n) × (n ≤ bound)
found_step true k m bound o e low high = (k, refl, low)
found_step false k m bound o e low high = (suc m, ap (option_map suc) e, high)

-- where a needle stands, one is found, there or before
pub finds : (b : ℕ) (needle lines rest : List ℕ) → (n : ℕ) × (through (b ∷ needle) (lines ++ ((b ∷ needle) ++ rest)) ≡ Some n) × (n ≤ length lines + length (b ∷ needle))
finds b needle [] rest =
    let all = (b ∷ needle) ++ rest in
    let here = (starts_is Decides-eqb all (b ∷ needle) (starts_with nat_eq all (b ∷ needle)) refl).1 rest refl in
    (length (b ∷ needle), ap (λ t. cond t (Some (length (b ∷ needle))) (option_map suc (through (b ∷ needle) (needle ++ rest)))) here, omega arith)
finds b needle (l ∷ lines) rest =
    let more = lines ++ ((b ∷ needle) ++ rest) in
    let r = finds b needle lines rest in
    found_step (starts_with nat_eq (l ∷ more) (b ∷ needle)) (length (b ∷ needle)) r.0 (length (l ∷ lines) + length (b ∷ needle)) (through (b ∷ needle) more) r.1 (omega arith) (omega (arith, r.2))

pub blank_line_found : (bytes lines : List ℕ) (n : ℕ) → take n bytes ≡ lines ++ blank_line → (m : ℕ) × (through blank_line bytes ≡ Some m) × (m ≤ n)
blank_line_found bytes lines n e =
    let rest = drop n bytes in
    let all : lines ++ (blank_line ++ rest) ≡ bytes = sym (append_assoc lines blank_line rest) ∙ ap (λ l. l ++ rest) (sym e) ∙ take-append-drop n bytes in
    let r = finds 13 (10 ∷ 13 ∷ 10 ∷ []) lines rest in
    let long = ap length e ∙ length-append lines blank_line in
    (r.0, ap (through blank_line) (sym all) ∙ r.1, omega (arith, r.2, long, length-take n bytes))

line_end_starts : (bytes : List ℕ) (n : ℕ) → take n bytes ≡ line_end → starts_with nat_eq bytes line_end ≡ true
line_end_starts bytes n e = (starts_is Decides-eqb bytes line_end (starts_with nat_eq bytes line_end) refl).1 (drop n bytes) (sym (take-append-drop n bytes) ∙ ap (λ l. l ++ drop n bytes) e)

-- a whole header part has two bytes at least
whole_long : (prefix : List ℕ) → IsWhole prefix → 2 ≤ length prefix
whole_long prefix (inl e) = omega (arith, ap length e)
whole_long prefix (inr e) = omega (arith, ap length e.1, length-append e.0 blank_line)

pub none_step : (b : Bool) (o : Option ℕ) → cond b (Some 2) o ≡ None → (b ≡ false) × (o ≡ None)
none_step true o h = cc
none_step false o h = (refl, h)

not_whole : (bytes : List ℕ) (n : ℕ) → starts_with nat_eq bytes line_end ≡ false → ((m : ℕ) → m ≤ n → through blank_line bytes ≢ Some m) → ¬ IsWhole (take n bytes)
not_whole bytes n no_end no_blank (inl e) = let t = line_end_starts bytes n e in let f : true ≡ false = sym t ∙ no_end in cc
not_whole bytes n no_end no_blank (inr e) = let r = blank_line_found bytes e.0 n e.1 in no_blank r.0 r.2 r.1

-- where no size is computed, no prefix is whole
pub none_whole : (bytes : List ℕ) (n : ℕ) → header_size bytes ≡ None → ¬ IsWhole (take n bytes)
none_whole bytes n h =
    let p = none_step (starts_with nat_eq bytes line_end) (through blank_line bytes) h in
    not_whole bytes n p.0 (λ m _ e. (let f : Some m ≡ None = sym e ∙ p.1 in cc))

pub size_shortest : (bytes : List ℕ) (size : ℕ) → header_size bytes ≡ Some size → IsHeaderPart bytes size
size_shortest bytes size h = elim (size_step (starts_with nat_eq bytes line_end) size (through blank_line bytes) h) [
  | inl p ↦
      let e = (starts_is Decides-eqb bytes line_end (starts_with nat_eq bytes line_end) refl).0 p.0 in
      record {
        within = size_bound bytes size h;
        whole = inl (ap (λ k. take k bytes) p.1 ∙ ap (take 2) e);
        shortest = λ n few w. (let long = whole_long (take n bytes) w in omega (arith, few, p.1, long, length-take n bytes));
      }
  | inr q ↦ record {
    within = size_bound bytes size h;
    whole = inr (through_ends blank_line bytes size q.1);
    shortest = λ n few. not_whole bytes n q.0 (λ m le e. (let f : Some m ≡ Some size = sym e ∙ q.1 in let same : m ≡ size = cc in omega (arith, same, le, few)));
  }
]

pub shortest_size : (bytes : List ℕ) (size : ℕ) → IsHeaderPart bytes size → header_size bytes ≡ Some size
shortest_size bytes size part = by_size (header_size bytes) refl
  where
    by_size : (o : Option ℕ) → header_size bytes ≡ o → header_size bytes ≡ Some size
    by_size None h = absurd (none_whole bytes size h part.whole)
    by_size (Some n) h =
        let found = size_shortest bytes n h in
        elim (cases_lt n size) [
          | inl less ↦ absurd (part.shortest n less found.whole)
          | inr more ↦ elim (cases_lt size n) [ inl less ↦ absurd (found.shortest size less part.whole) | inr fewer ↦ (let same : n ≡ size = omega arith in h ∙ ap (λ (k : ℕ). Some k) same) ]
        ]

pub size_iff : (bytes : List ℕ) (size : ℕ) → (header_size bytes ≡ Some size) ↔ IsHeaderPart bytes size
size_iff bytes size = (size_shortest bytes size, shortest_size bytes size)
