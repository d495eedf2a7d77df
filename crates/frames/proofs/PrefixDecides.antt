-- What the first bytes say, they say whatever follows.
use Rattle.frames.proofs.Std.{◌≡◌, ◌≢◌, ◌+◌, ◌-◌, ◌≤◌, ℕ, suc, Bool, true, false, List, [], ◌∷◌, ◌++◌, length, take, drop, refl, ap, sym, subst, ◌∙◌, inl, inr, ◌⊎◌, Option, Some, None, option_map, nat_eq, nat_lt, cond, Result, Ok, Err, IfSome, starts_with, bytes_eq}
use Rattle.frames.proofs.Std.{arith, length-append, append-nil, Decides-eqb, starts_is, take-append-le, take_all, length-take, take-append-add, cases_lt, lt-ltb, le-ltb}
use Rattle.frames.proofs.Common.{FrameFault, LongHeader, NeedsMore, Fails, Announces, through, header_size, header_length, line_end, blank_line, Tail, Open, Faulty, start_of, start_at, given, tail_of, fault_of, IsBegun, IsTail, IsReached, IsStreamFault, Awaits}
use Rattle.frames.proofs.Faults.{long_header, header_faults}

-- a text with the needle at its start is as long
pub prefix_long : (xs needle : List ℕ) → starts_with nat_eq xs needle ≡ true → length needle ≤ length xs
prefix_long xs needle h =
    let e = (starts_is Decides-eqb xs needle (starts_with nat_eq xs needle) refl).0 h in
    omega (arith, ap length e, length-append needle (drop (length needle) xs))

prefix_stays : (xs ys needle : List ℕ) → length needle ≤ length xs → starts_with nat_eq (xs ++ ys) needle ≡ starts_with nat_eq xs needle
prefix_stays xs ys needle h = ap (bytes_eq needle) (take-append-le (length needle) xs ys h)

pub at_step : (b : Bool) (k n : ℕ) (o : Option ℕ) → cond b (Some k) (option_map suc o) ≡ Some n → ((b ≡ true) × (n ≡ k)) ⊎ ((b ≡ false) × (m : ℕ) × (o ≡ Some m) × (n ≡ suc m))
at_step true k n o h = inl (refl, (let e : n ≡ k = cc in e))
at_step false k n None h = cc
at_step false k n (Some m) h = inr (refl, m, refl, (let e : n ≡ suc m = cc in e))

pub through_bounds : (needle xs : List ℕ) (n : ℕ) → through needle xs ≡ Some n → (length needle ≤ n) × (n ≤ length xs)
through_bounds needle [] n h = cc
through_bounds needle (b ∷ xs) n h = elim (at_step (starts_with nat_eq (b ∷ xs) needle) (length needle) n (through needle xs) h) [
  | inl p ↦ (omega (arith, p.1), omega (arith, p.1, prefix_long (b ∷ xs) needle p.0))
  | inr q ↦ let r = through_bounds needle xs q.1 q.2 in (omega (arith, q.3, r.0), omega (arith, q.3, r.1))
]

pub through_stays : (needle xs ys : List ℕ) (n : ℕ) → through needle xs ≡ Some n → through needle (xs ++ ys) ≡ Some n
through_stays needle [] ys n h = cc
through_stays needle (b ∷ xs) ys n h = elim (at_step (starts_with nat_eq (b ∷ xs) needle) (length needle) n (through needle xs) h) [
  | inl p ↦ subst (λ t. cond t (Some (length needle)) (option_map suc (through needle (xs ++ ys))) ≡ Some n)
      (sym (prefix_stays (b ∷ xs) ys needle (prefix_long (b ∷ xs) needle p.0) ∙ p.0)) (ap (λ (k : ℕ). Some k) (sym p.1))
  | inr q ↦
      let r = through_bounds needle xs q.1 q.2 in
      subst (λ t. cond t (Some (length needle)) (option_map suc (through needle (xs ++ ys))) ≡ Some n) (sym (prefix_stays (b ∷ xs) ys needle (omega (arith, r.0, r.1)) ∙ q.0))
      (ap (option_map suc) (through_stays needle xs ys q.1 q.2) ∙ ap (λ (k : ℕ). Some k) (sym q.3))
]

pub size_step : (b : Bool) (n : ℕ) (o : Option ℕ) → cond b (Some 2) o ≡ Some n → ((b ≡ true) × (n ≡ 2)) ⊎ ((b ≡ false) × (o ≡ Some n))
size_step true n o h = inl (refl, (let e : n ≡ 2 = cc in e))
size_step false n o h = inr (refl, h)

pub size_bound : (xs : List ℕ) (n : ℕ) → header_size xs ≡ Some n → n ≤ length xs
size_bound xs n h = elim (size_step (starts_with nat_eq xs line_end) n (through blank_line xs) h) [
  | inl p ↦ omega (arith, p.1, prefix_long xs line_end p.0)
  | inr q ↦ (through_bounds blank_line xs n q.1).1
]

size_low : (xs : List ℕ) (n : ℕ) → header_size xs ≡ Some n → 2 ≤ n
size_low xs n h = elim (size_step (starts_with nat_eq xs line_end) n (through blank_line xs) h) [
  | inl p ↦ omega (arith, p.1)
  | inr q ↦ (let long = (through_bounds blank_line xs n q.1).0 in omega (arith, long))
]

size_stays : (xs ys : List ℕ) (n : ℕ) → header_size xs ≡ Some n → header_size (xs ++ ys) ≡ Some n
size_stays xs ys n h = elim (size_step (starts_with nat_eq xs line_end) n (through blank_line xs) h) [
  | inl p ↦ subst (λ t. cond t (Some 2) (through blank_line (xs ++ ys)) ≡ Some n) (sym (prefix_stays xs ys line_end (prefix_long xs line_end p.0) ∙ p.0)) (ap (λ (k : ℕ). Some k) (sym p.1))
  | inr q ↦
      let r = through_bounds blank_line xs n q.1 in
      subst (λ t. cond t (Some 2) (through blank_line (xs ++ ys)) ≡ Some n) (sym (prefix_stays xs ys line_end (omega (arith, r.0, r.1)) ∙ q.0)) (through_stays blank_line xs ys n q.1)
]

-- the prefix that is looked at only grows
prefix_grows : (bytes more : List ℕ) → (ys : List ℕ) × (take 4096 (bytes ++ more) ≡ take 4096 bytes ++ ys)
prefix_grows bytes more = elim (cases_lt (length bytes) 4096) [
  | inl few ↦ (
    take (4096 - length bytes) more,
    (let k = 4096 - length bytes in
        let n : length bytes + k ≡ 4096 = omega arith in
        ap (λ m. take m (bytes ++ more)) (sym n) ∙ take-append-add bytes more k ∙ ap (λ l. l ++ take k more) (sym (take_all 4096 bytes (omega arith)))),
  )
  | inr many ↦ ([], take-append-le 4096 bytes more many ∙ sym (append-nil (take 4096 bytes)))
]

-- a whole header part stays the same
whole_stays : (bytes more : List ℕ) (size : ℕ) → header_size (take 4096 bytes) ≡ Some size → start_of (bytes ++ more) ≡ start_of bytes
whole_stays bytes more size h =
    let prefix = take 4096 bytes in
    let g = prefix_grows bytes more in
    let there : header_size (take 4096 (bytes ++ more)) ≡ Some size = ap header_size g.1 ∙ size_stays prefix g.0 size h in
    let same : take size (take 4096 (bytes ++ more)) ≡ take size prefix = ap (take size) g.1 ∙ take-append-le size prefix g.0 (size_bound prefix size h) in
    ap (start_at (take 4096 (bytes ++ more)) (length (bytes ++ more))) there ∙ ap (λ l. given size (header_length l)) same ∙ sym (ap (start_at prefix (length bytes)) h)

unfinished_stays : (bytes more : List ℕ) → header_size (take 4096 bytes) ≡ None → 4096 ≤ length bytes → start_of (bytes ++ more) ≡ start_of bytes
unfinished_stays bytes more h many =
    let prefix = take 4096 bytes in
    let e = take-append-le 4096 bytes more many in
    let long : 4096 ≤ length (bytes ++ more) = omega (arith, length-append bytes more) in
    ap (start_at (take 4096 (bytes ++ more)) (length (bytes ++ more))) (ap header_size e ∙ h) ∙ ap (λ t. cond t NeedsMore (Fails LongHeader))
    (le-ltb _ _ long ∙ sym (le-ltb _ _ many)) ∙ sym (ap (start_at prefix (length bytes)) h)

-- once the start is known, it stays the same
pub start_stays : (bytes more : List ℕ) → start_of bytes ≢ NeedsMore → start_of (bytes ++ more) ≡ start_of bytes
start_stays bytes more known = by_size (header_size (take 4096 bytes)) refl
  where
    by_size : (o : Option ℕ) → header_size (take 4096 bytes) ≡ o → start_of (bytes ++ more) ≡ start_of bytes
    by_size (Some size) h = whole_stays bytes more size h
    by_size None h = elim (cases_lt (length bytes) 4096) [
      | inl few ↦ absurd (known (ap (start_at (take 4096 bytes) (length bytes)) h ∙ ap (λ t. cond t NeedsMore (Fails LongHeader)) (lt-ltb _ _ few)))
      | inr many ↦ unfinished_stays bytes more h many
    ]

shown_size : (k size n : ℕ) (r : Result ℕ FrameFault) → given k r ≡ Announces size n → k ≡ size
shown_size k size n (Err f) e = cc
shown_size k size n (Ok m) e = cc

unfinished_shows_none : (b : Bool) (size n : ℕ) → cond b NeedsMore (Fails LongHeader) ≡ Announces size n → ⊥
unfinished_shows_none true size n e = cc
unfinished_shows_none false size n e = cc

-- a header part that is found is the whole one at the start
start_size : (bytes : List ℕ) (size n : ℕ) → start_of bytes ≡ Announces size n → header_size (take 4096 bytes) ≡ Some size
start_size bytes size n h = by_size (header_size (take 4096 bytes)) refl
  where
    by_size : (o : Option ℕ) → header_size (take 4096 bytes) ≡ o → header_size (take 4096 bytes) ≡ Some size
    by_size (Some k) e = e ∙ ap (λ (m : ℕ). Some m) (shown_size k size n _ (sym (ap (start_at (take 4096 bytes) (length bytes)) e) ∙ h))
    by_size None e = absurd (unfinished_shows_none _ size n (sym (ap (start_at (take 4096 bytes) (length bytes)) e) ∙ h))

-- it lies within the bytes
pub start_within : (bytes : List ℕ) (size n : ℕ) → start_of bytes ≡ Announces size n → size ≤ length bytes
start_within bytes size n h = omega (arith, size_bound (take 4096 bytes) size (start_size bytes size n h), length-take 4096 bytes)

-- it has two bytes at least
pub start_low : (bytes : List ℕ) (size n : ℕ) → start_of bytes ≡ Announces size n → 2 ≤ size
start_low bytes size n h = size_low (take 4096 bytes) size (start_size bytes size n h)

-- the frame that a whole header part announces isn't whole in fewer bytes
pub awaits_frame : (rest : List ℕ) (size n : ℕ) → start_of rest ≡ Announces size n → Awaits rest (size + n)
awaits_frame rest size n h more few =
    let known : start_of rest ≢ NeedsMore = λ e. (let f : Announces size n ≡ NeedsMore = sym h ∙ e in cc) in
    let same : start_of (rest ++ more) ≡ Announces size n = start_stays rest more known ∙ h in
    subst (IsBegun (rest ++ more)) (sym same) few

shown_faults : (size : ℕ) (part : List ℕ) (fault : FrameFault) → given size (header_length part) ≡ Fails fault → IsStreamFault fault
shown_faults size part fault e = by_length (header_length part) refl e
  where
    by_length : (r : Result ℕ FrameFault) → header_length part ≡ r → given size r ≡ Fails fault → IsStreamFault fault
    by_length (Ok n) h e = cc
    by_length (Err f) h e = let same : f ≡ fault = cc in subst IsStreamFault same (header_faults part f h)

unfinished_faults : (b : Bool) (fault : FrameFault) → cond b NeedsMore (Fails LongHeader) ≡ Fails fault → IsStreamFault fault
unfinished_faults true fault e = cc
unfinished_faults false fault e = let same : LongHeader ≡ fault = cc in subst IsStreamFault same long_header

pub start_faults : (bytes : List ℕ) (fault : FrameFault) → start_of bytes ≡ Fails fault → IsStreamFault fault
start_faults bytes fault h = by_size (header_size (take 4096 bytes)) refl
  where
    by_size : (o : Option ℕ) → header_size (take 4096 bytes) ≡ o → IsStreamFault fault
    by_size (Some k) e = shown_faults k (take k (take 4096 bytes)) fault (sym (ap (start_at (take 4096 bytes) (length bytes)) e) ∙ h)
    by_size None e = unfinished_faults (nat_lt (length bytes) 4096) fault (sym (ap (start_at (take 4096 bytes) (length bytes)) e) ∙ h)

-- the fault of a tail is one of the bytes
pub tail_faults : (rest : List ℕ) (o : Option FrameFault) → IsTail rest (tail_of rest o) → IfSome o IsStreamFault
tail_faults rest None h = tt
tail_faults rest (Some fault) h = start_faults rest fault h

pub fault_is : (rest : List ℕ) (o : Option FrameFault) (fault : FrameFault) → IsTail rest (tail_of rest o) → o ≡ Some fault → IsStreamFault fault
fault_is rest o fault h e = subst (λ (p : Option FrameFault). IfSome p IsStreamFault) e (tail_faults rest o h)

pub reached_fault : (tail : Tail) → IsReached tail → IfSome (fault_of tail) IsStreamFault
reached_fault (Open rest) h = tt
reached_fault (Faulty fault) h = start_faults h.0 fault h.1
