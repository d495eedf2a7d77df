-- Bytes that were searched for a blank line aren't searched again.
use Rattle.frames.proofs.Std.{◌≡◌, ◌≢◌, ◌+◌, ◌-◌, ◌<◌, ◌≤◌, ℕ, Bool, true, false, List, [], ◌∷◌, ◌++◌, length, take, drop, refl, ap, sym, ◌∙◌, inl, inr, Option, Some, None, Result, Ok, Err, is_some, IsTrue, not, nat_eq, cond, starts_with}
use Rattle.frames.proofs.Std.{arith, length-append, append_assoc, cases_lt, lt-ltb, le-ltb, take-append-drop, drop-append-le, length-take, take_all, take-take, drop-take, take-length}
use Rattle.frames.proofs.Common.{through, header_size, header_length, line_end, blank_line, FrameFault, LongHeader, NeedsMore, Fails, start_of, start_at, unfinished, given, HoldsNone}
use Rattle.frames.proofs.PrefixDecides.{through_bounds}
use Rattle.frames.proofs.HeaderPart.{through_ends, finds, blank_line_found, none_step}

-- a blank line that ends after the bytes searched, of which it may share the last three, stands in what is searched next
found_after : (bytes lines : List ℕ) (searched n : ℕ) → searched < n → length lines + 4 ≡ n → take n bytes ≡ lines ++ blank_line → through blank_line (drop (searched - 3) bytes) ≢ None
found_after bytes lines searched n further long prefix after =
    let k = searched - 3 in
    let whole : k + (n - k) ≡ n = omega (arith, further) in
    let cut : take (n - k) (drop k bytes) ≡ drop k (take n bytes) = sym (drop-take k (n - k) bytes) ∙ ap (λ i. drop k (take i bytes)) whole in
    let ends : drop k (lines ++ blank_line) ≡ drop k lines ++ blank_line = drop-append-le k lines blank_line (omega (arith, further, long)) in
    let r = blank_line_found (drop k bytes) (drop k lines) (n - k) (cut ∙ ap (drop k) prefix ∙ ends) in
    (let f : Some r.0 ≡ None = sym r.1 ∙ after in cc)

found_before : (bytes lines : List ℕ) (searched n : ℕ) → n ≤ searched → take n bytes ≡ lines ++ blank_line → HoldsNone bytes searched → ⊥
found_before bytes lines searched n near prefix before =
    let r = blank_line_found (take searched bytes) lines n (take-take n searched bytes near ∙ prefix) in
    (let f : Some r.0 ≡ None = sym r.1 ∙ before in cc)

found_twice : (bytes : List ℕ) (searched n : ℕ) → HoldsNone bytes searched → through blank_line (drop (searched - 3) bytes) ≡ None
    → n ≤ length bytes → (lines : List ℕ) × (take n bytes ≡ lines ++ blank_line) → ⊥
found_twice bytes searched n before after within prefix = elim (cases_lt searched n) [
  | inl further ↦
      let long : length prefix.0 + 4 ≡ n = omega (arith, within, length-take n bytes, ap length prefix.1, length-append prefix.0 blank_line) in
      found_after bytes prefix.0 searched n further long prefix.1 after
  | inr near ↦ found_before bytes prefix.0 searched n near prefix.1 before
]

-- a blank line stands in the bytes searched or in the ones after them, of which the last three are the former's
pub none_further : (bytes : List ℕ) (searched : ℕ) → HoldsNone bytes searched → through blank_line (drop (searched - 3) bytes) ≡ None → through blank_line bytes ≡ None
none_further bytes searched before after = by_size (through blank_line bytes) refl
  where
    by_size : (o : Option ℕ) → through blank_line bytes ≡ o → through blank_line bytes ≡ None
    by_size None h = h
    by_size (Some n) h = absurd (found_twice bytes searched n before after (through_bounds blank_line bytes n h).1 (through_ends blank_line bytes n h))

pub needs_more_is : (bytes : List ℕ) (searched : ℕ) → length bytes < 4096 → starts_with nat_eq bytes line_end ≡ false → HoldsNone bytes searched
    → through blank_line (drop (searched - 3) bytes) ≡ None → (start_of bytes ≡ NeedsMore) × HoldsNone bytes (length bytes)
needs_more_is bytes searched few no_end before after =
    let none = none_further bytes searched before after in
    let all : take 4096 bytes ≡ bytes = take_all 4096 bytes (omega (arith, few)) in
    let size : header_size bytes ≡ None = ap (λ t. cond t (Some 2) (through blank_line bytes)) no_end ∙ none in
    let start : start_of bytes ≡ unfinished (length bytes) = ap (λ l. start_at l (length bytes) (header_size l)) all ∙ ap (start_at bytes (length bytes)) size in
    (start ∙ ap (λ t. cond t NeedsMore (Fails LongHeader)) (lt-ltb _ _ few), ap (through blank_line) (take-length bytes) ∙ none)

none_of : (o : Option ℕ) (b : Bool) → is_some o ≡ not b → IsTrue b → o ≡ None
none_of None b e h = refl
none_of (Some n) true e h = cc
none_of (Some n) false e h = let f : false ≡ true = h in cc

pub needs_more_shown : (bytes rest : List ℕ) (searched from : ℕ) (o : Option ℕ) (b : Bool) → length bytes < 4096 → starts_with nat_eq bytes line_end ≡ false
    → HoldsNone bytes searched → from ≡ searched - 3 → rest ≡ drop from bytes → o ≡ through blank_line rest → is_some o ≡ not b
    → IsTrue b → (start_of bytes ≡ NeedsMore) × HoldsNone bytes (length bytes)
needs_more_shown bytes rest searched from o b few no_end before place is_rest given some h =
    needs_more_is bytes searched few no_end before (ap (λ k. through blank_line (drop k bytes)) (sym place) ∙ ap (through blank_line) (sym is_rest) ∙ sym given ∙ none_of o b some h)

none_is : (o : Option ℕ) (b : Bool) → is_some o ≡ not b → o ≡ None → IsTrue b
none_is o true e h = refl
none_is None false e h = cc
none_is (Some n) false e h = cc

-- where no blank line stands, none stands further on
none_dropped : (bytes : List ℕ) (k : ℕ) → through blank_line bytes ≡ None → through blank_line (drop k bytes) ≡ None
none_dropped bytes k none = by_size (through blank_line (drop k bytes)) refl
  where
    by_size : (o : Option ℕ) → through blank_line (drop k bytes) ≡ o → through blank_line (drop k bytes) ≡ None
    by_size None h = h
    by_size (Some n) h =
        let prefix = through_ends blank_line (drop k bytes) n h in
        let rest = drop n (drop k bytes) in
        let after : prefix.0 ++ (blank_line ++ rest) ≡ drop k bytes = sym (append_assoc prefix.0 blank_line rest) ∙ ap (λ l. l ++ rest) (sym prefix.1) ∙ take-append-drop n (drop k bytes) in
        let all : (take k bytes ++ prefix.0) ++ (blank_line ++ rest) ≡ bytes = append_assoc (take k bytes) prefix.0 (blank_line ++ rest)
        ∙ ap (λ l. take k bytes ++ l) after ∙ take-append-drop k bytes in
        let r = finds 13 (10 ∷ 13 ∷ 10 ∷ []) (take k bytes ++ prefix.0) rest in
        (let f : Some r.0 ≡ None = sym (ap (through blank_line) (sym all) ∙ r.1) ∙ none in cc)

unfinished_few : (n : ℕ) → unfinished n ≡ NeedsMore → n < 4096
unfinished_few n h = elim (cases_lt n 4096) [
  | inl few ↦ few
  | inr many ↦ (let f : Fails LongHeader ≡ NeedsMore = sym (ap (λ t. cond t NeedsMore (Fails LongHeader)) (le-ltb _ _ many)) ∙ h in cc)
]

shown_known : (size : ℕ) (r : Result ℕ FrameFault) → given size r ≢ NeedsMore
shown_known size (Ok n) e = cc
shown_known size (Err fault) e = cc

record IsUnfinished (bytes : List ℕ) : Type 0 where
  few : length bytes < 4096
  no_end : starts_with nat_eq bytes line_end ≡ false
  no_blank : through blank_line bytes ≡ None

needs_more_parts : (bytes : List ℕ) → start_of bytes ≡ NeedsMore → IsUnfinished bytes
needs_more_parts bytes h = by_size (header_size (take 4096 bytes)) refl
  where
    by_size : (o : Option ℕ) → header_size (take 4096 bytes) ≡ o → IsUnfinished bytes
    by_size (Some size) e = absurd (shown_known size (header_length (take size (take 4096 bytes))) (sym (ap (start_at (take 4096 bytes) (length bytes)) e) ∙ h))
    by_size None e =
        let few = unfinished_few (length bytes) (sym (ap (start_at (take 4096 bytes) (length bytes)) e) ∙ h) in
        let all : take 4096 bytes ≡ bytes = take_all 4096 bytes (omega (arith, few)) in
        let p = none_step (starts_with nat_eq bytes line_end) (through blank_line bytes) (sym (ap header_size all) ∙ e) in
        record { few = few; no_end = p.0; no_blank = p.1 }

pub needs_more_few : (bytes : List ℕ) → start_of bytes ≡ NeedsMore → length bytes < 4096
needs_more_few bytes h = (needs_more_parts bytes h).few

pub needs_more_no_end : (bytes : List ℕ) → start_of bytes ≡ NeedsMore → starts_with nat_eq bytes line_end ≡ false
needs_more_no_end bytes h = (needs_more_parts bytes h).no_end

pub needs_more_none : (bytes rest : List ℕ) (from : ℕ) (o : Option ℕ) (b : Bool) → rest ≡ drop from bytes → o ≡ through blank_line rest → is_some o ≡ not b → start_of bytes ≡ NeedsMore → IsTrue b
needs_more_none bytes rest from o b is_rest given some h =
    none_is o b some (given ∙ ap (through blank_line) is_rest ∙ none_dropped bytes from (needs_more_parts bytes h).no_blank)

pub not_so : (P : Type 0) → IsTrue false → P
not_so P h = let f : false ≡ true = h in cc
