-- Characters of one part of the alphabet are held by the same positions.
use Rattle.dfa.proofs.Std.{◌≡◌, ℕ, zero, suc, ◌+◌, ◌<◌, ◌≤◌, ◌⊎◌, true, false, ◌&&◌, ◌||◌, not, ◌==◌, nat_le, List, [], ◌∷◌, ◌++◌, length, slice_index_or, refl, sym, ap, ◌∙◌, subst, inl, inr, if◌then◌else◌, Contains}
use Rattle.dfa.proofs.Std.{arith, cases_lt, nat_tests, eqb_tells, get_or_default, Contains-append_left, Contains-append_right, prefix_len_is, prefix_len_passes, prefix_len_stops, prefix_len-le-length}
use Rattle.dfa.proofs.Common.{Interval, Expression, Literal, Class, Sequence', Choice', Star', Plus', Optional', is_within, is_member, is_in_class, IsCharacter, after, cut, literal_cuts, class_cuts, cuts, all_cuts, representative, literal_holders, holders, all_holders, positions, IsAscending, part}

-- c and d lie on the same side of each of these
abbrev pub SameSide : List ℕ → ℕ → ℕ → Type 0
SameSide xs c d = (x : ℕ) → Contains xs x → nat_le x c ≡ nat_le x d

pub side_left : (xs ys : List ℕ) (c d : ℕ) → SameSide (xs ++ ys) c d → SameSide xs c d
side_left xs ys c d s x h = s x (Contains-append_left xs ys x h)

pub side_right : (xs ys : List ℕ) (c d : ℕ) → SameSide (xs ++ ys) c d → SameSide ys c d
side_right xs ys c d s x h = s x (Contains-append_right xs ys x h)

head_in : (x : ℕ) (xs : List ℕ) → Contains (x ∷ xs) x
head_in x xs = (0, omega arith, refl)

tail_in : (y : ℕ) (xs : List ℕ) (x : ℕ) → Contains xs x → Contains (y ∷ xs) x
tail_in y xs x h = Contains-append_right (y ∷ []) xs x h

-- the last character of an interval
last_side : (last c d : ℕ) → IsCharacter c → IsCharacter d → SameSide (after last) c d → nat_le c last ≡ nat_le d last
last_side last c d p q s = elim (eqb_tells last 0xD7FF) [
  | inl a ↦
      let side : nat_le 0xE000 c ≡ nat_le 0xE000 d = s 0xE000 (rw (a.0) (head_in 0xE000 [])) in
      elim p [
        | inl x ↦ elim q [ inl y ↦ grind (arith, nat_tests, a.1) | inr y ↦ grind (arith, nat_tests, a.1) ]
        | inr x ↦ elim q [ inl y ↦ grind (arith, nat_tests, a.1) | inr y ↦ grind (arith, nat_tests, a.1) ]
      ]
  | inr a ↦ elim (eqb_tells last 0x10FFFF) [
    | inl b ↦ elim p [
      | inl x ↦ elim q [ inl y ↦ grind (arith, nat_tests, b.1) | inr y ↦ grind (arith, nat_tests, b.1) ]
      | inr x ↦ elim q [ inl y ↦ grind (arith, nat_tests, b.1) | inr y ↦ grind (arith, nat_tests, b.1) ]
    ]
    | inr b ↦
        let side : nat_le (last + 1) c ≡ nat_le (last + 1) d = s (last + 1) (rw (a.0, b.0) (head_in (last + 1) [])) in
        grind (arith, nat_tests)
  ]
]

first_side : (first last c d : ℕ) → SameSide (cut first last) c d → nat_le first c ≡ nat_le first d
first_side first last c d s = s first (head_in first (after last))

following : (first last c d : ℕ) → SameSide (cut first last) c d → SameSide (after last) c d
following first last c d s x h = s x (tail_in first (after last) x h)

equal_side : (x c d : ℕ) → IsCharacter c → IsCharacter d → SameSide (cut x x) c d → (x == c) ≡ (x == d)
equal_side x c d p q s =
    let a = first_side x x c d s in
    let b = last_side x c d p q (following x x c d s) in
    grind (arith, nat_tests)

literal_apart : (xs : List ℕ) (c d o : ℕ) → IsCharacter c → IsCharacter d → SameSide (literal_cuts xs) c d → literal_holders c o xs ≡ literal_holders d o xs
literal_apart [] c d o p q s = refl
literal_apart (x ∷ xs) c d o p q s =
    let e = equal_side x c d p q (side_left (cut x x) (literal_cuts xs) c d s) in
    let r = literal_apart xs c d (o + 1) p q (side_right (cut x x) (literal_cuts xs) c d s) in
    ap (λ l. if x == c then o ∷ l else l) r ∙ ap (λ b. if b then o ∷ literal_holders d (o + 1) xs else literal_holders d (o + 1) xs) e

member_apart : (is : List Interval) (c d : ℕ) → IsCharacter c → IsCharacter d → SameSide (class_cuts is) c d → is_member c is ≡ is_member d is
member_apart [] c d p q s = refl
member_apart (i ∷ is) c d p q s =
    let t = side_left (cut i.first i.last) (class_cuts is) c d s in
    let a = first_side i.first i.last c d t in
    let b = last_side i.last c d p q (following i.first i.last c d t) in
    let r = member_apart is c d p q (side_right (cut i.first i.last) (class_cuts is) c d s) in
    let e : is_within c i ≡ is_within d i = ap (λ x. x && nat_le c i.last) a ∙ ap (λ x. nat_le i.first d && x) b in
    ap (λ x. x || is_member c is) e ∙ ap (λ x. is_within d i || x) r

pub apart : (e : Expression) (c d o : ℕ) → IsCharacter c → IsCharacter d → SameSide (cuts e) c d → holders c o e ≡ holders d o e
apart (Literal v) c d o p q s = literal_apart v.items c d o p q s
apart (Class negated v) c d o p q s =
    let m = member_apart v.items c d p q s in
    let e : is_in_class negated v.items c ≡ is_in_class negated v.items d = ap (λ x. if negated then not x else x) m in
    ap (λ x. if x then o ∷ [] else []) e
apart (Sequence' i a j b) c d o p q s = ap (λ l. l ++ holders c (o + positions a) b) (apart a c d o p q (side_left (cuts a) (cuts b) c d s))
    ∙ ap (λ l. holders d o a ++ l) (apart b c d (o + positions a) p q (side_right (cuts a) (cuts b) c d s))
apart (Choice' i a j b) c d o p q s = ap (λ l. l ++ holders c (o + positions a) b) (apart a c d o p q (side_left (cuts a) (cuts b) c d s))
    ∙ ap (λ l. holders d o a ++ l) (apart b c d (o + positions a) p q (side_right (cuts a) (cuts b) c d s))
apart (Star' i a) c d o p q s = apart a c d o p q s
apart (Plus' i a) c d o p q s = apart a c d o p q s
apart (Optional' i a) c d o p q s = apart a c d o p q s

pub all_apart : (rules : List Expression) (c d o : ℕ) → IsCharacter c → IsCharacter d → SameSide (all_cuts rules) c d → all_holders c o rules ≡ all_holders d o rules
all_apart [] c d o p q s = refl
all_apart (e ∷ es) c d o p q s = ap (λ l. l ++ all_holders c (o + positions e) es) (apart e c d o p q (side_left (cuts e) (all_cuts es) c d s))
    ∙ ap (λ l. holders d o e ++ l) (all_apart es c d (o + positions e) p q (side_right (cuts e) (all_cuts es) c d s))

-- what is at or below c is what stands before its part
side_of : (starts : List ℕ) (c k : ℕ) → IsAscending starts → k < length starts → ((k < part starts c) × (nat_le (slice_index_or starts k 0) c ≡ true))
    ⊎ ((part starts c ≤ k) × (nat_le (slice_index_or starts k 0) c ≡ false))
side_of starts c k up lt = elim (cases_lt k (part starts c)) [
  | inl l ↦ inl (l, prefix_len_passes (λ x. nat_le x c) starts k 0 l)
  | inr l ↦
      let stop = prefix_len_stops (λ x. nat_le x c) starts 0 (omega (arith, l, lt)) in
      let le = up (part starts c) k l lt in
      inr (l, grind (arith, nat_tests))
]

pub same_part : (starts xs : List ℕ) (c d : ℕ) → IsAscending starts → part starts c ≡ part starts d → ((x : ℕ) → Contains xs x → Contains starts x) → SameSide xs c d
same_part starts xs c d up e within x h =
    let k = within x h in
    let is : slice_index_or starts k.0 0 ≡ x = get_or_default starts k.0 0 x k.1 ∙ k.2 in
    subst (λ (y : ℕ). nat_le y c ≡ nat_le y d) is (elim (side_of starts c k.0 up k.1) [
      | inl a ↦ elim (side_of starts d k.0 up k.1) [ inl b ↦ a.1 ∙ sym b.1 | inr b ↦ absurd (omega (arith, a.0, b.0, e)) ]
      | inr a ↦ elim (side_of starts d k.0 up k.1) [ inl b ↦ absurd (omega (arith, a.0, b.0, e)) | inr b ↦ a.1 ∙ sym b.1 ]
    ])

stops_at : (starts : List ℕ) (c k : ℕ) → part starts c ≡ k → k < length starts → nat_le (slice_index_or starts k 0) c ≡ false
stops_at starts c k e lt = subst (λ (n : ℕ). nat_le (slice_index_or starts n 0) c ≡ false) e (prefix_len_stops (λ x. nat_le x c) starts 0 (omega (arith, e, lt)))

represented : (starts : List ℕ) (c k : ℕ) → IsAscending starts → part starts c ≡ k → part starts (representative starts k) ≡ k
represented starts c zero up e = prefix_len_is (λ x. nat_le x 0) starts 0 0 (omega arith) (λ i lt. absurd (omega (arith, lt))) (λ lt. let s = stops_at starts c 0 e lt in grind (arith, nat_tests))
represented starts c (suc j) up e =
    let at = slice_index_or starts j 0 in
    let within : suc j ≤ length starts = omega (arith, e, prefix_len-le-length (λ x. nat_le x c) starts) in
    let low : nat_le at c ≡ true = prefix_len_passes (λ x. nat_le x c) starts j 0 (omega (arith, e)) in
    prefix_len_is (λ x. nat_le x at) starts (suc j) 0 within
    (λ i lt. let a = up i j (omega (arith, lt)) (omega (arith, within)) in grind (arith, nat_tests))
    (λ lt. let s = stops_at starts c (suc j) e lt in grind (arith, nat_tests))

pub represents : (starts : List ℕ) (c : ℕ) → IsAscending starts → part starts (representative starts (part starts c)) ≡ part starts c
represents starts c up = represented starts c (part starts c) up refl

-- the representative of a part stands for its characters
pub stands_for : (rules : List Expression) (starts : List ℕ) (c : ℕ) → IsAscending starts → ((x : ℕ) → Contains (all_cuts rules) x → Contains starts x) → IsCharacter c
    → IsCharacter (representative starts (part starts c)) → all_holders c 0 rules ≡ all_holders (representative starts (part starts c)) 0 rules
stands_for rules starts c up within p q = all_apart rules c (representative starts (part starts c)) 0 p q
    (same_part starts (all_cuts rules) c (representative starts (part starts c)) up (sym (represents starts c up)) within)
