-- Steps of loops over the rules and over the characters of a literal.
use Rattle.dfa.proofs.Std.{◌≡◌, ℕ, zero, suc, ◌+◌, ◌<◌, ◌≤◌, ◌==◌, true, false, List, [], ◌∷◌, ◌++◌, length, drop, get_or, sym, ap, ◌∙◌, arith, cond, nat_tests, at_drop_all}
use Rattle.dfa.proofs.Common.{Expression, positions, all_positions, literal_holders}
use Rattle.std.proofs.Common.{append-nil, append_assoc}
use Rattle.dfa.proofs.JoinedLists.{one_more}

-- what is left of a list at an element of it
pub at_index : {A : Type 0} (xs : List A) (i : ℕ) (x : A) → i < length xs → x ≡ get_or xs i x → drop i xs ≡ x ∷ drop (i + 1) xs
at_index [] i x lt is = absurd (omega (arith, lt))
at_index (y ∷ xs) zero x lt is = ap (λ z. z ∷ xs) (sym is)
at_index (y ∷ xs) (suc i) x lt is =
    let next : suc i + 1 ≡ suc (i + 1) = omega arith in
    at_index xs i x (omega (arith, lt)) is ∙ ap (λ (n : ℕ). x ∷ drop n (y ∷ xs)) (sym next)

-- the same of an element that has another name
pub at_element : {A : Type 0} (xs : List A) (i : ℕ) (x y : A) → y ≡ x → i < length xs → x ≡ get_or xs i x → drop i xs ≡ y ∷ drop (i + 1) xs
at_element xs i x y same lt is = at_index xs i x lt is ∙ ap (λ z. z ∷ drop (i + 1) xs) (sym same)

-- a loop has made what there is to make
pub all_done : {A B : Type 0} (f : List A → List B) (xs : List A) (i : ℕ) (made whole : List B) → f [] ≡ [] → length xs ≤ i → made ++ f (drop i xs) ≡ whole → made ≡ whole
all_done f xs i made whole none le so_far = sym (append-nil made) ∙ ap (λ l. made ++ l) (sym (at_drop_all f xs i le ∙ none)) ∙ so_far

-- the places of the rules that are left
pub positions_more : (e : Expression) (rest later : List Expression) (old new whole : ℕ) → rest ≡ e ∷ later → new ≡ old + positions e
    → old + all_positions rest ≡ whole → new + all_positions later ≡ whole
positions_more e rest later old new whole here past so_far =
    let left : all_positions rest ≡ positions e + all_positions later = ap all_positions here in
    omega (arith, left, past, so_far)

pub positions_within : (e : Expression) (rest later : List Expression) (old whole : ℕ) → rest ≡ e ∷ later → old + all_positions rest ≡ whole → old + positions e ≤ whole
positions_within e rest later old whole here so_far =
    let left : all_positions rest ≡ positions e + all_positions later = ap all_positions here in
    omega (arith, left, so_far)

-- a loop adds what it makes of one more rule, whose positions begin at n
pub rule_more : {A : Type 0} (f : ℕ → List Expression → List A) (e : Expression) (rest later : List Expression) (n m : ℕ) (old part new whole : List A)
    → rest ≡ e ∷ later → f n (e ∷ later) ≡ part ++ f (n + positions e) later → m ≡ n + positions e → new ≡ old ++ part → old ++ f n rest ≡ whole → new ++ f m later ≡ whole
rule_more f e rest later n m old part new whole here step past is so_far =
    ap (λ k. new ++ f k later) past ∙ one_more new old part (f n rest) (f (n + positions e) later) whole is (ap (f n) here ∙ step) so_far

equals : (d c : ℕ) → d ≡ c → (d == c) ≡ true
equals d c h = grind (arith, nat_tests)

differs : (d c : ℕ) → (d ≡ c → ⊥) → (d == c) ≡ false
differs d c h = grind (arith, nat_tests)

-- a character of a literal is held, or isn't
pub held_more : (c at d : ℕ) (rest later old new whole : List ℕ) → rest ≡ d ∷ later → d ≡ c → new ≡ old ++ at ∷ []
    → old ++ literal_holders c at rest ≡ whole → new ++ literal_holders c (at + 1) later ≡ whole
held_more c at d rest later old new whole here is_c is so_far =
    let after = literal_holders c (at + 1) later in
    one_more new old (at ∷ []) (literal_holders c at rest) after whole is (ap (literal_holders c at) here ∙ ap (λ b. cond b (at ∷ after) after) (equals d c is_c)) so_far

pub other_more : (c at d : ℕ) (rest later old new whole : List ℕ) → rest ≡ d ∷ later → (d ≡ c → ⊥) → new ≡ old
    → old ++ literal_holders c at rest ≡ whole → new ++ literal_holders c (at + 1) later ≡ whole
other_more c at d rest later old new whole here is_other is so_far =
    let after = literal_holders c (at + 1) later in
    ap (λ l. l ++ after) is ∙ ap (λ l. old ++ l) (sym (ap (literal_holders c at) here ∙ ap (λ b. cond b (at ∷ after) after) (differs d c is_other))) ∙ so_far

-- what two expressions make, one after another, where the positions of the first begin at n
pub joined_at : {A : Type 0} (f : Expression → List A) (g : ℕ → Expression → List A) (a b x y : Expression) (n m : ℕ) (old middle new whole : List A) → a ≡ x
    → b ≡ y → m ≡ n + positions a → middle ≡ old ++ f a → new ≡ middle ++ g m b → f x ++ g (n + positions x) y ≡ whole → new ≡ old ++ whole
joined_at f g a b x y n m old middle new whole is_x is_y past first made whole_is =
    let after = g (n + positions a) b in
    made ∙ ap (λ k. middle ++ g k b) past ∙ ap (λ l. l ++ after) first ∙ append_assoc old (f a) after ∙ (λ i. old ++ (f (is_x i) ++ g (n + positions (is_x i)) (is_y i))) ∙ ap (λ l. old ++ l) whole_is

pub sum_at : (a b x y : Expression) (n m k whole : ℕ) → a ≡ x → b ≡ y → m ≡ n + positions a → k ≡ m + positions b → positions x + positions y ≡ whole → k ≡ n + whole
sum_at a b x y n m k whole is_x is_y past long sum = let one = ap positions is_x in let two = ap positions is_y in omega (arith, past, long, sum)
