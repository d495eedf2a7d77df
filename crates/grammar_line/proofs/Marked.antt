-- The marks of words.
use Rattle.grammar_line.proofs.Std.{◌≡◌, ◌≢◌, ℕ, Bool, true, false, if◌then◌else◌, ◌==◌, List, [], ◌∷◌, ◌++◌, refl, ap, sym, ◌∙◌, list_all, ne_eqb, and_parts}
use Rattle.grammar_line.proofs.Common.{Once, Any, AtLeastOnce, AtMostOnce, Word, is_letter, is_name_byte, is_name, last_byte, without_last, mark_at, mark_of, is_mark, is_marked, plain}

last-of : (xs : List ℕ) (b : ℕ) → last_byte (xs ++ b ∷ []) ≡ b
last-of (x ∷ y ∷ xs) b = last-of (y ∷ xs) b
last-of d b = refl

prefix-of : (xs : List ℕ) (b : ℕ) → without_last (xs ++ b ∷ []) ≡ xs
prefix-of (x ∷ y ∷ xs) b = ap (λ zs. x ∷ zs) (prefix-of (y ∷ xs) b)
prefix-of d b = refl

split-last : (x : ℕ) (xs : List ℕ) → x ∷ xs ≡ without_last (x ∷ xs) ++ last_byte (x ∷ xs) ∷ []
split-last x [] = refl
split-last x (y ∷ xs) = ap (λ zs. x ∷ zs) (split-last y xs)

-- a word that ends with a mark
pub marked-by : (w x : Word) (c : ℕ) → w ≡ x ++ c ∷ [] → is_mark (mark_at c) ≡ true → (x ≡ plain w) × (mark_at c ≡ mark_of w)
marked-by w x c e m =
    let last : last_byte w ≡ c = ap last_byte e ∙ last-of x c in
    let prefix : without_last w ≡ x = ap without_last e ∙ prefix-of x c in
    let is : is_marked w ≡ true = ap (λ b. is_mark (mark_at b)) last ∙ m in
    (sym (ap (λ t. if t then without_last w else w) is ∙ prefix), sym (ap mark_at last))

not_last : (x : ℕ) (xs : List ℕ) (c : ℕ) → ((prefix : List ℕ) → x ∷ xs ≢ prefix ++ (c ∷ [])) → (last_byte (x ∷ xs) == c) ≡ false
not_last x xs c none = ne_eqb (last_byte (x ∷ xs)) c (λ e. none (without_last (x ∷ xs)) (split-last x xs ∙ ap (λ b. without_last (x ∷ xs) ++ b ∷ []) e))

no_mark : (b : ℕ) → (b == 42) ≡ false → (b == 43) ≡ false → (b == 63) ≡ false → mark_at b ≡ Once
no_mark b p q r = ap (λ t. if t then Any else if b == 43 then AtLeastOnce else if b == 63 then AtMostOnce else Once) p
    ∙ ap (λ t. if t then AtLeastOnce else if b == 63 then AtMostOnce else Once) q ∙ ap (λ t. if t then AtMostOnce else Once) r

-- a word that ends with none of the marks
pub unmarked-by : (w : Word) → ((prefix : List ℕ) → w ≢ prefix ++ (42 ∷ [])) → ((prefix : List ℕ) → w ≢ prefix ++ (43 ∷ []))
    → ((prefix : List ℕ) → w ≢ prefix ++ (63 ∷ [])) → (w ≡ plain w) × (Once ≡ mark_of w)
unmarked-by [] p q r = (refl, refl)
unmarked-by (x ∷ xs) p q r =
    let none : mark_of (x ∷ xs) ≡ Once = no_mark (last_byte (x ∷ xs)) (not_last x xs 42 p) (not_last x xs 43 q) (not_last x xs 63 r) in
    (sym (ap (λ m. if is_mark m then without_last (x ∷ xs) else x ∷ xs) none), sym none)

all_last : (p : ℕ → Bool) (b : ℕ) (bs : List ℕ) → list_all p (b ∷ bs) ≡ true → p (last_byte (b ∷ bs)) ≡ true
all_last p b [] h = (and_parts (p b) (list_all p []) h).0
all_last p b (c ∷ bs) h = all_last p c bs (and_parts (p b) (list_all p (c ∷ bs)) h).1

not_this : (c b : ℕ) → is_name_byte c ≡ false → is_name_byte b ≡ true → (b == c) ≡ false
not_this c b never is = ne_eqb b c (λ e. let h : true ≡ false = sym is ∙ ap is_name_byte e ∙ never in absurd (cc))

-- a name has no mark
pub name_unmarked : (w : Word) → is_name w ≡ true → is_marked w ≡ false
name_unmarked [] h = absurd (cc)
name_unmarked (b ∷ bs) h =
    let last : is_name_byte (last_byte (b ∷ bs)) ≡ true = all_last is_name_byte b bs (and_parts (is_letter b) (list_all is_name_byte (b ∷ bs)) h).1 in
    let l : ℕ = last_byte (b ∷ bs) in
    ap is_mark (no_mark l (not_this 42 l refl last) (not_this 43 l refl last) (not_this 63 l refl last))
