-- Names that are found by their texts.
use Rattle.grammar_file.proofs.Std.{◌≡◌, ◌+◌, ◌<◌, ◌≤◌, [], ◌∷◌, ◌++◌, ◌∙◌, ◌||◌}
use Rattle.grammar_file.proofs.Std.{ℕ, suc, Bool, true, false, cond, nat_lt, not, List, length, position, Option, None, Some, is_some, Bor, refl, sym, ap, if◌then◌else◌, option_or, unwrap_or, list_any, position_or_len, bytes_eq, bytes_decides, nat_list_eq_equiv, lookup}
use Rattle.grammar_file.proofs.Std.{true≢false, arith, lt-ltb, le-ltb, length_push, map-append, position_or_len_push, prefix_len-le-length, ltb-true, ltb-false, eq-eqb, ne_eqb, eqb}
use Rattle.grammar_file.proofs.Common.{Word, is_among, number_of, with_name, texts, AreNumbers}
use Rattle.grammar_file.proofs.Splits.{length-texts}

pub turned : (a b : Word) → bytes_eq a b ≡ bytes_eq b a
turned a b = nat_list_eq_equiv.symm a b

pub or_nothing : (o : Option ℕ) → option_or o None ≡ o
or_nothing None = refl
or_nothing (Some n) = refl

or-cond : (b : Bool) (n : ℕ) (l r : Option ℕ) → cond b (Some n) (option_or l r) ≡ option_or (cond b (Some n) l) r
or-cond true n l r = refl
or-cond false n l r = refl

lookup-push : {K : Type 0} (t : K → Bool) (es : List (K × ℕ)) (k : K) (n : ℕ) → lookup t (es ++ (k, n) ∷ []) ≡ option_or (lookup t es) (cond (t k) (Some n) None)
lookup-push t [] k n = refl
lookup-push t (e ∷ es) k n = ap (λ r. cond (t e.0) (Some e.1) r) (lookup-push t es k n) ∙ or-cond (t e.0) e.1 (lookup t es) (cond (t k) (Some n) None)

some_at : (n m : ℕ) → n < m → cond (nat_lt n m) (Some n) None ≡ Some n
some_at n m h = ap (λ b. cond b (Some n) None) (lt-ltb n m h)

none_at : (n m : ℕ) → m ≤ n → cond (nat_lt n m) (Some n) None ≡ None
none_at n m h = ap (λ b. cond b (Some n) None) (le-ltb n m h)

is_some-cond : (b : Bool) (n : ℕ) → is_some (cond b (Some n) None) ≡ b
is_some-cond true n = refl
is_some-cond false n = refl

later : (a b : ℕ) → nat_lt (1 + a) (suc b) ≡ nat_lt a b
later a b = go (nat_lt a b) refl
  where
    go : (c : Bool) → nat_lt a b ≡ c → nat_lt (1 + a) (suc b) ≡ nat_lt a b
    go true e = lt-ltb (1 + a) (suc b) (let h = ltb-true a b e in omega (arith, h)) ∙ sym e
    go false e = le-ltb (1 + a) (suc b) (let h = ltb-false a b e in omega (arith, h)) ∙ sym e

module _ {X : Type 0} (p : X → Bool) where
  -- a place is found exactly where some item passes
  found-any : (xs : List X) → nat_lt (position_or_len p xs) (length xs) ≡ list_any p xs
  found-any [] = refl
  found-any (x ∷ xs) = go (p x) refl (found-any xs)
    where
      go : (b : Bool) → p x ≡ b → nat_lt (position_or_len p xs) (length xs) ≡ list_any p xs → nat_lt (cond (not (p x)) (1 + position_or_len p xs) 0) (suc (length xs)) ≡ (p x || list_any p xs)
      go true e rest = ap (λ b. nat_lt (cond (not b) (1 + position_or_len p xs) 0) (suc (length xs))) e ∙ lt-ltb 0 (suc (length xs)) (omega arith) ∙ sym (ap (λ b. b || list_any p xs) e)
      go false e rest = ap (λ b. nat_lt (cond (not b) (1 + position_or_len p xs) 0) (suc (length xs))) e ∙ later (position_or_len p xs) (length xs) ∙ rest ∙ sym (ap (λ b. b || list_any p xs) e)

  pub is_some-position : (xs : List X) → is_some (position p xs) ≡ list_any p xs
  is_some-position xs = is_some-cond (nat_lt (position_or_len p xs) (length xs)) (position_or_len p xs) ∙ found-any xs

  pub position-push : (xs : List X) (y : X) → position p (xs ++ y ∷ []) ≡ option_or (position p xs) (cond (p y) (Some (length xs)) None)
  position-push xs y = go (nat_lt (position_or_len p xs) (length xs)) refl (p y) refl
    where
      n : ℕ
      n = position_or_len p xs

      m : ℕ
      m = length xs

      long : length (xs ++ y ∷ []) ≡ m + 1
      long = length_push xs y

      placed : (k : ℕ) → position_or_len p (xs ++ y ∷ []) ≡ k → position p (xs ++ y ∷ []) ≡ cond (nat_lt k (m + 1)) (Some k) None
      placed k e = λ i. cond (nat_lt (e i) (long i)) (Some (e i)) None

      here : (b : Bool) → eqb n m ≡ b → position_or_len p (xs ++ y ∷ []) ≡ cond b (m + cond (p y) 0 1) n
      here b e = position_or_len_push p xs y ∙ ap (λ c. cond c (m + cond (p y) 0 1) n) e

      end : nat_lt n m ≡ false → n ≡ m
      end e = let past : m ≤ n = ltb-false n m e in let most = prefix_len-le-length (λ x. not (p x)) xs in omega (arith, past, most)

      go : (b : Bool) → nat_lt n m ≡ b → (c : Bool) → p y ≡ c → position p (xs ++ y ∷ []) ≡ option_or (cond (nat_lt n m) (Some n) None) (cond (p y) (Some m) None)
      go true e c f =
          let within : n < m = ltb-true n m e in
          placed n (here false (ne_eqb n m (λ q. absurd (omega (arith, within, q))))) ∙ some_at n (m + 1) (omega (arith, within))
          ∙ sym (ap (λ b. option_or (cond b (Some n) None) (cond (p y) (Some m) None)) e)
      go false e true f =
          let at : n ≡ m = end e in
          placed m (here true (eq-eqb n m at) ∙ ap (λ c. m + cond c 0 1) f ∙ omega arith) ∙ some_at m (m + 1) (omega arith)
          ∙ sym (λ i. option_or (cond (e i) (Some n) None) (cond (f i) (Some m) None))
      go false e false f =
          let at : n ≡ m = end e in
          placed (m + 1) (here true (eq-eqb n m at) ∙ ap (λ c. m + cond c 0 1) f) ∙ none_at (m + 1) (m + 1) (omega arith)
          ∙ sym (λ i. option_or (cond (e i) (Some n) None) (cond (f i) (Some m) None))

-- the number of a name that has none yet
pub numbers-new : (names : List Word) (es : List (Bor (List ℕ) × ℕ)) (k : Bor (List ℕ)) (n : ℕ) → length names ≡ n → AreNumbers names es → AreNumbers (names ++ k.now ∷ []) (es ++ (k, n) ∷ [])
numbers-new names es k n long are w =
    lookup-push (λ k. bytes_eq w k.now) es k n
    ∙ (λ i. option_or (are w i) (cond (turned w k.now i) (Some (sym long i)) None))
    ∙ sym (position-push (λ v. bytes_eq v w) names k.now)

-- a name that has one keeps it
pub numbers-again : (names : List Word) (es : List (Bor (List ℕ) × ℕ)) (k : Bor (List ℕ)) → is_some (lookup (λ x. bytes_eq k.now x.now) es) ≡ true
    → AreNumbers names es → AreNumbers (names ++ k.now ∷ []) es
numbers-again names es k there are w = are w ∙ sym (position-push (λ v. bytes_eq v w) names k.now ∙ go (bytes_eq k.now w) refl)
  where
    keeps : (o r : Option ℕ) → is_some o ≡ true → option_or o r ≡ o
    keeps None r h = absurd (true≢false (sym h))
    keeps (Some n) r h = refl

    go : (b : Bool) → bytes_eq k.now w ≡ b → option_or (position (λ v. bytes_eq v w) names) (cond (bytes_eq k.now w) (Some (length names)) None) ≡ position (λ v. bytes_eq v w) names
    go true e = keeps _ _ (ap is_some (sym (are w)) ∙ ap (λ x. is_some (lookup (λ y. bytes_eq x y.now) es)) (sym ((bytes_decides k.now w).0 e)) ∙ there)
    go false e = ap (λ b. option_or (position (λ v. bytes_eq v w) names) (cond b (Some (length names)) None)) e ∙ or_nothing (position (λ v. bytes_eq v w) names)

-- a set of names is searched by the other order of the texts
pub among-keys : (w : Word) (ks : List (Bor (List ℕ))) → list_any (λ k. bytes_eq w k.now) ks ≡ is_among w (texts ks)
among-keys w [] = refl
among-keys w (k ∷ ks) = λ i. turned w k.now i || among-keys w ks i

or_len-keys : (w : Word) (ks : List (Bor (List ℕ))) → position_or_len (λ k. bytes_eq w k.now) ks ≡ position_or_len (λ v. bytes_eq v w) (texts ks)
or_len-keys w [] = refl
or_len-keys w (k ∷ ks) = λ i. cond (not (turned w k.now i)) (1 + or_len-keys w ks i) 0

pub position-keys : (w : Word) (ks : List (Bor (List ℕ))) → position (λ k. bytes_eq w k.now) ks ≡ position (λ v. bytes_eq v w) (texts ks)
position-keys w ks = λ i. cond (nat_lt (or_len-keys w ks i) (sym (length-texts ks) i)) (Some (or_len-keys w ks i)) None

-- the number that a set of names answers
pub number-keys : (w : Word) (ks : List (Bor (List ℕ))) → unwrap_or (position (λ k. bytes_eq w k.now) ks) (length ks) ≡ number_of w (texts ks)
number-keys w ks = λ i. unwrap_or (position-keys w ks i) (sym (length-texts ks) i)

-- the names with one that is new
pub keys-with : (w : Bor (List ℕ)) (ks : List (Bor (List ℕ))) → texts (if list_any (λ k. bytes_eq w.now k.now) ks then ks else ks ++ w ∷ []) ≡ with_name (texts ks) w.now
keys-with w ks = go (list_any (λ k. bytes_eq w.now k.now) ks) ∙ ap (λ b. if b then texts ks else texts ks ++ w.now ∷ []) (among-keys w.now ks)
  where
    go : (b : Bool) → texts (if b then ks else ks ++ w ∷ []) ≡ (if b then texts ks else texts ks ++ w.now ∷ [])
    go true = refl
    go false = map-append (λ x. x.now) ks (w ∷ [])

pub none_from : {X : Type 0} (o : Option X) → is_some o ≡ false → o ≡ None
none_from None h = refl
none_from (Some x) h = absurd (true≢false h)
