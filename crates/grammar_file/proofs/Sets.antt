-- Sets that are lists, each of whose items is there once.
use Rattle.grammar_file.proofs.Std.{◌≡◌, ℕ, Bool, true, false, List, [], ◌∷◌, ◌++◌, refl, ap, sym, ◌∙◌, ◌||◌, ◌&&◌, if◌then◌else◌, map, Bor, list_any, bytes_eq, pointwise, bytes_decides, list_any-append, map-append, and_parts, or-true}
use Rattle.grammar_file.proofs.Common.{Word, is_production, has_production, texts, are_among, with_names, with_sides, Line, Production, Statement, at}
use Rattle.grammar_file.proofs.NameLookUps.{turned}
use Rattle.grammar_file.proofs.TestedItems.{pointwise-map}

pub or-none : (a : Bool) → (a || false) ≡ a
or-none true = refl
or-none false = refl

-- what is in a list that had an item added unless it was there
any-with : {X : Type 0} (eq : X → X → Bool) → ((x y : X) → eq x y ≡ true → x ≡ y) → (xs : List X) (v w : X)
    → list_any (λ x. eq x w) (if list_any (λ x. eq x v) xs then xs else xs ++ v ∷ []) ≡ (list_any (λ x. eq x w) xs || eq v w)
any-with eq same xs v w = go (list_any (λ x. eq x v) xs) refl (eq v w) refl
  where
    go : (b : Bool) → list_any (λ x. eq x v) xs ≡ b → (d : Bool) → eq v w ≡ d → list_any (λ x. eq x w) (if b then xs else xs ++ v ∷ []) ≡ (list_any (λ x. eq x w) xs || eq v w)
    go true e true is =
        ap (λ x. list_any (λ y. eq y x) xs) (sym (same v w is)) ∙ e ∙ sym (ap (λ d. list_any (λ x. eq x w) xs || d) is ∙ or-true (list_any (λ x. eq x w) xs))
    go true e false is = sym (ap (λ d. list_any (λ x. eq x w) xs || d) is ∙ or-none (list_any (λ x. eq x w) xs))
    go false e d is = list_any-append (λ x. eq x w) xs (v ∷ []) ∙ ap (λ d. list_any (λ x. eq x w) xs || d) (or-none (eq v w))

same_words : (vs ws : List Word) → pointwise bytes_eq vs ws ≡ true → vs ≡ ws
same_words [] [] h = refl
same_words (v ∷ vs) (w ∷ ws) h = let two = and_parts (bytes_eq v w) (pointwise bytes_eq vs ws) h in λ i. (bytes_decides v w).0 two.0 i ∷ same_words vs ws two.1 i
same_words vs ws h = absurd (cc)

turned_words : (vs ws : List Word) → pointwise bytes_eq vs ws ≡ pointwise bytes_eq ws vs
turned_words [] [] = refl
turned_words [] (w ∷ ws) = refl
turned_words (v ∷ vs) [] = refl
turned_words (v ∷ vs) (w ∷ ws) = λ i. turned v w i && turned_words vs ws i

-- what one line adds to the productions that there are
one_more : (all : List (List Word)) (l : Line) (left : Word) (right : List Word) → are_among (left ∷ right) (with_sides all l) ≡ (are_among (left ∷ right) all || is_production left right l)
one_more all (Production other others) left right = any-with (pointwise bytes_eq) same_words all (other ∷ others) (left ∷ right)
one_more all d left right = sym (or-none (are_among (left ∷ right) all))

pub sides-step : (all : List (List Word)) (ss : List Statement) (n : ℕ) (l : Line) → ((left : Word) (right : List Word) → are_among (left ∷ right) all ≡ has_production ss left right)
    → (left : Word) (right : List Word) → are_among (left ∷ right) (with_sides all l) ≡ has_production (ss ++ at n l ∷ []) left right
sides-step all ss n l are left right =
    one_more all l left right
    ∙ (λ i. are left right i || sym (or-none (is_production left right l)) i)
    ∙ sym (list_any-append (λ s. is_production left right s.says) ss (at n l ∷ []))

same_texts : (vs ws : List (Bor (List ℕ))) → pointwise (λ a b. bytes_eq a.now b.now) vs ws ≡ pointwise bytes_eq (texts ws) (texts vs)
same_texts vs ws = sym (pointwise-map bytes_eq (λ w. w.now) (λ w. w.now) vs ws) ∙ turned_words (texts vs) (texts ws)

module _ {X : Type 0} (names : X → List (Bor (List ℕ))) where
  -- keys of names are searched by the other order of the texts
  pub among-keys : (ws : List (Bor (List ℕ))) (ks : List X) → list_any (λ k. pointwise (λ a b. bytes_eq a.now b.now) ws (names k)) ks ≡ are_among (texts ws) (map (λ k. texts (names k)) ks)
  among-keys ws [] = refl
  among-keys ws (k ∷ ks) = λ i. same_texts ws (names k) i || among-keys ws ks i

  -- the keys with one that is new
  pub keys-with : (k : X) (ks : List X) → map (λ x. texts (names x)) (if list_any (λ x. pointwise (λ a b. bytes_eq a.now b.now) (names k) (names x)) ks then ks else ks ++ k ∷ [])
      ≡ with_names (map (λ x. texts (names x)) ks) (texts (names k))
  keys-with k ks =
      go (list_any (λ x. pointwise (λ a b. bytes_eq a.now b.now) (names k) (names x)) ks)
      ∙ ap (λ b. if b then map (λ x. texts (names x)) ks else map (λ x. texts (names x)) ks ++ texts (names k) ∷ []) (among-keys (names k) ks)
    where
      go : (b : Bool) → map (λ x. texts (names x)) (if b then ks else ks ++ k ∷ []) ≡ (if b then map (λ x. texts (names x)) ks else map (λ x. texts (names x)) ks ++ texts (names k) ∷ [])
      go true = refl
      go false = map-append (λ x. texts (names x)) ks (k ∷ [])
