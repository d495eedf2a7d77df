-- Tests of the items that a list is made from.
use Rattle.grammar_file.proofs.Std.{◌≡◌, ℕ, Bool, List, [], ◌∷◌, refl, ap, ◌∙◌, ◌||◌, ◌&&◌, length, map, nat_lt, suc, ◌+◌, unwrap_or, Some, None, not, cond, position, list_any, prefix_len, position_or_len, pointwise}

pub list_any-map : {X Y : Type 0} (p : X → Bool) (h : Y → X) (ys : List Y) → list_any p (map h ys) ≡ list_any (λ y. p (h y)) ys
list_any-map p h [] = refl
list_any-map p h (y ∷ ys) = ap (λ b. p (h y) || b) (list_any-map p h ys)

pub pointwise-map : {X Y Z W : Type 0} (p : X → Y → Bool) (f : Z → X) (g : W → Y) (zs : List Z) (ws : List W) → pointwise p (map f zs) (map g ws) ≡ pointwise (λ z w. p (f z) (g w)) zs ws
pointwise-map p f g [] [] = refl
pointwise-map p f g [] (w ∷ ws) = refl
pointwise-map p f g (z ∷ zs) [] = refl
pointwise-map p f g (z ∷ zs) (w ∷ ws) = ap (λ b. p (f z) (g w) && b) (pointwise-map p f g zs ws)

pub prefix_len-map : {X Y : Type 0} (p : X → Bool) (h : Y → X) (ys : List Y) → prefix_len p (map h ys) ≡ prefix_len (λ y. p (h y)) ys
prefix_len-map p h [] = refl
prefix_len-map p h (y ∷ ys) = ap (λ n. cond (p (h y)) (1 + n) 0) (prefix_len-map p h ys)

length-of-map : {X Y : Type 0} (h : Y → X) (ys : List Y) → length (map h ys) ≡ length ys
length-of-map h [] = refl
length-of-map h (y ∷ ys) = ap (λ n. suc n) (length-of-map h ys)

abbrev pub place : {X : Type 0} → (X → Bool) → List X → ℕ
place p xs = unwrap_or (position p xs) (length xs)

pub place-map : {X Y : Type 0} (p : X → Bool) (h : Y → X) (ys : List Y) → place p (map h ys) ≡ place (λ y. p (h y)) ys
place-map p h ys =
    ap (λ n. unwrap_or (cond (nat_lt n (length (map h ys))) (Some n) None) (length (map h ys))) (prefix_len-map (λ x. not (p x)) h ys)
    ∙ ap (λ m. unwrap_or (cond (nat_lt (position_or_len (λ y. p (h y)) ys) m) (Some (position_or_len (λ y. p (h y)) ys)) None) m) (length-of-map h ys)
