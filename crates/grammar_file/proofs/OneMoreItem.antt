-- Facts about each element of a list, when one more comes.
use Rattle.grammar_file.proofs.Std.{◌≡◌, ℕ, zero, suc, List, [], ◌∷◌, ◌++◌, refl, ap, length, take, subst, Option, Some, None, slice_get, cons_option}

pub push_at : {X : Type 0} (P : ℕ → X → Type 0) (xs : List X) (y : X) → ((k : ℕ) (x : X) → slice_get xs k ≡ Some x → P k x)
    → P (length xs) y → (k : ℕ) (x : X) → slice_get (xs ++ y ∷ []) k ≡ Some x → P k x
push_at P [] y before at zero x is = subst (P 0) (cc) at
push_at P [] y before at (suc k) x is = absurd (cc)
push_at P (z ∷ zs) y before at zero x is = before zero x is
push_at P (z ∷ zs) y before at (suc k) x is = push_at (λ j. P (suc j)) zs y (λ j. before (suc j)) at k x is

pub take-all : {X : Type 0} (xs : List X) → take (length xs) xs ≡ xs
take-all [] = refl
take-all (x ∷ xs) = ap (λ ys. x ∷ ys) (take-all xs)

pub cons_option-append : {Y : Type 0} (o : Option Y) (xs ys : List Y) → cons_option o (xs ++ ys) ≡ cons_option o xs ++ ys
cons_option-append None xs ys = refl
cons_option-append (Some x) xs ys = refl
