-- What can be decided.
use Rattle.readings.proofs.Std.{◌≡◌, ◌<◌, ◌≤◌, ℕ, ◌⊎◌, inl, inr, ⊎_elim, arith, cases_lt, cases_eq}

abbrev pub Decided : Type 0 → Type 0
Decided A = A ⊎ ¬ A

pub both_decided : {A B : Type 0} → Decided A → Decided B → Decided (A × B)
both_decided (inl a) (inl b) = inl (a, b)
both_decided (inl a) (inr isnt) = inr (λ both. isnt both.1)
both_decided (inr isnt) b = inr (λ both. isnt both.0)

pub all_decided : {A B C D : Type 0} → Decided A → Decided B → Decided C → Decided D → Decided (A × B × C × D)
all_decided (inl a) (inl b) (inl c) (inl d) = inl (a, b, c, d)
all_decided (inl a) (inl b) (inl c) (inr isnt) = inr (λ all. isnt all.3)
all_decided (inl a) (inl b) (inr isnt) d = inr (λ all. isnt all.2)
all_decided (inl a) (inr isnt) c d = inr (λ all. isnt all.1)
all_decided (inr isnt) b c d = inr (λ all. isnt all.0)

pub either_decided : {A B : Type 0} → Decided A → Decided B → Decided (A ⊎ B)
either_decided (inl a) b = inl (inl a)
either_decided (inr isnt) (inl b) = inl (inr b)
either_decided (inr isnt) (inr never) = inr (λ either. ⊎_elim isnt never either)

pub not_decided : {A : Type 0} → Decided A → Decided (¬ A)
not_decided (inl a) = inr (λ isnt. isnt a)
not_decided (inr isnt) = inl isnt

pub less_decided : (a b : ℕ) → Decided (a < b)
less_decided a b = ⊎_elim (λ less. inl less) (λ more. inr (λ less. omega (arith, less, more))) (cases_lt a b)

pub most_decided : (a b : ℕ) → Decided (a ≤ b)
most_decided a b = ⊎_elim (λ less. inr (λ most. omega (arith, less, most))) (λ most. inl most) (cases_lt b a)

pub same_decided : (a b : ℕ) → Decided (a ≡ b)
same_decided a b = cases_eq a b
