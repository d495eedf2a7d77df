-- Productions by their numbers.
use Rattle.productions.proofs.Std.{◌≡◌, ◌<◌, ℕ, List, [], length, slice_get, None, inl, inr, slice_get-get_or, slice_get_cases, get_or_from_slice_get}
use Rattle.productions.proofs.Common.{Symbol, Grammar, HasProduction, production_of, left_of, right_of}

pub has_production : (g : Grammar) (p : ℕ) → p < length g.productions → HasProduction g p (left_of g p) (right_of g p)
has_production g p l = slice_get-get_or g.productions p (record { left = 0; right = [] }) l

pub production_is : (g : Grammar) (p n : ℕ) (right : List Symbol) → HasProduction g p n right → production_of g p ≡ record { left = n; right = right }
production_is g p n right h = get_or_from_slice_get g.productions p (record { left = n; right = right }) (record { left = 0; right = [] }) h

pub production_below : (g : Grammar) (p n : ℕ) (right : List Symbol) → HasProduction g p n right → p < length g.productions
production_below g p n right h =
    let none : slice_get g.productions p ≡ None → ⊥ = λ e. cc (e, h) in
    elim (slice_get_cases g.productions p).1 [ inl k ↦ k.1 | inr k ↦ absurd (none k.1) ]
