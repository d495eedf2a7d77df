use Rattle.runs.proofs.Std.{arith, refl, sym, ap, ◌∙◌, ◌≡◌, ℕ, nought as zero, suc, ◌+◌, ◌++◌, List, [], ◌∷◌, length, drop, slice_get}
use Rattle.runs.proofs.Common.{flattened, none_after}
use Rattle.runs.proofs.list.Runs.get.Goals as goal

-- the first of two lists joined, where the first list is empty only where the second is
first_of_both : {A : Type 0} (xs ys : List A) → (length xs ≡ 0 → length ys ≡ 0) → slice_get xs 0 ≡ slice_get (xs ++ ys) 0
first_of_both [] [] h = refl
first_of_both [] (y ∷ ys) h = let e : suc (length ys) ≡ 0 = h refl in absurd (omega (arith, e))
first_of_both (x ∷ xs) ys h = refl

first_dropped : {A : Type 0} (i : ℕ) (xs : List A) → slice_get (drop i xs) 0 ≡ slice_get xs i
first_dropped zero xs = refl
first_dropped (suc i) [] = refl
first_dropped (suc i) (x ∷ xs) = first_dropped i xs

pub returns : goal.returns
returns g c =
    let runs = c.seq.result.now in
    let cut = c.cut_at.result in
    let is = c.cut_at.ensures in
    c.first.ensures.value
    ∙ first_of_both cut.back.now (flattened (drop (cut.run + 1) runs)) (none_after (λ run. run) runs c.args.i cut.run cut.prefix.now cut.back.now is)
    ∙ ap (λ t. slice_get t 0) (sym is.after)
    ∙ first_dropped c.args.i (flattened runs)
    ∙ ap (λ t. slice_get t c.args.i) c.seq.ensures.items
