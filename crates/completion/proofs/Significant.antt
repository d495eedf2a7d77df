-- The kinds of the first tokens that aren't skipped.
use Rattle.completion.proofs.Std.{◌++◌, ◌+◌, ◌≡◌, ◌∙◌, ◌∷◌, ℕ, true, false, List, [], ap, append-nil, drop, length, sym, take, take-append-drop, refl}
use Rattle.completion.proofs.Common.{Kind, kind_in, kinds_append, significant_kinds, Token}
use Rattle.std.proofs.Math.Seq.{take-append_seam}
use Rattle.completion.proofs.Steps.{take_here}

alone_skipped : (x : Token) → x.skipped ≡ true → significant_kinds (x ∷ []) ≡ []
alone_skipped x e = rw e refl

alone_taken : (x : Token) → x.skipped ≡ false → significant_kinds (x ∷ []) ≡ kind_in x ∷ []
alone_taken x e = rw e refl

-- one token more
pub kinds_skipped : (xs : List Token) (n : ℕ) (x : Token) (rest : List Token) → drop n xs ≡ x ∷ rest → x.skipped ≡ true
    → significant_kinds (take (n + 1) xs) ≡ significant_kinds (take n xs)
kinds_skipped xs n x rest here e =
    ap significant_kinds (take_here xs n x rest here) ∙ kinds_append (take n xs) (x ∷ []) ∙ ap (λ l. significant_kinds (take n xs) ++ l) (alone_skipped x e)
    ∙ append-nil (significant_kinds (take n xs))

pub kinds_taken : (xs : List Token) (n : ℕ) (x : Token) (rest : List Token) → drop n xs ≡ x ∷ rest → x.skipped ≡ false
    → significant_kinds (take (n + 1) xs) ≡ significant_kinds (take n xs) ++ kind_in x ∷ []
kinds_taken xs n x rest here e =
    ap significant_kinds (take_here xs n x rest here) ∙ kinds_append (take n xs) (x ∷ []) ∙ ap (λ l. significant_kinds (take n xs) ++ l) (alone_taken x e)

-- they are the first of all
pub kinds_front : (xs : List Token) (n k : ℕ) → k ≡ length (significant_kinds (take n xs)) → take k (significant_kinds xs) ≡ significant_kinds (take n xs)
kinds_front xs n k e =
    let front : List Kind = significant_kinds (take n xs) in
    ap (λ m. take m (significant_kinds xs)) e
    ∙ ap (take (length front)) (ap significant_kinds (sym (take-append-drop n xs)) ∙ kinds_append (take n xs) (drop n xs))
    ∙ take-append_seam front (significant_kinds (drop n xs))
