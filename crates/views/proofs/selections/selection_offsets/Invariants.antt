use Rattle.views.proofs.Std.{◌≡◌, ◌∷◌, Bool, List, map, take, All}
use Rattle.views.proofs.Common.{is_skipped, placed, significant, kind_in, plain, offsets_of}
use Rattle.views.proofs.selections.selection_offsets.Given as goal

abbrev pub invariant-loop-span : goal.invariant-loop-span
invariant-loop-span l =
    (skips : List Bool) → All (λ x. x.skipped ≡ is_skipped skips (kind_in x)) l.tokens.items
    → l.offsets.items ≡ l.fn.whole ∷ map (offsets_of (significant skips (placed 0 (map plain l.tokens.items)))) (take l.span-index l.last)
