-- Where symbols lead from a state, as more states come.
use Rattle.item_sets.proofs.Std.{◌<◌, ℕ, List, [], ◌∷◌, ◌++◌, Option, Some, None, length, slice_index_or, sym, ◌∙◌, subst, arith}
use Rattle.item_sets.proofs.Common.{Symbol, Grammar, Item, GoesOn, IsStep, HasKernel, symbol_of, each_more}

pub goes_on_trans : (a b c : List (List Item)) → GoesOn a b → GoesOn b c → GoesOn a c
goes_on_trans a b c h k = record {
  longer = let x = h.longer in let y = k.longer in omega (arith, x, y);
  same = λ s l. k.same s (let x = h.longer in omega (arith, x, l)) ∙ h.same s l;
}

module _ (g : Grammar) where
  pub step_goes_on : (old new : List (List Item)) (s : ℕ) (symbol : Symbol) (to : Option ℕ) → GoesOn old new → s < length old → IsStep g old s symbol to → IsStep g new s symbol to
  step_goes_on old new s symbol None e l h = λ p k. h p (subst (λ y. HasKernel g y p) (e.same s l) k)
  step_goes_on old new s symbol (Some t) e l h = (
    (let x = e.longer in let y = h.0 in omega (arith, x, y)),
    (λ p k. subst (λ y. HasKernel g y (p ++ symbol ∷ [])) (sym (e.same t h.0)) (h.1 p (subst (λ y. HasKernel g y p) (e.same s l) k))),
  )

  -- a row, and one step more
  pub steps_more : (old new : List (List Item)) (s : ℕ) (row : List (Option ℕ)) (to : Option ℕ) → GoesOn old new → s < length old
      → ((j : ℕ) → j < length row → IsStep g old s (symbol_of g j) (slice_index_or row j None)) → IsStep g new s (symbol_of g (length row)) to → (j : ℕ)
      → j < length (row ++ to ∷ []) → IsStep g new s (symbol_of g j) (slice_index_or (row ++ to ∷ []) j None)
  steps_more old new s row to e l each step = each_more (λ j o. IsStep g new s (symbol_of g j) o) row to None
      (λ j b. step_goes_on old new s (symbol_of g j) (slice_index_or row j None) e l (each j b)) step
