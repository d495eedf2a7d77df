-- How many kinds changes pass.
use Rattle.std.proofs.Common.{◌≡◌, ◌+◌, ◌++◌, List, [], ◌∷◌, arith, refl}
use Rattle.remedies.specs.Changes.{passed}
use Rattle.remedies.specs.declared.change.Change.{Change}
use Rattle.remedies.specs.declared.change.Change.TheVariants.{Keep, LeaveOut, PutIn}

-- one change more that leaves a kind out
pub passed_push : (changes : List Change) → passed (changes ++ (LeaveOut ∷ [])) ≡ passed changes + 1
passed_push [] = refl
passed_push (PutIn rule ∷ changes) = passed_push changes
passed_push (LeaveOut ∷ changes) = omega (arith, passed_push changes)
passed_push (Keep ∷ changes) = omega (arith, passed_push changes)

-- one change more that lets a kind stay
pub passed_keep : (changes : List Change) → passed (changes ++ (Keep ∷ [])) ≡ passed changes + 1
passed_keep [] = refl
passed_keep (PutIn rule ∷ changes) = passed_keep changes
passed_keep (LeaveOut ∷ changes) = omega (arith, passed_keep changes)
passed_keep (Keep ∷ changes) = omega (arith, passed_keep changes)
