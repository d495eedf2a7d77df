-- What a test or an option leaves of a fact.
use Rattle.states.proofs.Std.{◌≡◌, Bool, IfSome, MatchBool, Option, Some, false, subst}

pub of_false : (A B : Type 0) (b : Bool) → b ≡ false → MatchBool b A B → B
of_false A B b e = subst (λ b. MatchBool b A B) e

pub if_some : {X : Type 0} → (P : X → Type 0) (o : Option X) (x : X) → o ≡ Some x → IfSome o P → P x
if_some P o x e = subst (λ o. IfSome o P) e
