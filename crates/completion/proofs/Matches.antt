-- What a test or an option leaves of two facts.
use Rattle.completion.proofs.Std.{◌≡◌, ◌∷◌, [], Bool, List, MatchBool, MatchOption, None, Option, Some, false, is_some, option_to_list, subst, true}

pub of_true : (A B : Type 0) (b : Bool) → b ≡ true → MatchBool b A B → A
of_true A B b e = subst (λ b. MatchBool b A B) e

pub of_none : {X : Type 0} → (P : Type 0) (Q : X → Type 0) (o : Option X) → o ≡ None → MatchOption o P Q → P
of_none P Q o e = subst (λ o. MatchOption o P Q) e

pub of_some : {X : Type 0} → (P : Type 0) (Q : X → Type 0) (o : Option X) (x : X) → o ≡ Some x → MatchOption o P Q → Q x
of_some P Q o x e = subst (λ o. MatchOption o P Q) e

-- where there is something, only what is known of it counts, and where there is nothing, only that
pub some_after : {X : Type 0} → (P P' : Type 0) (Q Q' : X → Type 0) (o : Option X) → is_some o ≡ true → ((x : X) → Q x → Q' x) → MatchOption o P Q → MatchOption o P' Q'
some_after P P' Q Q' None e f h = absurd (cc e)
some_after P P' Q Q' (Some x) e f h = f x h

pub none_after : {X : Type 0} → (P : Type 0) (Q : X → Type 0) (o : Option X) → is_some o ≡ false → MatchOption o P Q → P
none_after P Q None e h = h
none_after P Q (Some x) e h = absurd (cc e)

-- an option as a slice
pub listed : {X : Type 0} → (o : Option X) (l : List X) → MatchOption o (l ≡ []) (λ x. l ≡ x ∷ []) → l ≡ option_to_list o
listed None l h = h
listed (Some x) l h = h
