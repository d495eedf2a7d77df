-- Where prefixes lead.
use Rattle.tables.proofs.Std.{◌≡◌, ℕ, List, [], ◌∷◌, ◌++◌, Option, Some, None, refl, sym, ap, ◌∙◌, subst, IfSome, append_snoc, append-nil}
use Rattle.tables.proofs.Common.{Symbol, Sets, follower, next_state, state_from, state_after}

state_from-more : (t : Sets) (o : Option ℕ) (u : List Symbol) (x : Symbol) → state_from t o (u ++ x ∷ []) ≡ next_state t (state_from t o u) x
state_from-more t o [] x = refl
state_from-more t o (y ∷ u) x = state_from-more t (next_state t o y) u x

-- the state after one symbol more
pub state_after-more : (t : Sets) (prefix : List Symbol) (x : Symbol) (s : ℕ) → state_after t prefix ≡ Some s → state_after t (prefix ++ x ∷ []) ≡ follower t s x
unfolding state_after
state_after-more t prefix x s e = state_from-more t (Some 0) prefix x ∙ ap (λ o. next_state t o x) e

pub state_after-none : (t : Sets) → state_after t [] ≡ Some 0
unfolding state_after
state_after-none t = refl

-- what holds of the first state, and of each state with the one before it, holds of each state that a prefix leads to
module _ (t : Sets) (P : List Symbol → ℕ → Type 0) (next : (prefix : List Symbol) (s : ℕ) (x : Symbol) → P prefix s → IfSome (follower t s x) (P (prefix ++ x ∷ []))) where
  holds_from : (u before : List Symbol) (o : Option ℕ) → IfSome o (P before) → IfSome (state_from t o u) (P (before ++ u))
  holds_from [] before o h = subst (λ y. IfSome o (P y)) (sym (append-nil before)) h
  holds_from (x ∷ u) before None h = subst (λ y. IfSome (state_from t None u) (P y)) (append_snoc before x u) (holds_from u (before ++ x ∷ []) None tt)
  holds_from (x ∷ u) before (Some s) h = subst (λ y. IfSome (state_from t (follower t s x) u) (P y)) (append_snoc before x u) (holds_from u (before ++ x ∷ []) (follower t s x) (next before s x h))

  pub holds_after : P [] 0 → (prefix : List Symbol) → IfSome (state_after t prefix) (P prefix)
  unfolding state_after
  holds_after start prefix = holds_from prefix [] (Some 0) start
