-- The stack that is found after kinds, and what may follow there.
use Rattle.completion.proofs.Std.{◌≡◌, ℕ, List, Option, IfOk, IfSome, MatchOption, subst, sym}
use Rattle.completion.proofs.Common.{AreExpected, AreStatesAfter, IsViable, Kind, Sets}
use Rattle.std.specs.Prelude.{Result}
use Rattle.states.specs.Piles.{Standing}

-- what is known of it, and of the kinds
abbrev pub AreFoundAfter : {E : Type 0} → Sets → List Kind → Result (Option Standing) E → Type 0
AreFoundAfter t kinds result = IfOk result (λ found. MatchOption found (¬ IsViable t.grammar kinds) (λ pile. IsViable t.grammar kinds × AreStatesAfter t kinds pile.states))

abbrev pub HasTables : {E : Type 0} → Sets → Result (Option Standing) E → Type 0
HasTables t result = IfOk result (λ found. IfSome found (λ pile. pile.tables ≡ t))

-- by the tables and the kinds that it is wanted for
pub found_after : {E : Type 0} → (t u : Sets) (kinds all : List Kind) (result : Result (Option Standing) E) → u ≡ t → all ≡ kinds
    → AreFoundAfter u all result → AreFoundAfter t kinds result
found_after t u kinds all result tables same h =
    subst (λ l. AreFoundAfter t l result) same (subst (λ v. AreFoundAfter v all result) tables h)

pub tables_of_found : {E : Type 0} → (t u : Sets) (result : Result (Option Standing) E) → u ≡ t → HasTables u result → HasTables t result
tables_of_found t u result tables h = subst (λ v. HasTables v result) tables h

pub expected_there : (t : Sets) (pile : Standing) (kinds : List Kind) (looks : List (Option ℕ)) → pile.tables ≡ t → AreStatesAfter t kinds pile.states
    → (AreStatesAfter pile.tables kinds pile.states → AreExpected pile.tables.grammar kinds looks) → AreExpected t.grammar kinds looks
expected_there t pile kinds looks tables after f =
    subst (λ u. AreExpected u.grammar kinds looks) tables (f (subst (λ u. AreStatesAfter u kinds pile.states) (sym tables) after))
