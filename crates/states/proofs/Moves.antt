-- What moves of the machine make of its states.
use Rattle.std.proofs.Common.{◌≡◌, ◌++◌, ◌∷◌, ℕ, List, [], Option, Some, ap, subst}
use Rattle.definitions.specs.declared.Kind.{Kind}
use Rattle.definitions.specs.declared.Kind.TheVariants.{Rule as TokenRule}
use Rattle.definitions.specs.declared.Symbol.{Symbol}
use Rattle.definitions.specs.declared.Symbol.TheVariants.{Rule as Terminal}
use Rattle.definitions.specs.Items.{HasMove, Shift as ToShift}
use Rattle.tables.specs.Actions.{plain as plain_move}
use Rattle.tables.specs.Tables.{IsStateOf, Sets}
use Rattle.tables.specs.declared.decisions.Move.{Move}
use Rattle.tables.specs.declared.decisions.Move.TheVariants.{Shift}
use Rattle.states.specs.Stacks.{IsReached}

-- a shift leads from a reached state to a reached one
pub shifted : (t : Sets) (state next : ℕ) (look : Option Kind) (move : Move) → IsReached t state
    → ((prefix : List Symbol) → IsStateOf t prefix state → HasMove t.grammar prefix look (plain_move move))
    → ((prefix : List Symbol) (a to : ℕ) → IsStateOf t prefix state → look ≡ Some (TokenRule a) → Some move ≡ Some (Shift to)
    → IsStateOf t (prefix ++ (Terminal a ∷ [])) to) → move ≡ Shift next → IsReached t next
shifted t state next look move reached is shifts e =
    let prefix = reached.0 in
    let called : HasMove t.grammar prefix look ToShift = subst (λ m. HasMove t.grammar prefix look (plain_move m)) e (is prefix reached.1) in
    (prefix ++ (Terminal called.calls.0 ∷ []), shifts prefix called.calls.0 next reached.1 called.calls.3 (ap Some e))
