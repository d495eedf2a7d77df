-- What may come next in a state: token rules, and the end as None.
use Rattle.std.specs.Prelude.{◌≡◌, ◌+◌, if◌then◌else◌, ℕ, Bool, List, [], ◌∷◌, ◌++◌, Option, Some, None, map}
use Rattle.definitions.specs.declared.Kind.{Kind}
use Rattle.definitions.specs.Trees.{Grammar}
use Rattle.definitions.specs.Sentences.{IsExpected}
use Rattle.tables.specs.declared.decisions.Move.{Move}

-- rules and, where `at_end` says so, the end after them, as one list
abbrev pub in_file_order : List ℕ → Bool → List (Option ℕ)
in_file_order rules at_end = map Some rules ++ (if at_end then None ∷ [] else [])

-- the token rules that may follow the kinds `x`, in file order, and after them the end (`None`) where `x` may end
abbrev pub AreExpected : Grammar → List Kind → List (Option ℕ) → Type 0
AreExpected g x looks = (rules : List ℕ) × (at_end : Bool) × IsExpected g x rules at_end × (looks ≡ in_file_order rules at_end)

-- `rules_with_move k moves`: the rules with a move, where the first of these moves is that of rule `k`
abbrev pub rules_with_move : ℕ → List (Option Move) → List ℕ
rules_with_move k [] = []
rules_with_move k (None ∷ moves) = rules_with_move (k + 1) moves
rules_with_move k (Some m ∷ moves) = k ∷ rules_with_move (k + 1) moves
