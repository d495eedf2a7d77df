-- What lies within the reach of a token.
use Rattle.lexer.proofs.Std.{arith, inl, inr, length-drop, ℕ, ◌+◌, ◌<◌, ◌≤◌, List, length, drop}
use Rattle.lexer.proofs.Common.{Expression, IsReach, IsWithinReach}

-- what lies within the reach of a token lies before its start and reach
pub within_token : (rules : List Expression) (u : List ℕ) (o i n : ℕ) → o ≤ length u → IsWithinReach rules u o i → IsReach rules (drop o u) n → i < o + n
within_token rules u o i n l w (inl r) = w.alive n r.0
within_token rules u o i n l w (inr r) = omega (arith, w.inside, r.0, length-drop o u)
