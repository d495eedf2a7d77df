-- What tables say of a prefix that leads to a state.
use Rattle.tables.proofs.Std.{◌≡◌, ◌+◌, ◌≤◌, ℕ, List, [], ◌∷◌, ◌++◌, Option, Some, None, MatchOption, slice_index_or, ap, ◌∙◌, arith, get_or_past}
use Rattle.tables.proofs.Common.{Symbol, Terminal, Nonterminal, HasItem, Sets, IsStateOf, IsRightAt, AreTables, move_at, goto_at, shifted_to, state_after, Shift}
use Rattle.tables.proofs.Leading.{state_after-more, state_after-none}

module _ (nonterminals : ℕ) (t : Sets) (tables : AreTables nonterminals t) where
  state_there : (prefix : List Symbol) (s : ℕ) → state_after t prefix ≡ Some s → IsStateOf t prefix s
  state_there prefix s e = record { below = (tables.right prefix s e).below; leads = e }

  pub start_state : IsStateOf t [] 0
  start_state = state_there [] 0 (state_after-none t)

  module _ (prefix : List Symbol) (s : ℕ) (h : IsStateOf t prefix s) where
    pub right : IsRightAt t prefix s
    right = tables.right prefix s h.leads

    -- a token rule that is none has no move
    pub far_move : (a : ℕ) → t.grammar.rules ≤ a → move_at t s (Some a) ≡ None
    far_move a far = let f = tables.moves s h.below in get_or_past (slice_index_or t.moves s []) (a + 1) None (omega (arith, f, far))

    -- a nonterminal that is none leads nowhere
    pub far_goto : (n : ℕ) → nonterminals ≤ n → goto_at t s n ≡ None
    far_goto n far = let b = h.below in let e = tables.filled in let f = tables.gotos s (omega (arith, b, e)) in get_or_past (slice_index_or t.gotos s []) n None (omega (arith, f, far))

    pub shift_state : (a to : ℕ) → move_at t s (Some a) ≡ Some (Shift to) → IsStateOf t (prefix ++ (Terminal a ∷ [])) to
    shift_state a to e = state_there (prefix ++ (Terminal a ∷ [])) to (state_after-more t prefix (Terminal a) s h.leads ∙ ap shifted_to e)

    -- where a nonterminal leads, by what is valid there
    abbrev Goes : ℕ → Option ℕ → Type 0
    Goes n o = MatchOption o (HasItem t.grammar (prefix ++ (Nonterminal n ∷ [])) → ⊥) (λ to. HasItem t.grammar (prefix ++ (Nonterminal n ∷ [])) × IsStateOf t (prefix ++ (Nonterminal n ∷ [])) to)

    pub goes : (n : ℕ) (o : Option ℕ) → goto_at t s n ≡ o → Goes n o
    goes n None e = right.gotos n e
    goes n (Some to) e =
        let leads = state_after-more t prefix (Nonterminal n) s h.leads ∙ e in
        let there = state_there (prefix ++ (Nonterminal n ∷ [])) to leads in
        ((tables.right (prefix ++ (Nonterminal n ∷ [])) to leads).item, there)
