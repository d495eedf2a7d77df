-- Every prefix with an item leads to a state, whose moves decide what its items call for.
use Rattle.tables.proofs.Std.{◌≡◌, ◌⊎◌, ℕ, List, [], ◌∷◌, ◌++◌, Option, Some, None, refl, inl, inr}
use Rattle.tables.proofs.Common.{Kind, Token, Invalid, Symbol, Terminal, Nonterminal, Grammar, LrItem, LrMove, HasMove, HasItem, kind_of, LrShift as Shift, Reduce, Accept}
use Rattle.tables.proofs.Common.{ByRules, Start, Goto, Close, rules_valid, valid_rules, Move, plain, AreMovesDecided, Sets, IsStateOf, IsAction, AreTables, move_at, goto_at, Shift as ToShift}
use Rattle.tables.specs.declared.decisions.Move.TheVariants.{Reduce as ToReduce, Accept as ToAccept}
use Rattle.tables.proofs.RowsOfPrefix.{start_state, right, shift_state, goes}

no_lookahead : (look : Option ℕ) → Some Invalid ≡ kind_of look → ⊥
no_lookahead None e = cc e
no_lookahead (Some a) e = cc e

-- an invalid token calls for nothing
no_invalid : (g : Grammar) (prefix : List Symbol) (m : LrMove) → HasMove g prefix (Some Invalid) m → ⊥
no_invalid g prefix Shift h = let e : Some Invalid ≡ Some (Token h.calls.0) = h.calls.3 in cc e
no_invalid g prefix d h = no_lookahead h.item.look h.calls.2

module _ (nonterminals : ℕ) (t : Sets) (tables : AreTables nonterminals t) where
  module _ (prefix : List Symbol) (s : ℕ) (h : IsStateOf t prefix s) where
    -- where items call for a shift they call for nothing else
    no_other : (a : ℕ) → HasMove t.grammar prefix (Some (Token a)) Shift → (m : LrMove) → (Shift ≡ m → ⊥) → HasMove t.grammar prefix (Some (Token a)) m → ⊥
    no_other a shift m other has = tables.accepted.free prefix (Some (Token a)) shift.item has.item
        (record { one_valid = shift.valid; two_valid = has.valid; one_move = Shift; two_move = m; one_calls = shift.calls; two_calls = has.calls; differ = other })

    after_shift : (a : ℕ) → HasMove t.grammar prefix (Some (Token a)) Shift → (o : Option Move) → move_at t s (Some a) ≡ o
        → IsAction t.grammar prefix (Some (Token a)) o → (to : ℕ) × IsStateOf t (prefix ++ (Terminal a ∷ [])) to
    after_shift a shift None e is = absurd (is Shift shift)
    after_shift a shift (Some (ToShift to)) e is = (to, shift_state nonterminals t tables prefix s h a to e)
    after_shift a shift (Some (ToReduce p)) e is = absurd (no_other a shift (Reduce p) (λ x. cc x) is)
    after_shift a shift (Some ToAccept) e is = absurd (no_other a shift Accept (λ x. cc x) is)

    after_goto : (n : ℕ) → HasItem t.grammar (prefix ++ (Nonterminal n ∷ [])) → (o : Option ℕ) → goto_at t s n ≡ o → (to : ℕ) × IsStateOf t (prefix ++ (Nonterminal n ∷ [])) to
    after_goto n has None e = absurd (goes nonterminals t tables prefix s h n None e has)
    after_goto n has (Some to) e = (to, (goes nonterminals t tables prefix s h n (Some to) e).1)

    after_symbol : (x : Symbol) (i : LrItem) (after : List Symbol) → i.after ≡ x ∷ after → ByRules t.grammar prefix i
        → HasItem t.grammar (prefix ++ (x ∷ [])) → (to : ℕ) × IsStateOf t (prefix ++ (x ∷ [])) to
    after_symbol (Terminal a) i after e r has = after_shift a (record { item = i; valid = rules_valid t.grammar r; calls = (a, after, e, refl) })
        (move_at t s (Some a)) refl ((right nonterminals t tables prefix s h).moves (Some a))
    after_symbol (Nonterminal n) i after e r has = after_goto n has (goto_at t s n) refl

  -- the state that a prefix leads to for which some item is valid
  has_state : {prefix : List Symbol} {i : LrItem} → ByRules t.grammar prefix i → (s : ℕ) × IsStateOf t prefix s
  has_state Start = (0, start_state nonterminals t tables)
  has_state (Close r h f) = has_state r
  has_state (Goto {prefix = prefix} {s = x} {after = after} r) = let before = has_state r in after_symbol prefix before.0 before.1 x _ after refl r (_, rules_valid t.grammar (Goto r))

  module _ (prefix : List Symbol) (s : ℕ) (h : IsStateOf t prefix s) where
    abbrev IsDecidedAt : Option Kind → Type 0
    IsDecidedAt look = ((move : LrMove) × HasMove t.grammar prefix look move) ⊎ ((move : LrMove) → HasMove t.grammar prefix look move → ⊥)

    from_action : (look : Option Kind) (o : Option Move) → IsAction t.grammar prefix look o → IsDecidedAt look
    from_action look None is = inr is
    from_action look (Some move) is = inl (plain move, is)

    decided_at : (look : Option Kind) → IsDecidedAt look
    decided_at None = from_action None (move_at t s None) ((right nonterminals t tables prefix s h).moves None)
    decided_at (Some Invalid) = inr (no_invalid t.grammar prefix)
    decided_at (Some (Token a)) = from_action (Some (Token a)) (move_at t s (Some a)) ((right nonterminals t tables prefix s h).moves (Some a))

  pub moves_decided : AreMovesDecided t.grammar
  moves_decided prefix has look =
      let s = has_state (valid_rules t.grammar prefix has.0 has.1) in
      decided_at prefix s.0 s.1 look
