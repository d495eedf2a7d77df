-- Where it is decided what items call for, each list of kinds has a verdict.
use Rattle.tables.proofs.Std.{◌≡◌, ◌⊎◌, ℕ, List, [], ◌∷◌, ◌++◌, Option, Some, None, length, refl, sym, subst, inl, inr, ⊎_elim, append_assoc, append-nil}
use Rattle.tables.proofs.Common.{Kind, Token, Symbol, Terminal, Grammar, Tree, Leaf, HaveRoots, Verdict, HasTree, FaultAt, FaultAtEnd, IsVerdict, IsTreeOf, HasMove, HasItem, LrShift as Shift}
use Rattle.tables.proofs.Common.{Start, Stay, IsStackAfter, StackHasMove, stack_exists, rules_valid, roots-append, move_iff_viable, move_iff_sentence, roots_unique, verdict_at_kind, verdict_at_end, AreMovesDecided, IsAccepted}
use Rattle.tables.proofs.MovesOfState.{shift_item}

module _ (g : Grammar) where
  -- after a token rule that the items call for, an item is valid
  item_after : (symbols : List Symbol) (k : Kind) → HasMove g symbols (Some k) Shift → (a : ℕ) × (k ≡ Token a) × HasItem g (symbols ++ (Terminal a ∷ []))
  item_after symbols k m =
      let rule : k ≡ Token m.calls.0 = let e : Some k ≡ Some (Token m.calls.0) = m.calls.3 in cc e in
      (m.calls.0, rule, shift_item g symbols m.calls.0 m.item m.calls.1 m.valid m.calls.2)

  -- the roots of what is on the stack are a prefix with an item
  stack_item : (x : List Kind) (stack : List Tree) → IsStackAfter g x stack → (symbols : List Symbol) × HaveRoots g stack symbols × HasItem g symbols
  stack_item [] stack e = ([], subst (λ l. HaveRoots g l []) (sym e) tt, (_, rules_valid g Start))
  stack_item (k ∷ x) stack (before, last, below, x_is, read, shift, stack_is) =
      let next = item_after shift.symbols last shift.called in
      let a = next.0 in
      let leaf : HaveRoots g (Leaf last ∷ []) (Terminal a ∷ []) = subst (λ l. HaveRoots g (Leaf l ∷ []) (Terminal a ∷ [])) (sym next.1) (refl, tt) in
      let roots = roots-append g below (Leaf last ∷ []) shift.symbols (Terminal a ∷ []) shift.roots leaf in
      (shift.symbols ++ (Terminal a ∷ []), subst (λ l. HaveRoots g l (shift.symbols ++ (Terminal a ∷ []))) (sym stack_is) roots, next.2)

  module _ (accepted : IsAccepted g) (decided : AreMovesDecided g) where
    pub stack_decided : (x : List Kind) (stack : List Tree) → IsStackAfter g x stack → (next : Option Kind) → StackHasMove g stack next ⊎ (StackHasMove g stack next → ⊥)
    stack_decided x stack h next =
        let s = stack_item x stack h in
        ⊎_elim
        (λ m. inl (record { symbols = s.0; roots = s.1; move = m.0; called = m.1 }))
        (λ none. inr (λ m. none m.move (subst (λ l. HasMove g l next m.move) (roots_unique g stack m.symbols s.0 m.roots s.1) m.called)))
        (decided s.0 s.2 next)

    verdict_from : (rest before : List Kind) (stack : List Tree) → IsStackAfter g before stack → (v : Verdict) × IsVerdict g (before ++ rest) v
    verdict_from [] before stack h =
        ⊎_elim
        (λ m. let s = (move_iff_sentence g accepted.free accepted.productive before stack h).0 m in (HasTree s.0, subst (λ l. IsTreeOf g l s.0) (sym (append-nil before)) s.1))
        (λ stuck. (FaultAtEnd, subst (λ l. IsVerdict g l FaultAtEnd) (sym (append-nil before)) (verdict_at_end g accepted.free accepted.productive before stack stack h Stay stuck)))
        (stack_decided before stack h None)
    verdict_from (k ∷ rest) before stack h =
        ⊎_elim
        (λ m.
        let viable = (move_iff_viable g accepted.free accepted.productive before stack k h).0 m in
        let next = stack_exists g (before ++ (k ∷ [])) viable in
        let v = verdict_from rest (before ++ (k ∷ [])) next.0 next.1 in
        (v.0, subst (λ l. IsVerdict g l v.0) (append_assoc before (k ∷ []) rest) v.1))
        (λ stuck. (FaultAt (length before), verdict_at_kind g accepted.free accepted.productive before k rest stack stack h Stay stuck))
        (stack_decided before stack h (Some k))

    pub verdict_exists : (x : List Kind) → (v : Verdict) × IsVerdict g x v
    verdict_exists x = verdict_from x [] [] refl
