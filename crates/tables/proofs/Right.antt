-- The rows that are made are right for each prefix that leads to their state.
use Rattle.tables.proofs.Std.{◌≡◌, ◌+◌, ◌<◌, ◌≤◌, ℕ, List, [], ◌∷◌, ◌++◌, Option, Some, None, length, slice_index_or, sym, subst, inl, inr, ⊎_elim, arith, IfSome, cases_lt, get_or_past, Contains-get_or}
use Rattle.tables.proofs.Common.{Token, Symbol, Terminal, Nonterminal, HasItem, kind_of}
use Rattle.tables.proofs.Common.{start_item, start_kernel, no_item, lookahead_at-rule, kernel_at, Found, AreStates, IsStep, Shape, item_of, HasKernel, AreMoves, IsMoveAt, AreGotos, Sets, seen, move_at, goto_at, shifted_to, follower, state_after, IsAction, IsRightAt, Move, Shift}
use Rattle.tables.proofs.AllSets.{Stands, no_far_move, next_known}
use Rattle.tables.proofs.Leading.{holds_after}

module _ (g : Shape) (found : Found) (states : AreStates g found) (gotos : List (List (Option ℕ))) (moves : List (List (Option Move))) (filled : length moves ≡ length found.kernels)
    (are_gotos : (s : ℕ) → s < length found.kernels → AreGotos g found.kernels s (slice_index_or gotos s []))
    (are_moves : (s : ℕ) → s < length found.kernels → AreMoves g.grammar found.kernels s (slice_index_or moves s [])) where
  abbrev made : Sets
  made = seen g.grammar gotos moves

  abbrev Its : List Symbol → Type 0
  Its prefix = Stands g states.sound states.sound.productive found.kernels (λ s l. (states.ordered s l).known) prefix

  -- the state has the kernel of the prefix
  abbrev IsAt : List Symbol → ℕ → Type 0
  IsAt prefix s = (s < length found.kernels) × HasKernel g.grammar (kernel_at found.kernels s) prefix

  at_column : (prefix : List Symbol) (s : ℕ) → IsAt prefix s → (look : Option ℕ) → IfSome look (λ a. a < g.grammar.rules) → IsMoveAt g.grammar found.kernels prefix look (move_at made s look)
  at_column prefix s h None l = let r = are_moves s h.0 in let f = r.filled in r.each 0 (omega (arith, f)) prefix h.1
  at_column prefix s h (Some a) l =
      let r = are_moves s h.0 in
      let f = r.filled in
      subst (λ y. IsMoveAt g.grammar found.kernels prefix y (move_at made s (Some a))) (lookahead_at-rule a) (r.each (a + 1) (omega (arith, f, l)) prefix h.1)

  far_move : (s : ℕ) → s < length found.kernels → (a : ℕ) → g.grammar.rules ≤ a → move_at made s (Some a) ≡ None
  far_move s l a far = let f = (are_moves s l).filled in get_or_past (slice_index_or moves s []) (a + 1) None (omega (arith, f, far))

  far_goto : (s : ℕ) → s < length found.kernels → (n : ℕ) → g.nonterminals ≤ n → goto_at made s n ≡ None
  far_goto s l n far = let f = (are_gotos s l).filled in get_or_past (slice_index_or gotos s []) n None (omega (arith, f, far))

  goto_step : (s : ℕ) → s < length found.kernels → (n : ℕ) → n < g.nonterminals → IsStep g.grammar found.kernels s (Nonterminal n) (goto_at made s n)
  goto_step s l n b = let f = (are_gotos s l).filled in (are_gotos s l).steps n (omega (arith, f, b))

  after_step : (prefix : List Symbol) (s : ℕ) → IsAt prefix s → (x : Symbol) (o : Option ℕ) → IsStep g.grammar found.kernels s x o → IfSome o (IsAt (prefix ++ x ∷ []))
  after_step prefix s h x None step = tt
  after_step prefix s h x (Some to) step = (step.0, step.1 prefix h.1)

  after_shift : (prefix : List Symbol) (a : ℕ) (o : Option Move) → IsMoveAt g.grammar found.kernels prefix (Some a) o → IfSome (shifted_to o) (IsAt (prefix ++ Terminal a ∷ []))
  after_shift prefix a (Some (Shift to)) h =
      let same : a ≡ h.1.0 = cc h.1.1 in
      (h.1.2, subst (λ n. HasKernel g.grammar (kernel_at found.kernels to) (prefix ++ Terminal n ∷ [])) (sym same) h.1.3)
  after_shift prefix a d h = tt

  next : (prefix : List Symbol) (s : ℕ) (x : Symbol) → IsAt prefix s → IfSome (follower made s x) (IsAt (prefix ++ x ∷ []))
  next prefix s (Terminal a) h =
      ⊎_elim
      (λ l. after_shift prefix a (move_at made s (Some a)) (at_column prefix s h (Some a) l))
      (λ far. subst (λ o. IfSome (shifted_to o) (IsAt (prefix ++ Terminal a ∷ []))) (sym (far_move s h.0 a far)) tt)
      (cases_lt a g.grammar.rules)
  next prefix s (Nonterminal n) h =
      ⊎_elim
      (λ l. after_step prefix s h (Nonterminal n) (goto_at made s n) (goto_step s h.0 n l))
      (λ far. subst (λ o. IfSome o (IsAt (prefix ++ Nonterminal n ∷ []))) (sym (far_goto s h.0 n far)) tt)
      (cases_lt n g.nonterminals)

  start : IsAt [] 0
  start = (states.begins, subst (λ y. HasKernel g.grammar y []) (sym states.start) (start_kernel g.grammar))

  module _ (prefix : List Symbol) (s : ℕ) (h : IsAt prefix s) where
    its : Its prefix
    its = record { state = s; below = h.0; kernel = h.1 }

    some_item : 0 < length (kernel_at found.kernels s)
    some_item = let r = states.reached s h.0 in elim (cases_lt 0 (length (kernel_at found.kernels s))) [ inl b ↦ b | inr b ↦ absurd (no_item g.grammar (kernel_at found.kernels s) r.0 b r.1 r.2) ]

    has_item : HasItem g.grammar prefix
    has_item = let i = slice_index_or (kernel_at found.kernels s) 0 start_item in (item_of g.grammar i, h.1.sound i (Contains-get_or (kernel_at found.kernels s) 0 start_item some_item))

    is_action : (look : Option ℕ) (o : Option Move) → IsMoveAt g.grammar found.kernels prefix look o → IsAction g.grammar prefix (kind_of look) o
    is_action look None x = x
    is_action look (Some m) x = x.0.has

    action : (look : Option ℕ) → IsAction g.grammar prefix (kind_of look) (move_at made s look)
    action None = is_action None (move_at made s None) (at_column prefix s h None tt)
    action (Some a) =
        ⊎_elim
        (λ l. is_action (Some a) (move_at made s (Some a)) (at_column prefix s h (Some a) l))
        (λ far. subst (IsAction g.grammar prefix (Some (Token a))) (sym (far_move s h.0 a far))
        (no_far_move g states.sound states.sound.productive found.kernels (λ r l. (states.ordered r l).known) prefix its a far))
        (cases_lt a g.grammar.rules)

    no_goto : (n : ℕ) → goto_at made s n ≡ None → HasItem g.grammar (prefix ++ (Nonterminal n ∷ [])) → ⊥
    no_goto n none has =
        let known = next_known g states.sound states.sound.productive found.kernels (λ r l. (states.ordered r l).known) prefix its (Nonterminal n) has in
        subst (IsStep g.grammar found.kernels s (Nonterminal n)) none (goto_step s h.0 n known) prefix h.1 has

    right_at : IsRightAt made prefix s
    right_at = record { below = let b = h.0 in omega (arith, filled, b); item = has_item; moves = action; gotos = no_goto }

  pub right : (prefix : List Symbol) (s : ℕ) → state_after made prefix ≡ Some s → IsRightAt made prefix s
  right prefix s e = right_at prefix s (subst (λ o. IfSome o (IsAt prefix)) e (holds_after made IsAt next start prefix))
