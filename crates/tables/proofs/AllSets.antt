-- All sets are among the states: what follows for conflicts and for the number of sets.
use Rattle.tables.proofs.Std.{◌≡◌, ◌+◌, ◌<◌, ◌≤◌, ℕ, List, [], ◌∷◌, ◌++◌, Option, Some, None, All, length, slice_index_or, refl, sym, ap, ◌∙◌, subst, arith, IfSome}
use Rattle.tables.proofs.Common.{Kind, Token, Symbol, Terminal, first, LrItem, IsValid, HasItem, HaveSameItems, HasNoConflict, CallsFor, HasMove, kind_of, AllProductive, LrMove as Move, LrShift as Shift, Reduce, Accept}
use Rattle.tables.proofs.Common.{rules_valid, valid_rules, goto_from, all_sets, Item, kernel_at, IsStep, Shape, IsSound, IsKnown, lookahead_at, IsItem, item_of, HasKernel, start_item, start_kernel, in_known, lookahead_at-rule, lookahead_small, column_there, after_first_known, set_complete}
use Rattle.tables.proofs.Common.{TableMove, IsMoveAt, AreMoves, HasSteps}

module _ (g : Shape) (sound : IsSound g) (productive : AllProductive g.grammar) (kernels : List (List Item)) (known : (s : ℕ) → s < length kernels → All (IsItem g) (kernel_at kernels s)) where
  -- some state stands for the prefix
  pub record Stands (prefix : List Symbol) : Type 0 where
    pub state : ℕ
    pub below : state < length kernels
    pub kernel : HasKernel g.grammar (kernel_at kernels state) prefix

  -- the numbers of a valid item are in range
  valid_known : (prefix : List Symbol) → Stands prefix → (k : LrItem) → IsValid g.grammar prefix k → (i : Item) × IsItem g i × (item_of g.grammar i ≡ k)
  valid_known prefix h k v =
      let items = known h.state h.below in
      let x = set_complete g sound productive (kernel_at kernels h.state) items prefix h.kernel k v in
      (x.0, in_known g sound (kernel_at kernels h.state) items x.1, x.2)

  after_known : (prefix : List Symbol) → Stands prefix → (k : LrItem) → IsValid g.grammar prefix k → (s : Symbol) (rest : List Symbol) → k.after ≡ s ∷ rest → IsKnown g s
  after_known prefix h k v s rest e = let x = valid_known prefix h k v in after_first_known g sound x.0 x.1 s (ap (λ y. first y.after) x.2 ∙ ap first e)

  -- a symbol that leads somewhere has a number
  pub next_known : (prefix : List Symbol) → Stands prefix → (s : Symbol) → HasItem g.grammar (prefix ++ s ∷ []) → IsKnown g s
  next_known prefix h s (k, v) =
      let b = goto_from g.grammar (valid_rules g.grammar (prefix ++ s ∷ []) k v) prefix s refl in
      after_known prefix h b.0 (rules_valid g.grammar b.1) s b.2.0 b.2.1

  -- what an item calls at is the lookahead of a column
  place_of_call : (prefix : List Symbol) → Stands prefix → (i : LrItem) → IsValid g.grammar prefix i → (next : Option Kind) (m : Move)
      → CallsFor i next m → (k : ℕ) × (k < g.grammar.rules + 1) × (next ≡ kind_of (lookahead_at k))
  place_of_call prefix h i v next Shift (a, rest, e, f) = let l : a < g.grammar.rules = after_known prefix h i v (Terminal a) rest e in
      (a + 1, omega (arith, l), f ∙ ap kind_of (sym (lookahead_at-rule a)))
  place_of_call prefix h i v next (Reduce p) (x, e, f) = let y = valid_known prefix h i v in let z = column_there g.grammar.rules y.0.look y.1.look in
      (z.0, z.1, f ∙ ap (λ u. kind_of u.look) (sym y.2) ∙ ap kind_of (sym z.2))
  place_of_call prefix h i v next Accept (x, e, f) = let y = valid_known prefix h i v in let z = column_there g.grammar.rules y.0.look y.1.look in
      (z.0, z.1, f ∙ ap (λ u. kind_of u.look) (sym y.2) ∙ ap kind_of (sym z.2))

  -- a token rule that is none calls for nothing
  pub no_far_move : (prefix : List Symbol) → Stands prefix → (a : ℕ) → g.grammar.rules ≤ a → (m : Move) → HasMove g.grammar prefix (Some (Token a)) m → ⊥
  no_far_move prefix h a far m x = let p = place_of_call prefix h x.item x.valid (Some (Token a)) m x.calls in go (lookahead_at p.0) (lookahead_small g.grammar.rules p.0 p.1) p.2
    where
      go : (o : Option ℕ) → IfSome o (λ b. b < g.grammar.rules) → Some (Token a) ≡ kind_of o → ⊥
      go None l e = cc e
      go (Some b) l e = let k : a ≡ b = cc e in absurd (omega (arith, l, k, far))

  same_refl : (prefix : List Symbol) → HaveSameItems g.grammar prefix prefix
  same_refl prefix i = (λ v. v, λ v. v)

  module _ (begins : 0 < length kernels) (start : kernel_at kernels 0 ≡ start_item ∷ []) (steps : (s : ℕ) → s < length kernels → HasSteps g kernels s) where
    stands_start : Stands []
    stands_start = record { state = 0; below = begins; kernel = subst (λ y. HasKernel g.grammar y []) (sym start) (start_kernel g.grammar) }

    step_stands : (prefix : List Symbol) (h : Stands prefix) (x : Symbol) → HasItem g.grammar (prefix ++ x ∷ []) → (o : Option ℕ) → IsStep g.grammar kernels h.state x o → Stands (prefix ++ x ∷ [])
    step_stands prefix h x has None step = absurd (step prefix h.kernel has)
    step_stands prefix h x has (Some t) step = record { state = t; below = step.0; kernel = step.1 prefix h.kernel }

    stands_next : (one : List Symbol) → Stands one → (x : Symbol) → HasItem g.grammar (one ++ (x ∷ [])) → (two : List Symbol) × Stands two × HaveSameItems g.grammar (one ++ (x ∷ [])) two
    stands_next one h x has = let t = steps h.state h.below x (next_known one h x has) in (one ++ x ∷ [], step_stands one h x has t.0 t.1, same_refl (one ++ x ∷ []))

    -- each set of a prefix with an item is that of a state
    pub all_stand : (prefix : List Symbol) → HasItem g.grammar prefix → (two : List Symbol) × Stands two × HaveSameItems g.grammar prefix two
    all_stand prefix has = all_sets g.grammar Stands stands_start stands_next prefix [] has [] stands_start (same_refl [])

    module _ (moves : ℕ → List (Option TableMove)) (are_moves : (s : ℕ) → s < length kernels → AreMoves g.grammar kernels s (moves s)) where
      one_move : (prefix : List Symbol) (look : Option ℕ) (o : Option TableMove) → IsMoveAt g.grammar kernels prefix look o → (m n : Move)
          → HasMove g.grammar prefix (kind_of look) m → HasMove g.grammar prefix (kind_of look) n → m ≡ n
      one_move prefix look None h m n a b = absurd (h m a)
      one_move prefix look (Some t) h m n a b = h.0.only m a ∙ sym (h.0.only n b)

      -- no set has a conflict
      pub no_conflict : HasNoConflict g.grammar
      no_conflict prefix next one two c =
          let x = all_stand prefix (one, c.one_valid) in
          let v = (x.2 one).0 c.one_valid in
          let w = (x.2 two).0 c.two_valid in
          let p = place_of_call x.0 x.1 one v next c.one_move c.one_calls in
          let a : HasMove g.grammar x.0 (kind_of (lookahead_at p.0)) c.one_move = subst (λ y. HasMove g.grammar x.0 y c.one_move) p.2 (record { item = one; valid = v; calls = c.one_calls }) in
          let b : HasMove g.grammar x.0 (kind_of (lookahead_at p.0)) c.two_move = subst (λ y. HasMove g.grammar x.0 y c.two_move) p.2 (record { item = two; valid = w; calls = c.two_calls }) in
          let r = are_moves x.1.state x.1.below in
          let n = r.filled in
          let l = p.1 in
          c.differ (one_move x.0 (lookahead_at p.0) (slice_index_or (moves x.1.state) p.0 None) (r.each p.0 (omega (arith, n, l)) x.0 x.1.kernel) c.one_move c.two_move a b)
