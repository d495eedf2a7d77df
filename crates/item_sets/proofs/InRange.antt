-- All numbers of the items of a set are in range.
use Rattle.item_sets.proofs.Std.{◌≡◌, ◌+◌, ◌<◌, ℕ, Bool, true, List, [], ◌∷◌, Option, Some, None, refl, sym, inl, subst, length, All, Contains, ⊎_elim, arith, IfSome, All-cons, All-head, All-tail, All-drop}
use Rattle.item_sets.proofs.Common.{Symbol, Nonterminal, first, left_of, right_of}
use Rattle.item_sets.proofs.Common.{Item, lookahead_at, Shape, IsSound, IsKnown, MayFollow, side, after_dot, IsItem, IsIn, Kernel, Closed, marked, AreMarked, CallFor, IsCalledFor, IsExpanded, AreCalledFor, HaveBeginnings, has_production, column_there, may_known}
use Rattle.item_sets.proofs.WorklistIsRight.{begins_in}

first_known : (g : Shape) (s : Symbol) (ss : List Symbol) → All (IsKnown g) ss → first ss ≡ Some s → IsKnown g s
first_known g s [] h e = absurd (cc e)
first_known g s (x ∷ ss) h e = let k : x ≡ s = cc e in subst (IsKnown g) k (All-head (IsKnown g) x ss h)

module _ (g : Shape) (sound : IsSound g) where
  pub side_known : (q : Option ℕ) → IfSome q (λ p. p < length g.grammar.productions) → All (IsKnown g) (side g.grammar q)
  side_known None h = All-cons (IsKnown g) (Nonterminal g.grammar.start) [] sound.start (λ k d l. absurd (omega (arith, l)))
  side_known (Some p) h = sound.right p (left_of g.grammar p) (right_of g.grammar p) (has_production g.grammar p h)

  pub after_known : (i : Item) → IsItem g i → All (IsKnown g) (after_dot g.grammar i)
  after_known i h = All-drop (IsKnown g) i.at (side g.grammar i.production) (side_known i.production h.production)

  pub rest_known : (i : Item) → IsItem g i → (n : ℕ) (rest : List Symbol) → after_dot g.grammar i ≡ Nonterminal n ∷ rest → All (IsKnown g) rest
  rest_known i h n rest e = All-tail (IsKnown g) (Nonterminal n) rest (subst (All (IsKnown g)) e (after_known i h))

  -- a symbol after an item's dot is one of the grammar's
  pub after_first_known : (i : Item) → IsItem g i → (s : Symbol) → first (after_dot g.grammar i) ≡ Some s → IsKnown g s
  after_first_known i h s = first_known g s (after_dot g.grammar i) (after_known i h)

  module _ (kernel : List Item) (items : All (IsItem g) kernel) where
    pub in_known : {i : Item} → IsIn g.grammar kernel i → IsItem g i
    in_known (Kernel {i = i} c) = subst (IsItem g) c.2 (items c.0 i c.1)
    in_known (Closed {i = i} n rest p a h e l s m) =
        let x = in_known h in
        record { production = l; at = omega arith; look = may_known g sound rest i.look a m (rest_known i x n rest e) x.look }

    -- what may follow a nonterminal after an item's dot is called for, in its column
    called_at : {i : Item} (n : ℕ) (rest : List Symbol) (a : Option ℕ) → IsIn g.grammar kernel i → after_dot g.grammar i ≡ Nonterminal n ∷ rest
        → MayFollow g.grammar rest i.look a → (k : ℕ) × (k < g.grammar.rules + 1) × (lookahead_at k ≡ a) × CallFor g.grammar (after_dot g.grammar i) i.look n k
    called_at {i = i} n rest a x e m =
        let is = in_known x in
        let k = column_there g.grammar.rules a (may_known g sound rest i.look a m (rest_known i is n rest e) is.look) in
        (k.0, k.1, k.2, (rest, e, subst (λ y. MayFollow g.grammar rest i.look y) (sym k.2) m))

    module _ (rows : List (List Bool)) (begun : All (λ i. AreMarked g rows (CallFor g.grammar (after_dot g.grammar i) i.look)) kernel)
        (closed : (n k : ℕ) → marked rows n k ≡ true → AreMarked g rows (IsExpanded g.grammar n k)) where
      calls_marked : {i : Item} → IsIn g.grammar kernel i → AreMarked g rows (CallFor g.grammar (after_dot g.grammar i) i.look)
      calls_marked (Kernel {i = i} c) = subst (λ j. AreMarked g rows (CallFor g.grammar (after_dot g.grammar j) j.look)) c.2 (begun c.0 i c.1)
      calls_marked (Closed {i = i} n rest p a x e l s m) =
          let k = called_at n rest a x e m in
          λ q j b call. closed n k.0 (calls_marked x n k.0 k.1 k.3) q j b (p, l, s, subst (λ y. CallFor g.grammar (right_of g.grammar p) y q j) (sym k.2) call)

      -- if the calls of the kernel and of what is marked are marked, all calls of the closure are
      pub all_marked : AreMarked g rows (IsCalledFor g.grammar kernel)
      all_marked n k l x = calls_marked x.1 n k l x.2

    module _ (rows : List (List Bool)) (called : AreCalledFor g kernel rows) (all : List Item) (h : HaveBeginnings g kernel rows (length g.grammar.productions) 0 all) where
      -- each item is in the closure
      pub only_in : (i : Item) → Contains all i → IsIn g.grammar kernel i
      only_in i c = ⊎_elim (λ k. Kernel k) (λ b. subst (IsIn g.grammar kernel) b.2.2 (begins_in g.grammar kernel rows called.sound (left_of g.grammar b.0) b.2.0 b.2.1 b.0 b.1 refl)) (h.only i c)

      -- and each item of the closure is there
      pub has_all : {i : Item} → IsIn g.grammar kernel i → Contains all i
      has_all (Kernel {i = i} c) = h.kept i c
      has_all (Closed {i = i} n rest p a x e l s m) =
          let k = called_at n rest a x e m in
          let on : marked rows n k.0 ≡ true = called.complete n k.0 k.1 (i, x, k.3) in
          subst (λ y. Contains all (record { production = Some p; at = 0; look = y })) k.2 (h.added p k.0 (inl l) k.1 (subst (λ y. marked rows y k.0 ≡ true) (sym s) on))
