-- The set of a kernel is the set of each prefix that has the kernel.
use Rattle.item_sets.proofs.Std.{◌≡◌, ◌<◌, ℕ, zero, suc, List, [], ◌∷◌, Option, Some, None, sym, ap, subst, length, take, drop, All, Contains, IfSome}
use Rattle.item_sets.proofs.Common.{Symbol, Nonterminal, Grammar, HasProduction, trees, left_of, right_of, AllProductive, LrItem, IsValid}
use Rattle.item_sets.proofs.Common.{IsFirst, ByRules, Close, rules_valid, valid_rules, closed_set, IsKernel, right_trees, roots-trees, HasTrees, first_of_rules, first_by_rules, Shape, IsSound, MayFollow, has_production, production_is, production_below}
use Rattle.item_sets.proofs.Common.{Item, side, item_of, IsItem, IsIn, Kernel, Closed, HasKernel, HasSet}
use Rattle.item_sets.proofs.InRange.{in_known}

module _ (g : Grammar) where
  drop_trees : (n : ℕ) (ss : List Symbol) → HasTrees g ss → HasTrees g (drop n ss)
  drop_trees zero ss h = h
  drop_trees (suc n) [] h = h
  drop_trees (suc n) (s ∷ ss) ([], h) = absurd h
  drop_trees (suc n) (s ∷ ss) (t ∷ ts, h) = drop_trees n ss (ts, h.1)

  tail_trees : (s : Symbol) (ss : List Symbol) → HasTrees g (s ∷ ss) → HasTrees g ss
  tail_trees s ss ([], h) = absurd h
  tail_trees s ss (t ∷ ts, h) = (ts, h.1)

  left_production : (p n : ℕ) → p < length g.productions → left_of g p ≡ n → HasProduction g p n (right_of g p)
  left_production p n l e = subst (λ m. HasProduction g p m (right_of g p)) e (has_production g p l)

module _ (g : Shape) (sound : IsSound g) (productive : AllProductive g.grammar) where
  side_trees : (q : Option ℕ) → IfSome q (λ p. p < length g.grammar.productions) → HasTrees g.grammar (side g.grammar q)
  side_trees None h = (productive.start.0 ∷ [], (productive.start.1, tt))
  side_trees (Some p) h = let r = right_trees g.grammar productive (Some p) (Some (left_of g.grammar p)) (right_of g.grammar p) (has_production g.grammar p h) in
      (trees r.0, roots-trees g.grammar r.0 (right_of g.grammar p) r.1)

  module _ (kernel : List Item) (items : All (IsItem g) kernel) (prefix : List Symbol) (h : HasKernel g.grammar kernel prefix) where
    pub in_rules : {i : Item} → IsIn g.grammar kernel i → ByRules g.grammar prefix (item_of g.grammar i)
    in_rules (Kernel {i = i} c) = valid_rules g.grammar prefix (item_of g.grammar i) (h.sound i c)
    in_rules (Closed {i = i} n rest p a x e l s m) =
        let k = in_known g sound kernel items x in
        let has = tail_trees g.grammar (Nonterminal n) rest (subst (HasTrees g.grammar) e (drop_trees g.grammar i.at (side g.grammar i.production) (side_trees i.production k.production))) in
        Close (subst (λ after. ByRules g.grammar prefix (record { production = i.production; before = take i.at (side g.grammar i.production); after = after; look = i.look })) e
        (in_rules x)) (left_production g.grammar p n l s) (first_of_rules g.grammar productive rest i.look a has m)

    -- each item of the set is valid for the prefix
    pub set_sound : (i : Item) → IsIn g.grammar kernel i → IsValid g.grammar prefix (item_of g.grammar i)
    set_sound i x = rules_valid g.grammar (in_rules x)

    -- and each valid item is there
    pub set_complete : (k : LrItem) → IsValid g.grammar prefix k → (i : Item) × IsIn g.grammar kernel i × (item_of g.grammar i ≡ k)
    set_complete k v = closed_set g.grammar There closed (valid_rules g.grammar prefix k v) begin
      where
        There : LrItem → Type 0
        There k = (i : Item) × IsIn g.grammar kernel i × (item_of g.grammar i ≡ k)

        begin : (k : LrItem) → IsKernel k → ByRules g.grammar prefix k → (i : Item) × IsIn g.grammar kernel i × (item_of g.grammar i ≡ k)
        begin k is r = let x = h.complete k is (rules_valid g.grammar r) in (x.0, Kernel x.1, x.2)

        closed : (q : Option ℕ) (before : List Symbol) (n : ℕ) (after : List Symbol) (look : Option ℕ) (p : ℕ) (right : List Symbol) (a : Option ℕ)
            → ((i : Item) × IsIn g.grammar kernel i × (item_of g.grammar i ≡ record { production = q; before = before; after = Nonterminal n ∷ after; look = look }))
            → HasProduction g.grammar p n right → IsFirst g.grammar after look a → (i : Item) × IsIn g.grammar kernel i
            × (item_of g.grammar i ≡ record { production = Some p; before = []; after = right; look = a })
        closed q before n after look p right a x hp f =
            let is = production_is g.grammar p n right hp in
            let l = production_below g.grammar p n right hp in
            let left : left_of g.grammar p ≡ n = ap (λ y. y.left) is in
            let same : right_of g.grammar p ≡ right = ap (λ y. y.right) is in
            let m = subst (λ y. MayFollow g.grammar after y a) (sym (ap (λ y. y.look) x.2)) (first_by_rules g.grammar after look a f) in (
              record { production = Some p; at = 0; look = a },
              Closed n after p a x.1 (ap (λ y. y.after) x.2) l left m,
              ap (λ y. record { production = Some p; before = []; after = y; look = a }) same,
            )

    pub set_of : (all : List Item) → ((i : Item) → Contains all i → IsIn g.grammar kernel i) → ((i : Item) → IsIn g.grammar kernel i → Contains all i) → HasSet g.grammar all prefix
    set_of all each every = record { sound = λ i c. set_sound i (each i c); complete = λ k v. let x = set_complete k v in (x.0, every x.0 x.1, x.2) }
