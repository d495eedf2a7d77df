-- The kernel after a symbol is that of the longer prefix.
use Rattle.item_sets.proofs.Std.{◌≡◌, ◌+◌, ◌<◌, ℕ, zero, suc, List, [], ◌∷◌, ◌++◌, Some, refl, sym, ap, ◌∙◌, subst, length, take, drop, Contains, arith, tail-eq_of_cons-eq}
use Rattle.item_sets.proofs.Common.{Symbol, Grammar, first, LrItem, IsValid, ByRules, Goto, rules_valid, valid_rules, Back, goto_back, Item, Shape, side, after_dot, item_of, IsItem, HasKernel, HasSet, Shifted, step}

pub record Parts (n m : ℕ) (ss : List Symbol) (s : Symbol) : Type 0 where
  pub rest : List Symbol
  pub here : drop n ss ≡ s ∷ rest
  pub before : take m ss ≡ take n ss ++ (s ∷ [])
  pub after : drop m ss ≡ rest
  pub below : n < length ss

parts_from : (n : ℕ) (ss : List Symbol) (s : Symbol) → first (drop n ss) ≡ Some s → Parts n (suc n) ss s
parts_from zero [] s e = absurd (cc e)
parts_from zero (x ∷ ss) s e = let k : x ≡ s = cc e in record { rest = ss; here = ap (λ y. y ∷ ss) k; before = ap (λ y. y ∷ []) k; after = refl; below = omega arith }
parts_from (suc n) [] s e = absurd (cc e)
parts_from (suc n) (x ∷ ss) s e =
    let p = parts_from n ss s e in
    let l = p.below in
    record { rest = p.rest; here = p.here; before = ap (λ y. x ∷ y) p.before; after = p.after; below = omega (arith, l) }

pub parts : (n : ℕ) (ss : List Symbol) (s : Symbol) → first (drop n ss) ≡ Some s → Parts n (n + 1) ss s
parts n ss s e = let next : suc n ≡ n + 1 = omega arith in subst (λ m. Parts n m ss s) next (parts_from n ss s e)

module _ (g : Shape) where
  pub step_known : (i : Item) (s : Symbol) → IsItem g i → first (after_dot g.grammar i) ≡ Some s → IsItem g (step i)
  step_known i s h e = let l = (parts i.at (side g.grammar i.production) s e).below in record { production = h.production; at = omega (arith, l); look = h.look }

module _ (g : Grammar) where
  module _ (items kernel : List Item) (s : Symbol) (prefix : List Symbol) (sh : Shifted g items s kernel) (set : HasSet g items prefix) where
    step_valid : (j : Item) → Contains items j → first (after_dot g j) ≡ Some s → IsValid g (prefix ++ (s ∷ [])) (item_of g (step j))
    step_valid j c f =
        let p = parts j.at (side g j.production) s f in
        let r = subst (λ y. ByRules g prefix (record { production = j.production; before = take j.at (side g j.production); after = y; look = j.look })) p.here
        (valid_rules g prefix (item_of g j) (set.sound j c)) in
        rules_valid g (subst (λ y. ByRules g (prefix ++ (s ∷ [])) (record { production = j.production; before = y; after = drop (j.at + 1) (side g j.production); look = j.look }))
        (sym p.before) (subst (λ y. ByRules g (prefix ++ (s ∷ [])) (record { production = j.production; before = take j.at (side g j.production) ++ (s ∷ []); after = y; look = j.look }))
        (sym p.after) (Goto r)))

    step_is : (k : LrItem) (b : Back g prefix s k) (j : Item) → item_of g j ≡ b.from → first (after_dot g j) ≡ Some s → item_of g (step j) ≡ k
    step_is k b j e f =
        let p = parts j.at (side g j.production) s f in
        let rest : p.rest ≡ b.rest = tail-eq_of_cons-eq (sym p.here ∙ ap (λ y. y.after) e ∙ b.after) in
        let production : j.production ≡ b.from.production = ap (λ y. y.production) e in
        let fore : take (j.at + 1) (side g j.production) ≡ b.from.before ++ (s ∷ []) = p.before ∙ ap (λ y. y.before ++ (s ∷ [])) e in
        let back : drop (j.at + 1) (side g j.production) ≡ b.rest = p.after ∙ rest in
        let look : j.look ≡ b.from.look = ap (λ y. y.look) e in
        let same : item_of g (step j) ≡ record { production = b.from.production; before = b.from.before ++ (s ∷ []); after = b.rest; look = b.from.look } =
        λ i. record { production = production i; before = fore i; after = back i; look = look i } in
        same ∙ b.is

    pub moved : HasKernel g kernel (prefix ++ (s ∷ []))
    moved = record {
      sound = λ i c. let x = sh.each i c in subst (λ y. IsValid g (prefix ++ (s ∷ [])) (item_of g y)) x.3 (step_valid x.0 x.1 x.2);
      complete = λ k is v.
          let b = goto_back g (valid_rules g (prefix ++ (s ∷ [])) k v) is prefix s refl in
          let x = set.complete b.from (rules_valid g b.rules) in
          let f : first (after_dot g x.0) ≡ Some s = ap (λ y. first y.after) x.2 ∙ ap first b.after in
          (step x.0, sh.all x.0 x.1 f, step_is k b x.0 x.2 f);
    }
