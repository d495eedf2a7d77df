-- The first kernel, and prefixes with one kernel.
use Rattle.item_sets.proofs.Std.{◌≡◌, List, [], ◌∷◌, None, refl, subst, ⊎_elim, arith}
use Rattle.item_sets.proofs.Common.{Symbol, Grammar, LrItem, IsValid, HaveSameItems, Contains-cases, ByRules, Start, Goto, Close, rules_valid, valid_rules, kernel_shows, not_empty, IsKernel, Item, item_of, HasKernel}

abbrev pub start_item : Item
start_item = record { production = None; at = 0; look = None }

module _ (g : Grammar) where
  only_start : {full : List Symbol} {k : LrItem} → ByRules g full k → IsKernel k → full ≡ [] → item_of g start_item ≡ k
  only_start Start kernel e = refl
  only_start (Goto {prefix = one} {s = t} r) kernel e = absurd (not_empty g one t e)
  only_start (Close r h f) kernel e = absurd (⊎_elim (λ x. cc x) (λ x. x refl) kernel)

  -- the kernel of the empty prefix
  pub start_kernel : HasKernel g (start_item ∷ []) []
  start_kernel = record {
    sound = λ i c. ⊎_elim (λ e. subst (λ y. IsValid g [] (item_of g y)) e (rules_valid g Start)) (λ n. absurd (let l = n.1 in omega (arith, l))) (Contains-cases start_item [] i c);
    complete = λ k is v. (start_item, (0, omega arith, refl), only_start (valid_rules g [] k v) is refl);
  }

  one_way : (kernel : List Item) (one two : List Symbol) → HasKernel g kernel one → HasKernel g kernel two → (k : LrItem) → IsValid g one k → IsValid g two k
  one_way kernel one two h j k v =
      rules_valid g (kernel_shows g two (valid_rules g one k v) (λ m is r. let x = h.complete m is (rules_valid g r) in valid_rules g two m (subst (IsValid g two) x.2 (j.sound x.0 x.1))))

  -- prefixes with one kernel have one set
  pub same_sets : (kernel : List Item) (one two : List Symbol) → HasKernel g kernel one → HasKernel g kernel two → HaveSameItems g one two
  same_sets kernel one two h j k = ((λ v. one_way kernel one two h j k v), (λ v. one_way kernel two one j h k v))
