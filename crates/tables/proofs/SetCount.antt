-- The number of sets: as many as there are states.
use Rattle.tables.proofs.Std.{◌≡◌, ◌≢◌, ◌<◌, ◌≤◌, ℕ, zero, suc, true, List, [], ◌∷◌, All, Contains, length, slice_index_or, refl, sym, ap, ◌∙◌, subst, inl, inr, AllPairs, list_any}
use Rattle.tables.proofs.Std.{arith, eqb, Decides-eqb, eqb-true, get_or_default, length-take-le, All-head, All-tail, Any-from_list_any, IsDistinct-from_AllPairs, length-le_from_distinct_below}
use Rattle.tables.proofs.Common.{Symbol, HasItem, HaveSameItems, HasMoreSetsThan, AllProductive, IsKernel, Item, kernel_at, IsReached, Found, AreStates, IsOrdered, HasSteps, Shape, IsSound, IsInside, side, item_of, IsItem, HasKernel, start_item, same_sets, rising_same}
use Rattle.tables.proofs.AllSets.{all_stand}

-- what holds of two first elements, and of the elements of two lists at each place, holds with the first ones in front
in_front : {A B : Type 0} (R : A → B → Type 0) (x : A) (y : B) (xs : List A) (ys : List B) → R x y → ((k : ℕ) (d : A) (z : B) → k < length xs → R (slice_index_or xs k d) (slice_index_or ys k z))
    → (k : ℕ) (d : A) (z : B) → k < length (x ∷ xs) → R (slice_index_or (x ∷ xs) k d) (slice_index_or (y ∷ ys) k z)
in_front R x y xs ys first rest zero d z l = first
in_front R x y xs ys first rest (suc k) d z l = rest k d z (omega (arith, l))

-- where there is something for each element, there is a list of these
one_for_each : {A B : Type 0} (R : A → B → Type 0) (xs : List A) → All (λ x. (y : B) × R x y) xs → (ys : List B) × (length ys ≡ length xs)
    × ((k : ℕ) (d : A) (z : B) → k < length xs → R (slice_index_or xs k d) (slice_index_or ys k z))
one_for_each R [] h = ([], refl, λ k d z l. absurd (omega (arith, l)))
one_for_each {B = B} R (x ∷ xs) h =
    let first = All-head (λ x. (y : B) × R x y) x xs h in
    let rest = one_for_each R xs (All-tail (λ x. (y : B) × R x y) x xs h) in
    (first.0 ∷ rest.0, ap suc rest.1, in_front R x first.0 xs rest.0 first.1 rest.2)

module _ (g : Shape) where
  before_long : (i : Item) → IsItem g i → length (item_of g.grammar i).before ≡ i.at
  before_long i h = length-take-le i.at (side g.grammar i.production) h.at

  item_back : (i j : Item) → IsItem g i → IsItem g j → item_of g.grammar i ≡ item_of g.grammar j → i ≡ j
  item_back i j h k e =
      let dot : i.at ≡ j.at = sym (before_long i h) ∙ ap (λ x. length x.before) e ∙ before_long j k in
      λ n. record { production = (ap (λ x. x.production) e) n; at = dot n; look = (ap (λ x. x.look) e) n }

  inside_kernel : (i : Item) → IsItem g i → IsInside i → IsKernel (item_of g.grammar i)
  inside_kernel i h (inl e) = inl e
  inside_kernel i h (inr l) = inr (λ e. let n = before_long i h in let z = ap length e in absurd (omega (arith, l, n, z)))

  -- the items of a kernel are in each kernel of the same set
  kernel_within : (one two : List Item) (p q : List Symbol) → HasKernel g.grammar one p → HasKernel g.grammar two q → HaveSameItems g.grammar p q
      → IsOrdered g one → IsOrdered g two → (i : Item) → Contains one i → Contains two i
  kernel_within one two p q h k same a b i c =
      let known : IsItem g i = subst (IsItem g) c.2 (a.known c.0 i c.1) in
      let inside : IsInside i = subst IsInside c.2 (a.inside c.0 i c.1) in
      let x = k.complete (item_of g.grammar i) (inside_kernel i known inside) ((same (item_of g.grammar i)).0 (h.sound i c)) in
      let there : IsItem g x.0 = subst (IsItem g) x.1.2 (b.known x.1.0 x.0 x.1.1) in
      subst (Contains two) (item_back x.0 i there known x.2) x.1

  -- a set has one kernel in order
  pub same_kernel : (one two : List Item) (p q : List Symbol) → HasKernel g.grammar one p → HasKernel g.grammar two q → HaveSameItems g.grammar p q → IsOrdered g one → IsOrdered g two → one ≡ two
  same_kernel one two p q h k same a b = rising_same one two a.rising b.rising (kernel_within one two p q h k same a b) (kernel_within two one q p k h (λ i. ((same i).1, (same i).0)) b a)

  -- more states than a limit are more sets
  pub more_sets : (t : Found) → AreStates g t → (limit : ℕ) → limit < length t.kernels → HasMoreSetsThan g.grammar limit
  more_sets t h limit l =
      let reached : All (λ k. (p : List Symbol) × (HasKernel g.grammar k p × HasItem g.grammar p)) t.kernels =
      λ s d b. let x = subst (IsReached g.grammar) (get_or_default t.kernels s [] d b) (h.reached s b) in (x.0, (x.1, x.2)) in
      let r = one_for_each (λ k p. HasKernel g.grammar k p × HasItem g.grammar p) t.kernels reached in
      let n = r.1 in (
        r.0,
        omega (arith, l, n),
        (λ s d b. (r.2 s [] d (omega (arith, b, n))).1),
        (λ s u d b c same. h.distinct u (omega (arith, c, n)) s b (same_kernel (kernel_at t.kernels s) (kernel_at t.kernels u) (slice_index_or r.0 s d)
            (slice_index_or r.0 u d) (r.2 s [] d (omega (arith, b, c, n))).0 (r.2 u [] d (omega (arith, c, n))).0 same (h.ordered s (omega (arith, b, c, n))) (h.ordered u (omega (arith, c, n))))),
      )

  module _ (sound : IsSound g) (productive : AllProductive g.grammar) (kernels : List (List Item)) (known : (s : ℕ) → s < length kernels → All (IsItem g) (kernel_at kernels s))
      (begins : 0 < length kernels) (start : kernel_at kernels 0 ≡ start_item ∷ []) (steps : (s : ℕ) → s < length kernels → HasSteps g kernels s) where
    -- the state of a prefix
    abbrev IsAt : List Symbol → ℕ → Type 0
    IsAt p s = (s < length kernels) × ((two : List Symbol) × HasKernel g.grammar (kernel_at kernels s) two × HaveSameItems g.grammar p two)

    state_of : (p : List Symbol) → HasItem g.grammar p → (s : ℕ) × IsAt p s
    state_of p has = let x = all_stand g sound productive kernels known begins start steps p has in (x.1.state, (x.1.below, (x.0, x.1.kernel, x.2)))

    same_at : (p q : List Symbol) (s : ℕ) → IsAt p s → IsAt q s → HaveSameItems g.grammar p q
    same_at p q s a b i =
        let k = same_sets g.grammar (kernel_at kernels s) a.1.0 b.1.0 a.1.1 b.1.1 i in
        ((λ v. (b.1.2 i).1 (k.0 ((a.1.2 i).0 v))), (λ v. (a.1.2 i).1 (k.1 ((b.1.2 i).0 v))))

    -- and there are no more sets than states
    pub no_more_sets : (limit : ℕ) → length kernels ≤ limit → HasMoreSetsThan g.grammar limit → ⊥
    no_more_sets limit l (ps, more, have, differ) =
        let x = one_for_each IsAt ps (λ k d b. state_of (slice_index_or ps k d) (have k d b)) in
        let n = x.1 in
        let apart : AllPairs (λ a b. a ≢ b) x.0 = λ i j z b c e. differ i j [] b (omega (arith, c, n))
        (same_at (slice_index_or ps i []) (slice_index_or ps j []) (slice_index_or x.0 i z) (x.2 i [] z (omega (arith, b, c, n)))
        (subst (IsAt (slice_index_or ps j [])) (sym e) (x.2 j [] z (omega (arith, c, n))))) in
        let below : (q : ℕ) → list_any (eqb q) x.0 ≡ true → q < length kernels = λ q e. let a = Any-from_list_any (eqb q) x.0 e in
        subst (λ y. y < length kernels) (a.3 ∙ sym (eqb-true q a.1 a.4)) (x.2 a.0 [] a.1 (let b = a.2 in omega (arith, b, n))).0 in
        let few = length-le_from_distinct_below x.0 (length kernels) (IsDistinct-from_AllPairs Decides-eqb x.0 apart) below in
        absurd (omega (arith, few, more, n, l))
