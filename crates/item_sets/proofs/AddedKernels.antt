-- Kernels that are added to the states.
use Rattle.item_sets.proofs.Std.{◌≡◌, ◌<◌, ◌≤◌, ◌⊎◌, ℕ, List, [], ◌∷◌, ◌++◌, length, slice_index_or, refl, sym, ap, ◌∙◌, subst, inl, inr, arith, length-append, cases_lt, get_or_append_left, All-cons, Contains-get_or, get_or-append_seam}
use Rattle.item_sets.proofs.Common.{each_more, Symbol, Terminal, Grammar, HasItem, Start, rules_valid, valid_rules, closed_set, Origin, Item, IsOrdered, kernel_at, origin_at, IsAbsent, Found, IsReached, IsLed, AreStates, Placed, GoesOn, Shape, IsSound, IsInside, IsItem, item_of, HasKernel}
use Rattle.item_sets.proofs.FirstKernel.{start_item, start_kernel}

abbrev none : Origin
none = record { from = 0; symbol = Terminal 0 }

module _ (g : Shape) where
  start_ordered : IsOrdered g (start_item ∷ [])
  start_ordered = record {
    known = All-cons (IsItem g) start_item [] (record { production = tt; at = omega arith; look = tt }) (λ k d l. absurd (omega (arith, l)));
    inside = All-cons IsInside start_item [] (inl refl) (λ k d l. absurd (omega (arith, l)));
    rising = λ i j d l m. absurd (omega (arith, l, m));
  }

  pub start_reached : IsReached g.grammar (start_item ∷ [])
  start_reached = ([], start_kernel g.grammar, (item_of g.grammar start_item, rules_valid g.grammar Start))

  -- the state of the empty prefix alone
  pub start_states : IsSound g → (o : Origin) → AreStates g (record { kernels = (start_item ∷ []) ∷ []; origins = o ∷ [] })
  start_states sound o = record {
    sound = sound;
    begins = omega arith;
    start = refl;
    ordered = λ s l. let e : s ≡ 0 = omega (arith, l) in subst (λ n. IsOrdered g (kernel_at ((start_item ∷ []) ∷ []) n)) (sym e) start_ordered;
    reached = λ s l. let e : s ≡ 0 = omega (arith, l) in subst (λ n. IsReached g.grammar (kernel_at ((start_item ∷ []) ∷ []) n)) (sym e) start_reached;
    distinct = λ s l r m e. absurd (omega (arith, l, m));
    long = refl;
    led = λ s p l. absurd (omega (arith, p, l));
  }

  pub placed_goes_on : (old new : Found) (kernel : List Item) (from : ℕ) (symbol : Symbol) → Placed old new kernel from symbol → GoesOn old.kernels new.kernels
  placed_goes_on old new kernel from symbol (inl e) = let f = ap (λ t. length t.kernels) e in record { longer = omega (arith, f); same = λ s l. ap (λ t. kernel_at t.kernels s) e }
  placed_goes_on old new kernel from symbol (inr (k, o, a)) = let f = ap length k in let n = length-append old.kernels (kernel ∷ []) in record {
    longer = omega (arith, f, n);
    same = λ s l. ap (λ x. kernel_at x s) k ∙ get_or_append_left old.kernels (kernel ∷ []) [] s l;
  }

  module _ (old : Found) (h : AreStates g old) (kernel : List Item) (from : ℕ) (symbol : Symbol) (in_range : from < length old.kernels) (ordered : IsOrdered g kernel)
      (leads : (prefix : List Symbol) → HasKernel g.grammar (kernel_at old.kernels from) prefix → HasKernel g.grammar kernel (prefix ++ symbol ∷ [])) (nonempty : 0 < length kernel) where
    reached_next : IsReached g.grammar kernel
    reached_next =
        let r = h.reached from in_range in
        let k = leads r.0 r.1 in
        let i = slice_index_or kernel 0 start_item in
        (r.0 ++ symbol ∷ [], k, (item_of g.grammar i, k.sound i (Contains-get_or kernel 0 start_item nonempty)))

    abbrev more : Found
    more = record { kernels = old.kernels ++ kernel ∷ []; origins = old.origins ++ record { from = from; symbol = symbol } ∷ [] }

    seam : kernel_at more.kernels (length old.kernels) ≡ kernel
    seam = get_or-append_seam old.kernels kernel [] []

    stays : (s : ℕ) → s < length old.kernels → kernel_at more.kernels s ≡ kernel_at old.kernels s
    stays s l = get_or_append_left old.kernels (kernel ∷ []) [] s l

    -- a state was reached from an earlier one, as it is kept
    led_at : (s : ℕ) (o : Origin) (k : List Item) → origin_at more.origins s ≡ o → kernel_at more.kernels s ≡ k → o.from < s → o.from < length old.kernels
        → ((prefix : List Symbol) → HasKernel g.grammar (kernel_at old.kernels o.from) prefix → HasKernel g.grammar k (prefix ++ o.symbol ∷ [])) → IsLed g.grammar more s
    led_at s o k o_is k_is earlier within leads = record {
      earlier = subst (λ y. y.from < s) (sym o_is) earlier;
      leads = λ prefix h. subst (λ y. HasKernel g.grammar y (prefix ++ (origin_at more.origins s).symbol ∷ [])) (sym k_is)
          (subst (λ y. HasKernel g.grammar k (prefix ++ y.symbol ∷ [])) (sym o_is)
          (leads prefix (subst (λ y. HasKernel g.grammar y prefix) (stays o.from within) (subst (λ y. HasKernel g.grammar (kernel_at more.kernels y.from) prefix) o_is h))));
    }

    led_more : (s : ℕ) → 0 < s → s < length more.kernels → IsLed g.grammar more s
    led_more s p l =
        let n = length-append old.kernels (kernel ∷ []) in
        let long = h.long in
        elim (cases_lt s (length old.kernels)) [
          | inl b ↦
              let x = h.led s p b in
              let e = x.earlier in
              led_at s (origin_at old.origins s) (kernel_at old.kernels s)
              (get_or_append_left old.origins (record { from = from; symbol = symbol } ∷ []) none s (omega (arith, b, long))) (stays s b) e (omega (arith, e, b)) x.leads
          | inr b ↦
              let at : s ≡ length old.origins = omega (arith, l, n, b, long) in
              led_at s (record { from = from; symbol = symbol }) kernel (ap (origin_at more.origins) at ∙ get_or-append_seam old.origins (record { from = from; symbol = symbol }) [] none)
              (ap (kernel_at more.kernels) (at ∙ long) ∙ seam) (omega (arith, in_range, b)) in_range leads
        ]

    distinct_more : IsAbsent old.kernels kernel → (s : ℕ) → s < length more.kernels → (r : ℕ) → r < s → kernel_at more.kernels r ≡ kernel_at more.kernels s → ⊥
    distinct_more absent s l r m e =
        let n = length-append old.kernels (kernel ∷ []) in
        elim (cases_lt s (length old.kernels)) [
          | inl b ↦ h.distinct s b r m (sym (stays r (omega (arith, m, b))) ∙ e ∙ stays s b)
          | inr b ↦ let at : s ≡ length old.kernels = omega (arith, l, n, b) in let rb : r < length old.kernels =
              omega (arith, m, at) in absent r rb (sym (stays r rb) ∙ e ∙ ap (kernel_at more.kernels) at ∙ seam)
        ]

    more_states : IsAbsent old.kernels kernel → AreStates g more
    more_states absent =
        let n = length-append old.kernels (kernel ∷ []) in
        let m = length-append old.origins (record { from = from; symbol = symbol } ∷ []) in
        let begins = h.begins in
        let long = h.long in
        record {
          sound = h.sound;
          begins = omega (arith, n, begins);
          start = stays 0 h.begins ∙ h.start;
          ordered = each_more (λ _ k. IsOrdered g k) old.kernels kernel [] h.ordered ordered;
          reached = each_more (λ _ k. IsReached g.grammar k) old.kernels kernel [] h.reached reached_next;
          distinct = distinct_more absent;
          long = omega (arith, n, m, long);
          led = led_more;
        }

    pub placed_states : (new : Found) → Placed old new kernel from symbol → AreStates g new
    placed_states new (inl e) = subst (AreStates g) (sym e) h
    placed_states new (inr (k, o, a)) =
        let same : more ≡ new = λ i. record { kernels = sym k i; origins = sym o i } in
        subst (AreStates g) same (more_states a)

-- a prefix with an empty kernel has no item
pub no_item : (g : Grammar) (kernel : List Item) (prefix : List Symbol) → length kernel ≤ 0 → HasKernel g kernel prefix → HasItem g prefix → ⊥
no_item g kernel prefix empty h (i, v) = closed_set g (λ _. ⊥) (λ q before n after look p right a none production follows. none) (valid_rules g prefix i v)
    (λ k is r. let l = (h.complete k is (rules_valid g r)).1.1 in absurd (omega (arith, l, empty)))

pub first_placed : (old new : List (List Item)) (kernel : List Item) (s : ℕ) → old ≡ [] → kernel ≡ start_item ∷ [] → (new ≡ old)
    ⊎ ((new ≡ old ++ kernel ∷ []) × IsAbsent old kernel) → s < length new → new ≡ (start_item ∷ []) ∷ []
first_placed old new kernel s e k (inl f) l = let n = ap length (f ∙ e) in absurd (omega (arith, l, n))
first_placed old new kernel s e k (inr (f, a)) l = f ∙ (λ i. e i ++ k i ∷ [])
