-- The items go on by one beginning, by one column or by one production.
use Rattle.item_sets.proofs.Std.{◌≡◌, ◌+◌, ◌<◌, ◌≤◌, ℕ, Bool, true, false, List, [], ◌∷◌, ◌++◌, length, slice_index_or, refl, Contains, sym, subst, inl, inr, ⊎_elim, arith, cases_eq, cases_lt, All-push, Contains-push, Contains-push_cases, Contains-append_left, all_pairs_push}
use Rattle.item_sets.proofs.Common.{left_of, Shape, Item, marked, beginning_of, HaveBeginnings, Below, IsBefore, rank-lookahead_at}
use Rattle.item_sets.proofs.Ordered.{before_below, before_more, before_next}

module _ (g : Shape) (kernel : List Item) (rows : List (List Bool)) (p k : ℕ) (items : List Item) (h : HaveBeginnings g kernel rows p k items) where
  abbrev new : List Item
  new = items ++ beginning_of p k ∷ []

  pub one_more : p < length g.grammar.productions → marked rows (left_of g.grammar p) k ≡ true → HaveBeginnings g kernel rows p (k + 1) new
  one_more l on = record {
    rising = all_pairs_push Below items (beginning_of p k) h.rising (λ j d m. before_below p k (slice_index_or items j d) (h.before j d m));
    before = All-push (IsBefore p (k + 1)) items (beginning_of p k) (λ j d m. before_more p k (slice_index_or items j d) (h.before j d m))
        (inr (refl, inr (refl, let r = rank-lookahead_at k in omega (arith, r))));
    kept = λ i c. later i (h.kept i c);
    added = λ q j b w m. ⊎_elim
        (λ lt. later (beginning_of q j) (h.added q j (inl lt) w m))
        (λ e. ⊎_elim (λ s. subst (λ x. Contains new (beginning_of x j)) (sym e.0) (subst (λ x. Contains new (beginning_of p x)) (sym s) (Contains-push items (beginning_of p k))))
        (λ o. let lt = e.1 in later (beginning_of q j) (h.added q j (inr (e.0, omega (arith, lt, o))) w m)) (cases_eq j k))
        b;
    only = λ i c. ⊎_elim (λ o. h.only i o) (λ e. inr (p, l, (k, on, e))) (Contains-push_cases items (beginning_of p k) i c);
  }
    where
      later : (i : Item) → Contains items i → Contains new i
      later i c = Contains-append_left items (beginning_of p k ∷ []) i c

  pub no_more : marked rows (left_of g.grammar p) k ≡ false → HaveBeginnings g kernel rows p (k + 1) items
  no_more off = record {
    rising = h.rising;
    before = λ i d l. before_more p k (slice_index_or items i d) (h.before i d l);
    kept = h.kept;
    added = λ q j b w m. ⊎_elim
        (λ lt. h.added q j (inl lt) w m)
        (λ e. ⊎_elim (λ s. absurd (let t : marked rows (left_of g.grammar p) k ≡ true = subst (λ x. marked rows (left_of g.grammar x) k ≡ true) e.0
        (subst (λ x. marked rows (left_of g.grammar q) x ≡ true) s m) in cc (t, off))) (λ o. let lt = e.1 in h.added q j (inr (e.0, omega (arith, lt, o))) w m) (cases_eq j k))
        b;
    only = h.only;
  }

  -- no further column of the production is marked
  pub next_production : ((j : ℕ) → k ≤ j → j < g.grammar.rules + 1 → marked rows (left_of g.grammar p) j ≡ true → ⊥) → HaveBeginnings g kernel rows (p + 1) 0 items
  next_production none = record {
    rising = h.rising;
    before = λ i d l. before_next p k (slice_index_or items i d) (h.before i d l);
    kept = h.kept;
    added = λ q j b w m. ⊎_elim
        (λ lt. ⊎_elim (λ e. ⊎_elim (λ l. h.added q j (inr (e, l)) w m) (λ l. absurd (none j l w (subst (λ x. marked rows (left_of g.grammar x) j ≡ true) e m))) (cases_lt j k))
        (λ o. h.added q j (inl (omega (arith, lt, o))) w m) (cases_eq q p))
        (λ e. absurd (let l = e.1 in omega (arith, l)))
        b;
    only = h.only;
  }
