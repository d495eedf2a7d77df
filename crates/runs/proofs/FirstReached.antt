-- The first item at which a goal is reached, where the run with it is known.
use Rattle.runs.proofs.Std.{nought, suc, ◌<◌, ◌⊎◌, Bool, true, false, cases_lt, false≢true, take-append-le, take-append-drop, take_all, take-append-add, ◌≡◌, ℕ, ◌+◌, ◌-◌, ◌≤◌, List, ◌++◌, length, take, drop, slice_get, Some, arith, refl, sym, ap, subst, inl, inr, ◌∙◌, length-append}
use Rattle.runs.proofs.Common.{MonoidLaws, total, IsLeast, total-append, not_earlier, Counted, most, flattened, prefix-more, whole_at}
use Rattle.runs.proofs.Totals.{prefix, all_of, total-sum, items_before}

-- i is the least number of items that go before the one at which the goal is reached
pub record IsFound {A S : Type 0} (zero : S) (op : S → S → S) (measure : A → S) (reached : S → Bool) (items : List A) (i : ℕ) (sum : S) : Type 0 where
  pub within : i ≤ length items
  pub before : sum ≡ total zero op measure (take i items)
  pub not_before : (k : ℕ) → k < i → reached (total zero op measure (take (k + 1) items)) ≡ false
  pub reached_at : i < length items → reached (total zero op measure (take (i + 1) items)) ≡ true

module _ {A S : Type 0} {zero : S} {op : S → S → S} (measure : A → S) (laws : MonoidLaws zero op) (reached : S → Bool) (stays : (s r : S) → reached s ≡ true → reached (op s r) ≡ true)
    (runs : List (List A)) (place : ℕ) (none_before : (k : ℕ) → k < place → reached (total zero op measure (prefix runs (k + 1))) ≡ false) where
  abbrev tot : List A → S
  tot items = total zero op measure items

  -- a shorter prefix of what does not reach the goal does not
  shorter : (xs ys : List A) → reached (tot (xs ++ ys)) ≡ false → reached (tot xs) ≡ false
  shorter xs ys low = not_earlier measure laws reached stays (tot xs) (tot ys) (sym (ap reached (total-append measure laws xs ys)) ∙ low)

  no_prefix : (p k : ℕ) → p ≡ place → k < length (prefix runs p) → reached (tot (prefix runs p)) ≡ false
  no_prefix nought k e l = absurd (omega (arith, l))
  no_prefix (suc p) k e l =
      let same : p + 1 ≡ suc p = omega arith in
      ap (λ n. reached (tot (prefix runs n))) (sym same) ∙ none_before p (omega (arith, e))

  before_it : (k : ℕ) → k < length (prefix runs place) → reached (tot (take (k + 1) (prefix runs place))) ≡ false
  before_it k l =
      let whole : take (k + 1) (prefix runs place) ++ drop (k + 1) (prefix runs place) ≡ prefix runs place = take-append-drop (k + 1) (prefix runs place) in
      shorter (take (k + 1) (prefix runs place)) (drop (k + 1) (prefix runs place)) (ap (λ t. reached (tot t)) whole ∙ no_prefix place k refl l)

  -- no run reaches it
  pub found_none : place ≡ length runs → IsFound zero op measure reached (flattened runs) (length (flattened runs)) (tot (flattened runs))
  found_none e =
      let all : prefix runs place ≡ flattened runs = ap flattened (take_all place runs (omega (arith, e))) in
      record {
        within = omega arith;
        before = ap tot (sym (take_all (length (flattened runs)) (flattened runs) (omega arith)));
        not_before = λ k l. subst (λ (t : List A). reached (tot (take (k + 1) t)) ≡ false) all (before_it k (omega (arith, l, ap length all)));
        reached_at = λ l. absurd (omega (arith, l));
      }

  module _ (run : List A) (at : Some run ≡ slice_get runs place) (some : 1 ≤ length run) (i : ℕ) (s : S) (high : reached (tot (prefix runs (place + 1))) ≡ true)
      (least : IsLeast zero op measure reached (tot (prefix runs place)) run i s) where
    -- a prefix that ends in the run
    taken : (j : ℕ) → j ≤ length run → take (length (prefix runs place) + j) (flattened runs) ≡ prefix runs place ++ take j run
    taken j l =
        ap (take (length (prefix runs place) + j)) (sym (whole_at (λ r. r) runs place run at))
        ∙ take-append-add (prefix runs place) (run ++ flattened (drop (place + 1) runs)) j
        ∙ ap (λ q. prefix runs place ++ q) (take-append-le j run (flattened (drop (place + 1) runs)) l)

    sum_to : (j : ℕ) → j ≤ length run → tot (take (length (prefix runs place) + j) (flattened runs)) ≡ op (tot (prefix runs place)) (tot (take j run))
    sum_to j l = ap tot (taken j l) ∙ total-append measure laws (prefix runs place) (take j run)

    -- the whole run reaches it
    in_run : i < length run
    in_run = go (cases_lt i (length run))
      where
        go : (i < length run) ⊎ (length run ≤ i) → i < length run
        go (inl l) = l
        go (inr l) =
            let whole : take (length run - 1 + 1) run ≡ run = take_all (length run - 1 + 1) run (omega (arith, some)) in
            let low : reached (op (tot (prefix runs place)) (tot run)) ≡ false = ap (λ t. reached (op (tot (prefix runs place)) (tot t))) (sym whole)
            ∙ least.not_before (length run - 1) (omega (arith, l, some)) in
            let same : tot (prefix runs (place + 1)) ≡ op (tot (prefix runs place)) (tot run) = ap tot (prefix-more (λ r. r) runs place run at) ∙ total-append measure laws (prefix runs place) run in
            absurd (false≢true (sym low ∙ ap reached (sym same) ∙ high))

    length_all : length (flattened runs) ≡ length (prefix runs place) + (length run + length (flattened (drop (place + 1) runs)))
    length_all =
        sym (ap length (whole_at (λ r. r) runs place run at)) ∙ length-append (prefix runs place) (run ++ flattened (drop (place + 1) runs))
        ∙ ap (λ n. length (prefix runs place) + n) (length-append run (flattened (drop (place + 1) runs)))

    pub found_in : IsFound zero op measure reached (flattened runs) (length (prefix runs place) + i) s
    found_in = record {
      within = omega (arith, length_all, in_run);
      before = least.sum_is ∙ sym (sum_to i (omega (arith, in_run)));
      not_before = λ k l. elim (cases_lt k (length (prefix runs place))) [
        | inl m ↦
            let short : take (k + 1) (flattened runs) ≡ take (k + 1) (prefix runs place) =
            ap (take (k + 1)) (sym (whole_at (λ r. r) runs place run at)) ∙ take-append-le (k + 1) (prefix runs place) (run ++ flattened (drop (place + 1) runs)) (omega (arith, m)) in
            ap (λ t. reached (tot t)) short ∙ before_it k m
        | inr m ↦
            let j : ℕ = k - length (prefix runs place) in
            let same : k + 1 ≡ length (prefix runs place) + (j + 1) = omega (arith, m) in
            ap (λ n. reached (tot (take n (flattened runs)))) same ∙ ap reached (sum_to (j + 1) (omega (arith, l, m, in_run))) ∙ least.not_before j (omega (arith, l, m))
      ];
      reached_at = λ l.
          let same : length (prefix runs place) + i + 1 ≡ length (prefix runs place) + (i + 1) = omega arith in
          ap (λ n. reached (tot (take n (flattened runs)))) same ∙ ap reached (sum_to (i + 1) (omega (arith, in_run))) ∙ least.reached_at in_run;
    }

-- what is found among runs is found in the list `list` of their items
module _ {A S : Type 0} {zero : S} {op : S → S → S} (measure : A → S) (laws : MonoidLaws zero op) (reached : S → Bool) (stays : (s r : S) → reached s ≡ true → reached (op s r) ≡ true)
    (runs : List (List A)) (list : List A) (view : flattened runs ≡ list) (few : length (flattened runs) ≤ most) (place : ℕ) (before : Counted S)
    (is : before ≡ all_of measure laws (take place runs)) (low : (k : ℕ) → k < place → reached (all_of measure laws (take (k + 1) runs)).sum ≡ false) where
  low_items : (k : ℕ) → k < place → reached (total zero op measure (prefix runs (k + 1))) ≡ false
  low_items k l = ap reached (sym (total-sum measure laws (take (k + 1) runs))) ∙ low k l

  pub items_are : before.items ≡ length (prefix runs place)
  items_are = ap (λ s. s.items) is ∙ items_before measure laws runs few 0 place

  sum_is : before.sum ≡ total zero op measure (prefix runs place)
  sum_is = ap (λ s. s.sum) is ∙ total-sum measure laws (take place runs)

  moved : (m n : ℕ) (s t : S) → n ≡ m → t ≡ s → IsFound zero op measure reached (flattened runs) m s → IsFound zero op measure reached list n t
  moved m n s t e f found =
      subst (λ (xs : List A). IsFound zero op measure reached xs n t) view (subst (λ (k : ℕ). IsFound zero op measure reached (flattened runs) k t)
      (sym e) (subst (λ (r : S). IsFound zero op measure reached (flattened runs) m r) (sym f) found))

  pub located_none : place ≡ length runs → IsFound zero op measure reached list before.items before.sum
  located_none e =
      let all : prefix runs place ≡ flattened runs = ap flattened (take_all place runs (omega (arith, e))) in
      moved (length (flattened runs)) before.items (total zero op measure (flattened runs)) before.sum (items_are ∙ ap length all)
      (sum_is ∙ ap (total zero op measure) all) (found_none measure laws reached stays runs place low_items e)

  module _ (run : List A) (at : Some run ≡ slice_get runs place) (high : reached (all_of measure laws (take (place + 1) runs)).sum ≡ true) (items : List A)
      (same : items ≡ run) (some : 1 ≤ length items) (i : ℕ) (s : S) (least : IsLeast zero op measure reached before.sum items i s) where
    pub located_in : IsFound zero op measure reached list (before.items + i) s
    located_in =
        let from : IsLeast zero op measure reached (total zero op measure (prefix runs place)) run i s = subst (λ (b : S). IsLeast zero op measure reached b run i s) sum_is
        (subst (λ (xs : List A). IsLeast zero op measure reached before.sum xs i s) same least) in
        moved (length (prefix runs place) + i) (before.items + i) s s (ap (λ n. n + i) items_are) refl
        (found_in measure laws reached stays runs place low_items run at (omega (arith, some, ap length same)) i s (ap reached (sym (total-sum measure laws (take (place + 1) runs))) ∙ high) from)
