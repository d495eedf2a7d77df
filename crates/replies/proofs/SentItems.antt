-- What is sent of each item of a list, item by item.
use Rattle.replies.proofs.Std.{◌≡◌, ℕ, suc, ◌+◌, ◌<◌, ◌≤◌, List, [], ◌∷◌, length, drop, get_or, sym, ap, ◌∙◌, subst, Some, drop_more, drop_all, Log, Logs, seq_begins, seq_ends, Data, Items, no_items, item, array, items_len, SendsValue, SendsItems}

-- a sending of items, each by what `one` says of it
module _ {A : Type 0} (one : A → Data) (all : List A → Items) (none_left : all [] ≡ no_items) (one_left : (x : A) (xs : List A) → all (x ∷ xs) ≡ item (one x) (all xs)) where
  -- where the item at place k was sent, and then those after it, those from k on were sent
  pub sent_more : (xs : List A) (k : ℕ) (d : A) (before mid end : Log) → k < length xs → SendsValue (one (get_or xs k d)) before mid
      → SendsItems (all (drop (k + 1) xs)) mid end → SendsItems (all (drop k xs)) before end
  sent_more xs k d before mid end within first rest =
      subst (λ ds. SendsItems ds before end) (sym (ap all (drop_more xs k d within) ∙ one_left (get_or xs k d) (drop (k + 1) xs))) (mid, first, rest)

  len_of : (xs : List A) → items_len (all xs) ≡ length xs
  len_of [] = ap items_len none_left
  len_of (x ∷ xs) = ap items_len (one_left x xs) ∙ ap suc (len_of xs)

  -- the array of all of them, where whatever sends those from k on sends all, and there are none
  pub all_sent : (xs : List A) (k : ℕ) (old first before end : Log) → length xs ≤ k → Logs old first (seq_begins (Some (length xs))) → Logs before end seq_ends
      → ((e : Log) → SendsItems (all (drop k xs)) before e → SendsItems (all xs) first e) → SendsValue (array (all xs)) old end
  all_sent xs k old first before end past begun ended so_far = (
    first,
    subst (λ n. Logs old first (seq_begins (Some n))) (sym (len_of xs)) begun,
    so_far end (subst (λ ds. SendsItems ds before end) (sym (ap all (drop_all k xs past) ∙ none_left)) ended),
  )
