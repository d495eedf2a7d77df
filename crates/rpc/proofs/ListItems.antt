-- What is read of each item of a list, item by item.
use Rattle.rpc.proofs.Std.{◌≡◌, ℕ, ◌+◌, ◌<◌, ◌≤◌, List, [], ◌∷◌, ◌++◌, length, drop, get_or, refl, sym, ap, ◌∙◌, Option, Some, None, option_map, at_drop_more, at_drop_all, append_assoc, append-nil, Value, Data, Items, no_items, item, view, items_view}
use Rattle.rpc.proofs.Common.{first_and}

-- a reading of items, where each item is read as `one` does
module _ {Y : Type 0} (one : Data → Option Y) (all : Items → Option (List Y)) (none_left : all no_items ≡ Some [])
    (one_left : (d : Data) (ds : Items) → all (item d ds) ≡ first_and (one d) (all ds)) where
  -- what is read of the values, where those before place k are read as ys
  abbrev remaining : List Y → ℕ → List Value → Option (List Y)
  remaining ys k values = option_map (λ rest. ys ++ rest) (all (items_view (drop k values)))

  at_item : (values : List Value) (k : ℕ) (v : Value) (o : Option Y) → k < length values → v ≡ get_or values k v → o ≡ one (view v)
      → all (items_view (drop k values)) ≡ first_and o (all (items_view (drop (k + 1) values)))
  at_item values k v o within is read =
      at_drop_more (λ l. all (items_view l)) values k v within
      ∙ ap (λ w. all (item (view w) (items_view (drop (k + 1) values)))) (sym is)
      ∙ one_left (view v) (items_view (drop (k + 1) values))
      ∙ ap (λ p. first_and p (all (items_view (drop (k + 1) values)))) (sym read)

  joined : (ys : List Y) (y : Y) (r : Option (List Y)) → option_map (λ rest. ys ++ rest) (first_and (Some y) r) ≡ option_map (λ rest. (ys ++ y ∷ []) ++ rest) r
  joined ys y None = refl
  joined ys y (Some rest) = ap (λ l. Some l) (simp append_assoc)

  pub read_more : (values : List Value) (k : ℕ) (v : Value) (y : Y) (before after : List Y) → k < length values → v ≡ get_or values k v → Some y ≡ one (view v)
      → after ≡ before ++ y ∷ [] → all (items_view values) ≡ remaining before k values → all (items_view values) ≡ remaining after (k + 1) values
  read_more values k v y before after within is read pushed so_far =
      so_far
      ∙ ap (option_map (λ rest. before ++ rest)) (at_item values k v (Some y) within is read)
      ∙ joined before y (all (items_view (drop (k + 1) values)))
      ∙ ap (λ ys. remaining ys (k + 1) values) (sym pushed)

  pub unread : (values : List Value) (k : ℕ) (v : Value) (before : List Y) → k < length values → v ≡ get_or values k v → None ≡ one (view v)
      → all (items_view values) ≡ remaining before k values → None ≡ all (items_view values)
  unread values k v before within is read so_far = sym (so_far ∙ ap (option_map (λ rest. before ++ rest)) (at_item values k v None within is read))

  pub all_read : (values : List Value) (k : ℕ) (ys : List Y) → length values ≤ k → all (items_view values) ≡ remaining ys k values → Some ys ≡ all (items_view values)
  all_read values k ys past so_far =
      sym (so_far
      ∙ ap (option_map (λ rest. ys ++ rest)) (at_drop_all (λ l. all (items_view l)) values k past ∙ none_left)
      ∙ ap (λ l. Some l) (append-nil ys))
