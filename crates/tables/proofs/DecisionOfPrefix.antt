-- What a decision on the items of a set says of a prefix.
use Rattle.tables.proofs.Std.{◌≡◌, ℕ, List, Option, Contains, sym, subst, inl, inr, ⊎_elim}
use Rattle.tables.proofs.Common.{Symbol, Grammar, HasMove, IsConflict, CallsFor, kind_of, Item, lookahead_at, item_of, HasSet, Call, Decided, Moves, Clash, Decision, Nothing, Agreed, Conflict, move_of, IsDecision, IsDecided, LrMove as Move}

module _ (g : Grammar) (items : List Item) (prefix : List Symbol) (set : HasSet g items prefix) (look : Option ℕ) where
  pub no_move : IsDecision g items look Nothing → (m : Move) → HasMove g prefix (kind_of look) m → ⊥
  no_move d m h = let x = set.complete h.item h.valid in d x.0 m x.1 (subst (λ y. CallsFor y (kind_of look) m) (sym x.2) h.calls)

  pub the_move : (c : Call) → IsDecision g items look (Agreed c) → HasMove g prefix (kind_of look) (move_of c) × ((m : Move) → HasMove g prefix (kind_of look) m → m ≡ move_of c)
  the_move c d = (
    record { item = item_of g d.0.0; valid = set.sound d.0.0 d.0.1; calls = d.0.2 },
    (λ m h. let x = set.complete h.item h.valid in d.1 x.0 m x.1 (subst (λ y. CallsFor y (kind_of look) m) (sym x.2) h.calls)),
  )

  pub is_conflict : (one two : Item) → IsDecision g items look (Conflict one two) → IsConflict g prefix (kind_of look) (item_of g one) (item_of g two)
  is_conflict one two d = record { one_valid = set.sound one d.0; two_valid = set.sound two d.1; one_move = d.2.0; two_move = d.2.1; one_calls = d.2.2; two_calls = d.2.3; differ = d.2.4 }

-- what the items that call for moves call for, all items call for
module _ (g : Grammar) (items called : List Item) (within : (i : Item) → Contains called i → Contains items i)
    (all : (i : Item) (look : Option ℕ) (m : Move) → Contains items i → CallsFor (item_of g i) (kind_of look) m → Contains called i) where
  decision_all : (look : Option ℕ) (d : Decision) → IsDecision g called look d → IsDecision g items look d
  decision_all look Nothing h = λ i m b x. h i m (all i look m b x) x
  decision_all look (Agreed c) h = ((h.0.0, within h.0.0 h.0.1, h.0.2), (λ i m b x. h.1 i m (all i look m b x) x))
  decision_all look (Conflict one two) h = (within one h.0, within two h.1, h.2)

  pub decided_all : (row : List (Option ℕ)) (d : Decided) → IsDecided g called row d → IsDecided g items row d
  decided_all row (Moves moves) h = record {
    filled = h.filled;
    each = λ k l. ⊎_elim
        (λ x. inl (decision_all (lookahead_at k) Nothing x.0, x.1))
        (λ x. inr (x.0, decision_all (lookahead_at k) (Agreed x.0) x.1, x.2))
        (h.each k l);
  }
  decided_all row (Clash clash) h = decision_all clash.look (Conflict clash.one clash.two) h
