-- The moves of a state are what is expected.
use Rattle.tables.proofs.Std.{◌≡◌, ◌<◌, ◌≤◌, ◌+◌, ◌↔◌, Bool, true, false, ℕ, suc, List, ◌∷◌, ◌++◌, [], Option, Some, None, length, drop, slice_index_or, refl, sym, ap, ◌∙◌, subst, inl, inr, arith, is_some, if◌then◌else◌, cases_lt, drop_all, get_or-drop, get_or_past, drop-cons}
use Rattle.tables.proofs.Common.{Kind, Token, Symbol, Grammar, Tree, HaveRoots, HasMove, IsSentence, IsViable, IsStackAfter, StackHasMove, move_iff_viable, move_iff_sentence, roots_unique, Move, plain, AreExpected, in_file_order, rules_with_move, IsAction, IsAccepted}
use Rattle.tables.proofs.NumbersInOrder.{AreThose, none_there, pass_over, put_first}

-- the rules with a move, from one place of a row on
pub rules_from : (moves : List (Option Move)) (k : ℕ) → k < length moves → rules_with_move k (drop k moves)
    ≡ (if is_some (slice_index_or moves k None) then k ∷ rules_with_move (k + 1) (drop (k + 1) moves) else rules_with_move (k + 1) (drop (k + 1) moves))
rules_from moves k l =
    let one : suc k ≡ k + 1 = omega arith in
    ap (rules_with_move k) (drop-cons moves k None l) ∙ go (slice_index_or moves k None) (drop (suc k) moves)
    ∙ ap (λ n. if is_some (slice_index_or moves k None) then k ∷ rules_with_move (k + 1) (drop n moves) else rules_with_move (k + 1) (drop n moves)) one
  where
    go : (o : Option Move) (rest : List (Option Move)) → rules_with_move k (o ∷ rest) ≡ (if is_some o then k ∷ rules_with_move (k + 1) rest else rules_with_move (k + 1) rest)
    go None rest = refl
    go (Some m) rest = refl

-- what is listed next: a rule with a move, after those that have none, and then the end
pub shown_next : (moves : List (Option Move)) (k : ℕ) (at_end : Bool) → k < length moves → is_some (slice_index_or moves k None) ≡ true
    → in_file_order (rules_with_move k (drop k moves)) at_end ≡ Some k ∷ in_file_order (rules_with_move (k + 1) (drop (k + 1) moves)) at_end
shown_next moves k at_end l e = ap (λ rules. in_file_order rules at_end)
    (rules_from moves k l ∙ ap (λ b. if b then k ∷ rules_with_move (k + 1) (drop (k + 1) moves) else rules_with_move (k + 1) (drop (k + 1) moves)) e)

pub passed_over : (moves : List (Option Move)) (k : ℕ) (at_end : Bool) → k < length moves → is_some (slice_index_or moves k None) ≡ false
    → in_file_order (rules_with_move k (drop k moves)) at_end ≡ in_file_order (rules_with_move (k + 1) (drop (k + 1) moves)) at_end
passed_over moves k at_end l e = ap (λ rules. in_file_order rules at_end)
    (rules_from moves k l ∙ ap (λ b. if b then k ∷ rules_with_move (k + 1) (drop (k + 1) moves) else rules_with_move (k + 1) (drop (k + 1) moves)) e)

pub rules_shown : (moves : List (Option Move)) (k : ℕ) (at_end : Bool) → length moves ≤ k → in_file_order (rules_with_move k (drop k moves)) at_end ≡ (if at_end then None ∷ [] else [])
rules_shown moves k at_end l = ap (λ rest. in_file_order (rules_with_move k rest) at_end) (drop_all k moves l)

-- the rules with a move are those with a property that says which have one
those_shown : (P : ℕ → Type 0) (k : ℕ) (moves : List (Option Move)) → ((j a : ℕ) → a ≡ k + j → (is_some (slice_index_or moves j None) ≡ true) ↔ P a)
    → AreThose P k (length moves) (rules_with_move k moves)
those_shown P k [] each = none_there P k
those_shown P k (None ∷ moves) each = pass_over P k (length moves) (rules_with_move (k + 1) moves) (λ is. cc ((each 0 k (omega arith)).1 is))
    (those_shown P (k + 1) moves (λ j a e. each (suc j) a (omega (arith, e))))
those_shown P k (Some m ∷ moves) each = put_first P k (length moves) (rules_with_move (k + 1) moves) ((each 0 k (omega arith)).0 refl)
    (those_shown P (k + 1) moves (λ j a e. each (suc j) a (omega (arith, e))))

module _ (g : Grammar) (accepted : IsAccepted g) (x : List Kind) (stack : List Tree) (prefix : List Symbol) (after : IsStackAfter g x stack) (roots : HaveRoots g stack prefix) where
  move_shown : (next : Option Kind) (o : Option Move) → IsAction g prefix next o → (is_some o ≡ true) ↔ StackHasMove g stack next
  move_shown next None h = (λ e. absurd (cc e), λ m. absurd (h m.move (subst (λ y. HasMove g y next m.move) (roots_unique g stack m.symbols prefix m.roots roots) m.called)))
  move_shown next (Some m) h = (λ e. record { symbols = prefix; roots = roots; move = plain m; called = h }, λ m. refl)

  -- a token rule is expected where some sentence goes on with it
  rule_expected : (a : ℕ) (o : Option Move) → IsAction g prefix (Some (Token a)) o → (is_some o ≡ true) ↔ IsViable g (x ++ (Token a ∷ []))
  rule_expected a o h =
      let shown = move_shown (Some (Token a)) o h in
      let viable = move_iff_viable g accepted.free accepted.productive x stack (Token a) after in
      (λ e. viable.0 (shown.0 e), λ v. shown.1 (viable.1 v))

  -- and the end where the kinds are a sentence
  end_expected : (o : Option Move) → IsAction g prefix None o → (is_some o ≡ true) ↔ IsSentence g x
  end_expected o h =
      let shown = move_shown None o h in
      let sentence = move_iff_sentence g accepted.free accepted.productive x stack after in
      (λ e. sentence.0 (shown.0 e), λ v. shown.1 (sentence.1 v))

  module _ (row : List (Option Move)) (each : (a : ℕ) → IsAction g prefix (Some (Token a)) (slice_index_or row (a + 1) None)) (end : IsAction g prefix None (slice_index_or row 0 None)) where
    abbrev rules_row : List (Option Move)
    rules_row = drop 1 row

    -- the move on a token rule stands in the column after its number
    at_rule : (a : ℕ) → slice_index_or rules_row a None ≡ slice_index_or row (a + 1) None
    at_rule a = let next : 1 + a ≡ a + 1 = omega arith in get_or-drop 1 row a None ∙ ap (λ n. slice_index_or row n None) next

    rule_shown : (j a : ℕ) → a ≡ 0 + j → (is_some (slice_index_or rules_row j None) ≡ true) ↔ IsViable g (x ++ (Token a ∷ []))
    rule_shown j a e =
        let same : a ≡ j = omega (arith, e) in
        subst (λ o. (is_some o ≡ true) ↔ IsViable g (x ++ (Token a ∷ []))) (ap (λ n. slice_index_or row (n + 1) None) same ∙ sym (at_rule j))
        (rule_expected a (slice_index_or row (a + 1) None) (each a))

    viable_within : (a : ℕ) → IsViable g (x ++ (Token a ∷ [])) → a < 0 + length rules_row
    viable_within a v = elim (cases_lt a (length rules_row)) [
      | inl l ↦ omega (arith, l)
      | inr far ↦ absurd (let none = subst (λ o. is_some o ≡ true) (get_or_past rules_row a None far) ((rule_shown a a (omega arith)).1 v) in cc none)
    ]

    -- what has a move in the state's row is what may come next
    pub all_expected : AreExpected g x (in_file_order (rules_with_move 0 rules_row) (is_some (slice_index_or row 0 None)))
    all_expected =
        let shown = those_shown (λ a. IsViable g (x ++ (Token a ∷ []))) 0 rules_row rule_shown in (
          rules_with_move 0 rules_row,
          is_some (slice_index_or row 0 None),
          record { in_order = shown.in_order; each = λ a. (shown.only a, λ v. shown.all a (omega arith) (viable_within a v) v); ends = end_expected (slice_index_or row 0 None) end },
          refl,
        )
