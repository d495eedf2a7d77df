-- Where there is an automaton of the rules, every text has tokens: the run of the automaton finds the next one.
use Rattle.lexer.proofs.Std.{arith, refl, inl, inr, length-drop, ◌≡◌, ℕ, zero, suc, ◌+◌, ◌<◌, ◌≤◌, ◌⊎◌, min, List, [], ◌∷◌, length, take, drop, slice_index, slice_index_or, Option, Some, None, All-drop, All-take}
use Rattle.lexer.proofs.Common.{Expression, Kind, Rule, Invalid, IsCharacter, IsText, IsRulePrefix, IsPiece, IsToken, AreTokens, PlainToken as Token}
use Rattle.lexer.proofs.Common.{Table, follower, state_after, IsAutomaton, kind_of, IsBest, Ends, best_none, best_more_none, best_more_some, prefixes_more, more_state, more_prefix, more_first, more_dead, piece_of, reach_of, state_after-none}

module _ (rules : List Expression) (table : Table) (a : IsAutomaton rules table) where
  -- the run over the first n characters of t: its state, and the best of their prefixes
  record Run (t : List ℕ) (n : ℕ) : Type 0 where
    state : ℕ
    is : state_after table (take n t) ≡ Some state
    prefixes : (m : ℕ) → 1 ≤ m → m ≤ n → IsRulePrefix rules (take m t)
    rule : Option ℕ
    count : ℕ
    best : IsBest rules t n rule count

  -- the run where it ends
  record Ended (t : List ℕ) : Type 0 where
    read : ℕ
    inside : read ≤ length t
    prefixes : (m : ℕ) → 1 ≤ m → m ≤ read → IsRulePrefix rules (take m t)
    rule : Option ℕ
    count : ℕ
    best : IsBest rules t read rule count
    ends : Ends rules t read

  begin : (t : List ℕ) → Run t 0
  begin t = record {
    state = 0;
    is = state_after-none table;
    prefixes = λ m p q. absurd (omega arith);
    rule = None;
    count = min (length t) 1;
    best = best_none rules t (min (length t) 1) refl;
  }

  end : (t : List ℕ) (n : ℕ) → n ≤ length t → Ends rules t n → Run t n → Ended t
  end t n l e r = record { read = n; inside = l; prefixes = r.prefixes; rule = r.rule; count = r.count; best = r.best; ends = e }

  module _ (t : List ℕ) (text : IsText t) (n : ℕ) (r : Run t n) (l : n < length t) where
    next : (x : ℕ) → follower table r.state (slice_index t n) ≡ Some x → (o : Option ℕ) → slice_index_or table.accepts x None ≡ o → Run t (n + 1)
    next x f None e = record {
      state = x;
      is = more_state rules table a t n r.state (slice_index t n) (All-take IsCharacter n t text) (text n 0 l) l refl r.is (Some x) f;
      prefixes = prefixes_more rules t n r.prefixes (more_prefix rules table a t n r.state (slice_index t n) (All-take IsCharacter n t text) (text n 0 l) l refl r.is x f);
      rule = r.rule;
      count = r.count;
      best = best_more_none rules t n r.rule r.count r.best (more_first rules table a t n r.state (slice_index t n) (All-take IsCharacter n t text) (text n 0 l) l refl r.is x None f e);
    }
    next x f (Some k) e = record {
      state = x;
      is = more_state rules table a t n r.state (slice_index t n) (All-take IsCharacter n t text) (text n 0 l) l refl r.is (Some x) f;
      prefixes = prefixes_more rules t n r.prefixes (more_prefix rules table a t n r.state (slice_index t n) (All-take IsCharacter n t text) (text n 0 l) l refl r.is x f);
      rule = Some k;
      count = n + 1;
      best = best_more_some rules t n k r.rule r.count r.best (more_first rules table a t n r.state (slice_index t n) (All-take IsCharacter n t text) (text n 0 l) l refl r.is x (Some k) f e);
    }

    step : (o : Option ℕ) → follower table r.state (slice_index t n) ≡ o → Ended t ⊎ Run t (n + 1)
    step None f = inl (end t n (omega arith) (inr (l, more_dead rules table a t n r.state (slice_index t n) (All-take IsCharacter n t text) (text n 0 l) l refl r.is f)) r)
    step (Some x) f = inr (next x f (slice_index_or table.accepts x None) refl)

  -- with k characters left
  run : (t : List ℕ) → IsText t → (k n : ℕ) → n + k ≡ length t → Run t n → Ended t
  run t text zero n e r = end t n (omega arith) (inl (omega arith)) r
  run t text (suc k) n e r =
      elim (step t text n r (omega arith) (follower table r.state (slice_index t n)) refl) [ inl d ↦ d | inr s ↦ run t text k (n + 1) (omega arith) s ]

  first_token : (t : List ℕ) → IsText t → 0 < length t → (x : Token) × IsToken rules t x
  first_token t text some =
      let d = run t text (length t) 0 (omega arith) (begin t) in (
        record { kind = kind_of d.rule; length = d.count; reach = d.read + 1 },
        record { piece = piece_of rules t d.read d.rule d.count d.best d.ends d.inside some; reach = reach_of rules t d.read d.prefixes d.ends },
      )

  nonempty : (t : List ℕ) (k : Kind) (n : ℕ) → IsPiece rules t k n → 1 ≤ n
  nonempty t (Rule k) n p = p.nonempty
  nonempty t Invalid n p = omega (arith, p.0)

  -- of at most n characters
  tokens_of : (n : ℕ) (t : List ℕ) → length t ≤ n → IsText t → (xs : List Token) × AreTokens rules t xs
  tokens_of n [] l text = ([], refl)
  tokens_of zero (c ∷ t) l text = absurd (omega (arith, l))
  tokens_of (suc n) (c ∷ t) l text =
      let x = first_token (c ∷ t) text (omega arith) in
      let some = nonempty (c ∷ t) x.0.kind x.0.length x.1.piece in
      let rest = tokens_of n (drop x.0.length (c ∷ t)) (omega (arith, l, some, length-drop x.0.length (c ∷ t))) (All-drop IsCharacter x.0.length (c ∷ t) text) in
      (x.0 ∷ rest.0, (x.1, rest.1))

  pub tokens_exist : (t : List ℕ) → IsText t → (xs : List Token) × AreTokens rules t xs
  tokens_exist t text = tokens_of (length t) t (omega arith) text
