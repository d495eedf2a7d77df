-- A table whose rows are all there is the automaton of the rules.
use Rattle.dfa.proofs.Std.{◌≡◌, ◌≢◌, ℕ, zero, suc, ◌+◌, ◌*◌, ◌<◌, ◌≤◌, List, [], ◌∷◌, ◌++◌, length, slice_index_or, Option, Some, None, MatchOption, refl, sym, ap, ◌∙◌, subst, inl, arith, add-one, nat_le, slice_get, append-nil, append_assoc, length-append, prefix_len-le-length, IsSomeAnd}
use Rattle.dfa.proofs.Common.{Expression, IsText, IsCharacter, Matches, IsPrefix, IsRulePrefix, part, numbered, follower, state_from, state_after, IsFirst, IsAutomaton, HasPosition, HaveSamePositions, AllMade, Among, IsSetOf, table_of, IsStateOf, AreRows}
use Rattle.dfa.proofs.Successors.{empty_set}
use Rattle.dfa.proofs.RuleLists.{rules_prefix, rules_stand}

some_more : {A : Type 0} (P Q : A → Type 0) (o : Option A) → ((a : A) → P a → Q a) → IsSomeAnd o P → IsSomeAnd o Q
some_more P Q None f h = h
some_more P Q (Some a) f h = f a h

-- what begins no text of a rule does not with more characters either
prefix_longer : (rules : List Expression) (u v : List ℕ) → IsRulePrefix rules (u ++ v) → IsRulePrefix rules u
prefix_longer rules u v f = (f.0, some_more (λ rule. IsPrefix rule (u ++ v)) (λ rule. IsPrefix rule u) (slice_get rules f.0) (λ e m. (v ++ m.0, subst (Matches e) (append_assoc u v m.0) m.1)) f.1)

pub some_member : (set : List ℕ) → set ≢ [] → (p : ℕ) × Among set p
some_member [] differs = absurd (differs refl)
some_member (p ∷ set) differs = (p, inl refl)

not_nil : (u : List ℕ) (c : ℕ) → u ++ c ∷ [] ≡ [] → ⊥
not_nil [] c e = cc
not_nil (d ∷ u) c e = cc

module _ (rules : List Expression) (starts : List ℕ) (sets : List (List ℕ)) (next : List ℕ) (accepts : List (Option ℕ)) (made : AllMade rules)
    (r : AreRows rules starts sets next accepts) (all : length sets ≤ length accepts) where
  -- what the state says of the text
  abbrev pub Shows : List ℕ → Option ℕ → Type 0
  Shows u o = MatchOption o (¬ IsRulePrefix rules u) (λ s. (s < length sets) × IsStateOf rules sets s u)

  led : (u : List ℕ) (c n : ℕ) → n < length sets → IsSetOf rules (u ++ c ∷ []) (slice_index_or sets n []) → Shows (u ++ c ∷ []) (numbered n)
  led u c zero lt set = λ f.
      let s = rules_stand rules (u ++ c ∷ []) (omega (arith, length-append u (c ∷ []))) f in
      let m : Among [] s.0 = subst (λ (l : List ℕ). Among l s.0) r.states.start (set.every s.0 s.1) in
      elim m [ ]
  led u c (suc n) lt set = (lt, record { is = set; first = λ e. absurd (omega (arith, e)); begins = λ e. absurd (not_nil u c e) })

  step : (u : List ℕ) (c s : ℕ) → IsCharacter c → s < length sets → IsStateOf rules sets s u → Shows (u ++ c ∷ []) (follower (table_of starts next accepts) s c)
  step u c s is lt st =
      let k = part starts c in
      let within : k ≤ length starts = prefix_len-le-length (λ x. nat_le x c) starts in
      let e = r.entries s k (omega (arith, lt, all)) within in
      led u c (slice_index_or next (s * (length starts + 1) + k) 0) e.0 (e.1 c u is refl st)

  walk : (v u : List ℕ) (o : Option ℕ) → IsText v → Shows u o → Shows (u ++ v) (state_from (table_of starts next accepts) o v)
  walk [] u o text t = subst (λ (w : List ℕ). Shows w o) (sym (append-nil u)) t
  walk (c ∷ v) u None text t = subst (λ (w : List ℕ). Shows w (state_from (table_of starts next accepts) None v)) (append_assoc u (c ∷ []) v)
      (walk v (u ++ c ∷ []) None (λ k d lt. text (suc k) d (omega (arith, lt))) (λ f. t (prefix_longer rules u (c ∷ []) f)))
  walk (c ∷ v) u (Some s) text t = subst (λ (w : List ℕ). Shows w (state_from (table_of starts next accepts) (follower (table_of starts next accepts) s c) v))
      (append_assoc u (c ∷ []) v) (walk v (u ++ c ∷ []) (follower (table_of starts next accepts) s c) (λ k d lt. text (suc k) d (omega (arith, lt))) (step u c s (text 0 c (omega arith)) t.0 t.1))

  pub shows : (u : List ℕ) → IsText u → Shows u (state_after (table_of starts next accepts) u)
  unfolding state_after
  shows u text = walk u [] (Some 0) text (r.states.begins, record { is = subst (λ (l : List ℕ). IsSetOf rules [] l) (sym r.states.start) (empty_set rules); first = λ _. refl; begins = λ _. refl })

  shown : (u : List ℕ) (o : Option ℕ) → 1 ≤ length u → Shows u o → MatchOption o (¬ IsRulePrefix rules u) (λ s. IsRulePrefix rules u × IsFirst rules u (slice_index_or accepts s None))
  shown u None some t = t
  shown u (Some zero) some t = let e = t.1.first refl in let n : length u ≡ 0 = ap length e in absurd (omega (arith, n, some))
  shown u (Some (suc s)) some t =
      let m = some_member (slice_index_or sets (suc s) []) (λ e. r.states.distinct 0 (suc s) (omega arith) t.0 (r.states.start ∙ sym e)) in
      (rules_prefix rules m.0 u made (t.1.is.only m.0 m.1), r.accepting (suc s) u (omega (arith, t.0, all)) some t.1)

  pub automaton : IsAutomaton rules (table_of starts next accepts)
  automaton = record { shows = λ u text some. shown u (state_after (table_of starts next accepts) u) some (shows u text) }

  -- each text with a position has a state that is not the start
  pub at_state : (u : List ℕ) (o : Option ℕ) → HasPosition rules u → Shows u o → (s : ℕ) × (s + 1 < length sets) × IsSetOf rules u (slice_index_or sets (s + 1) [])
  at_state u None h t = absurd (t (rules_prefix rules h.position u made h.stands))
  at_state u (Some zero) h t = let e = t.1.first refl in let n : length u ≡ 0 = ap length e in absurd (omega (arith, n, h.nonempty))
  at_state u (Some (suc s)) h t = (s, omega (arith, t.0, add-one s), subst (λ (n : ℕ). IsSetOf rules u (slice_index_or sets n [])) (sym (add-one s)) t.1.is)

  pub same_positions : (u v set : List ℕ) → IsSetOf rules u set → IsSetOf rules v set → HaveSamePositions rules u v
  same_positions u v set s t p = (λ h. t.only p (s.every p h), λ h. s.only p (t.every p h))
