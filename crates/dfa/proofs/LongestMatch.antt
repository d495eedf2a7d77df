-- Steps of a search for the longest match.
use Rattle.dfa.proofs.Std.{min, MatchOption, refl, sym, ap, subst, inl, inr, ◌∙◌, ◌≡◌, ℕ, zero, suc, ◌+◌, ◌<◌, ◌≤◌, ◌⊎◌, All, List, [], ◌∷◌, ◌++◌, length, take, drop, slice_index_or, Option, Some, None}
use Rattle.dfa.proofs.Std.{cases_lt, take_more, length-take, get_or-take, get_or-drop, drop-drop, All-push, All-get_or, arith, length-drop}
use Rattle.dfa.proofs.Common.{Expression, IsText, IsCharacter, RuleMatches, IsRulePrefix, IsPiece, IsReach, IsRulePrefix-take, Table, next_state, follower, state_from, state_after, IsFirst, IsAutomaton, Stays, kind_of, Match, IsBest, IsNoted, IsWithinReach}

state_from-more : (table : Table) (o : Option ℕ) (u : List ℕ) (c : ℕ) → state_from table o (u ++ c ∷ []) ≡ next_state table (state_from table o u) c
state_from-more table o [] c = refl
state_from-more table o (d ∷ u) c = state_from-more table (next_state table o d) u c

pub state_after-more : (table : Table) (u : List ℕ) (c s : ℕ) → state_after table u ≡ Some s → state_after table (u ++ c ∷ []) ≡ follower table s c
unfolding state_after
state_after-more table u c s e = state_from-more table (Some 0) u c ∙ ap (λ o. next_state table o c) e

pub state_after-none : (table : Table) → state_after table [] ≡ Some 0
unfolding state_after
state_after-none table = refl

-- The state after one more character c of t.
module _ (rules : List Expression) (table : Table) (a : IsAutomaton rules table) (t : List ℕ) (n s c : ℕ) (text : IsText (take n t)) (character : IsCharacter c)
    (lt : n < length t) (read : c ≡ slice_index_or t n 0) (is : state_after table (take n t) ≡ Some s) where
  longer : take (n + 1) t ≡ take n t ++ c ∷ []
  longer = take_more t n 0 lt ∙ ap (λ x. take n t ++ x ∷ []) (sym read)

  -- what was read are characters
  pub more_text : IsText (take (n + 1) t)
  more_text = subst IsText (sym longer) (All-push IsCharacter (take n t) c text character)

  pub more_state : (o : Option ℕ) → follower table s c ≡ o → state_after table (take (n + 1) t) ≡ o
  more_state o f = ap (state_after table) longer ∙ state_after-more table (take n t) c s is ∙ f

  shown : (o : Option ℕ) → follower table s c ≡ o → MatchOption o (¬ IsRulePrefix rules (take (n + 1) t))
      (λ x. IsRulePrefix rules (take (n + 1) t) × IsFirst rules (take (n + 1) t) (slice_index_or table.accepts x None))
  shown o f =
      let some : 1 ≤ length (take (n + 1) t) = omega (arith, length-take (n + 1) t) in
      subst (λ o. MatchOption o (¬ IsRulePrefix rules (take (n + 1) t)) (λ x. IsRulePrefix rules (take (n + 1) t) × IsFirst rules (take (n + 1) t) (slice_index_or table.accepts x None)))
      (more_state o f) (a.shows (take (n + 1) t) more_text some)

  pub more_prefix : (x : ℕ) → follower table s c ≡ Some x → IsRulePrefix rules (take (n + 1) t)
  more_prefix x f = (shown (Some x) f).0

  pub more_first : (x : ℕ) (o : Option ℕ) → follower table s c ≡ Some x → slice_index_or table.accepts x None ≡ o → IsFirst rules (take (n + 1) t) o
  more_first x o f e = subst (λ o. IsFirst rules (take (n + 1) t) o) e (shown (Some x) f).1

  pub more_dead : follower table s c ≡ None → ¬ IsRulePrefix rules (take (n + 1) t)
  more_dead f = shown None f

pub prefixes_more : (rules : List Expression) (t : List ℕ) (n : ℕ) → ((m : ℕ) → 1 ≤ m → m ≤ n → IsRulePrefix rules (take m t))
    → IsRulePrefix rules (take (n + 1) t) → (m : ℕ) → 1 ≤ m → m ≤ n + 1 → IsRulePrefix rules (take m t)
prefixes_more rules t n h f m p q = elim (cases_lt n m) [
  | inl x ↦ let e : n + 1 ≡ m = omega arith in subst (λ (y : ℕ). IsRulePrefix rules (take y t)) e f
  | inr x ↦ h m p x
]

-- where none of the longer prefixes has a rule, the best match stays
unmatched : (rules : List Expression) (t : List ℕ) (n read : ℕ) (r : Option ℕ) (len : ℕ) → IsBest rules t n r len → n ≤ read
    → ((m : ℕ) → n < m → m ≤ read → IsFirst rules (take m t) None) → IsBest rules t read r len
unmatched rules t n read None len h within f = (h.0, λ j m p q. elim (cases_lt n m) [ inl x ↦ f m x q j | inr x ↦ h.1 j m p x ])
unmatched rules t n read (Some k) len h within f = (
  h.0,
  let inside : len ≤ n = h.1 in omega arith,
  h.2,
  λ j m p q. elim (cases_lt n m) [ inl x ↦ f m x q j | inr x ↦ h.3 j m p x ],
)

-- the best match of all that was read: no longer prefix has a rule, or all of it has
pub best_unmatched : (rules : List Expression) (t : List ℕ) (read : ℕ) (r : Option ℕ) (len : ℕ) → IsNoted rules t read None r len → IsBest rules t read r len
best_unmatched rules t read r len h = unmatched rules t h.noted read r len h.best h.before h.first

pub best_matched : (rules : List Expression) (t : List ℕ) (read k : ℕ) (r : Option ℕ) (len : ℕ) → 0 < read → IsNoted rules t read (Some k) r len → IsBest rules t read (Some k) read
best_matched rules t read k r len some h =
    (omega arith, omega arith, h.first read (h.fewer some) (omega arith), λ j m p q. absurd (omega arith))

pub best_at_start : (rules : List Expression) (t : List ℕ) (s r : Option ℕ) (len : ℕ) → IsNoted rules t 0 s r len → IsBest rules t 0 r len
best_at_start rules t s r len h =
    let none : h.noted ≡ 0 = omega (arith, h.before) in
    subst (λ (n : ℕ). IsBest rules t n r len) none h.best

-- the match of a text with `rest` characters, or none
pub record AreBounds (rest : ℕ) (found : Match) : Type 0 where
  pub inside : found.length ≤ rest
  pub nonempty : 0 < rest → 1 ≤ found.length
  pub at_end : rest ≡ 0 → (found.rule ≡ None) × (found.length ≡ 0)

-- nothing is read
pub read_none : (rules : List Expression) (t : List ℕ) (s : Option ℕ) (len : ℕ) → len ≡ min (length t) 1 → IsNoted rules t 0 s None len
read_none rules t s len e = record {
  noted = 0;
  before = omega arith;
  fewer = λ some. absurd (omega arith);
  best = (e, λ j m p q. absurd (omega arith));
  first = λ m p q. absurd (omega arith);
}

-- one more character, whose prefix has the same rule
pub read_on : (rules : List Expression) (t : List ℕ) (n : ℕ) (s r : Option ℕ) (len : ℕ) → IsNoted rules t n s r len → IsFirst rules (take (n + 1) t) s → IsNoted rules t (n + 1) s r len
read_on rules t n s r len h f =
    let within : h.noted ≤ n = h.before in
    record {
      noted = h.noted;
      before = omega arith;
      fewer = λ some. omega arith;
      best = h.best;
      first = λ m p q. elim (cases_lt n m) [
        | inl x ↦ let e : n + 1 ≡ m = omega arith in subst (λ (y : ℕ). IsFirst rules (take y t) s) e f
        | inr x ↦ h.first m p x
      ];
    }

-- one more character, after the best match of all before it
pub read_anew : (rules : List Expression) (t : List ℕ) (n : ℕ) (s r : Option ℕ) (len : ℕ) → IsBest rules t n r len → IsFirst rules (take (n + 1) t) s → IsNoted rules t (n + 1) s r len
read_anew rules t n s r len h f = record {
  noted = n;
  before = omega arith;
  fewer = λ some. omega arith;
  best = h;
  first = λ m p q. let e : n + 1 ≡ m = omega arith in subst (λ (y : ℕ). IsFirst rules (take y t) s) e f;
}

-- `Keeps table t s n k`: the `k` characters of `t` behind the first `n` lead from state `s` to itself
pub record Keeps (table : Table) (t : List ℕ) (s n k : ℕ) : Type 0 where
  pub inside : n + k ≤ length t
  pub each : (j : ℕ) → j < k → Stays table s (slice_index_or t (n + j) 0)

keeps_fewer : (table : Table) (t : List ℕ) (s n k : ℕ) → Keeps table t s n (suc k) → Keeps table t s n k
keeps_fewer table t s n k h = record { inside = omega (arith, h.inside); each = λ j lt. h.each j (omega arith) }

-- Characters that keep the state, after `n` others.
module _ (rules : List Expression) (table : Table) (a : IsAutomaton rules table) (t : List ℕ) (s n : ℕ) (text : IsText (take n t)) (stands : state_after table (take n t) ≡ Some s) where
  pub kept_text : (k : ℕ) → Keeps table t s n k → IsText (take (n + k) t) × (state_after table (take (n + k) t) ≡ Some s)
  kept_text zero h =
      let e : n ≡ n + 0 = omega arith in
      subst (λ (m : ℕ). IsText (take m t) × (state_after table (take m t) ≡ Some s)) e (text, stands)
  kept_text (suc k) h =
      let old = kept_text k (keeps_fewer table t s n k h) in
      let one = h.each k (omega arith) in
      let lt : n + k < length t = omega (arith, h.inside) in
      let e : n + k + 1 ≡ n + suc k = omega arith in
      subst (λ (m : ℕ). IsText (take m t) × (state_after table (take m t) ≡ Some s)) e (
        more_text rules table a t (n + k) s (slice_index_or t (n + k) 0) old.0 one.0 lt refl old.1,
        more_state rules table a t (n + k) s (slice_index_or t (n + k) 0) old.0 one.0 lt refl old.1 (Some s) one.1,
      )

  pub kept_prefixes : (k : ℕ) → Keeps table t s n k → ((m : ℕ) → 1 ≤ m → m ≤ n → IsRulePrefix rules (take m t)) → (m : ℕ) → 1 ≤ m → m ≤ n + k → IsRulePrefix rules (take m t)
  kept_prefixes zero h old m p q = old m p (omega (arith, q))
  kept_prefixes (suc k) h old m p q =
      let fewer = keeps_fewer table t s n k h in
      let before = kept_text k fewer in
      let one = h.each k (omega arith) in
      let lt : n + k < length t = omega (arith, h.inside) in
      prefixes_more rules t (n + k) (kept_prefixes k fewer old) (more_prefix rules table a t (n + k) s (slice_index_or t (n + k) 0) before.0 one.0 lt refl before.1 s one.1) m p (omega (arith, q))

  pub kept_noted : (k : ℕ) → Keeps table t s n k → (r best : Option ℕ) (len : ℕ) → slice_index_or table.accepts s None ≡ r → IsNoted rules t n r best len → IsNoted rules t (n + k) r best len
  kept_noted zero h r best len e old =
      let same : n ≡ n + 0 = omega arith in
      subst (λ (m : ℕ). IsNoted rules t m r best len) same old
  kept_noted (suc k) h r best len e old =
      let fewer = keeps_fewer table t s n k h in
      let before = kept_text k fewer in
      let one = h.each k (omega arith) in
      let lt : n + k < length t = omega (arith, h.inside) in
      let same : n + k + 1 ≡ n + suc k = omega arith in
      subst (λ (m : ℕ). IsNoted rules t m r best len) same (read_on rules t (n + k) r best len (kept_noted k fewer r best len e old)
      (more_first rules table a t (n + k) s (slice_index_or t (n + k) 0) before.0 one.0 lt refl before.1 s r one.1 e))

-- of the characters that follow
passed_each : (P : ℕ → Type 0) (t : List ℕ) (i k : ℕ) → i + k ≤ length t → All P (take k (drop i t)) → (j : ℕ) → j < k → P (slice_index_or t (i + j) 0)
passed_each P t i k inside h j lt =
    let many : j < length (take k (drop i t)) = omega (arith, length-take k (drop i t), length-drop i t) in
    subst P (get_or-take k (drop i t) j 0 lt ∙ get_or-drop i t j 0) (All-get_or P (take k (drop i t)) j 0 many h)

-- a character at offset `o + n` that keeps the state, and those that were passed after it
pub keeps_on : (table : Table) (t : List ℕ) (o n k s c : ℕ) → o + (n + 1) + k ≤ length t → IsCharacter c → c ≡ slice_index_or (drop o t) n 0 → follower table s c ≡ Some s
    → All (Stays table s) (take k (drop (o + (n + 1)) t)) → Keeps table (drop o t) s n (suc k)
keeps_on table t o n k s c inside character read next all = record { inside = omega (arith, within); each = each }
  where
    within : n + 1 + k ≤ length (drop o t)
    within = omega (arith, length-drop o t, inside)

    those : All (Stays table s) (take k (drop (n + 1) (drop o t)))
    those = subst (λ (u : List ℕ). All (Stays table s) (take k u)) (sym (drop-drop (n + 1) o t)) all

    each : (j : ℕ) → j < suc k → Stays table s (slice_index_or (drop o t) (n + j) 0)
    each zero lt =
        let e : n ≡ n + 0 = omega arith in
        subst (λ (m : ℕ). Stays table s (slice_index_or (drop o t) m 0)) e (subst (Stays table s) read (character, next))
    each (suc i) lt =
        let e : n + 1 + i ≡ n + suc i = omega arith in
        subst (λ (m : ℕ). Stays table s (slice_index_or (drop o t) m 0)) e (passed_each (Stays table s) (drop o t) (n + 1) k within those i (omega (arith, lt)))

-- the best match among no characters, and among one more
pub best_none : (rules : List Expression) (t : List ℕ) (len : ℕ) → len ≡ min (length t) 1 → IsBest rules t 0 None len
best_none rules t len e = best_at_start rules t None None len (read_none rules t None len e)

pub best_more_none : (rules : List Expression) (t : List ℕ) (n : ℕ) (r : Option ℕ) (len : ℕ) → IsBest rules t n r len → IsFirst rules (take (n + 1) t) None → IsBest rules t (n + 1) r len
best_more_none rules t n r len h f = best_unmatched rules t (n + 1) r len (read_anew rules t n None r len h f)

pub best_more_some : (rules : List Expression) (t : List ℕ) (n k : ℕ) (r : Option ℕ) (len : ℕ) → IsBest rules t n r len
    → IsFirst rules (take (n + 1) t) (Some k) → IsBest rules t (n + 1) (Some k) (n + 1)
best_more_some rules t n k r len h f = best_matched rules t (n + 1) k r len (omega arith) (read_anew rules t n (Some k) r len h f)

-- nothing goes on past n characters: they are all, or one more begins no text of a rule
abbrev pub Ends : List Expression → List ℕ → ℕ → Type 0
Ends rules t n = (n ≡ length t) ⊎ ((n < length t) × (¬ IsRulePrefix rules (take (n + 1) t)))

past_end : (rules : List Expression) (t : List ℕ) (n j m : ℕ) → Ends rules t n → n < m → m ≤ length t → ¬ RuleMatches rules j (take m t)
past_end rules t n j m (inl e) p q h = absurd (omega arith)
past_end rules t n j m (inr e) p q h = e.1 (IsRulePrefix-take rules t j (n + 1) m (omega arith) h)

pub piece_of : (rules : List Expression) (t : List ℕ) (n : ℕ) (r : Option ℕ) (len : ℕ) → IsBest rules t n r len → Ends rules t n → n ≤ length t → 0 < length t → IsPiece rules t (kind_of r) len
piece_of rules t n None len h e l some = (omega (arith, h.0), omega (arith, h.0), λ j m p q. elim (cases_lt n m) [ inl x ↦ past_end rules t n j m e x q | inr x ↦ h.1 j m p x ])
piece_of rules t n (Some k) len h e l some =
    let within : len ≤ n = h.1 in
    record {
      nonempty = h.0;
      inside = omega arith;
      matches = h.2.0;
      longest = λ j m q g. elim (cases_lt len m) [ inl past ↦ elim (cases_lt n m) [ inl x ↦ absurd (past_end rules t n j m e x q g) | inr x ↦ absurd (h.3 j m past x g) ] | inr x ↦ x ];
      earliest = λ j g. elim (cases_lt j k) [ inl x ↦ absurd (h.2.1 j x g) | inr x ↦ x ];
    }

pub reach_of : (rules : List Expression) (t : List ℕ) (n : ℕ) → ((m : ℕ) → 1 ≤ m → m ≤ n → IsRulePrefix rules (take m t)) → Ends rules t n → IsReach rules t (n + 1)
reach_of rules t n h (inl e) = inr (omega arith, λ m d. let inside : m ≤ length t = d.inside in d.no_prefix (h m d.nonempty (omega arith)))
reach_of rules t n h (inr e) =
    inl (
      record { nonempty = omega arith; inside = omega (arith, e.0); no_prefix = e.1 },
      λ m d. elim (cases_lt n m) [ inl x ↦ omega arith | inr x ↦ absurd (d.no_prefix (h m d.nonempty x)) ],
    )

-- what lies one past prefixes of texts of rules is within the reach
pub within_reach : (rules : List Expression) (t : List ℕ) (o n : ℕ) → o + n < length t → ((m : ℕ) → 1 ≤ m → m ≤ n → IsRulePrefix rules (take m (drop o t))) → IsWithinReach rules t o (o + n)
within_reach rules t o n l h = record { after = omega arith; inside = l; alive = λ m d. elim (cases_lt n m) [ inl x ↦ omega arith | inr x ↦ absurd (d.no_prefix (h m d.nonempty x)) ] }
