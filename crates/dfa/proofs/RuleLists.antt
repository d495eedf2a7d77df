-- Positions of a list of rules: the marks after one more character, the first rule that ends, and the texts that go on.
use Rattle.dfa.proofs.Std.{◌≡◌, ℕ, zero, suc, ◌+◌, ◌-◌, ◌<◌, ◌≤◌, ◌⊎◌, Bool, true, false, List, [], ◌∷◌, ◌++◌, length, Option, Some, None, refl, sym, ap, ◌∙◌, subst, inl, inr, arith, add-one, if◌then◌else◌, slice_get, IsSomeAnd, false≢true}
use Rattle.dfa.proofs.Common.{Expression, Matches, IsPrefix, IsCharacter, RuleMatches, IsRulePrefix, positions, CanStandAt, StandsAt, mark, ends, next, all_next, first_end, AllMade, IsSetOf, AreMarksOf, IsFirst}
use Rattle.dfa.proofs.LastPositions.{Stands, Is, below, nonempty}
use Rattle.dfa.proofs.Ends.{Only, Every, ends_sound, ends_complete, mark_moved}
use Rattle.dfa.proofs.Steps.{Holds, holds_below, length-next, mark_left, mark_right, step_sound, step_complete}
use Rattle.dfa.proofs.PrefixEnds.{prefix_of, stand_of}

-- the marks from o on are the positions at which the last character of u can stand
pub record AreMarks (rules : List Expression) (marks : List Bool) (o : ℕ) (u : List ℕ) : Type 0 where
  pub only : (p : ℕ) → mark marks (o + p) ≡ true → StandsAt rules p u
  pub every : (p : ℕ) → StandsAt rules p u → mark marks (o + p) ≡ true

stands_at : (rules : List Expression) (m n : ℕ) (u : List ℕ) → m ≡ n → StandsAt rules m u → StandsAt rules n u
stands_at rules m n u e h = subst (λ (k : ℕ). StandsAt rules k u) e h

alone : (e : Expression) (q : ℕ) (u : List ℕ) → CanStandAt e q u → Stands (Is []) e q u
alone e q u h = ([], u, refl, refl, h)

alone_back : (e : Expression) (q : ℕ) (u : List ℕ) → Stands (Is []) e q u → CanStandAt e q u
alone_back e q u h = subst (λ (w : List ℕ). CanStandAt e q w) (sym (h.2 ∙ ap (λ x. x ++ h.1) h.3)) h.4

module _ (e : Expression) (es : List Expression) (marks : List Bool) (o : ℕ) (u : List ℕ) (a : AreMarks (e ∷ es) marks o u) where
  pub first_only : Only (Stands (Is []) e) (positions e) marks o u
  first_only q lt m = elim (a.only q m) [ inl s ↦ alone e q u s | inr s ↦ absurd (omega (arith, s.0, lt)) ]

  pub first_every : Every (Stands (Is []) e) (positions e) marks o u
  first_every q lt s = a.every q (inl (alone_back e q u s))

  pub rest_marks : AreMarks es marks (o + positions e) u
  rest_marks = record {
    only = λ p m. elim (a.only (positions e + p) (mark_moved marks (o + positions e + p) (o + (positions e + p)) (omega arith) m)) [
      | inl s ↦ absurd (omega (arith, below e (positions e + p) u s))
      | inr s ↦ stands_at es (positions e + p - positions e) p u (omega arith) s.1
    ];
    every = λ p s. mark_moved marks (o + (positions e + p)) (o + positions e + p) (omega arith)
        (a.every (positions e + p) (inr (omega arith, stands_at es p (positions e + p - positions e) u (omega arith) s)));
  }

abbrev pub HoldsIn : List Expression → ℕ → ℕ → Type 0
HoldsIn [] c p = ⊥
HoldsIn (e ∷ es) c p = Holds e c p ⊎ (positions e ≤ p) × HoldsIn es c (p - positions e)

pub next_sound : (rules : List Expression) (marks : List Bool) (o : ℕ) (start : Bool) (u : List ℕ) (c p : ℕ) → IsCharacter c → (start ≡ true → u ≡ [])
    → AreMarks rules marks o u → mark (all_next marks o start rules) p ≡ true → HoldsIn rules c p → StandsAt rules p (u ++ c ∷ [])
next_sound [] marks o start u c p is k a m h = h
next_sound (e ∷ es) marks o start u c p is k a m (inl h) =
    let f = mark_left (next marks o start e) (all_next marks (o + positions e) start es) (positions e) p (length-next e marks o start) (holds_below e c p h) in
    inl (alone_back e p (u ++ c ∷ []) (step_sound e (Is []) marks o start u c p is k (first_only e es marks o u a) (sym f ∙ m) h))
next_sound (e ∷ es) marks o start u c p is k a m (inr h) =
    let f = mark_right (next marks o start e) (all_next marks (o + positions e) start es) (positions e) p (length-next e marks o start) h.0 in
    inr (h.0, next_sound es marks (o + positions e) start u c (p - positions e) is k (rest_marks e es marks o u a) (sym f ∙ m) h.1)

pub next_complete : (rules : List Expression) (marks : List Bool) (o : ℕ) (start : Bool) (u : List ℕ) (c p : ℕ) → (u ≡ [] → start ≡ true) → AreMarks rules marks o u
    → StandsAt rules p (u ++ c ∷ []) → (mark (all_next marks o start rules) p ≡ true) × HoldsIn rules c p
next_complete [] marks o start u c p k a s = elim s [ ]
next_complete (e ∷ es) marks o start u c p k a (inl s) =
    let t = step_complete e (Is []) marks o start u c p k (first_every e es marks o u a) (alone e p (u ++ c ∷ []) s) in
    let f = mark_left (next marks o start e) (all_next marks (o + positions e) start es) (positions e) p (length-next e marks o start) (holds_below e c p t.1) in
    (f ∙ t.0, inl t.1)
next_complete (e ∷ es) marks o start u c p k a (inr s) =
    let t = next_complete es marks (o + positions e) start u c (p - positions e) k (rest_marks e es marks o u a) s.1 in
    let f = mark_right (next marks o start e) (all_next marks (o + positions e) start es) (positions e) p (length-next e marks o start) s.0 in
    (f ∙ t.0, inr (s.0, t.1))

-- of the rules, numbered from k, the first that has the text u
abbrev pub IsFirstFrom : List Expression → List ℕ → ℕ → Option ℕ → Type 0
IsFirstFrom rules u k None = (j : ℕ) → ¬ RuleMatches rules j u
IsFirstFrom rules u k (Some n) = (j : ℕ) × (n ≡ k + j) × RuleMatches rules j u × ((i : ℕ) → i < j → ¬ RuleMatches rules i u)

none_before : (e : Expression) (es : List Expression) (u : List ℕ) (j : ℕ) → ¬ Matches e u → ((i : ℕ) → i < j → ¬ RuleMatches es i u) → (i : ℕ) → i < suc j → ¬ RuleMatches (e ∷ es) i u
none_before e es u j not_it h zero lt m = not_it m
none_before e es u j not_it h (suc i) lt m = h i (omega (arith, lt)) m

none_later : (e : Expression) (es : List Expression) (u : List ℕ) → ¬ Matches e u → ((i : ℕ) → ¬ RuleMatches es i u) → (i : ℕ) → ¬ RuleMatches (e ∷ es) i u
none_later e es u not_it h zero m = not_it m
none_later e es u not_it h (suc i) m = h i m

first_later : (e : Expression) (es : List Expression) (u : List ℕ) (k : ℕ) (r : Option ℕ) → ¬ Matches e u → IsFirstFrom es u (k + 1) r → IsFirstFrom (e ∷ es) u k r
first_later e es u k None not_it h = none_later e es u not_it h
first_later e es u k (Some n) not_it h = (suc h.0, omega (arith, h.1, add-one h.0), h.2, none_before e es u h.0 not_it h.3)

none_earlier : (rules : List Expression) (u : List ℕ) (i : ℕ) → i < 0 → ¬ RuleMatches rules i u
none_earlier rules u i lt m = absurd (omega (arith, lt))

ends_cases : (b : Bool) (x y : Option ℕ) → ((b ≡ true) × ((if b then x else y) ≡ x)) ⊎ ((b ≡ false) × ((if b then x else y) ≡ y))
ends_cases true x y = inl (refl, refl)
ends_cases false x y = inr (refl, refl)

pub first_from : (rules : List Expression) (marks : List Bool) (o k : ℕ) (u : List ℕ) → AreMarks rules marks o u → 1 ≤ length u → IsFirstFrom rules u k (first_end marks o k rules)
first_from [] marks o k u a some = λ j m. m
first_from (e ∷ es) marks o k u a some = elim (ends_cases (ends marks o false e) (Some k) (first_end marks (o + positions e) (k + 1) es)) [
  | inl t ↦
      let s = ends_sound e (Is []) marks o false u (λ f. absurd (false≢true f)) (first_only e es marks o u a) t.0 in
      let m : Matches e u = subst (Matches e) (sym (s.2 ∙ ap (λ x. x ++ s.1) s.3)) s.4 in
      subst (λ (r : Option ℕ). IsFirstFrom (e ∷ es) u k r) (sym t.1) (0, omega arith, m, none_earlier (e ∷ es) u)
  | inr t ↦
      let not_it : ¬ Matches e u = λ m.
      let f = ends_complete e (Is []) marks o false u [] u (first_every e es marks o u a) refl refl m (λ none. let n : length u ≡ 0 = ap length none in absurd (omega (arith, n, some))) in
      false≢true (sym t.0 ∙ f) in
      subst (λ (r : Option ℕ). IsFirstFrom (e ∷ es) u k r) (sym t.1) (first_later e es u k (first_end marks (o + positions e) (k + 1) es) not_it
      (first_from es marks (o + positions e) (k + 1) u (rest_marks e es marks o u a) some))
]

first_is : (rules : List Expression) (u : List ℕ) (r : Option ℕ) → IsFirstFrom rules u 0 r → IsFirst rules u r
first_is rules u None h = h
first_is rules u (Some n) h =
    let e : h.0 ≡ n = omega (arith, h.1) in
    (subst (λ (j : ℕ). RuleMatches rules j u) e h.2, λ i lt. h.3 i (omega (arith, lt, e)))

-- the rules have a text that begins with u exactly where its last character can stand somewhere
pub rules_prefix : (rules : List Expression) (p : ℕ) (u : List ℕ) → AllMade rules → StandsAt rules p u → IsRulePrefix rules u
rules_prefix [] p u made h = elim h [ ]
rules_prefix (e ∷ es) p u made (inl s) = (0, prefix_of e p u made.0 s)
rules_prefix (e ∷ es) p u made (inr s) = let t = rules_prefix es (p - positions e) u made.1 s.1 in (suc t.0, t.1)

stand_in : (rules : List Expression) (k : ℕ) (u : List ℕ) → 1 ≤ length u → IsSomeAnd (slice_get rules k) (λ rule. IsPrefix rule u) → (p : ℕ) × StandsAt rules p u
stand_in [] k u some h = elim h [ ]
stand_in (e ∷ es) zero u some h = let t = stand_of e u h some in (t.0, inl t.1)
stand_in (e ∷ es) (suc k) u some h =
    let t = stand_in es k u some h in
    (positions e + t.0, inr (omega arith, stands_at es t.0 (positions e + t.0 - positions e) u (omega arith) t.1))

pub rules_stand : (rules : List Expression) (u : List ℕ) → 1 ≤ length u → IsRulePrefix rules u → (p : ℕ) × StandsAt rules p u
rules_stand rules u some h = stand_in rules h.0 u some h.1

pub rules_nonempty : (rules : List Expression) (p : ℕ) (u : List ℕ) → StandsAt rules p u → 1 ≤ length u
rules_nonempty [] p u h = elim h [ ]
rules_nonempty (e ∷ es) p u (inl s) = nonempty e p u s
rules_nonempty (e ∷ es) p u (inr s) = rules_nonempty es (p - positions e) u s.1

-- sets and their marks
pub marks_of_set : (rules : List Expression) (u set : _) (marks : List Bool) → IsSetOf rules u set → AreMarksOf set marks → AreMarks rules marks 0 u
marks_of_set rules u set marks s m = record {
  only = λ p h. s.only p (m.only p (mark_moved marks (0 + p) p (omega arith) h));
  every = λ p h. mark_moved marks p (0 + p) (omega arith) (m.every p (s.every p h));
}

pub accepts_first : (rules : List Expression) (u set : List ℕ) (marks : List Bool) → IsSetOf rules u set → AreMarksOf set marks → 1 ≤ length u → IsFirst rules u (first_end marks 0 0 rules)
accepts_first rules u set marks s m some = first_is rules u (first_end marks 0 0 rules) (first_from rules marks 0 0 u (marks_of_set rules u set marks s m) some)
