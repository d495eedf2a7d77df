-- One or more digits: how the expression is spelled, what it matches, and the tokens of `12`.
use Rattle.std.specs.declared.alloc.Global.{Global}
use Rattle.std.specs.List.{AllByRecursion, concat}
use Rattle.std.specs.Prelude.{◌≡◌, ◌≢◌, ◌≤◌, ℕ, zero, suc, true, false, List, [], ◌∷◌, length, slice_index, codes, Vec, ◌++◌, refl}
use Rattle.std.proofs.Common.{arith, ap, sym, subst, ◌∙◌, inl, inr, length-append}
use Rattle.definitions.specs.declared.expression.Expression.TheVariants.{Literal, Class, Sequence', Choice', Star', Plus', Optional'}
use Rattle.definitions.specs.declared.expression.Expression.{Expression}
use Rattle.definitions.specs.declared.expression.Interval.{Interval}
use Rattle.definitions.specs.declared.expression.PatternCause.TheVariants.{MatchesEmpty}
use Rattle.definitions.specs.declared.Kind.TheVariants.{Rule, Invalid}
use Rattle.definitions.specs.PatternFaults.{first_fault, IsFault}
use Rattle.definitions.specs.Patterns.{Matches, IsPrefix, IsJoin, IsNonemptyJoin, is_in_class, is_member, is_within}
use Rattle.definitions.specs.PatternText.{Plain}
use Rattle.definitions.specs.Spelling.{Address, Spells, SpellsAt, IsPattern, Atom, class, plus, star, one_seq, one_rep}
use Rattle.definitions.specs.Tokens.{IsRulePrefix, IsLongest, IsPiece, IsDead, IsReach, IsToken, Token, AreTokens}

-- wherever its parts lie in memory
module _ (p : Address) (v : Vec Interval Global) (digits : v.items ≡ record { first = 48; last = 57 } ∷ []) where
  abbrev digit : Expression
  digit = Class false v

  abbrev number : Expression
  number = Plus' p digit

  one : Matches digit (49 ∷ [])
  one = (49, refl, inl (omega arith), rw digits refl)

  two : Matches digit (50 ∷ [])
  two = (50, refl, inl (omega arith), rw digits refl)

  -- `[0-9]+` spells it
  spelled_class : SpellsAt Atom 0 digit (Plain 0 91 ∷ Plain 1 48 ∷ Plain 2 45 ∷ Plain 3 57 ∷ Plain 4 93 ∷ [])
  spelled_class = class 0 false v _
      (rw digits (
        refl,
        (
          Plain 1 48 ∷ Plain 2 45 ∷ Plain 3 57 ∷ [],
          Plain 4 93 ∷ [],
          refl,
          ((refl, omega arith, omega arith, omega arith), refl, (refl, omega arith, omega arith, omega arith)),
          (Plain 4 93, refl, refl),
        ),
      ))

  spelled : Spells number (codes "[0-9]+")
  spelled = one_seq 0 _ (one_rep 0 _ (plus 0 _ _ (Plain 5 43) refl refl spelled_class))

  no_parts : (parts : List (List ℕ)) → parts ≢ [] → AllByRecursion (Matches digit) parts → [] ≡ concat parts → ⊥
  no_parts [] some all e = some refl
  no_parts (x ∷ xs) some all e =
      let one_long : length x ≡ 1 = ap length all.0.1 in
      let none : 0 ≡ length (x ++ concat xs) = ap length e in
      omega (arith, one_long, none, length-append x (concat xs))

  nonempty : ¬ Matches number []
  nonempty m = no_parts m.0 m.1 m.2 m.3

  pattern : IsPattern (codes "[0-9]+") number
  pattern = record { spelled = spelled; well_made = rw digits ((omega arith, tt), (48, inl (omega arith), refl)); not_empty = nonempty }

  -- `[0-9]*` matches the empty text
  starred : IsFault (codes "[0-9]*") (record { at = 0; cause = MatchesEmpty })
  unfolding first_fault
  starred = inr (refl, refl, (Star' p digit, one_seq 0 _ (one_rep 0 _ (star 0 _ _ (Plain 5 42) refl refl spelled_class)), ([], tt, refl)))

  -- `12`
  abbrev rules : List Expression
  rules = number ∷ []

  twelve : Matches number (codes "12")
  twelve = ((49 ∷ []) ∷ (50 ∷ []) ∷ [], λ e. (let l : 2 ≡ 0 = ap length e in omega (arith, l)), (one, (two, tt)), refl)

  just_one : Matches number (codes "1")
  just_one = ((49 ∷ []) ∷ [], λ e. (let l : 1 ≡ 0 = ap length e in omega (arith, l)), (one, tt), refl)

  -- one token, which reads the end
  abbrev token : Token
  token = record { kind = Rule 0; length = 2; reach = 3 }

  not_dead : (m : ℕ) → ¬ IsDead rules (codes "12") m
  not_dead zero d = omega (arith, d.nonempty)
  not_dead (suc zero) d = d.no_prefix (0, (codes "2", twelve))
  not_dead (suc (suc zero)) d = d.no_prefix (0, ([], twelve))
  not_dead (suc (suc (suc m))) d = omega (arith, d.inside)

  tokens : AreTokens rules (codes "12") (token ∷ [])
  tokens = (
    record { piece = record { nonempty = omega arith; inside = omega arith; matches = twelve; longest = λ j m l h. l; earliest = λ j h. omega arith }; reach = inr (refl, not_dead) },
    refl,
  )

  -- `1` is a text of two rules: the earlier one has it
  abbrev both : List Expression
  both = digit ∷ number ∷ []

  earlier : IsPiece both (codes "1") (Rule 0) 1
  earlier = record { nonempty = omega arith; inside = omega arith; matches = one; longest = λ j m l h. l; earliest = λ j h. omega arith }

  not_later : ¬ IsPiece both (codes "1") (Rule 1) 1
  not_later h = let first : 1 ≤ 0 = h.earliest 0 one in omega arith

  -- of `12` the first digit alone is no token, nor is it an invalid one
  not_the_first_digit : ¬ IsPiece rules (codes "12") (Rule 0) 1
  not_the_first_digit h = omega (arith, h.longest 0 2 (omega arith) twelve)

  not_invalid : ¬ IsPiece rules (codes "12") Invalid 1
  not_invalid h = h.2 0 1 (omega arith) (omega arith) just_one

  -- an invalid token has one character
  not_two_invalid : ¬ IsPiece rules (codes "##") Invalid 2
  not_two_invalid h = omega (arith, h.0)

  no_invalid_after_the_end : ¬ IsPiece rules [] Invalid 1
  no_invalid_after_the_end h = omega (arith, h.1)

  -- no token is empty, and none goes on after the end
  not_empty : ¬ IsPiece rules (codes "12") (Rule 0) 0
  not_empty h = omega (arith, h.nonempty)

  not_longer : ¬ IsPiece rules (codes "12") (Rule 0) 3
  not_longer h = omega (arith, h.inside)

  longest : IsLongest rules (codes "12") 0 2
  longest = record { nonempty = omega arith; inside = omega arith; matches = twelve; longest = λ j m l h. l; earliest = λ j h. omega arith }

  not_longest : IsLongest rules (codes "12") 0 1 → ⊥
  not_longest h = omega (arith, h.longest 0 2 (omega arith) twelve)

  reads_the_end : IsReach rules (codes "12") 3
  reads_the_end = inr (refl, not_dead)

  -- what reads past the token's own characters is told
  short_reach : ¬ IsReach rules (codes "12") 2
  short_reach (inl d) = not_dead 2 d.0
  short_reach (inr d) = omega (arith, d.0)

  not_its_token : IsToken rules (codes "12") (record { kind = Rule 0; length = 2; reach = 2 }) → ⊥
  not_its_token h = short_reach h.reach

  -- a number begins a number, and a sign doesn't
  begins : IsRulePrefix rules (codes "1")
  begins = (0, (codes "2", twelve))

  not_all : ¬ AreTokens rules (codes "12") []
  not_all h = absurd (cc h)

-- ---- classes, choices and the like

module _ (p q : Address) (v w : Vec Interval Global) (a_is : v.items ≡ record { first = 97; last = 97 } ∷ []) (none : w.items ≡ []) where
  -- every Unicode scalar value, and no surrogate, lies in `[^]`
  anything : Matches (Class true w) (0x10_FFFF ∷ [])
  anything = (0x10_FFFF, refl, inr (omega arith, omega arith), rw none refl)

  no_surrogate : ¬ Matches (Class true w) (0xD800 ∷ [])
  no_surrogate (c, is, inl low, member) = let same : 0xD800 ≡ c = ap (λ l. slice_index l 0) is in omega (arith, same, low)
  no_surrogate (c, is, inr high, member) = let same : 0xD800 ≡ c = ap (λ l. slice_index l 0) is in omega (arith, same, high.0)

  no_two : ¬ Matches (Class true w) (codes "ab")
  no_two (c, is, scalar, member) = absurd (cc is)

  -- `[^a]` has `b`, and not `a`
  b : Matches (Class true v) (codes "b")
  b = (98, refl, inl (omega arith), rw a_is refl)

  not_a : ¬ Matches (Class true v) (codes "a")
  not_a (c, is, scalar, member) =
      let same : 97 ≡ c = ap (λ l. slice_index l 0) is in
      absurd (cc (subst (λ xs. is_in_class true xs 97 ≡ true) a_is (subst (λ x. is_in_class true v.items x ≡ true) (sym same) member)))

-- both ends of an interval lie within it
ends : (is_within 97 (record { first = 97; last = 99 }) ≡ true) × (is_within 99 (record { first = 97; last = 99 }) ≡ true)
    × (is_within 96 (record { first = 97; last = 99 }) ≡ false) × (is_within 100 (record { first = 97; last = 99 }) ≡ false)
ends = (refl, refl, refl, refl)

members : (is_member 98 (record { first = 48; last = 57 } ∷ record { first = 97; last = 99 } ∷ []) ≡ true) × (is_member 98 [] ≡ false)
    × (is_in_class true [] 98 ≡ true) × (is_in_class false [] 98 ≡ false)
members = (refl, refl, refl, refl)

-- `"a"` and `"b"`
module _ (p q : Address) (x y : Vec ℕ Global) (x_is : x.items ≡ codes "a") (y_is : y.items ≡ codes "b") where
  is_a : Matches (Literal x) (codes "a")
  is_a = sym x_is

  is_b : Matches (Literal y) (codes "b")
  is_b = sym y_is

  a_only : ¬ Matches (Literal x) []
  a_only m = absurd (cc (m ∙ x_is))

  -- `"a" "b"` is `ab`, and neither `ba` nor `a`
  one_after_the_other : Matches (Sequence' p (Literal x) q (Literal y)) (codes "ab")
  one_after_the_other = (codes "a", codes "b", refl, is_a, is_b)

  not_backwards : ¬ Matches (Sequence' p (Literal x) q (Literal y)) (codes "ba")
  not_backwards (u, v, is, left, right) =
      let same : codes "ba" ≡ codes "ab" = is ∙ ap (λ l. l ++ v) (left ∙ x_is) ∙ ap (λ l. codes "a" ++ l) (right ∙ y_is) in
      omega (arith, ap (λ l. slice_index l 0) same)

  not_the_first_alone : ¬ Matches (Sequence' p (Literal x) q (Literal y)) (codes "a")
  not_the_first_alone (u, v, is, left, right) =
      absurd (cc (is ∙ ap (λ l. l ++ v) (left ∙ x_is) ∙ ap (λ l. codes "a" ++ l) (right ∙ y_is)))

  -- `"a" | "b"` is each of them, and not both
  either : Matches (Choice' p (Literal x) q (Literal y)) (codes "a") × Matches (Choice' p (Literal x) q (Literal y)) (codes "b")
  either = (inl is_a, inr is_b)

  not_both : ¬ Matches (Choice' p (Literal x) q (Literal y)) (codes "ab")
  not_both (inl m) = absurd (cc (m ∙ x_is))
  not_both (inr m) = omega (arith, ap (λ l. slice_index l 0) (m ∙ y_is))

  -- the optional one is nothing or `a`, and not `aa`
  perhaps : Matches (Optional' p (Literal x)) [] × Matches (Optional' p (Literal x)) (codes "a")
  perhaps = (inl refl, inr is_a)

  not_twice : ¬ Matches (Optional' p (Literal x)) (codes "aa")
  not_twice (inl e) = absurd (cc e)
  not_twice (inr m) = absurd (cc (m ∙ x_is))

  -- `"a"*` is nothing, `a` and `aa`, and not `b`; `"a"+` isn't nothing
  any_number : Matches (Star' p (Literal x)) [] × Matches (Star' p (Literal x)) (codes "aa")
  any_number = (([], tt, refl), (codes "a" ∷ codes "a" ∷ [], (is_a, (is_a, tt)), refl))

  no_b : ¬ Matches (Star' p (Literal x)) (codes "b")
  no_b ([], all, is) = absurd (cc is)
  no_b (part ∷ parts, all, is) =
      let same : codes "b" ≡ codes "a" ++ concat parts = is ∙ ap (λ l. l ++ concat parts) (all.0 ∙ x_is) in
      omega (arith, ap (λ l. slice_index l 0) same)

  at_least_once : Matches (Plus' p (Literal x)) (codes "aa")
  at_least_once = (codes "a" ∷ codes "a" ∷ [], (λ e. absurd (cc e)), (is_a, (is_a, tt)), refl)

  not_none : ¬ Matches (Plus' p (Literal x)) []
  not_none ([], nonempty, all, is) = nonempty refl
  not_none (part ∷ parts, nonempty, all, is) = absurd (cc (is ∙ ap (λ l. l ++ concat parts) (all.0 ∙ x_is)))

  -- `b` begins no text of `"a"`, and nothing begins each
  b_begins_none : IsPrefix (Literal x) (codes "b") → ⊥
  b_begins_none (rest, m) = omega (arith, ap (λ l. slice_index l 0) (m ∙ x_is))

  nothing_begins_it : IsPrefix (Literal x) []
  nothing_begins_it = (codes "a", is_a)

-- `aa` is `a` twice, and `ab` isn't; no text is none of them
twice : IsJoin (λ t. t ≡ codes "a") (codes "aa")
twice = (codes "a" ∷ codes "a" ∷ [], (refl, (refl, tt)), refl)

no_other_join : IsJoin (λ t. t ≡ codes "a") (codes "b") → ⊥
no_other_join ([], all, is) = absurd (cc is)
no_other_join (part ∷ parts, all, is) = omega (arith, ap (λ l. slice_index l 0) (is ∙ ap (λ l. l ++ concat parts) all.0))

once : IsNonemptyJoin (λ t. t ≡ codes "a") (codes "a")
once = (codes "a" ∷ [], (λ e. absurd (cc e)), (refl, tt), refl)

never : IsNonemptyJoin (λ t. t ≡ codes "a") [] → ⊥
never ([], nonempty, all, is) = nonempty refl
never (part ∷ parts, nonempty, all, is) = absurd (cc (is ∙ ap (λ l. l ++ concat parts) all.0))
