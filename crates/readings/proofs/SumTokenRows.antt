-- The tokens of texts of sums, wherever the parts of the patterns lie in memory: what each rule means, and the tokens of one character.
use Rattle.std.specs.declared.alloc.Global.{Global}
use Rattle.std.specs.List.{AllByRecursion, concat}
use Rattle.std.specs.Prelude.{◌≡◌, ◌≢◌, ℕ, zero, suc, ◌≤◌, ◌&&◌, ◌||◌, Bool, true, false, Option, Some, None, List, [], ◌∷◌, ◌++◌, length, take, Vec, codes, refl, slice_get, slice_index, IsSomeAnd}
use Rattle.std.proofs.Common.{ap, sym, subst, ◌∙◌, inl, inr, arith}
use Rattle.definitions.specs.declared.expression.Expression.TheVariants.{Class, Literal, Plus'}
use Rattle.definitions.specs.declared.expression.Expression.{Expression}
use Rattle.definitions.specs.declared.expression.Interval.{Interval}
use Rattle.definitions.specs.declared.Kind.TheVariants.{Rule, Invalid}
use Rattle.definitions.specs.Patterns.{Matches, IsPrefix, is_member}
use Rattle.definitions.specs.Spelling.{Address}
use Rattle.definitions.specs.Tokens.{RuleMatches, IsRulePrefix, IsUnmatched, IsPiece, IsDead, IsToken, Token}

abbrev pub token : ℕ → Token
token k = record { kind = Rule k; length = 1; reach = 2 }

abbrev pub invalid : Token
invalid = record { kind = Invalid; length = 1; reach = 1 }

abbrev only : ℕ → Interval
only c = record { first = c; last = c }

abbrev pub zero_to_nine : List Interval
zero_to_nine = record { first = 48; last = 57 } ∷ []

abbrev pub all_blanks : List Interval
all_blanks = only 32 ∷ only 9 ∷ only 13 ∷ only 10 ∷ []

-- whether two characters can stand beside one another in one token
abbrev joins : ℕ → ℕ → Bool
joins c d = (is_member c zero_to_nine && is_member d zero_to_nine) || (is_member c all_blanks && is_member d all_blanks)

abbrev all_in : List Interval → List ℕ → Bool
all_in intervals [] = true
all_in intervals (c ∷ cs) = is_member c intervals && all_in intervals cs

both : (a b c : Bool) → (a && (b && c)) ≡ true → (a && b) ≡ true
both true true c e = refl
both true false c e = e
both false b c e = e

or_left : (a b : Bool) → a ≡ true → (a || b) ≡ true
or_left true b e = refl
or_left false b e = absurd (cc e)

or_right : (a b : Bool) → b ≡ true → (a || b) ≡ true
or_right true b e = refl
or_right false b e = e

and_true : (a b : Bool) → a ≡ true → b ≡ true → (a && b) ≡ true
and_true true b d e = e
and_true false b d e = d

and_first : (a b : Bool) → (a && b) ≡ true → a ≡ true
and_first true b e = refl
and_first false b e = e

some_prefix : (o : Option Expression) (t : List ℕ) → IsSomeAnd o (λ rule. IsPrefix rule t)
    → (rest : List ℕ) × IsSomeAnd o (λ rule. Matches rule (t ++ rest))
some_prefix None t h = absurd h
some_prefix (Some e) t h = h

some_front : (o : Option Expression) (t rest : List ℕ) → IsSomeAnd o (λ rule. Matches rule (t ++ rest)) → IsSomeAnd o (λ rule. IsPrefix rule t)
some_front None t rest h = absurd h
some_front (Some e) t rest h = (rest, h)

-- a class repeated is a text of its members
module _ (e : Expression) (intervals : List Interval)
    (member : (t : List ℕ) → Matches e t → (c : ℕ) × (t ≡ c ∷ []) × (is_member c intervals ≡ true)) where
  joined : (parts : List (List ℕ)) → AllByRecursion (Matches e) parts → all_in intervals (concat parts) ≡ true
  joined [] all = refl
  joined (t ∷ parts) all =
      let first = member t all.0 in
      ap (λ u. all_in intervals (u ++ concat parts)) first.1 ∙ and_true (is_member first.0 intervals) (all_in intervals (concat parts)) first.2 (joined parts all.1)

  some : (parts : List (List ℕ)) → parts ≢ [] → AllByRecursion (Matches e) parts → concat parts ≡ [] → ⊥
  some [] nonempty all none = nonempty refl
  some (t ∷ parts) nonempty all none =
      let first = member t all.0 in
      let none' : (first.0 ∷ []) ++ concat parts ≡ [] = subst (λ u. u ++ concat parts ≡ []) first.1 none in
      absurd (cc none')

-- where the parts of the patterns lie in memory
pub record InMemory : Type 0 where
  pub number : Address
  pub blank : Address
  pub digits : Vec Interval Global
  pub blanks : Vec Interval Global
  pub plus : Vec ℕ Global
  pub left : Vec ℕ Global
  pub right : Vec ℕ Global
  pub digits_are : digits.items ≡ zero_to_nine
  pub blanks_are : blanks.items ≡ all_blanks
  pub plus_is : plus.items ≡ 43 ∷ []
  pub left_is : left.items ≡ 40 ∷ []
  pub right_is : right.items ≡ 41 ∷ []

module _ (at : InMemory) where
  -- the patterns of `[0-9]+`, `"+"`, `"("`, `")"` and `[ \t\r\n]+`
  abbrev pub patterns : List Expression
  patterns = Plus' at.number (Class false at.digits) ∷ Literal at.plus ∷ Literal at.left ∷ Literal at.right ∷ Plus' at.blank (Class false at.blanks) ∷ []

  abbrev Shape : ℕ → List ℕ → Type 0
  Shape zero t = (t ≢ []) × (all_in zero_to_nine t ≡ true)
  Shape (suc zero) t = t ≡ 43 ∷ []
  Shape (suc (suc zero)) t = t ≡ 40 ∷ []
  Shape (suc (suc (suc zero))) t = t ≡ 41 ∷ []
  Shape (suc (suc (suc (suc zero)))) t = (t ≢ []) × (all_in all_blanks t ≡ true)
  Shape (suc (suc (suc (suc (suc k))))) t = ⊥

  of_class : (v : Vec Interval Global) (intervals : List Interval) → v.items ≡ intervals → (t : List ℕ) → Matches (Class false v) t
      → (c : ℕ) × (t ≡ c ∷ []) × (is_member c intervals ≡ true)
  of_class v intervals are t (c, is, scalar, member) = (c, is, subst (λ xs. is_member c xs ≡ true) are member)

  -- a text of a rule has its shape
  shape : (j : ℕ) (t : List ℕ) → RuleMatches patterns j t → Shape j t
  shape zero t (parts, nonempty, all, is) = (
    λ none. some (Class false at.digits) zero_to_nine (of_class at.digits zero_to_nine at.digits_are) parts nonempty all (sym is ∙ none),
    ap (λ u. all_in zero_to_nine u) is ∙ joined (Class false at.digits) zero_to_nine (of_class at.digits zero_to_nine at.digits_are) parts all,
  )
  shape (suc zero) t h = h ∙ at.plus_is
  shape (suc (suc zero)) t h = h ∙ at.left_is
  shape (suc (suc (suc zero))) t h = h ∙ at.right_is
  shape (suc (suc (suc (suc zero)))) t (parts, nonempty, all, is) = (
    λ none. some (Class false at.blanks) all_blanks (of_class at.blanks all_blanks at.blanks_are) parts nonempty all (sym is ∙ none),
    ap (λ u. all_in all_blanks u) is ∙ joined (Class false at.blanks) all_blanks (of_class at.blanks all_blanks at.blanks_are) parts all,
  )
  shape (suc (suc (suc (suc (suc k))))) t h = h

  -- a digit, a sign and a blank
  a_digit : (c : ℕ) → 48 ≤ c → c ≤ 57 → is_member c zero_to_nine ≡ true → RuleMatches patterns 0 (c ∷ [])
  a_digit c low high m = ((c ∷ []) ∷ [], (λ e. absurd (cc e)), ((c, refl, inl (omega (arith, low, high)), rw at.digits_are m), tt), refl)

  a_plus : RuleMatches patterns 1 (43 ∷ [])
  a_plus = sym at.plus_is

  a_left : RuleMatches patterns 2 (40 ∷ [])
  a_left = sym at.left_is

  a_right : RuleMatches patterns 3 (41 ∷ [])
  a_right = sym at.right_is

  a_blank : (c : ℕ) → c ≤ 32 → is_member c all_blanks ≡ true → RuleMatches patterns 4 (c ∷ [])
  a_blank c high m = ((c ∷ []) ∷ [], (λ e. absurd (cc e)), ((c, refl, inl (omega (arith, high)), rw at.blanks_are m), tt), refl)

  -- no text has two characters side by side that don't join
  apart : (c d : ℕ) → joins c d ≡ false → (j : ℕ) (r : List ℕ) → ¬ RuleMatches patterns j (c ∷ d ∷ r)
  apart c d not j r h = go j (shape j (c ∷ d ∷ r) h)
    where
      go : (j : ℕ) → Shape j (c ∷ d ∷ r) → ⊥
      go zero s = absurd (cc (sym not ∙ or_left _ _ (both (is_member c zero_to_nine) (is_member d zero_to_nine) (all_in zero_to_nine r) s.1)))
      go (suc zero) s = absurd (cc s)
      go (suc (suc zero)) s = absurd (cc s)
      go (suc (suc (suc zero))) s = absurd (cc s)
      go (suc (suc (suc (suc zero)))) s =
          absurd (cc (sym not ∙ or_right (is_member c zero_to_nine && is_member d zero_to_nine) _ (both (is_member c all_blanks) (is_member d all_blanks) (all_in all_blanks r) s.1)))
      go (suc (suc (suc (suc (suc k))))) s = s

  -- the first token is one character, where the next one doesn't join
  single : (c k : ℕ) (rest : List ℕ) → RuleMatches patterns k (c ∷ []) → ((j : ℕ) → RuleMatches patterns j (c ∷ []) → k ≤ j)
      → ((d : ℕ) (r : List ℕ) → rest ≡ d ∷ r → joins c d ≡ false) → IsToken patterns (c ∷ rest) (token k)
  single c k [] m first ends = record {
    piece = record { nonempty = omega arith; inside = omega arith; matches = m; longest = λ j n l h. l; earliest = first };
    reach = inr (refl, none);
  }
    where
      none : (n : ℕ) → ¬ IsDead patterns (c ∷ []) n
      none zero dead = omega (arith, dead.nonempty)
      none (suc zero) dead = dead.no_prefix (k, some_front (slice_get patterns k) (c ∷ []) [] m)
      none (suc (suc n)) dead = omega (arith, dead.inside)
  single c k (d ∷ r) m first ends = record {
    piece = record { nonempty = omega arith; inside = omega arith; matches = m; longest = longest; earliest = first };
    reach = inl (record { nonempty = omega arith; inside = omega arith; no_prefix = dead }, least);
  }
    where
      longest : (j n : ℕ) → n ≤ length (c ∷ d ∷ r) → RuleMatches patterns j (take n (c ∷ d ∷ r)) → n ≤ 1
      longest j zero l h = omega arith
      longest j (suc zero) l h = omega arith
      longest j (suc (suc n)) l h = absurd (apart c d (ends d r refl) j (take n r) h)

      dead : ¬ IsRulePrefix patterns (c ∷ d ∷ [])
      dead (j, h) = let some = some_prefix (slice_get patterns j) (c ∷ d ∷ []) h in apart c d (ends d r refl) j some.0 some.1

      least : (n : ℕ) → IsDead patterns (c ∷ d ∷ r) n → 2 ≤ n
      least zero x = absurd (omega (arith, x.nonempty))
      least (suc zero) x = absurd (x.no_prefix (k, some_front (slice_get patterns k) (c ∷ []) [] m))
      least (suc (suc n)) x = omega arith

  -- the first rules don't match a sign
  different : (c d : ℕ) → c ∷ [] ≡ d ∷ [] → c ≡ d
  different c d e = ap (λ l. slice_index l 0) e

  from_one : (c : ℕ) → is_member c zero_to_nine ≡ false → (j : ℕ) → RuleMatches patterns j (c ∷ []) → 1 ≤ j
  from_one c never zero h = absurd (cc (sym never ∙ and_first (is_member c zero_to_nine) true ((shape 0 (c ∷ []) h).1)))
  from_one c never (suc j) h = omega arith

  from_two : (c : ℕ) → is_member c zero_to_nine ≡ false → (c ≡ 43 → ⊥) → (j : ℕ) → RuleMatches patterns j (c ∷ []) → 2 ≤ j
  from_two c never sign zero h = absurd (omega (arith, from_one c never 0 h))
  from_two c never sign (suc zero) h = absurd (sign (different c 43 (shape 1 (c ∷ []) h)))
  from_two c never sign (suc (suc j)) h = omega arith

  from_three : (c : ℕ) → is_member c zero_to_nine ≡ false → (c ≡ 43 → ⊥) → (c ≡ 40 → ⊥) → (j : ℕ) → RuleMatches patterns j (c ∷ []) → 3 ≤ j
  from_three c never sign paren zero h = absurd (omega (arith, from_one c never 0 h))
  from_three c never sign paren (suc zero) h = absurd (sign (different c 43 (shape 1 (c ∷ []) h)))
  from_three c never sign paren (suc (suc zero)) h = absurd (paren (different c 40 (shape 2 (c ∷ []) h)))
  from_three c never sign paren (suc (suc (suc j))) h = omega arith

  from_four : (c : ℕ) → is_member c zero_to_nine ≡ false → c ≤ 32 → (j : ℕ) → RuleMatches patterns j (c ∷ []) → 4 ≤ j
  from_four c never low zero h = absurd (omega (arith, from_one c never 0 h))
  from_four c never low (suc zero) h = absurd (omega (arith, low, different c 43 (shape 1 (c ∷ []) h)))
  from_four c never low (suc (suc zero)) h = absurd (omega (arith, low, different c 40 (shape 2 (c ∷ []) h)))
  from_four c never low (suc (suc (suc zero))) h = absurd (omega (arith, low, different c 41 (shape 3 (c ∷ []) h)))
  from_four c never low (suc (suc (suc (suc j)))) h = omega arith

  -- a digit, a sign or a line feed, and what comes next
  pub one_digit : (c d : ℕ) (r : List ℕ) → 48 ≤ c → c ≤ 57 → is_member c zero_to_nine ≡ true → joins c d ≡ false → IsToken patterns (c ∷ d ∷ r) (token 0)
  one_digit c d r low high m apart' =
      single c 0 (d ∷ r) (a_digit c low high m) (λ j h. omega arith) (λ e s same. subst (λ x. joins c x ≡ false) (ap (λ l. slice_index l 0) same) apart')

  pub last_digit : (c : ℕ) → 48 ≤ c → c ≤ 57 → is_member c zero_to_nine ≡ true → IsToken patterns (c ∷ []) (token 0)
  last_digit c low high m = single c 0 [] (a_digit c low high m) (λ j h. omega arith) (λ e s same. absurd (cc same))

  pub a_plus_token : (rest : List ℕ) → IsToken patterns (43 ∷ rest) (token 1)
  a_plus_token rest = single 43 1 rest a_plus (from_one 43 refl) (λ d r same. refl)

  pub a_left_token : (rest : List ℕ) → IsToken patterns (40 ∷ rest) (token 2)
  a_left_token rest = single 40 2 rest a_left (from_two 40 refl (λ e. omega (arith, e))) (λ d r same. refl)

  pub a_right_token : (rest : List ℕ) → IsToken patterns (41 ∷ rest) (token 3)
  a_right_token rest = single 41 3 rest a_right (from_three 41 refl (λ e. omega (arith, e)) (λ e. omega (arith, e))) (λ d r same. refl)

  pub a_blank_token : (c d : ℕ) (r : List ℕ) → c ≤ 32 → is_member c zero_to_nine ≡ false → is_member c all_blanks ≡ true → joins c d ≡ false
      → IsToken patterns (c ∷ d ∷ r) (token 4)
  a_blank_token c d r low never m apart' =
      single c 4 (d ∷ r) (a_blank c low m) (from_four c never low) (λ e s same. subst (λ x. joins c x ≡ false) (ap (λ l. slice_index l 0) same) apart')

  -- a character with which no text of a rule begins is an invalid token, which it alone decides
  no_rule : (j : ℕ) (r : List ℕ) → ¬ RuleMatches patterns j (35 ∷ r)
  no_rule j r h = go j (shape j (35 ∷ r) h)
    where
      go : (j : ℕ) → Shape j (35 ∷ r) → ⊥
      go zero s = absurd (cc s.1)
      go (suc zero) s = omega (arith, ap (λ l. slice_index l 0) s)
      go (suc (suc zero)) s = omega (arith, ap (λ l. slice_index l 0) s)
      go (suc (suc (suc zero))) s = omega (arith, ap (λ l. slice_index l 0) s)
      go (suc (suc (suc (suc zero)))) s = absurd (cc s.1)
      go (suc (suc (suc (suc (suc k))))) s = s

  no_prefix_of_mark : IsRulePrefix patterns (codes "#") → ⊥
  no_prefix_of_mark (j, h) = let found = some_prefix (slice_get patterns j) (codes "#") h in no_rule j found.0 found.1

  pub an_invalid_token : (rest : List ℕ) → IsToken patterns (35 ∷ rest) invalid
  an_invalid_token rest = record { piece = (refl, omega arith, unmatched); reach = inl (record { nonempty = omega arith; inside = omega arith; no_prefix = dead }, least) }
    where
      unmatched : (j n : ℕ) → 1 ≤ n → n ≤ length (35 ∷ rest) → ¬ RuleMatches patterns j (take n (35 ∷ rest))
      unmatched j zero some l h = omega (arith, some)
      unmatched j (suc n) some l h = no_rule j (take n rest) h

      dead : ¬ IsRulePrefix patterns (35 ∷ [])
      dead (j, h) = let found = some_prefix (slice_get patterns j) (35 ∷ []) h in no_rule j found.0 found.1

      least : (n : ℕ) → IsDead patterns (35 ∷ rest) n → 1 ≤ n
      least n x = x.nonempty

  -- where a rule matches, no token is invalid
  no_invalid_number : IsPiece patterns (codes "1") Invalid 1 → ⊥
  no_invalid_number i = i.2 0 1 (omega arith) (omega arith) (a_digit 49 (omega arith) (omega arith) refl)

  no_invalid_pair : IsPiece patterns (codes "##") Invalid 2 → ⊥
  no_invalid_pair i = omega (arith, i.0)

  -- a plus is no token of the rule of numbers, and a token has a character
  no_number : IsPiece patterns (codes "+") (Rule 0) 1 → ⊥
  no_number i = absurd (cc ((shape 0 (43 ∷ []) i.matches).1))

  no_empty_token : IsPiece patterns (codes "1") (Rule 0) 0 → ⊥
  no_empty_token i = omega (arith, i.nonempty)

  -- no rule's text begins with a mark, and nothing matches there
  a_dead_character : IsDead patterns (codes "#") 1
  a_dead_character = record { nonempty = omega arith; inside = omega arith; no_prefix = no_prefix_of_mark }

  nothing_matches : IsUnmatched patterns (codes "#")
  nothing_matches j zero some l h = omega (arith, some)
  nothing_matches j (suc n) some l h = no_rule j (take n []) h

  a_number_matches : IsUnmatched patterns (codes "1") → ⊥
  a_number_matches u = u 0 1 (omega arith) (omega arith) (a_digit 49 (omega arith) (omega arith) refl)
