-- Words at the cursor, what a typed letter goes into, and what is offered, worked out by hand over the grammar of sums.
use Rattle.std.specs.Prelude.{◌≡◌, ℕ, zero, suc, ◌<◌, ◌≤◌, true, false, IsTrue, List, [], ◌∷◌, ◌++◌, Option, Some, None, String, codes, refl, slice_index_or, string_bytes}
use Rattle.std.specs.Str.{trim}
use Rattle.std.specs.declared.alloc.Global.{Global}
use Rattle.std.proofs.Common.{◌∙◌, arith, inl, inr, subst, sym}
use Rattle.std.specs.Char.Unicode.Alphabetic.{alphabetic_ranges, is_alphabetic}
use Rattle.std.specs.Char.Unicode.Numeric.{is_numeric, numeric_ranges}
use Rattle.std.specs.Char.Unicode.Rows.{in_ranges}
use Rattle.definitions.specs.declared.Kind.{Kind}
use Rattle.definitions.specs.declared.Kind.TheVariants.{Rule, Invalid}
use Rattle.definitions.specs.Sentences.{IsExpected, IsViable}
use Rattle.definitions.specs.Tokens.{AreTokens, Token}
use Rattle.definitions.proofs.Ordered.{Contains-none}
use Rattle.definitions.proofs.TokensUnique.{IsPiece-inside}
use Rattle.readings.proofs.SumsRows.{after_number, num, plus, single, single_is, skips, sums, sums_file}
use Rattle.readings.proofs.SumTokenRows.{InMemory, a_blank_token, a_plus_token, one_digit, patterns, token}
use Rattle.settings.specs.declared.expressions.RuleText.{RuleText}
use Rattle.remedies.specs.declared.change.Change.TheVariants.{Keep, LeaveOut, PutIn}
use Rattle.mending.specs.declared.repair.Repair.{Repair}
use Rattle.completion.specs.Mended.{As_mended, As_they_are, EndsInvalid, GoOnAs, Not_at_all, changed_before, mended_before}
use Rattle.completion.specs.Offers.{AreOffers}
use Rattle.completion.specs.Places.{AreBefore, EndsAt, Expected, Goes_into, IsLetter, MayFollow, typed, unskipped}
use Rattle.completion.specs.Texts.{IsShown, IsTextOf}
use Rattle.completion.specs.Words.{IsWord, goes_on, is_in_word, offer_if, offer_of, offered_text}

-- letters, also beyond ASCII, digits and `_` belong to words; signs and blanks don't
of_words : (is_in_word 97 ≡ true) × (is_in_word 90 ≡ true) × (is_in_word 233 ≡ true) × (is_in_word 53 ≡ true) × (is_in_word 95 ≡ true)
unfolding is_alphabetic alphabetic_ranges is_numeric numeric_ranges in_ranges
of_words = (refl, refl, refl, refl, refl)

of_no_word : (is_in_word 45 ≡ false) × (is_in_word 32 ≡ false) × (is_in_word 36 ≡ false)
unfolding is_alphabetic alphabetic_ranges is_numeric numeric_ranges in_ranges
of_no_word = (refl, refl, refl)

abbrev dashed : List ℕ
dashed = codes "a-bc"

-- the word before the end is `bc`, and none is before the `b`
last_word : IsWord dashed 2 4
unfolding is_alphabetic alphabetic_ranges is_numeric numeric_ranges in_ranges
last_word = record { characters = (omega arith, inside); begins = before }
  where
    inside : (i : ℕ) → 2 ≤ i → i < 4 → IsTrue (is_in_word (slice_index_or dashed i 0))
    inside zero low high = absurd (omega (arith, low))
    inside (suc zero) low high = absurd (omega (arith, low))
    inside (suc (suc zero)) low high = refl
    inside (suc (suc (suc zero))) low high = refl
    inside (suc (suc (suc (suc i)))) low high = absurd (omega (arith, high))

    before : (i : ℕ) → 2 ≡ suc i → is_in_word (slice_index_or dashed i 0) ≡ false
    before zero e = absurd (omega (arith, e))
    before (suc zero) e = refl
    before (suc (suc i)) e = absurd (omega (arith, e))

too_late : IsWord dashed 3 4 → ⊥
unfolding is_alphabetic alphabetic_ranges is_numeric numeric_ranges in_ranges
too_late h = let e : true ≡ false = h.begins 2 refl in cc e

too_early : IsWord dashed 1 4 → ⊥
unfolding is_alphabetic alphabetic_ranges is_numeric numeric_ranges in_ranges
too_early h = let e : false ≡ true = h.characters.1 1 (omega arith) (omega arith) in cc e

behind_its_end : IsWord dashed 3 2 → ⊥
behind_its_end h = omega (arith, h.characters.0)

-- a rule's text goes on with each of its beginnings, and with the empty word
keyword : (rule : RuleText) → string_bytes rule.text ≡ codes "let" → rule.any_case ≡ false
    → (goes_on rule (codes "le") ≡ true) × (goes_on rule [] ≡ true) × (goes_on rule (codes "lt") ≡ false) × (goes_on rule (codes "lets") ≡ false)
    × (goes_on rule (codes "L") ≡ false) × (offered_text rule (codes "le") ≡ codes "let")
keyword rule text case = rw (text, case) (refl, refl, refl, refl, refl, refl)

offered : (rule : RuleText) → string_bytes rule.text ≡ codes "+" → rule.any_case ≡ false
    → (offer_of (None ∷ Some rule ∷ []) [] 1 ≡ (1, codes "+") ∷ []) × (offer_of (None ∷ Some rule ∷ []) (codes "a") 1 ≡ []) × (offer_of (None ∷ Some rule ∷ []) [] 0 ≡ [])
    × (offer_of (None ∷ Some rule ∷ []) [] 2 ≡ []) × (offer_if 7 (Some rule) [] ≡ (7, codes "+") ∷ []) × (offer_if 7 None [] ≡ [])
offered rule text case = rw (text, case) (refl, refl, refl, refl, refl, refl)

letters : IsLetter 97 × IsLetter 122
letters = ((omega arith, omega arith), (omega arith, omega arith))

no_letter : (IsLetter 96 → ⊥) × (IsLetter 123 → ⊥)
no_letter = (λ h. omega (arith, h.0), λ h. omega (arith, h.1))

a_letter_typed : (typed 1 97 (codes "12") ≡ codes "1a2") × (typed 0 97 (codes "12") ≡ codes "a12") × (typed 2 97 (codes "12") ≡ codes "12a")
a_letter_typed = (refl, refl, refl)

-- blanks are skipped
read : unskipped skips (num ∷ Rule 4 ∷ Invalid ∷ plus ∷ []) ≡ num ∷ Invalid ∷ plus ∷ []
read = refl

-- a text is shown where something is left of it without the blanks around it
sign_is_shown : (t : List ℕ) → trim t ≡ codes "+" → IsShown t
sign_is_shown t e none = let f : codes "+" ≡ [] = sym e ∙ none in cc f

blank_is_shown : (t : List ℕ) → trim t ≡ [] → IsShown t → ⊥
blank_is_shown t e shown = shown e

-- a number begins a sentence
a_number : IsViable sums (num ∷ [])
a_number = ([], (single, single_is))

-- the kinds of `1 2 + ` are mended by a plus between the numbers: up to the fault they stay, and behind it nothing more is put in
module _ (r : Repair) (begins : r.at ≡ 1) (fault : r.fault ≡ 1) (changes : r.changes.items ≡ PutIn 1 ∷ []) where
  before_the_fault : mended_before (r ∷ []) (num ∷ []) ≡ num ∷ []
  before_the_fault = rw fault refl

  behind_the_fault : mended_before (r ∷ []) (num ∷ num ∷ []) ≡ num ∷ plus ∷ num ∷ []
  behind_the_fault = rw (fault, begins, changes) refl

  further_on : mended_before (r ∷ []) (num ∷ num ∷ plus ∷ []) ≡ num ∷ plus ∷ num ∷ plus ∷ []
  further_on = rw (fault, begins, changes) refl

-- a kind that is left out is no more there, and one that is kept stays; nothing is put in behind the last one
changes_are_made : (changed_before (LeaveOut ∷ Keep ∷ PutIn 1 ∷ []) (num ∷ plus ∷ []) ≡ plus ∷ [])
    × (changed_before (LeaveOut ∷ Keep ∷ PutIn 1 ∷ []) (num ∷ plus ∷ num ∷ []) ≡ plus ∷ plus ∷ num ∷ [])
    × (changed_before (PutIn 1 ∷ []) [] ≡ []) × (changed_before [] (num ∷ []) ≡ num ∷ [])
changes_are_made = (refl, refl, refl, refl)

stops_short : EndsInvalid (num ∷ Invalid ∷ []) × (EndsInvalid (Invalid ∷ num ∷ []) → ⊥) × (EndsInvalid [] → ⊥)
stops_short = (refl, (λ e. cc e), (λ e. cc e))

-- the text `1 +`
abbrev sum : List ℕ
sum = codes "1 +"

abbrev tokens : List Token
tokens = token 0 ∷ token 4 ∷ token 1 ∷ []

no_word : IsWord sum 2 2
unfolding is_alphabetic alphabetic_ranges is_numeric numeric_ranges in_ranges
no_word = record { characters = (omega arith, λ i low high. absurd (omega (arith, low, high))); begins = before }
  where
    before : (i : ℕ) → 2 ≡ suc i → is_in_word (slice_index_or sum i 0) ≡ false
    before zero e = absurd (omega (arith, e))
    before (suc zero) e = refl
    before (suc (suc i)) e = absurd (omega (arith, e))

module _ (at : InMemory) where
  are_tokens : AreTokens (patterns at) sum tokens
  are_tokens = (one_digit at 49 32 (43 ∷ []) (omega arith) (omega arith) refl refl, (a_blank_token at 32 43 [] (omega arith) refl refl refl, (a_plus_token at [], refl)))

  -- a letter that is typed behind the blank doesn't belong to it
  behind_the_blank : EndsAt (patterns at) sum tokens 2 (Rule 0 ∷ Rule 4 ∷ [])
  behind_the_blank = record {
    earlier = token 0 ∷ [];
    token = token 4;
    later = token 1 ∷ [];
    split = refl;
    part = 1;
    ends = refl;
    within = omega arith;
    letter = 97;
    is_letter = (omega arith, omega arith);
    kind = Rule 4;
    piece = (a_blank_token at 32 97 [] (omega arith) refl refl refl).piece;
    kinds = refl;
  }

  behind_the_number : EndsAt (patterns at) sum tokens 1 (Rule 0 ∷ [])
  behind_the_number = record {
    earlier = [];
    token = token 0;
    later = token 4 ∷ token 1 ∷ [];
    split = refl;
    part = 1;
    ends = refl;
    within = omega arith;
    letter = 98;
    is_letter = (omega arith, omega arith);
    kind = Rule 0;
    piece = (one_digit at 49 98 [] (omega arith) (omega arith) refl refl).piece;
    kinds = refl;
  }

  -- no token ends at the start of a text, nor in a text that has none
  at_the_start : (t : List ℕ) (ts : List Token) (before : List Kind) → EndsAt (patterns at) t ts 0 before → ⊥
  at_the_start t ts before h = omega (arith, h.ends, (IsPiece-inside (patterns at) _ h.kind h.part h.piece).0)

  without_tokens : (t : List ℕ) (o : ℕ) (before : List Kind) → EndsAt (patterns at) t [] o before → ⊥
  without_tokens t o before h = go h.earlier h.split
    where
      go : (earlier : List Token) → [] ≡ earlier ++ h.token ∷ h.later → ⊥
      go [] e = cc e
      go (x ∷ earlier) e = cc e

  number_and_blank : AreBefore (patterns at) sum tokens 2 (Rule 0 ∷ Rule 4 ∷ [])
  number_and_blank = inr behind_the_blank

  nothing_before : AreBefore (patterns at) sum tokens 0 []
  nothing_before = inl (refl, refl)

  nothing_before_the_end : AreBefore (patterns at) sum [] 1 [] → ⊥
  nothing_before_the_end h = elim h [ inl e ↦ omega (arith, e.0) | inr e ↦ without_tokens sum 1 [] e ]

  -- after a number and a blank a plus, or the end
  a_plus_follows : (repairs : List Repair) → MayFollow (sums_file (patterns at)) sum tokens repairs 2 (1 ∷ [])
  a_plus_follows repairs = Expected (Rule 0 ∷ Rule 4 ∷ []) number_and_blank (num ∷ []) (As_they_are a_number refl) true after_number

  -- something follows at the start of a text
  nothing_follows : MayFollow (sums_file (patterns at)) [] [] [] 0 [] → ⊥
  nothing_follows (Goes_into none is) = none [] (inl (refl, refl))
  nothing_follows (Expected before are kinds go at_end e) = elim are [
    | inl first ↦ a_number_may (subst (λ ks. GoOnAs sums [] (unskipped skips ks) kinds) first.1 go)
    | inr ends ↦ without_tokens [] 0 before ends
  ]
    where
      a_number_may : GoOnAs sums [] [] kinds → ⊥
      a_number_may (As_they_are v is) = Contains-none 0 (((subst (λ ks. IsExpected sums ks [] at_end) is e).each 0).1 ([], (single, single_is)))
      a_number_may (As_mended not ends is) = not (num ∷ [], (single, single_is))
      a_number_may (Not_at_all not ends is) = not (num ∷ [], (single, single_is))

  -- a rule's text is offered there, and not in the place of the blank
  plus_offered : (rule : RuleText) → string_bytes rule.text ≡ codes "+" → rule.any_case ≡ false
      → AreOffers (sums_file (patterns at)) (None ∷ Some rule ∷ []) [] sum 2 2 ((1, codes "+") ∷ [])
  plus_offered rule text case = record {
    word = no_word;
    tokens = tokens;
    are_tokens = are_tokens;
    rules = 1 ∷ [];
    follow = a_plus_follows [];
    are = rw (text, case) refl;
  }

  no_blank_replaced : (texts : List (Option RuleText)) (offers : List (ℕ × List ℕ)) → AreOffers (sums_file (patterns at)) texts [] sum 2 1 offers → ⊥
  unfolding is_alphabetic alphabetic_ranges is_numeric numeric_ranges in_ranges
  no_blank_replaced texts offers h = let e : false ≡ true = h.word.characters.1 1 (omega arith) (omega arith) in cc e

-- a rule that is skipped has no text
skipped : (given : Option (String Global)) → IsTextOf true given None
skipped given = refl

skipped_with_a_text : (given : Option (String Global)) (rule : RuleText) → IsTextOf true given (Some rule) → ⊥
skipped_with_a_text given rule e = cc e

-- the text that the settings give, and no other one, nor none
given_text : (text : String Global) (rule : RuleText) → string_bytes rule.text ≡ string_bytes text → IsShown (string_bytes text) → IsTextOf false (Some text) (Some rule)
given_text text rule same shown = (λ s. same, λ blank. absurd (shown blank))

other_text : (text : String Global) (rule : RuleText) → string_bytes text ≡ codes "+" → string_bytes rule.text ≡ codes "-" → IsShown (string_bytes text)
    → IsTextOf false (Some text) (Some rule) → ⊥
other_text text rule one two shown h = let e : codes "-" ≡ codes "+" = sym two ∙ h.0 shown ∙ one in cc e

no_text : (text : String Global) → IsShown (string_bytes text) → IsTextOf false (Some text) None → ⊥
no_text text shown h = h.0 shown
