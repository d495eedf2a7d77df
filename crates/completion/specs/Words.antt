-- The word before the cursor, and the texts of rules that go on with it.
use Rattle.std.specs.Prelude.{◌≡◌, ℕ, suc, ◌<◌, ◌≤◌, ◌==◌, ◌&&◌, ◌||◌, Bool, false, IsTrue, if◌then◌else◌}
use Rattle.std.specs.Prelude.{List, [], ◌∷◌, Option, Some, None, slice_index_or, string_bytes}
use Rattle.std.specs.List.{list_any, starts_with}
use Rattle.std.specs.Str.{chars}
use Rattle.std.specs.StrCase.Lower.{str_to_lowercase}
use Rattle.std.specs.Char.Unicode.Alphabetic.{is_alphabetic}
use Rattle.std.specs.Char.Unicode.Numeric.{is_numeric}
use Rattle.std.specs.Char.Unicode.Lowercase.{is_lowercase}
use Rattle.settings.specs.declared.expressions.RuleText.{RuleText}

-- whether a character belongs to a word: a letter, a digit or `_`
abbrev pub is_in_word : ℕ → Bool
is_in_word c = is_alphabetic c || is_numeric c || c == 95

-- each character from offset `start` up to `end` belongs to a word
abbrev pub AreInWord : List ℕ → ℕ → ℕ → Type 0
AreInWord t start end = (start ≤ end) × ((i : ℕ) → start ≤ i → i < end → IsTrue (is_in_word (slice_index_or t i 0)))

-- the word before offset `end` begins at `start`: so far, and no further, the characters before `end` belong to a word
pub record IsWord (t : List ℕ) (start end : ℕ) : Type 0 where
  pub characters : AreInWord t start end
  pub begins : (i : ℕ) → start ≡ suc i → is_in_word (slice_index_or t i 0) ≡ false

-- `goes_on rule word`: whether the text of a rule begins with the word, both in UTF-8; of a word in any case, whatever the cases
abbrev pub goes_on : RuleText → List ℕ → Bool
goes_on rule word =
    if rule.any_case
    then starts_with (λ a b. a == b) (str_to_lowercase (string_bytes rule.text)) (str_to_lowercase word)
    else starts_with (λ a b. a == b) (string_bytes rule.text) word

-- `offered_text rule word`: the text that is offered for a rule, in UTF-8: that of a word in any case in small letters, where the word has
-- a small letter
abbrev pub offered_text : RuleText → List ℕ → List ℕ
offered_text rule word =
    if rule.any_case && list_any is_lowercase (chars word) then str_to_lowercase (string_bytes rule.text) else string_bytes rule.text

-- `offer_if number rule word`: the rule's number and text, if it has a text that goes on with the word
abbrev pub offer_if : ℕ → Option RuleText → List ℕ → List (ℕ × List ℕ)
offer_if number None word = []
offer_if number (Some rule) word = if goes_on rule word then (number, offered_text rule word) ∷ [] else []

-- `offer_of texts word number`: the same for the rule with this number, where `texts` has the text of each rule that has one
abbrev pub offer_of : List (Option RuleText) → List ℕ → ℕ → List (ℕ × List ℕ)
offer_of texts word number = offer_if number (slice_index_or texts number None) word
