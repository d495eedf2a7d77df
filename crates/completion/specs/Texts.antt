-- The texts of the rules of a language that may be offered.
use Rattle.std.specs.Prelude.{◌≡◌, ◌≢◌, ℕ, ◌<◌, Bool, true, false, List, [], length, slice_index_or, string_bytes}
use Rattle.std.specs.Prelude.{Option, Some, None, IfSome, IsSomeAnd, String}
use Rattle.std.specs.Str.{trim}
use Rattle.std.specs.declared.alloc.Global.{Global}
use Rattle.grammar.specs.Grammars.{FileGrammar}
use Rattle.settings.specs.declared.expressions.RuleText.{RuleText}
use Rattle.settings.specs.declared.settings.Settings.{Settings}

-- a text in UTF-8 that isn't blank
abbrev pub IsShown : List ℕ → Type 0
IsShown text = trim text ≢ []

-- `IsTextOf skipped given found`: a skipped rule has no text; another one the text that the settings give it, if that isn't blank; and
-- where they give none, one that isn't blank, if any
abbrev pub IsTextOf : Bool → Option (String Global) → Option RuleText → Type 0
IsTextOf true given found = found ≡ None
IsTextOf false None found = IfSome found (λ rule. IsShown (string_bytes rule.text))
IsTextOf false (Some text) found = (IsShown (string_bytes text) → IsSomeAnd found (λ rule. string_bytes rule.text ≡ string_bytes text))
    × (trim (string_bytes text) ≡ [] → found ≡ None)

-- `AreTexts file settings texts`: one entry for each rule of the file, which is its text
pub record AreTexts (file : FileGrammar) (settings : Settings) (texts : List (Option RuleText)) : Type 0 where
  pub long : length texts ≡ length file.names
  pub each : (k : ℕ) → k < length file.names
      → IsTextOf (slice_index_or file.skips k false) (slice_index_or settings.texts.items k None) (slice_index_or texts k None)
