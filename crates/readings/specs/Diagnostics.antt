-- The fault that is reported of a text, from its tokens and the verdict on their kinds.
use Rattle.std.specs.Prelude.{◌≡◌, ℕ, Bool, if◌then◌else◌, List, [], ◌∷◌, ◌++◌, length, map, take, Option, Some, None}
use Rattle.std.specs.Prelude.{encode_utf8_all, string_bytes}
use Rattle.std.specs.Str.{chars}
use Rattle.definitions.specs.declared.Diagnostic.{Diagnostic as Stored}
use Rattle.definitions.specs.declared.Kind.{Kind}
use Rattle.definitions.specs.declared.Kind.TheVariants.{Rule}
use Rattle.definitions.specs.declared.Unit.{Unit as Encoding}
use Rattle.definitions.specs.Answers.{Diagnostic, diagnostic}
use Rattle.definitions.specs.Sentences.{IsExpected, Verdict, HasTree, FaultAt, FaultAtEnd}
use Rattle.definitions.specs.Tokens.{Token, kinds}
use Rattle.grammar.specs.Grammars.{FileGrammar}
use Rattle.readings.specs.Contents.{placed_parts}

-- these rules as kinds, and after them the end where it may come
abbrev pub looks : List ℕ → Bool → List (Option Kind)
looks rules at_end = map (λ r. Some (Rule r)) rules ++ (if at_end then None ∷ [] else [])

-- the diagnostic of the fault after the kinds `x`, with exactly what may follow these
abbrev pub IsFaultAfter : Encoding → FileGrammar → List ℕ → List Token → List Kind → Option Diagnostic → Type 0
IsFaultAfter encoding file t tokens x reported =
    (rules : List ℕ) × (at_end : Bool) × IsExpected file.grammar x rules at_end
    × (reported ≡ Some (diagnostic encoding file.names t (placed_parts file tokens) (length x) (looks rules at_end)))

-- `IsDiagnosis encoding file t tokens verdict reported`: what is reported of a text by its tokens and the verdict on their kinds: nothing
-- where there is a tree, otherwise the fault after the kinds before it
abbrev pub IsDiagnosis : Encoding → FileGrammar → List ℕ → List Token → Verdict → Option Diagnostic → Type 0
IsDiagnosis encoding file t tokens (HasTree tree) reported = reported ≡ None
IsDiagnosis encoding file t tokens (FaultAt k) reported = IsFaultAfter encoding file t tokens (take k (kinds file.skips tokens)) reported
IsDiagnosis encoding file t tokens FaultAtEnd reported = IsFaultAfter encoding file t tokens (kinds file.skips tokens) reported

-- what a diagnostic of the code says: its range, and its message as characters
abbrev pub shown : Stored → Diagnostic
shown d = record { range = d.range; message = chars (string_bytes d.message) }

-- what a diagnostic of the code says: its range, and its message as bytes
abbrev pub stored_diagnostic : Stored → Diagnostic
stored_diagnostic d = record { range = d.range; message = string_bytes d.message }

-- a diagnostic with its message in UTF-8
abbrev pub in_utf8 : Diagnostic → Diagnostic
in_utf8 d = record { range = d.range; message = encode_utf8_all d.message }
