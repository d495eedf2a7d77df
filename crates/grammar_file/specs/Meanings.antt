-- What names mean.
use Rattle.std.specs.Prelude.{◌≡◌, ℕ, None, false, List, map, position, unwrap_or}
use Rattle.std.specs.List.{list_any}
use Rattle.std.specs.Str.{bytes_eq}
use Rattle.std.specs.Borrow.{Bor}
use Rattle.std.specs.Map.{lookup}
use Rattle.grammar_line.specs.Words.{Word}
use Rattle.grammar_file.specs.declared.meanings.Meaning.{Meaning}
use Rattle.grammar_file.specs.Contents.{RuleLine}
use Rattle.grammar_file.specs.Faults.{is_skip_rule}

-- what a name means that nothing defines
abbrev pub unknown : Meaning
unknown = record { nonterminal = None; rule = None; skip = false }

-- `meaning_of nonterminals rules w`: what a name means: its first places among the nonterminals and among the rules, and whether a skip
-- rule has it
abbrev pub meaning_of : List Word → List RuleLine → Word → Meaning
meaning_of nonterminals rules w = record {
  nonterminal = position (λ v. bytes_eq v w) nonterminals;
  rule = position (λ v. bytes_eq v w) (map (λ r. r.name) rules);
  skip = list_any (is_skip_rule w) rules;
}

-- `meaning_in entries w`: what the entries say that a name means
abbrev pub meaning_in : List (Bor (List ℕ) × Meaning) → Word → Meaning
meaning_in entries w = unwrap_or (lookup (λ k. bytes_eq w k.now) entries) unknown

-- `AreMeanings nonterminals rules entries`: the entries say of each name what it means
abbrev pub AreMeanings : List Word → List RuleLine → List (Bor (List ℕ) × Meaning) → Type 0
AreMeanings nonterminals rules entries = (w : Word) → meaning_in entries w ≡ meaning_of nonterminals rules w
