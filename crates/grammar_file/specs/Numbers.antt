-- The numbers of names.
use Rattle.std.specs.Prelude.{◌≡◌, ℕ, List}
use Rattle.std.specs.List.{position}
use Rattle.std.specs.Str.{bytes_eq}
use Rattle.std.specs.Borrow.{Bor}
use Rattle.std.specs.Map.{lookup}
use Rattle.grammar_line.specs.Words.{Word}

-- each name has an entry with its first place in the list, and nothing else has one
abbrev pub AreNumbers : List Word → List (Bor (List ℕ) × ℕ) → Type 0
AreNumbers names entries = (w : Word) → lookup (λ k. bytes_eq w k.now) entries ≡ position (λ v. bytes_eq v w) names
