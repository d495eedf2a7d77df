-- The symbols that are found so far.
use Rattle.std.specs.Prelude.{ℕ, ◌+◌, ◌≤◌, List, [], ◌∷◌, All, length, map}
use Rattle.definitions.specs.declared.Unit.{Unit as Encoding}
use Rattle.settings.specs.declared.settings.Settings.{Settings}
use Rattle.outline.specs.Nesting.{AreNested}
use Rattle.outline.specs.Symbols.{IsSymbolOf}
use Rattle.outline.specs.declared.found.Found.{Found}

-- `most_after most depths`: the greatest depth that a symbol can have after those of these depths, where the first can have `most`
abbrev pub most_after : ℕ → List ℕ → ℕ
most_after most [] = most
most_after most (depth ∷ depths) = most_after (depth + 1) depths

-- symbols of the text by the settings, each before those in it, and as many of them are around as the next one can lie in
pub record IsFound (settings : Settings) (encoding : Encoding) (t : List ℕ) (f : Found) : Type 0 where
  pub symbols : All (IsSymbolOf settings encoding t) f.symbols.items
  pub nested : AreNested (map (λ s. s.depth) f.symbols.items)
  pub around : length f.around.items ≤ most_after 0 (map (λ s. s.depth) f.symbols.items)
