-- What the settings of a language say of its grammar.
use Rattle.std.specs.Prelude.{◌≡◌, ℕ, ◌<◌, Option, IfSome, All, length, vec_len}
use Rattle.grammar.specs.Grammars.{FileGrammar, IsKnown}
use Rattle.settings.specs.declared.settings.Settings.{Settings}
use Rattle.settings.specs.declared.settings.SymbolRule.{SymbolRule}
use Rattle.settings.specs.declared.settings.NamePart.{NamePart}
use Rattle.settings.specs.declared.settings.NamePart.TheVariants.{Whole, Within}

-- `IsColour number`: if there is a number, it is that of one of the 23 types of tokens
abbrev pub IsColour : Option ℕ → Type 0
IsColour number = IfSome number (λ n. n < 23)

-- the number of one of the protocol's 26 kinds of symbols, from 1
abbrev pub IsKind : ℕ → Type 0
IsKind kind = (0 < kind) × (kind < 27)

-- `IsPart f part`: the symbols of the part are the file's
abbrev pub IsPart : FileGrammar → NamePart → Type 0
IsPart f (Whole s) = IsKnown f s
IsPart f (Within part name) = IsKnown f part × IsKnown f name

-- `IsSymbolRule f s`: the nonterminal, the rule and the parts of the name are the file's, and the kind is one of the protocol's
pub record IsSymbolRule (f : FileGrammar) (s : SymbolRule) : Type 0 where
  pub node : s.node < length f.nonterminals
  pub with : IfSome s.with (λ rule. rule < length f.names)
  pub name : All (IsPart f) s.name.items
  pub kind : IsKind s.kind

-- `AreSettings f s`: one entry for each rule of the file, colours that are types of tokens, and symbols of the file
pub record AreSettings (f : FileGrammar) (s : Settings) : Type 0 where
  pub colours : vec_len s.colours ≡ length f.names
  pub words : vec_len s.words ≡ length f.names
  pub texts : vec_len s.texts ≡ length f.names
  pub types : All IsColour s.colours.items
  pub symbols : All (IsSymbolRule f) s.symbols.items
