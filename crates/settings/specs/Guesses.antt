-- What a guess of a symbol rests on.
use Rattle.std.specs.Prelude.{ℕ, ◌<◌, length}
use Rattle.grammar.specs.Grammars.{FileGrammar, IsKnown}
use Rattle.settings.specs.Settings.{IsKind}
use Rattle.settings.specs.declared.nodes.Named.{Named}

-- `IsNaming f r`: a rule of the file, and a kind of symbols
abbrev pub IsNaming : FileGrammar → ℕ × ℕ → Type 0
IsNaming f r = (r.0 < length f.names) × IsKind r.1

-- `IsNamed f n`: the nonterminal, the rule and the name are the file's, and the kind is one of the protocol's
pub record IsNamed (f : FileGrammar) (n : Named) : Type 0 where
  pub node : n.node < length f.nonterminals
  pub with : n.with < length f.names
  pub name : IsKnown f n.name
  pub kind : IsKind n.kind
