-- Where symbols stand in a text.
use Rattle.std.specs.Prelude.{◌≡◌, ℕ, ◌≤◌, List, Contains, length}
use Rattle.definitions.specs.declared.Unit.{Unit as Encoding}
use Rattle.definitions.specs.Answers.{range_of}
use Rattle.definitions.specs.Text.{position}
use Rattle.settings.specs.declared.settings.Settings.{Settings}
use Rattle.settings.specs.declared.settings.SymbolRule.{SymbolRule}
use Rattle.outline.specs.declared.marks.Span.{Span}
use Rattle.outline.specs.declared.marks.Spot.{Spot}
use Rattle.outline.specs.declared.symbols.OutlineSymbol.{OutlineSymbol}

-- an offset of the text, with its position
pub record IsSpot (encoding : Encoding) (t : List ℕ) (s : Spot) : Type 0 where
  pub within : s.offset ≤ length t
  pub position : s.position ≡ position encoding t s.offset

-- two of them
pub record IsSpan (encoding : Encoding) (t : List ℕ) (s : Span) : Type 0 where
  pub start : IsSpot encoding t s.start
  pub end : IsSpot encoding t s.end

-- `Lies inner outer`: the first span lies in the second one
pub record Lies (inner outer : Span) : Type 0 where
  pub begins : outer.start.offset ≤ inner.start.offset
  pub goes_on : inner.start.offset ≤ inner.end.offset
  pub ends : inner.end.offset ≤ outer.end.offset

-- the symbol lies in the text, and its selection in its range: offsets in ascending order have these positions
pub record IsPlaced (encoding : Encoding) (t : List ℕ) (s : OutlineSymbol) : Type 0 where
  pub from : ℕ
  pub name : ℕ
  pub after : ℕ
  pub to : ℕ
  pub begins : from ≤ name
  pub named : name ≤ after
  pub ends : after ≤ to
  pub within : to ≤ length t
  pub range : s.range ≡ range_of encoding t (from, to)
  pub selection : s.selection ≡ range_of encoding t (name, after)

-- a symbol of the text, whose kind is that of a rule of the settings
pub record IsSymbolOf (settings : Settings) (encoding : Encoding) (t : List ℕ) (s : OutlineSymbol) : Type 0 where
  pub placed : IsPlaced encoding t s
  pub rule : SymbolRule
  pub listed : Contains settings.symbols.items rule
  pub kind : s.kind ≡ rule.kind
