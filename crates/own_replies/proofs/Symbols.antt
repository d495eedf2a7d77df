-- What is said of the symbols of a document, for their reply.
use Rattle.std.proofs.Common.{List, All, map, sym, ap, ◌∙◌, subst, arith}
use Rattle.std.specs.Prelude.{Contains}
use Rattle.std.proofs.lemmas.List.{get_or-map, length-map}
use Rattle.std.proofs.lemmas.List.Elements.{All-weaker}
use Rattle.outline.specs.Symbols.{IsSymbolOf}
use Rattle.outline.specs.declared.symbols.OutlineSymbol.{OutlineSymbol}
use Rattle.readings.specs.Texts.{OpenDocument}
use Rattle.settings.specs.declared.settings.Settings.{Settings}
use Rattle.settings.specs.declared.settings.SymbolRule.{SymbolRule}
use Rattle.own_replies.specs.Replies.{IsSymbol}

-- the kind of a rule that is listed is one of the kinds
has_kind : (rules : List SymbolRule) (rule : SymbolRule) → Contains rules rule → Contains (map (λ r. r.kind) rules) rule.kind
has_kind rules rule c =
    (c.0, omega (arith, c.1, length-map rules (λ (r : SymbolRule). r.kind)), get_or-map (λ (r : SymbolRule). r.kind) rules c.0 rule rule.kind c.1 ∙ ap (λ r. r.kind) c.2)

-- symbols by the settings have kinds that these have
pub are_symbols : (s : Settings) (d : OpenDocument) (symbols : List OutlineSymbol) → All (IsSymbolOf s d.unit d.text) symbols
    → All (IsSymbol (map (λ r. r.kind) s.symbols.items) d) symbols
are_symbols s d =
    All-weaker (IsSymbolOf s d.unit d.text) (IsSymbol (map (λ r. r.kind) s.symbols.items) d)
    (λ x is. (is.placed, subst (Contains (map (λ r. r.kind) s.symbols.items)) (sym is.kind) (has_kind s.symbols.items is.rule is.listed)))
