-- What a grammar file defines and no derivation from the start uses.
use Rattle.std.specs.Prelude.{◌≡◌, ℕ, ◌==◌, Bool, true, false, List, [], ◌∷◌, slice_index_or}
use Rattle.std.specs.List.{list_any}
use Rattle.definitions.specs.declared.Symbol.{Symbol}
use Rattle.definitions.specs.declared.Symbol.TheVariants.{Rule as Terminal, Nonterminal}
use Rattle.definitions.specs.Sentences.{IsUsed}
use Rattle.grammar.specs.Grammars.{FileGrammar}

-- `is_skip f s`: whether the symbol is a skip rule
abbrev pub is_skip : FileGrammar → Symbol → Bool
is_skip f (Terminal k) = slice_index_or f.skips k false
is_skip f (Nonterminal n) = false

-- `AreNotes f symbols notes`: `notes` are those of the symbols that are neither skipped nor used, in order
pub data AreNotes (f : FileGrammar) : List Symbol → List Symbol → Type 0 where
  none : AreNotes f [] []
  noted_symbol : {s : Symbol} {ss ns : List Symbol} → is_skip f s ≡ false → (IsUsed f.grammar s → ⊥) → AreNotes f ss ns
      → AreNotes f (s ∷ ss) (s ∷ ns)
  skipped : {s : Symbol} {ss ns : List Symbol} → is_skip f s ≡ true → AreNotes f ss ns → AreNotes f (s ∷ ss) ns
  used : {s : Symbol} {ss ns : List Symbol} → IsUsed f.grammar s → AreNotes f ss ns → AreNotes f (s ∷ ss) ns

-- `symbol_name f s`: the name of a symbol
abbrev pub symbol_name : FileGrammar → Symbol → List ℕ
symbol_name f (Terminal k) = slice_index_or f.names k []
symbol_name f (Nonterminal n) = slice_index_or f.nonterminals n []

-- `is_rule k symbol`: whether the symbol is rule `k`
abbrev pub is_rule : ℕ → Symbol → Bool
is_rule k (Terminal j) = j == k
is_rule k (Nonterminal n) = false

-- whether rule `k` is one of these symbols
abbrev pub has_rule : ℕ → List Symbol → Bool
has_rule k symbols = list_any (is_rule k) symbols
