-- The productions of a grammar file are sound.
use Rattle.tables.proofs.Std.{◌≡◌, ℕ, length, slice_index_or, take, refl, sym, ap, ◌∙◌, arith, take-length}
use Rattle.tables.proofs.Common.{Token, Symbol, Terminal, Nonterminal, IsProductive, AllProductive, Leaf, Shape, IsKnown, IsSound, FileGrammar, IsUsable, IsGrammar}

-- the grammar of a file with its first `n` productions
abbrev pub first_productions : FileGrammar → ℕ → Shape
first_productions f n =
    record { grammar = record { start = f.grammar.start; rules = length f.names; productions = take n f.grammar.productions }; nonterminals = length f.nonterminals }

module _ (f : FileGrammar) (h : IsGrammar f) where
  abbrev pub shape : Shape
  shape = record { grammar = f.grammar; nonterminals = length f.nonterminals }

  pub all_of_them : (n : ℕ) → n ≡ length f.grammar.productions → first_productions f n ≡ shape
  all_of_them n e = λ i. record {
    grammar =
        record { start = f.grammar.start; rules = (sym h.rules) i; productions = (ap (λ m. take m f.grammar.productions) e ∙ take-length f.grammar.productions) i };
    nonterminals = length f.nonterminals;
  }

  symbol_known : (s : Symbol) → IsUsable f s → IsKnown shape s
  symbol_known (Terminal k) u = let l = u.0 in let r = h.rules in omega (arith, l, r)
  symbol_known (Nonterminal n) u = u

  symbol_productive : (s : Symbol) → IsUsable f s → IsProductive f.grammar s
  symbol_productive (Terminal k) u = (Leaf (Token k), refl)
  symbol_productive (Nonterminal n) u = h.productive n u

  all_productive : AllProductive f.grammar
  all_productive = record { start = h.productive f.grammar.start h.start; each = λ p n right k i d l. symbol_productive (slice_index_or right i d) (h.right p n right k i d l) }

  pub shape_sound : IsSound shape
  shape_sound =
      let r = h.rules in
      let a = h.few_rules in
      let b = h.few_nonterminals in
      record {
        start = h.start;
        small = omega (arith, r, a, b);
        left = h.left;
        right = λ p n right k i d l. symbol_known (slice_index_or right i d) (h.right p n right k i d l);
        short = λ p n right k. let s = h.short p n right k in omega (arith, s);
        productive = all_productive;
        distinct = h.distinct;
      }
