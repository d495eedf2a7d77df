-- The numbers of what a file defines are in range.
use Rattle.grammar.proofs.Std.{◌≡◌, ℕ, ◌<◌, ◌≤◌, Bool, true, false, if◌then◌else◌, List, [], ◌∷◌, ◌++◌, refl, ap, sym, ◌∙◌, length, arith, append_assoc, length-append, Some, None, map, All, chars, cons_option, fold, length-map, map-append, All-nil, All-cons, filter_map-append, fold-append}
use Rattle.grammar.proofs.Common.{Symbol, Terminal, Nonterminal, Expression}
use Rattle.grammar.proofs.Common.{Word, Statement, Line, Production, Rule, as_rule, as_production, productions, nonterminals, is_among, with_name, defines, defined_after, defined, rule_names, IsKnown, grammar_with, with_rule, with_left, rules-step, nonterminals-step, rules}

more_rules : (xs ys : List Statement) → length (rules xs) ≤ length (rules (xs ++ ys))
more_rules xs ys = omega (arith, ap length (filter_map-append (λ s. as_rule s.says) xs ys), length-append (rules xs) (rules ys))

longer : (names : List Word) (w : Word) → length names ≤ length (with_name names w)
longer names w =
    elim (is_among w names) as (λ b. length names ≤ length (if b then names else names ++ w ∷ []))
    [ true ↦ omega arith | false ↦ omega (arith, length-append names (w ∷ [])) ]

fold_longer : (names ws : List Word) → length names ≤ length (fold with_name names ws)
fold_longer names [] = omega arith
fold_longer names (w ∷ ws) = omega (arith, longer names w, fold_longer (with_name names w) ws)

more_nonterminals : (xs ys : List Statement) → length (nonterminals xs) ≤ length (nonterminals (xs ++ ys))
more_nonterminals xs ys =
    let lefts : nonterminals (xs ++ ys) ≡ fold with_name (nonterminals xs) (map (λ p. p.left) (productions ys)) =
    ap (λ ps. fold with_name [] (map (λ p. p.left) ps)) (filter_map-append (λ s. as_production s.says) xs ys)
    ∙ ap (λ ws. fold with_name [] ws) (map-append (λ p. p.left) (productions xs) (productions ys))
    ∙ fold-append with_name [] (map (λ p. p.left) (productions xs)) (map (λ p. p.left) (productions ys)) in
    omega (arith, ap length lefts, fold_longer (nonterminals xs) (map (λ p. p.left) (productions ys)))

module _ (es : List Expression) (symbols : List Symbol) (all : List Statement) where
  abbrev AreKnown : List Symbol → Type 0
  AreKnown xs = All (IsKnown (grammar_with all es symbols)) xs

  known_rule : (k : ℕ) → k < length (rules all) → IsKnown (grammar_with all es symbols) (Terminal k)
  known_rule k below = omega (arith, below, length-map (rule_names all) chars, length-map (rules all) (λ r. r.name))

  known_nonterminal : (n : ℕ) → n < length (nonterminals all) → IsKnown (grammar_with all es symbols) (Nonterminal n)
  known_nonterminal n below = omega (arith, below, length-map (nonterminals all) chars)

  -- what a line defines after some lines, where all have no fewer names than these with it
  known_line : (before after : List Statement) (l : Line) (xs : List Symbol) → rules after ≡ with_rule (rules before) l → nonterminals after ≡ with_left (nonterminals before) l
      → length (rules after) ≤ length (rules all) → length (nonterminals after) ≤ length (nonterminals all) → AreKnown xs → AreKnown (cons_option (defines before l) xs)
  known_line before after (Production left right) xs rs ns few fewer known =
      go (is_among left (nonterminals before)) (ap length ns)
    where
      go : (b : Bool) → length (nonterminals after) ≡ length (if b then nonterminals before else nonterminals before ++ left ∷ [])
          → AreKnown (cons_option (if b then None else Some (Nonterminal (length (nonterminals before)))) xs)
      go true e = known
      go false e = All-cons (IsKnown (grammar_with all es symbols)) (Nonterminal (length (nonterminals before))) xs
          (known_nonterminal (length (nonterminals before)) (omega (arith, e, fewer, length-append (nonterminals before) (left ∷ [])))) known
  known_line before after (Rule skip name pattern) xs rs ns few fewer known =
      All-cons (IsKnown (grammar_with all es symbols)) (Terminal (length (rules before))) xs
      (known_rule (length (rules before)) (omega (arith, ap length rs, few, length-append (rules before) (record { skip = skip; name = name; pattern = pattern } ∷ [])))) known
  known_line before after d xs rs ns few fewer known = known

  known_after : (before ss rest : List Statement) → all ≡ before ++ (ss ++ rest) → AreKnown (defined_after before ss)
  known_after before [] rest e = All-nil (IsKnown (grammar_with all es symbols))
  known_after before (s ∷ ss) rest e =
      let after : List Statement = before ++ s ∷ [] in
      let split : all ≡ after ++ (ss ++ rest) = e ∙ sym (append_assoc before (s ∷ []) (ss ++ rest)) in
      known_line before after s.says (defined_after after ss) (rules-step before s.number s.says) (nonterminals-step before s.number s.says)
      (omega (arith, more_rules after (ss ++ rest), ap (λ xs. length (rules xs)) split))
      (omega (arith, more_nonterminals after (ss ++ rest), ap (λ xs. length (nonterminals xs)) split))
      (known_after after ss rest split)

-- all that the statements define has a number in range, also where others stand after them
pub known : (ss rest : List Statement) (es : List Expression) (symbols : List Symbol) → All (IsKnown (grammar_with (ss ++ rest) es symbols)) (defined ss)
known ss rest es symbols = known_after es symbols (ss ++ rest) [] ss rest refl
