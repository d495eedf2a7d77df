-- What names mean, when one more is defined.
use Rattle.grammar_file.proofs.Std.{◌≡◌, ◌∙◌, ◌||◌, ◌&&◌, ◌∷◌, ◌++◌, [], ℕ, Bool, true, false, cond, List, length, map, Bor, Option, None, Some, refl, sym, ap, if◌then◌else◌, is_some, option_or, unwrap_or, position, list_any, lookup, bytes_eq, bytes_decides}
use Rattle.grammar_file.proofs.Std.{length-map, map-append, list_any-append}
use Rattle.grammar_file.proofs.Common.{Symbol, Nonterminal, Terminal, Word, RuleLine, Statement, Undefined, SkipInProduction, Meaning, Names, AreNames, AreMeanings, meaning_in, meaning_of, unknown}
use Rattle.grammar_file.proofs.Common.{is_among, number_of, is_skip_rule, symbol_fault, has_rule, rules, nonterminals}
use Rattle.grammar_file.proofs.NameLookUps.{is_some-position, or_nothing, position-push}
use Rattle.grammar_file.proofs.Sets.{or-none}
use Rattle.grammar_file.proofs.TestedItems.{list_any-map}

-- `IsChanged old new k m`: the name `k` now means `m`, and each other name what it meant
abbrev pub IsChanged : List (Bor (List ℕ) × Meaning) → List (Bor (List ℕ) × Meaning) → Word → Meaning → Type 0
IsChanged old new k m = (w : Word) → lookup (λ x. bytes_eq w x.now) new ≡ cond (bytes_eq k w) (Some m) (lookup (λ x. bytes_eq w x.now) old)

-- `place_of w names`: the first place of a name
abbrev place_of : Word → List Word → Option ℕ
place_of w names = position (λ v. bytes_eq v w) names

and-true : (a : Bool) → (a && true) ≡ a
and-true true = refl
and-true false = refl

and-false : (a : Bool) → (a && false) ≡ false
and-false true = refl
and-false false = refl

-- what a name means once it, or another, is defined by a rule of this number
abbrev with_rule_if : Bool → Bool → ℕ → Meaning → Meaning
with_rule_if b skip n m = record { nonterminal = m.nonterminal; rule = option_or m.rule (cond b (Some n) None); skip = m.skip || (skip && b) }

-- and by a nonterminal
abbrev with_left_if : Bool → ℕ → Meaning → Meaning
with_left_if b n m = record { nonterminal = option_or m.nonterminal (cond b (Some n) None); rule = m.rule; skip = m.skip }

no_rule : (skip : Bool) (n : ℕ) (m : Meaning) → with_rule_if false skip n m ≡ m
no_rule skip n m = λ i. record { nonterminal = m.nonterminal; rule = or_nothing m.rule i; skip = (ap (λ b. m.skip || b) (and-false skip) ∙ or-none m.skip) i }

no_left : (n : ℕ) (m : Meaning) → with_left_if false n m ≡ m
no_left n m = λ i. record { nonterminal = or_nothing m.nonterminal i; rule = m.rule; skip = m.skip }

rule_after : (ns : List Word) (rs : List RuleLine) (r : RuleLine) (n : ℕ) (w : Word) → length rs ≡ n
    → meaning_of ns (rs ++ r ∷ []) w ≡ with_rule_if (bytes_eq r.name w) r.skip n (meaning_of ns rs w)
rule_after ns rs r n w long =
    let names : List Word = map (λ x. x.name) rs in
    let placed : place_of w (map (λ x. x.name) (rs ++ r ∷ [])) ≡ option_or (place_of w names) (cond (bytes_eq r.name w) (Some n) None) =
    ap (place_of w) (map-append (λ x. x.name) rs (r ∷ [])) ∙ position-push (λ v. bytes_eq v w) names r.name
    ∙ ap (λ m. option_or (place_of w names) (cond (bytes_eq r.name w) (Some m) None)) (length-map rs (λ x. x.name) ∙ long) in
    let skips : list_any (is_skip_rule w) (rs ++ r ∷ []) ≡ (list_any (is_skip_rule w) rs || (r.skip && bytes_eq r.name w)) =
    list_any-append (is_skip_rule w) rs (r ∷ []) ∙ ap (λ b. list_any (is_skip_rule w) rs || b) (or-none (r.skip && bytes_eq r.name w)) in
    λ i. record { nonterminal = place_of w ns; rule = placed i; skip = skips i }

left_after : (ns : List Word) (rs : List RuleLine) (k : Word) (n : ℕ) (w : Word) → length ns ≡ n
    → meaning_of (ns ++ k ∷ []) rs w ≡ with_left_if (bytes_eq k w) n (meaning_of ns rs w)
left_after ns rs k n w long =
    let placed : place_of w (ns ++ k ∷ []) ≡ option_or (place_of w ns) (cond (bytes_eq k w) (Some n) None) =
    position-push (λ v. bytes_eq v w) ns k ∙ ap (λ m. option_or (place_of w ns) (cond (bytes_eq k w) (Some m) None)) long in
    λ i. record { nonterminal = placed i; rule = place_of w (map (λ x. x.name) rs); skip = list_any (is_skip_rule w) rs }

-- the entries have what each name means after a change at `k` which `change` makes of all meanings
changed : (old new : List (Bor (List ℕ) × Meaning)) (k : Word) (meant after : Word → Meaning) (change : Bool → Meaning → Meaning) → IsChanged old new k (change true (meaning_in old k))
    → ((w : Word) → meaning_in old w ≡ meant w) → ((m : Meaning) → change false m ≡ m) → ((w : Word) → after w ≡ change (bytes_eq k w) (meant w)) → (w : Word) → meaning_in new w ≡ after w
changed old new k meant after change at are none made w = ap (λ o. unwrap_or o unknown) (at w) ∙ go (bytes_eq k w) refl ∙ sym (made w)
  where
    go : (b : Bool) → bytes_eq k w ≡ b → unwrap_or (cond (bytes_eq k w) (Some (change true (meaning_in old k))) (lookup (λ x. bytes_eq w x.now) old)) unknown ≡ change (bytes_eq k w) (meant w)
    go true e =
        ap (λ b. unwrap_or (cond b (Some (change true (meaning_in old k))) (lookup (λ x. bytes_eq w x.now) old)) unknown) e
        ∙ ap (λ v. change true (meaning_in old v)) ((bytes_decides k w).0 e) ∙ ap (change true) (are w) ∙ ap (λ b. change b (meant w)) (sym e)
    go false e =
        ap (λ b. unwrap_or (cond b (Some (change true (meaning_in old k))) (lookup (λ x. bytes_eq w x.now) old)) unknown) e
        ∙ are w ∙ sym (none (meant w)) ∙ ap (λ b. change b (meant w)) (sym e)

pub rule_added : (old new : List (Bor (List ℕ) × Meaning)) (r : RuleLine) (n : ℕ) (m v : Meaning) → m ≡ meaning_in old r.name
    → v ≡ record { nonterminal = m.nonterminal; rule = option_or m.rule (Some n); skip = m.skip || r.skip } → IsChanged old new r.name v
    → (ns : List Word) (rs : List RuleLine) → length rs ≡ n → AreMeanings ns rs old → AreMeanings ns (rs ++ r ∷ []) new
rule_added old new r n m v is becomes at ns rs long are =
    let made : v ≡ with_rule_if true r.skip n (meaning_in old r.name) =
    becomes ∙ (λ i. record { nonterminal = (is i).nonterminal; rule = option_or (is i).rule (Some n); skip = (is i).skip || sym (and-true r.skip) i }) in
    changed old new r.name (meaning_of ns rs) (meaning_of ns (rs ++ r ∷ [])) (λ b. with_rule_if b r.skip n)
    (λ w. at w ∙ ap (λ x. cond (bytes_eq r.name w) (Some x) (lookup (λ y. bytes_eq w y.now) old)) made) are (no_rule r.skip n) (λ w. rule_after ns rs r n w long)

pub left_added : (old new : List (Bor (List ℕ) × Meaning)) (k : Word) (n : ℕ) (m v : Meaning) → m ≡ meaning_in old k
    → v ≡ record { nonterminal = option_or m.nonterminal (Some n); rule = m.rule; skip = m.skip } → IsChanged old new k v
    → (ns : List Word) (rs : List RuleLine) → length ns ≡ n → AreMeanings ns rs old → AreMeanings (ns ++ k ∷ []) rs new
left_added old new k n m v is becomes at ns rs long are =
    let made : v ≡ with_left_if true n (meaning_in old k) = becomes ∙ ap (with_left_if true n) is in
    changed old new k (meaning_of ns rs) (meaning_of (ns ++ k ∷ []) rs) (λ b. with_left_if b n)
    (λ w. at w ∙ ap (λ x. cond (bytes_eq k w) (Some x) (lookup (λ y. bytes_eq w y.now) old)) made) are (no_left n) (λ w. left_after ns rs k n w long)

module _ (ns rs : List Word) (w : Word) where
  abbrev symbol : Symbol
  symbol = if is_among w ns then Nonterminal (number_of w ns) else Terminal (number_of w rs)

  pub nonterminal_is : (n : ℕ) → place_of w ns ≡ Some n → Nonterminal n ≡ symbol
  nonterminal_is n e =
      let among : is_among w ns ≡ true = sym (is_some-position (λ v. bytes_eq v w) ns) ∙ ap is_some e in
      sym (λ i. if among i then Nonterminal (unwrap_or (e i) (length ns)) else Terminal (number_of w rs))

  pub rule_is : place_of w ns ≡ None → Terminal (number_of w rs) ≡ symbol
  rule_is e =
      let among : is_among w ns ≡ false = sym (is_some-position (λ v. bytes_eq v w) ns) ∙ ap is_some e in
      sym (ap (λ b. if b then Nonterminal (number_of w ns) else Terminal (number_of w rs)) among)

pub fault_is : (names : Names) (ss : List Statement) (w : Word) (m : Meaning) → AreNames names ss → m ≡ meaning_in names.meanings.by_name.entries w
    → (a b d : Bool) → is_some m.nonterminal ≡ a → m.skip ≡ b → is_some m.rule ≡ d
    → symbol_fault ss w ≡ (if a then None else if b then Some (SkipInProduction w) else if d then None else Some (Undefined w))
fault_is names ss w m are is a b d one two three =
    let means : meaning_of (nonterminals ss) (rules ss) w ≡ m = sym (is ∙ are.meanings w ∙ (λ i. meaning_of (are.nonterminals i) (are.rules i) w)) in
    let among : is_among w (nonterminals ss) ≡ a = sym (is_some-position (λ v. bytes_eq v w) (nonterminals ss)) ∙ ap (λ x. is_some x.nonterminal) means ∙ one in
    let skips : list_any (is_skip_rule w) (rules ss) ≡ b = ap (λ x. x.skip) means ∙ two in
    let ruled : has_rule ss w ≡ d =
    sym (is_some-position (λ v. bytes_eq v w) (map (λ r. r.name) (rules ss)) ∙ list_any-map (λ v. bytes_eq v w) (λ r. r.name) (rules ss)) ∙ ap (λ x. is_some x.rule) means ∙ three in
    λ i. if among i then None else if skips i then Some (SkipInProduction w) else if ruled i then None else Some (Undefined w)
