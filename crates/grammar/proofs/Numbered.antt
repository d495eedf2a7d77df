-- The numbers of names, and that different names and productions have different ones.
use Rattle.grammar.proofs.Std.{◌≡◌, ◌⊎◌, inl, inr, ℕ, zero, suc, ◌+◌, ◌<◌, Bool, true, false, not, ◌&&◌, ◌||◌, cond, List, [], ◌∷◌, refl, ap, sym, ◌∙◌, length, subst, Some, None, map, take, slice_get, nat_lt, unwrap_or, Option, list_any, filter_map, cons_option, prefix_len, bytes_eq, pointwise}
use Rattle.grammar.proofs.Std.{arith, nat_tests, bytes_eq-Decides, slice_get_within, get_or_from_slice_get, list_any_at, cases_lt, or_parts}
use Rattle.grammar.proofs.Common.{Terminal, Nonterminal, HasDistinctProductions}
use Rattle.grammar.proofs.Common.{Word, plain, Statement, Line, Nothing, Production, Rule, Start, Fold, Bad}
use Rattle.grammar.proofs.Common.{ProductionLine, as_production, productions, nonterminals, is_among, number_of, AreFaultless, early_fault, has_production, is_production, has_rule, or_else, cause_if, reserved, Cause, DefinedTwice}
use Rattle.grammar.proofs.Common.{rule_names, symbol_of, production_of, grammar_of}
use Rattle.grammar.proofs.Lefts.{bytes_eq_same}

pub same_bytes : (v w : Word) → bytes_eq v w ≡ true → v ≡ w
same_bytes v w h = (bytes_eq-Decides v w).0 h

abbrev place : Word → List Word → ℕ
place w ws = prefix_len (λ v. not (bytes_eq v w)) ws

place_below : (w : Word) (ws : List Word) → is_among w ws ≡ true → place w ws < length ws
place_below w [] h = cc
place_below w (v ∷ ws) h = go (bytes_eq v w) refl (λ among. place_below w ws among)
  where
    go : (b : Bool) → bytes_eq v w ≡ b → (is_among w ws ≡ true → place w ws < length ws) → place w (v ∷ ws) < length (v ∷ ws)
    go true e later = rw e (omega arith)
    go false e later = let below : place w ws < length ws = later (ap (λ t. t || is_among w ws) (sym e) ∙ h) in rw e (omega (arith, below))

place_at : (w : Word) (ws : List Word) → is_among w ws ≡ true → slice_get ws (place w ws) ≡ Some w
place_at w [] h = cc
place_at w (v ∷ ws) h = go (bytes_eq v w) refl (λ among. place_at w ws among)
  where
    go : (b : Bool) → bytes_eq v w ≡ b → (is_among w ws ≡ true → slice_get ws (place w ws) ≡ Some w) → slice_get (v ∷ ws) (place w (v ∷ ws)) ≡ Some w
    go true e later = rw e (ap Some (same_bytes v w e))
    go false e later =
        let there : slice_get ws (place w ws) ≡ Some w = later (ap (λ t. t || is_among w ws) (sym e) ∙ h) in
        let next : suc (place w ws) ≡ 1 + place w ws = omega arith in
        rw e (subst (λ n. slice_get (v ∷ ws) n ≡ Some w) next there)

less : (m n : ℕ) → m < n → nat_lt m n ≡ true
less m n l = grind (arith, nat_tests)

number_is : (w : Word) (ws : List Word) → is_among w ws ≡ true → place w ws ≡ number_of w ws
number_is w ws h = sym (ap (λ b. unwrap_or (cond b (Some (place w ws)) None) (length ws)) (less (place w ws) (length ws) (place_below w ws h)))

pub number_below : (w : Word) (ws : List Word) → is_among w ws ≡ true → number_of w ws < length ws
number_below w ws h = subst (λ n. n < length ws) (number_is w ws h) (place_below w ws h)

pub number_at : (w : Word) (ws : List Word) → is_among w ws ≡ true → slice_get ws (number_of w ws) ≡ Some w
number_at w ws h = subst (λ n. slice_get ws n ≡ Some w) (number_is w ws h) (place_at w ws h)

pub some_same : {X : Type 0} (x y : X) → Some x ≡ Some y → x ≡ y
some_same x y e = cc

pub number_shows : (v w : Word) (ws : List Word) → is_among v ws ≡ true → is_among w ws ≡ true → number_of v ws ≡ number_of w ws → v ≡ w
number_shows v w ws a b e = some_same v w (sym (number_at v ws a) ∙ ap (slice_get ws) e ∙ number_at w ws b)

-- a name that stands for a symbol
abbrev pub IsNamed : List Word → List Word → Word → Type 0
IsNamed ns rs w = (is_among w ns ≡ true) ⊎ ((is_among w ns ≡ false) × (is_among w rs ≡ true))

pub nonterminal_is : (ns rs : List Word) (w : Word) → is_among w ns ≡ true → symbol_of ns rs w ≡ Nonterminal (number_of w ns)
nonterminal_is ns rs w h = rw h refl

pub terminal_is : (ns rs : List Word) (w : Word) → is_among w ns ≡ false → symbol_of ns rs w ≡ Terminal (number_of w rs)
terminal_is ns rs w h = rw h refl

symbol_shows : (ns rs : List Word) (v w : Word) → IsNamed ns rs v → IsNamed ns rs w → symbol_of ns rs v ≡ symbol_of ns rs w → v ≡ w
symbol_shows ns rs v w (inl a) (inl b) e =
    let same : Nonterminal (number_of v ns) ≡ Nonterminal (number_of w ns) = sym (nonterminal_is ns rs v a) ∙ e ∙ nonterminal_is ns rs w b in
    number_shows v w ns a b cc
symbol_shows ns rs v w (inl a) (inr b) e =
    let clash : Nonterminal (number_of v ns) ≡ Terminal (number_of w rs) = sym (nonterminal_is ns rs v a) ∙ e ∙ terminal_is ns rs w b.0 in cc
symbol_shows ns rs v w (inr a) (inl b) e =
    let clash : Terminal (number_of v rs) ≡ Nonterminal (number_of w ns) = sym (terminal_is ns rs v a.0) ∙ e ∙ nonterminal_is ns rs w b in cc
symbol_shows ns rs v w (inr a) (inr b) e =
    let same : Terminal (number_of v rs) ≡ Terminal (number_of w rs) = sym (terminal_is ns rs v a.0) ∙ e ∙ terminal_is ns rs w b.0 in
    number_shows v w rs a.1 b.1 cc

abbrev pub AllNamed : List Word → List Word → List Word → Type 0
AllNamed ns rs [] = Unit {0}
AllNamed ns rs (w ∷ ws) = IsNamed ns rs w × AllNamed ns rs ws

symbols_show : (ns rs vs ws : List Word) → AllNamed ns rs vs → AllNamed ns rs ws → map (symbol_of ns rs) vs ≡ map (symbol_of ns rs) ws → vs ≡ ws
symbols_show ns rs [] [] a b e = refl
symbols_show ns rs (v ∷ vs) (w ∷ ws) a b e =
    let first : symbol_of ns rs v ≡ symbol_of ns rs w = cc in
    let rest : map (symbol_of ns rs) vs ≡ map (symbol_of ns rs) ws = cc in
    ap (λ x. x ∷ vs) (symbol_shows ns rs v w a.0 b.0 first) ∙ ap (λ xs. w ∷ xs) (symbols_show ns rs vs ws a.1 b.1 rest)
symbols_show ns rs vs ws a b e = cc

pub true_not_false : true ≡ false → ⊥
true_not_false e = cc

-- where a line stands from which an item of a list comes
pub record ComesFrom {X Y : Type 0} (h : X → Option Y) (xs : List X) (q : ℕ) (y : Y) : Type 0 where
  pub place : ℕ
  pub item : X
  pub there : slice_get xs place ≡ Some item
  pub gives : h item ≡ Some y
  pub before : length (filter_map h (take place xs)) ≡ q

pub comes_from : {X Y : Type 0} (h : X → Option Y) (xs : List X) (q : ℕ) (y : Y) → slice_get (filter_map h xs) q ≡ Some y → ComesFrom h xs q y
comes_from h [] q y e = cc
comes_from {X} {Y} h (x ∷ xs) q y e = go (h x) refl q e (λ k f. comes_from h xs k y f)
  where
    go : (o : Option Y) → h x ≡ o → (n : ℕ) → slice_get (cons_option o (filter_map h xs)) n ≡ Some y
        → ((k : ℕ) → slice_get (filter_map h xs) k ≡ Some y → ComesFrom h xs k y) → ComesFrom h (x ∷ xs) n y
    go None is n found later =
        let c = later n found in
        record { place = suc c.place; item = c.item; there = c.there; gives = c.gives; before = ap (λ o. length (cons_option o (filter_map h (take c.place xs)))) is ∙ c.before }
    go (Some z) is zero found later = record { place = 0; item = x; there = refl; gives = is ∙ found; before = refl }
    go (Some z) is (suc n) found later =
        let c = later n found in
        record { place = suc c.place; item = c.item; there = c.there; gives = c.gives; before = ap (λ o. length (cons_option o (filter_map h (take c.place xs)))) is ∙ ap suc c.before }

-- a production that a line says
pub says_production : (s : Statement) (x : ProductionLine) → as_production s.says ≡ Some x → s.says ≡ Production x.left x.right
says_production s x h = go s.says h
  where
    go : (l : Line) → as_production l ≡ Some x → l ≡ Production x.left x.right
    go Nothing e = cc
    go (Production left right) e = let f : record { left = left; right = right } ≡ x = some_same (record { left = left; right = right }) x e in ap (λ y. Production y.left y.right) f
    go (Rule skip name pattern) e = cc
    go (Start name) e = cc
    go (Fold name) e = cc
    go Bad e = cc

pub not_shown : (b : Bool) (c : Cause) → cause_if b c ≡ None → b ≡ false
not_shown true c e = cc
not_shown false c e = refl

pub neither : (o l : Option Cause) → or_else o l ≡ None → (o ≡ None) × (l ≡ None)
neither None l e = (refl, e)
neither (Some c) l e = cc

same_words : (vs : List Word) → pointwise bytes_eq vs vs ≡ true
same_words [] = refl
same_words (v ∷ vs) = ap (λ b. b && pointwise bytes_eq vs vs) (bytes_eq_same v) ∙ same_words vs

get_take : {X : Type 0} (xs : List X) (i j : ℕ) (x : X) → i < j → slice_get xs i ≡ Some x → slice_get (take j xs) i ≡ Some x
get_take [] i j x l e = cc
get_take (y ∷ ys) i zero x l e = absurd (omega arith)
get_take (y ∷ ys) zero (suc j) x l e = e
get_take (y ∷ ys) (suc i) (suc j) x l e = get_take ys i j x (omega arith) e

pub any_at : {X : Type 0} (p : X → Bool) (xs : List X) (i : ℕ) (x : X) → slice_get xs i ≡ Some x → p x ≡ true → list_any p xs ≡ true
any_at p xs i x e h = list_any_at p xs i x (slice_get_within xs i x e) (ap p (get_or_from_slice_get xs i x x e) ∙ h)

said_again : (l : Line) (x : ProductionLine) → l ≡ Production x.left x.right → is_production x.left x.right l ≡ true
said_again l x e =
    ap (is_production x.left x.right) e ∙ ap (λ b. b && pointwise bytes_eq x.right x.right) (bytes_eq_same x.left) ∙ same_words x.right

-- no line says a production that an earlier one says
earlier : (ss : List Statement) → AreFaultless ss → (i j : ℕ) (s r : Statement) (x : ProductionLine) → slice_get ss i ≡ Some s → slice_get ss j ≡ Some r
    → s.says ≡ Production x.left x.right → r.says ≡ Production x.left x.right → i < j → ⊥
earlier ss free i j s r x a b e f l =
    let early : early_fault (take j ss) (Production x.left x.right) ≡ None = subst (λ y. early_fault (take j ss) y ≡ None) f (free j r b).early in
    let both : (has_rule (take j ss) x.left || has_production (take j ss) x.left x.right) ≡ false = not_shown (has_rule (take j ss) x.left || has_production (take j ss) x.left x.right)
    (DefinedTwice x.left) (neither (reserved (x.left ∷ map plain x.right)) (cause_if (has_rule (take j ss) x.left || has_production (take j ss) x.left x.right) (DefinedTwice x.left)) early).1 in
    let twice : has_production (take j ss) x.left x.right ≡ false = (or_parts (has_rule (take j ss) x.left) (has_production (take j ss) x.left x.right) both).1 in
    let found : has_production (take j ss) x.left x.right ≡ true = any_at (λ y. is_production x.left x.right y.says) (take j ss) i s (get_take ss i j s l a) (said_again s.says x e) in
    true_not_false (sym found ∙ twice)

-- each name on a right side, and each left side, stands for a symbol
abbrev pub AreNamed : List Statement → Type 0
AreNamed ss = (p : ℕ) (x : ProductionLine) → slice_get (productions ss) p ≡ Some x → (is_among x.left (nonterminals ss) ≡ true) × AllNamed (nonterminals ss) (rule_names ss) x.right

-- each production stands at one place
abbrev pub AreOnce : List Statement → Type 0
AreOnce ss = (p q : ℕ) (x : ProductionLine) → slice_get (productions ss) p ≡ Some x → slice_get (productions ss) q ≡ Some x → p ≡ q

pub one_line : (ss : List Statement) → AreFaultless ss → (p q : ℕ) (x : ProductionLine) → slice_get (productions ss) p ≡ Some x → slice_get (productions ss) q ≡ Some x → p ≡ q
one_line ss free p q x a b =
    let one = comes_from (λ s. as_production s.says) ss p x a in
    let two = comes_from (λ s. as_production s.says) ss q x b in
    elim (cases_lt one.place two.place) [
      | inl lt ↦ absurd (earlier ss free one.place two.place one.item two.item x one.there two.there (says_production one.item x one.gives) (says_production two.item x two.gives) lt)
      | inr ge ↦ elim (cases_lt two.place one.place) [
        | inl lt ↦ absurd (earlier ss free two.place one.place two.item one.item x two.there one.there (says_production two.item x two.gives) (says_production one.item x one.gives) lt)
        | inr le ↦
            let same : one.place ≡ two.place = omega (arith, ge, le) in
            sym one.before ∙ ap (λ k. length (filter_map (λ s. as_production s.says) (take k ss))) same ∙ two.before
      ]
    ]

-- what stands at a place of a list that another is made from
pub record IsMadeFrom {X Y : Type 0} (h : X → Y) (xs : List X) (k : ℕ) (y : Y) : Type 0 where
  pub item : X
  pub there : slice_get xs k ≡ Some item
  pub is : h item ≡ y

pub made_from : {X Y : Type 0} (h : X → Y) (xs : List X) (k : ℕ) (y : Y) → slice_get (map h xs) k ≡ Some y → IsMadeFrom h xs k y
made_from h [] k y e = cc
made_from h (x ∷ xs) zero y e = record { item = x; there = refl; is = some_same (h x) y e }
made_from h (x ∷ xs) (suc k) y e = let r = made_from h xs k y e in record { item = r.item; there = r.there; is = r.is }

pub distinct : (ss : List Statement) → AreOnce ss → AreNamed ss → HasDistinctProductions (grammar_of ss)
distinct ss once named p q n right a b =
    let ns = nonterminals ss in
    let rs = rule_names ss in
    let one = made_from (production_of ns rs) (productions ss) p (record { left = n; right = right }) a in
    let two = made_from (production_of ns rs) (productions ss) q (record { left = n; right = right }) b in
    let same = one.is ∙ sym two.is in
    let left : one.item.left ≡ two.item.left = number_shows one.item.left two.item.left ns (named p one.item one.there).0 (named q two.item two.there).0 (ap (λ x. x.left) same) in
    let rights : one.item.right ≡ two.item.right = symbols_show ns rs one.item.right two.item.right (named p one.item one.there).1 (named q two.item two.there).1 (ap (λ x. x.right) same) in
    let item : one.item ≡ two.item = ap (λ l. record { left = l; right = one.item.right }) left ∙ ap (λ r. record { left = two.item.left; right = r }) rights in
    once p q one.item one.there (two.there ∙ ap Some (sym item))
