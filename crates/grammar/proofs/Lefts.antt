-- The productions of a nonterminal.
use Rattle.grammar.proofs.Std.{◌≡◌, ℕ, zero, suc, ◌<◌, Bool, true, false, ◌&&◌, ◌||◌, List, [], ◌∷◌, ◌++◌, refl, ap, sym, ◌∙◌, length, get_or, Bor, if◌then◌else◌, Some, map, slice_get, list_any, fold, cons_option, bytes_eq}
use Rattle.grammar.proofs.Std.{arith, eq-eqb, list_any-append, list_any_at, slice_get_within, get_or_from_slice_get}
use Rattle.grammar.proofs.Common.{Statement, Line, Nothing, ProductionLine, as_production, productions, nonterminals, with_name, is_among, is_production_of, texts}

pub bytes_eq_same : (w : List ℕ) → bytes_eq w w ≡ true
bytes_eq_same [] = refl
bytes_eq_same (b ∷ bs) = ap (λ t. t && bytes_eq bs bs) (eq-eqb b b refl) ∙ bytes_eq_same bs

either_more : (a b c : Bool) → ((a || (b || false)) || c) ≡ true → (a || (b || c)) ≡ true
either_more true b c h = refl
either_more false true c h = refl
either_more false false c h = h

either_less : (a b c : Bool) → (a || c) ≡ true → (a || (b || c)) ≡ true
either_less true b c h = refl
either_less false true c h = refl
either_less false false c h = h

either_none : (a : Bool) → a ≡ true → (a || false) ≡ true
either_none true h = refl
either_none false h = h

with_one : (w x : List ℕ) (names rest : List (List ℕ)) → (is_among w (with_name names x) || is_among w rest) ≡ true → (is_among w names || (bytes_eq x w || is_among w rest)) ≡ true
with_one w x names rest =
    elim (is_among x names) as (λ t. (is_among w (if t then names else names ++ x ∷ []) || is_among w rest) ≡ true → (is_among w names || (bytes_eq x w || is_among w rest)) ≡ true) [
      | true ↦ λ h. either_less (is_among w names) (bytes_eq x w) (is_among w rest) h
      | false ↦ λ h. either_more (is_among w names) (bytes_eq x w) (is_among w rest)
          (ap (λ t. t || is_among w rest) (sym (list_any-append (λ v. bytes_eq v w) names (x ∷ []))) ∙ h)
    ]

pub among_fold : (w : List ℕ) (names ws : List (List ℕ)) → is_among w (fold with_name names ws) ≡ true → (is_among w names || is_among w ws) ≡ true
among_fold w names [] h = either_none (is_among w names) h
among_fold w names (x ∷ ws) h = with_one w x names ws (among_fold w (with_name names x) ws h)

one_line : (w : List ℕ) (l : Line) (ps : List ProductionLine) → is_among w (map (λ p. p.left) (cons_option (as_production l) ps)) ≡ (is_production_of w l || is_among w (map (λ p. p.left) ps))
one_line w Nothing ps = refl
one_line w l ps = refl

among_lefts : (w : List ℕ) (ss : List Statement) → is_among w (map (λ p. p.left) (productions ss)) ≡ list_any (λ s. is_production_of w s.says) ss
among_lefts w [] = refl
among_lefts w (s ∷ ss) = one_line w s.says (productions ss) ∙ ap (λ t. is_production_of w s.says || t) (among_lefts w ss)

-- a nonterminal has a production
pub has_production_of : (w : List ℕ) (ss : List Statement) → is_among w (nonterminals ss) ≡ true → list_any (λ s. is_production_of w s.says) ss ≡ true
has_production_of w ss h = sym (among_lefts w ss) ∙ among_fold w [] (map (λ p. p.left) (productions ss)) h

pub among_at : (ws : List (List ℕ)) (n : ℕ) (w : List ℕ) → slice_get ws n ≡ Some w → is_among w ws ≡ true
among_at ws n w found =
    list_any_at (λ v. bytes_eq v w) ws n [] (slice_get_within ws n w found)
    (ap (λ v. bytes_eq v w) (get_or_from_slice_get ws n w [] found) ∙ bytes_eq_same w)

pub text_at : (ws : List (Bor (List ℕ))) (n : ℕ) (d : Bor (List ℕ)) → n < length ws → slice_get (texts ws) n ≡ Some (get_or ws n d).now
text_at [] n d within = absurd (omega arith)
text_at (w ∷ ws) zero d within = refl
text_at (w ∷ ws) (suc n) d within = text_at ws n d (omega arith)

pub named_has_production : (ws : List (Bor (List ℕ))) (ss : List Statement) (n : ℕ) (d : Bor (List ℕ)) → texts ws ≡ nonterminals ss
    → n < length ws → list_any (λ s. is_production_of (get_or ws n d).now s.says) ss ≡ true
named_has_production ws ss n d same within =
    has_production_of (get_or ws n d).now ss (among_at (nonterminals ss) n (get_or ws n d).now (ap (λ (xs : List (List ℕ)). slice_get xs n) (sym same) ∙ text_at ws n d within))
