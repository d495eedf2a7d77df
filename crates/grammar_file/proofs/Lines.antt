-- What one more line makes of the contents.
use Rattle.grammar_file.proofs.Std.{◌≡◌, ℕ, ◌≤◌, Bool, true, false, List, [], ◌∷◌, ◌++◌, refl, ap, ◌∙◌, sym, length, subst, inr, take, Option, Some, None, map, filter, nat_lt, slice_get, ◌+◌, ◌*◌, fold, cons_option, flat_map, chars}
use Rattle.grammar_file.proofs.Std.{arith, length-append, append_assoc, append-nil, common_steps, flat_map-append, map-append, take-append-le, fold-append, slice_get_within, filter-append, filter_map-append}
use Rattle.grammar_file.proofs.Common.{File, Names, with_marked, marked, Cause, HasPattern, early_fault, line_limit, limit_fault, late_fault, nonterminal_count, production_count, exceeded_limit, cause_if, or_else, IsFaultless, AreFaultless, IsLineFault}
use Rattle.grammar_file.proofs.Common.{are_among, HasMeanings, with_rule, with_left, with_right, with_sides, with_production, with_start, AreNames, ArePatterns, IsPatternOf, with_pattern, AreFew, IsRead, lines_view}
use Rattle.grammar_file.proofs.Common.{Line, Nothing, Production, Rule, Start, Fold, Bad, Statement, at, Word, is_marked}
use Rattle.grammar_file.proofs.Common.{IsPattern, Expression, Symbol}
use Rattle.grammar_file.proofs.OneMoreItem.{push_at, take-all, cons_option-append}
use Rattle.grammar_file.proofs.Sets.{sides-step}
use Rattle.grammar_file.specs.Contents as of

pub has_pattern : (l : Line) (p : Option Expression) → IsPatternOf l p → HasPattern l
has_pattern (Rule skip name pattern) None h = absurd h
has_pattern (Rule skip name pattern) (Some e) h = (e, h)
has_pattern d p h = tt

pub after_more : (before ss : List Statement) (s : Statement) → of.defined_after before (ss ++ s ∷ []) ≡ of.defined_after before ss ++ cons_option (of.defines (before ++ ss) s.says) []
after_more before [] s = ap (λ prefix. cons_option (of.defines prefix s.says) []) (sym (append-nil before))
after_more before (t ∷ ss) s =
    ap (cons_option (of.defines before t.says)) (after_more (before ++ t ∷ []) ss s)
    ∙ ap (λ prefix. cons_option (of.defines before t.says) (of.defined_after (before ++ t ∷ []) ss ++ cons_option (of.defines prefix s.says) [])) (append_assoc before (t ∷ []) ss)
    ∙ cons_option-append (of.defines before t.says) (of.defined_after (before ++ t ∷ []) ss) (cons_option (of.defines (before ++ t ∷ ss) s.says) [])

pub late_line_fault : (ss : List Statement) (l : Line) (p : Option Expression) (c : Cause) → early_fault ss l ≡ None → IsPatternOf l p → late_fault ss l ≡ Some c → IsLineFault ss l c
late_line_fault ss l p c early pattern late = inr (inr (early, has_pattern l p pattern, late))

pub rules-step : (ss : List Statement) (n : ℕ) (l : Line) → of.rules (ss ++ at n l ∷ []) ≡ with_rule (of.rules ss) l
rules-step ss n Nothing = filter_map-append (λ s. of.as_rule s.says) ss (at n Nothing ∷ []) ∙ append-nil (of.rules ss)
rules-step ss n (Production left right) = filter_map-append (λ s. of.as_rule s.says) ss (at n (Production left right) ∷ []) ∙ append-nil (of.rules ss)
rules-step ss n (Rule skip name pattern) = filter_map-append (λ s. of.as_rule s.says) ss (at n (Rule skip name pattern) ∷ [])
rules-step ss n (Start name) = filter_map-append (λ s. of.as_rule s.says) ss (at n (Start name) ∷ []) ∙ append-nil (of.rules ss)
rules-step ss n (Fold name) = filter_map-append (λ s. of.as_rule s.says) ss (at n (Fold name) ∷ []) ∙ append-nil (of.rules ss)
rules-step ss n Bad = filter_map-append (λ s. of.as_rule s.says) ss (at n Bad ∷ []) ∙ append-nil (of.rules ss)

abbrev pub with_line : List of.ProductionLine → Line → List of.ProductionLine
with_line ps (Production left right) = ps ++ record { left = left; right = right } ∷ []
with_line ps d = ps

pub productions-step : (ss : List Statement) (n : ℕ) (l : Line) → of.productions (ss ++ at n l ∷ []) ≡ with_line (of.productions ss) l
productions-step ss n Nothing = filter_map-append (λ s. of.as_production s.says) ss (at n Nothing ∷ []) ∙ append-nil (of.productions ss)
productions-step ss n (Production left right) = filter_map-append (λ s. of.as_production s.says) ss (at n (Production left right) ∷ [])
productions-step ss n (Rule skip name pattern) = filter_map-append (λ s. of.as_production s.says) ss (at n (Rule skip name pattern) ∷ []) ∙ append-nil (of.productions ss)
productions-step ss n (Start name) = filter_map-append (λ s. of.as_production s.says) ss (at n (Start name) ∷ []) ∙ append-nil (of.productions ss)
productions-step ss n (Fold name) = filter_map-append (λ s. of.as_production s.says) ss (at n (Fold name) ∷ []) ∙ append-nil (of.productions ss)
productions-step ss n Bad = filter_map-append (λ s. of.as_production s.says) ss (at n Bad ∷ []) ∙ append-nil (of.productions ss)

-- the nonterminals of a list of productions
abbrev pub lefts : List of.ProductionLine → List (List ℕ)
lefts ps = fold of.with_name [] (map (λ p. p.left) ps)

lefts-step : (ps : List of.ProductionLine) (l : Line) → lefts (with_line ps l) ≡ with_left (lefts ps) l
lefts-step ps (Production left right) =
    ap (λ ws. fold of.with_name [] ws) (map-append (λ p. p.left) ps (record { left = left; right = right } ∷ []))
    ∙ fold-append of.with_name [] (map (λ p. p.left) ps) (left ∷ [])
lefts-step ps d = refl

pub nonterminals-step : (ss : List Statement) (n : ℕ) (l : Line) → of.nonterminals (ss ++ at n l ∷ []) ≡ with_left (of.nonterminals ss) l
nonterminals-step ss n l = ap lefts (productions-step ss n l) ∙ lefts-step (of.productions ss) l

counts-step : (ps : List of.ProductionLine) (l : Line) → length (with_line ps l) ≡ with_production (length ps) l
counts-step ps (Production left right) = length-append ps _
counts-step ps d = refl

pub count-step : (ss : List Statement) (n : ℕ) (l : Line) → length (of.productions (ss ++ at n l ∷ [])) ≡ with_production (length (of.productions ss)) l
count-step ss n l = ap length (productions-step ss n l) ∙ counts-step (of.productions ss) l

-- the marked words of a list of productions
abbrev pub marks : List of.ProductionLine → List Word
marks ps = with_marked [] (flat_map (λ p. p.right) ps)

pub with_marked-append : (names ws vs : List Word) → with_marked names (ws ++ vs) ≡ with_marked (with_marked names ws) vs
with_marked-append names ws vs = ap (λ xs. fold of.with_name names xs) (filter-append is_marked ws vs) ∙ fold-append of.with_name names (filter is_marked ws) (filter is_marked vs)

marks-step : (ps : List of.ProductionLine) (l : Line) → marks (with_line ps l) ≡ with_right (marks ps) l
marks-step ps (Production left right) =
    ap (with_marked []) (flat_map-append (λ p. p.right) ps (record { left = left; right = right } ∷ []) ∙ ap (λ ws. flat_map (λ p. p.right) ps ++ ws) (append-nil right))
    ∙ with_marked-append [] (flat_map (λ p. p.right) ps) right
marks-step ps d = refl

pub marked-step : (ss : List Statement) (n : ℕ) (l : Line) → marked (ss ++ at n l ∷ []) ≡ with_right (marked ss) l
marked-step ss n l = ap marks (productions-step ss n l) ∙ marks-step (of.productions ss) l

more_than_none : (ws : List (List ℕ)) (w : List ℕ) → nat_lt 0 (length (ws ++ w ∷ [])) ≡ true
more_than_none [] w = refl
more_than_none (v ∷ ws) w = grind (arith, common_steps)

starts_with_none : (ss : List Statement) (n : ℕ) (l : Line) → of.as_start l ≡ None → nat_lt 0 (length (of.starts (ss ++ at n l ∷ []))) ≡ nat_lt 0 (length (of.starts ss))
starts_with_none ss n l none =
    ap (λ ws. nat_lt 0 (length ws)) (filter_map-append (λ s. of.as_start s.says) ss (at n l ∷ []) ∙ ap (λ o. of.starts ss ++ cons_option o []) none ∙ append-nil (of.starts ss))

pub start-step : (ss : List Statement) (n : ℕ) (l : Line) → nat_lt 0 (length (of.starts (ss ++ at n l ∷ []))) ≡ with_start (nat_lt 0 (length (of.starts ss))) l
start-step ss n Nothing = starts_with_none ss n Nothing refl
start-step ss n (Production left right) = starts_with_none ss n (Production left right) refl
start-step ss n (Rule skip name pattern) = starts_with_none ss n (Rule skip name pattern) refl
start-step ss n (Start name) = ap (λ ws. nat_lt 0 (length ws)) (filter_map-append (λ s. of.as_start s.says) ss (at n (Start name) ∷ [])) ∙ more_than_none (of.starts ss) name
start-step ss n (Fold name) = starts_with_none ss n (Fold name) refl
start-step ss n Bad = starts_with_none ss n Bad refl

pub names-step : (names names' : Names) (ss : List Statement) (n : ℕ) (l : Line) → AreNames names ss → names'.rules ≡ with_rule names.rules l
    → names'.nonterminals ≡ with_left names.nonterminals l → names'.marked ≡ with_right names.marked l
    → names'.sides ≡ with_sides names.sides l → names'.productions ≡ with_production names.productions l → names'.started ≡ with_start names.started l
    → (HasMeanings names → HasMeanings names') → AreNames names' (ss ++ at n l ∷ [])
names-step names names' ss n l are rs ns ms bs ps st mean = record {
  rules = rs ∙ ap (λ x. with_rule x l) are.rules ∙ sym (rules-step ss n l);
  meanings = mean are.meanings;
  nonterminals = ns ∙ ap (λ x. with_left x l) are.nonterminals ∙ sym (nonterminals-step ss n l);
  marked = ms ∙ ap (λ x. with_right x l) are.marked ∙ sym (marked-step ss n l);
  sides = λ left right. ap (are_among (left ∷ right)) bs ∙ sides-step names.sides ss n l are.sides left right;
  productions = ps ∙ ap (λ x. with_production x l) are.productions ∙ sym (count-step ss n l);
  started = st ∙ ap (λ x. with_start x l) are.started ∙ sym (start-step ss n l);
}

pub patterns-step : (rs : List of.RuleLine) (es : List Expression) (r : of.RuleLine) (e : Expression) → ArePatterns rs es → IsPattern (chars r.pattern) e → ArePatterns (rs ++ r ∷ []) (es ++ e ∷ [])
patterns-step [] [] r e are is = (is, tt)
patterns-step (q ∷ rs) (d ∷ es) r e are is = (are.0, patterns-step rs es r e are.1 is)
patterns-step rs es r e are is = absurd are

pub all_patterns-step : (rs : List of.RuleLine) (es : List Expression) (l : Line) (p : Option Expression) → ArePatterns rs es → IsPatternOf l p → ArePatterns (with_rule rs l) (with_pattern es p)
all_patterns-step rs es (Rule skip name pattern) None are is = absurd is
all_patterns-step rs es (Rule skip name pattern) (Some e) are is = patterns-step rs es (record { skip = skip; name = name; pattern = pattern }) e are is
all_patterns-step rs es d None are is = are
all_patterns-step rs es l (Some e) are is = absurd (cc)

pub faultless-step : (ss : List Statement) (n : ℕ) (l : Line) → AreFaultless ss → IsFaultless ss l → AreFaultless (ss ++ at n l ∷ [])
faultless-step ss n l before is k s found =
    let P : List Statement → Type 0 = λ prefix. IsFaultless prefix s.says in
    let within : k ≤ length ss = omega (arith, slice_get_within (ss ++ at n l ∷ []) k s found, length-append ss (at n l ∷ [])) in
    subst P (sym (take-append-le k ss (at n l ∷ []) within))
    (push_at (λ j t. IsFaultless (take j ss) t.says) ss (at n l) before (let Q : List Statement → Type 0 = λ prefix. IsFaultless prefix l in subst Q (sym (take-all ss)) is) k s found)

cause_if-none : (b : Bool) (c : Cause) → cause_if b c ≡ None → b ≡ false
cause_if-none true c h = absurd (cc)
cause_if-none false c h = refl

or_else-none : (a b : Option Cause) → or_else a b ≡ None → (a ≡ None) × (b ≡ None)
or_else-none None b h = (refl, h)
or_else-none (Some c) b h = absurd (cc)

not_above : (m n : ℕ) → nat_lt m n ≡ false → n ≤ m
not_above m n h = grind (arith, common_steps)

abbrev pub AreShort : List of.ProductionLine → Type 0
AreShort ps = (k : ℕ) (p : of.ProductionLine) → slice_get ps k ≡ Some p → length p.right ≤ 16

short-step : (ss : List Statement) (ps : List of.ProductionLine) (l : Line) → AreShort ps → line_limit ss l ≡ None → AreShort (with_line ps l)
short-step ss ps (Production left right) short late = push_at (λ k p. length p.right ≤ 16) ps (record { left = left; right = right }) short (not_above 16 (length right) (cause_if-none _ _ late))
short-step ss ps d short late = short

-- the limits that are kept
pub few-step : (ss : List Statement) (n : ℕ) (l : Line) → AreFew ss → line_limit ss l ≡ None → limit_fault (ss ++ at n l ∷ []) ≡ None → AreFew (ss ++ at n l ∷ [])
few-step ss n l few short none =
    let one = or_else-none _ _ none in
    let two = or_else-none _ _ one.1 in
    record {
      few_rules = not_above 256 (length (of.rules (ss ++ at n l ∷ []))) (cause_if-none _ _ one.0);
      few_nonterminals = not_above 256 (nonterminal_count (ss ++ at n l ∷ [])) (cause_if-none _ _ two.0);
      few_productions = not_above 1024 (production_count (ss ++ at n l ∷ [])) (cause_if-none _ _ two.1);
      short = subst AreShort (sym (productions-step ss n l)) (short-step ss (of.productions ss) l few.short short);
    }

-- the limits speak of no line's number
pub limit-anywhere : (ss : List Statement) (n m : ℕ) (l : Line) → limit_fault (ss ++ at n l ∷ []) ≡ limit_fault (ss ++ at m l ∷ [])
limit-anywhere ss n m l =
    let rs = rules-step ss n l ∙ sym (rules-step ss m l) in
    let ns = nonterminals-step ss n l ∙ sym (nonterminals-step ss m l) in
    let ms = marked-step ss n l ∙ sym (marked-step ss m l) in
    let ps = count-step ss n l ∙ sym (count-step ss m l) in
    λ i. exceeded_limit (length (rs i)) (length (ns i) + length (ms i)) (ps i + 2 * length (ms i))

then_this : (a b : Option Cause) (o : Option Cause) → a ≡ None → b ≡ o → or_else a b ≡ o
then_this a b o none is = ap (λ x. or_else x b) none ∙ is

first_this : (a b : Option Cause) (c : Cause) → a ≡ Some c → or_else a b ≡ Some c
first_this a b c is = ap (λ x. or_else x b) is

pub late-of : (ss : List Statement) (n : ℕ) (l : Line) (o : Option Cause) → line_limit ss l ≡ None → limit_fault (ss ++ at n l ∷ []) ≡ o → late_fault ss l ≡ o
late-of ss n l o none is = then_this (line_limit ss l) (limit_fault (ss ++ at 0 l ∷ [])) o none (limit-anywhere ss 0 n l ∙ is)

pub late-own : (ss : List Statement) (l : Line) (c : Cause) → line_limit ss l ≡ Some c → late_fault ss l ≡ Some c
late-own ss l c is = first_this (line_limit ss l) (limit_fault (ss ++ at 0 l ∷ [])) c is

pub is_faultless : (ss : List Statement) (n : ℕ) (l : Line) (p : Option Expression) → early_fault ss l ≡ None → IsPatternOf l p
    → line_limit ss l ≡ None → limit_fault (ss ++ at n l ∷ []) ≡ None → IsFaultless ss l
is_faultless ss n l p early pattern short none = record { early = early; pattern = has_pattern l p pattern; late = late-of ss n l None short none }

pub read-step : (f g : File) (ss : List Statement) (n : ℕ) (l : Line) (p : Option Expression) (symbol : Option Symbol) → IsRead f ss → early_fault ss l ≡ None
    → IsPatternOf l p → line_limit ss l ≡ None → limit_fault (ss ++ at n l ∷ []) ≡ None → lines_view g.statements.items ≡ lines_view f.statements.items ++ at n l ∷ []
    → AreNames g.names (ss ++ at n l ∷ []) → g.patterns.items ≡ with_pattern f.patterns.items p → symbol ≡ of.defines ss l
    → g.defined.items ≡ f.defined.items ++ cons_option symbol [] → IsRead g (ss ++ at n l ∷ [])
read-step f g ss n l p symbol read early pattern short none statements names patterns is defined = record {
  statements = statements ∙ ap (λ x. x ++ at n l ∷ []) read.statements;
  names = names;
  patterns =
      let P : List of.RuleLine → List Expression → Type 0 = ArePatterns in
      subst (λ (rs : List of.RuleLine). ArePatterns rs g.patterns.items) (sym (rules-step ss n l))
      (subst (λ (es : List Expression). ArePatterns (with_rule (of.rules ss) l) es) (sym patterns) (all_patterns-step (of.rules ss) f.patterns.items l p read.patterns pattern));
  defined = defined ∙ (λ i. read.defined i ++ cons_option (is i) []) ∙ sym (after_more [] ss (at n l));
  faultless = faultless-step ss n l read.faultless (is_faultless ss n l p early pattern short none);
  few = few-step ss n l read.few short none;
}

-- a limit that the lines pass with this one
pub limit_line_fault : (ss ts : List Statement) (number : ℕ) (l : Line) (p : Option Expression) (c : Cause) → ts ≡ ss ++ at number l ∷ [] → early_fault ss l ≡ None
    → IsPatternOf l p → line_limit ss l ≡ None → limit_fault ts ≡ Some c → IsLineFault ss l c
limit_line_fault ss ts number l p c same early pattern short is = late_line_fault ss l p c early pattern (late-of ss number l (Some c) short (ap limit_fault (sym same) ∙ is))
