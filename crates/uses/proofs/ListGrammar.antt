-- The grammar of lists of numbers, of the example of `productions`, is one that the crate takes.
use Rattle.std.proofs.Common.{◌≡◌, ◌<◌, ◌^◌, length, ℕ, zero, suc, List, [], ◌∷◌, Option, Some, None, refl, sym, ap, ◌∙◌, subst, All, Result, Ok, Err, arith}
use Rattle.std.proofs.lemmas.List.Elements.{All-nil, All-cons}
use Rattle.std.specs.Prelude.{IfOk}
use Rattle.std.specs.Result.{result_ok}
use Rattle.definitions.specs.declared.Symbol.{Symbol}
use Rattle.definitions.specs.declared.Kind.TheVariants.{Rule as Token}
use Rattle.definitions.specs.declared.Symbol.TheVariants.{Rule as Terminal, Nonterminal}
use Rattle.definitions.specs.Sentences.{IsProductive}
use Rattle.definitions.specs.Trees.{Production, HasProduction, Leaf, Branch, Nil}
use Rattle.productions.specs.Productions.{Shape, no_productions, with_production, IsKnown, IsSound}

-- List = | List NUM
abbrev pub lists : Shape
lists = with_production (with_production (no_productions 1 1 0) (record { left = 0; right = [] })) (record { left = 0; right = Nonterminal 0 ∷ Terminal 0 ∷ [] })

left_in : Option Production → ℕ
left_in None = 0
left_in (Some p) = p.left

right_in : Option Production → List Symbol
right_in None = []
right_in (Some p) = p.right

left_zero : (p n : ℕ) (right : List Symbol) → HasProduction lists.grammar p n right → n ≡ 0
unfolding left_in
left_zero zero n right h = sym (ap left_in h)
left_zero (suc zero) n right h = sym (ap left_in h)
left_zero (suc (suc p)) n right h = absurd (cc h)

of_right : (p n : ℕ) (right : List Symbol) (P : List Symbol → Type 0) → P [] → P (Nonterminal 0 ∷ Terminal 0 ∷ []) → HasProduction lists.grammar p n right → P right
unfolding right_in
of_right zero n right P a b h = subst P (ap right_in h) a
of_right (suc zero) n right P a b h = subst P (ap right_in h) b
of_right (suc (suc p)) n right P a b h = absurd (cc h)

same_number : (p q n m : ℕ) (right : List Symbol) → HasProduction lists.grammar p n right → HasProduction lists.grammar q m right → p ≡ q
unfolding right_in
same_number zero zero n m right h k = refl
same_number (suc zero) (suc zero) n m right h k = refl
same_number zero (suc zero) n m right h k = let e = ap right_in h ∙ sym (ap right_in k) in absurd (cc e)
same_number (suc zero) zero n m right h k = let e = ap right_in h ∙ sym (ap right_in k) in absurd (cc e)
same_number (suc (suc p)) q n m right h k = absurd (cc h)
same_number zero (suc (suc q)) n m right h k = absurd (cc k)
same_number (suc zero) (suc (suc q)) n m right h k = absurd (cc k)

list_productive : IsProductive lists.grammar (Nonterminal 0)
list_productive = (Branch 0 Nil, ([], refl, tt))

number_productive : IsProductive lists.grammar (Terminal 0)
number_productive = (Leaf (Token 0), refl)

two : (P : Symbol → Type 0) → P (Nonterminal 0) → P (Terminal 0) → All P (Nonterminal 0 ∷ Terminal 0 ∷ [])
two P a b = All-cons P (Nonterminal 0) (Terminal 0 ∷ []) a (All-cons P (Terminal 0) [] b (All-nil P))

pub lists_sound : IsSound lists
lists_sound = record {
  start = omega arith;
  small = omega arith;
  left = λ p n right h. let e = left_zero p n right h in omega (arith, e);
  right = λ p n right h. of_right p n right (All (IsKnown lists)) (All-nil (IsKnown lists)) (two (IsKnown lists) (omega arith) (omega arith)) h;
  short = λ p n right h. of_right p n right (λ r. length r < 2 ^ 64) (omega arith) (omega arith) h;
  productive = record {
    start = list_productive;
    each = λ p n right h. of_right p n right (All (IsProductive lists.grammar)) (All-nil (IsProductive lists.grammar)) (two (IsProductive lists.grammar) list_productive number_productive) h;
  };
  distinct = λ p q n right h k. same_number p q n n right h k;
}

-- productions that are pushed as in the examples are this grammar
pub pushed : (none one both : Shape) (first second : List Symbol) → none ≡ no_productions 1 1 0 → first ≡ [] → one ≡ with_production none (record { left = 0; right = first })
    → second ≡ Nonterminal 0 ∷ Terminal 0 ∷ [] → both ≡ with_production one (record { left = 0; right = second }) → both ≡ lists
pushed none one both first second a b c d e = e ∙ (λ i. with_production ((c ∙ (λ j. with_production (a j) (record { left = 0; right = b j }))) i) (record { left = 0; right = d i }))

-- what holds of a value holds of what `ok` returns
pub kept_by_ok : {T E : Type 0} (r : Result T E) (x : T) (P : T → Type 0) → Some x ≡ result_ok r → IfOk r P → P x
kept_by_ok (Ok y) x P e h = let same : x ≡ y = cc e in subst P (sym same) h
kept_by_ok (Err f) x P e h = absurd (cc e)
