-- Marks that a fixpoint gives are FIRST by the rules.
use Rattle.productions.proofs.Std.{◌≡◌, ◌+◌, ◌<◌, ◌≤◌, ◌⊎◌, ℕ, Bool, true, false, ◌&&◌, ◌||◌, List, [], ◌∷◌, Option, Some, None, length, slice_index_or, slice_set, refl, sym, subst, ⊎_elim, ap, ◌∙◌}
use Rattle.productions.proofs.Std.{arith, get_or-set_other, cases_eq, eq-eqb, eqb-true, sum_by-set, and_from, and_parts, or_cases, or_left, or_right}
use Rattle.productions.proofs.Common.{Symbol, Terminal, Nonterminal, Grammar, HasProduction, production_of, left_of, right_of, IsNullable, None_left, Drop, InFirst, At_once, Within, After, nullable_by, begin_by, holds_by, Means, AreTrue, AreClosed, AreExact, off, on, unmarked}
use Rattle.productions.proofs.Numbers.{production_is}

module _ (g : Grammar) where
  nullable_join : (n : ℕ) (rest : List Symbol) → IsNullable g (Nonterminal n ∷ []) → IsNullable g rest → IsNullable g (Nonterminal n ∷ rest)
  nullable_join n rest (Drop p h v w) k = Drop p h v k

  nothing_begins : (a : ℕ) → InFirst g a [] → ⊥
  nothing_begins a b = elim b [ ]

  begins_join : (a n : ℕ) (rest : List Symbol) → InFirst g a (Nonterminal n ∷ []) → InFirst g a (Nonterminal n ∷ rest)
  begins_join a n rest (Within p h b) = Within p h b
  begins_join a n rest (After v b) = absurd (nothing_begins a b)

  pub nullable_sound : (marks : List Bool) → AreTrue g None marks → (ss : List Symbol) → nullable_by marks ss ≡ true → IsNullable g ss
  nullable_sound marks t [] e = None_left
  nullable_sound marks t (Terminal a ∷ ss) e = absurd (cc e)
  nullable_sound marks t (Nonterminal n ∷ ss) e =
      let parts = and_parts (slice_index_or marks n false) (nullable_by marks ss) e in
      nullable_join n ss (t n parts.0) (nullable_sound marks t ss parts.1)

  after_dot : (n a : ℕ) (nullable marks : List Bool) → AreTrue g None nullable → (ss : List Symbol) → (begin_by a nullable marks ss ≡ true → InFirst g a ss)
      → (slice_index_or nullable n false && begin_by a nullable marks ss) ≡ true → InFirst g a (Nonterminal n ∷ ss)
  after_dot n a nullable marks v ss rest f = let parts = and_parts (slice_index_or nullable n false) (begin_by a nullable marks ss) f in After (v n parts.0) (rest parts.1)

  pub begin_sound : (a : ℕ) (nullable marks : List Bool) → AreTrue g None nullable → AreTrue g (Some a) marks → (ss : List Symbol) → begin_by a nullable marks ss ≡ true → InFirst g a ss
  begin_sound a nullable marks v t [] e = absurd (cc e)
  begin_sound a nullable marks v t (Terminal b ∷ ss) e = subst (λ c. InFirst g a (Terminal c ∷ ss)) (eqb-true a b e) At_once
  begin_sound a nullable marks v t (Nonterminal n ∷ ss) e = ⊎_elim (λ x. begins_join a n ss (t n x)) (λ f. after_dot n a nullable marks v ss (begin_sound a nullable marks v t ss) f)
      (or_cases (slice_index_or marks n false) (slice_index_or nullable n false && begin_by a nullable marks ss) e)

  pub holds_sound : (look : Option ℕ) (nullable marks : List Bool) → AreTrue g None nullable → AreTrue g look marks → (ss : List Symbol) → holds_by look nullable marks ss ≡ true → Means g look ss
  holds_sound None nullable marks v t ss e = nullable_sound marks t ss e
  holds_sound (Some a) nullable marks v t ss e = begin_sound a nullable marks v t ss e

  pub nullable_complete : (nullable marks : List Bool) → AreClosed g None nullable marks → {ss : List Symbol} → IsNullable g ss → nullable_by marks ss ≡ true
  nullable_complete nullable marks c None_left = refl
  nullable_complete nullable marks c (Drop p {n = n} {right = right} {rest = rest} h v w) = and_from (slice_index_or marks n false) (nullable_by marks rest)
      (c p n right h (nullable_complete nullable marks c v)) (nullable_complete nullable marks c w)

  pub begin_complete : (a : ℕ) (nullable marks : List Bool) → ((n : ℕ) → IsNullable g (Nonterminal n ∷ []) → slice_index_or nullable n false ≡ true)
      → AreClosed g (Some a) nullable marks → {ss : List Symbol} → InFirst g a ss → begin_by a nullable marks ss ≡ true
  begin_complete a nullable marks v c At_once = eq-eqb a a refl
  begin_complete a nullable marks v c (Within p {n = n} {right = right} {rest = rest} h b) = or_left (slice_index_or marks n false)
      (slice_index_or nullable n false && begin_by a nullable marks rest) (c p n right h (begin_complete a nullable marks v c b))
  begin_complete a nullable marks v c (After {n = n} {rest = rest} w b) = or_right (slice_index_or marks n false) (slice_index_or nullable n false && begin_by a nullable marks rest)
      (and_from (slice_index_or nullable n false) (begin_by a nullable marks rest) (v n w) (begin_complete a nullable marks v c b))

  first_part : (b : Bool) → (b && true) ≡ true → b ≡ true
  first_part true e = refl
  first_part false e = e

  first_or : (b c : Bool) → (b || (c && false)) ≡ true → b ≡ true
  first_or true c e = refl
  first_or false true e = e
  first_or false false e = e

  pub exact_nullable : (nullable marks : List Bool) → AreTrue g None marks → AreClosed g None nullable marks → AreExact g None marks
  exact_nullable nullable marks t c = record { sound = t; complete = λ n v. first_part (slice_index_or marks n false) (nullable_complete nullable marks c v) }

  pub exact_begin : (a : ℕ) (nullable marks : List Bool) → AreExact g None nullable → AreTrue g (Some a) marks → AreClosed g (Some a) nullable marks → AreExact g (Some a) marks
  exact_begin a nullable marks v t c =
      record { sound = t; complete = λ n b. first_or (slice_index_or marks n false) (slice_index_or nullable n false) (begin_complete a nullable marks v.complete c b) }

  -- a left side whose right side holds is marked rightly
  means_left : (look : Option ℕ) (p n : ℕ) (right : List Symbol) → HasProduction g p n right → Means g look right → Means g look (Nonterminal n ∷ [])
  means_left None p n right h m = Drop p h m None_left
  means_left (Some a) p n right h m = Within p h m

  pub true_more : (look : Option ℕ) (nullable marks : List Bool) (p n : ℕ) (right : List Symbol) → AreTrue g None nullable → AreTrue g look marks
      → HasProduction g p n right → holds_by look nullable marks right ≡ true → AreTrue g look (slice_set marks n true)
  true_more look nullable marks p n right v t h e k f =
      ⊎_elim (λ same. subst (λ m. Means g look (Nonterminal m ∷ [])) (sym same) (means_left look p n right h (holds_sound look nullable marks v t right e)))
      (λ other. t k (sym (get_or-set_other marks n k true false other) ∙ f)) (cases_eq k n)

pub unmarked_one : (marks : List Bool) (n : ℕ) → n < length marks → slice_index_or marks n false ≡ false → unmarked (slice_set marks n true) + 1 ≡ unmarked marks
unmarked_one marks n l e =
    let h = sum_by-set off marks n true false l in
    let k : off (slice_index_or marks n false) ≡ 1 = ap off e in
    omega (arith, h, k)

pub unmarked_less : (marks : List Bool) (n : ℕ) → n < length marks → slice_index_or marks n false ≡ false → unmarked (slice_set marks n true) < unmarked marks
unmarked_less marks n l e = let h = unmarked_one marks n l e in omega (arith, h)

pub smaller : (a b : ℕ) (r m : Bool) → m ≡ true → a ≤ b → (r ≡ true → a < b) → a + on r < b + on m
smaller a b true true e l h = let k = h refl in omega arith
smaller a b false true e l h = omega arith
smaller a b r false e l h = absurd (cc e)

-- one more production does not give a mark that is not there
pub closed_more : (g : Grammar) (look : Option ℕ) (nullable marks : List Bool) (at : ℕ) → ((p n : ℕ) (right : List Symbol) → p < at → HasProduction g p n right
    → holds_by look nullable marks right ≡ true → slice_index_or marks n false ≡ true)
    → (holds_by look nullable marks (right_of g at) ≡ true → slice_index_or marks (left_of g at) false ≡ true) → (p n : ℕ) (right : List Symbol) → p < at + 1
    → HasProduction g p n right → holds_by look nullable marks right ≡ true → slice_index_or marks n false ≡ true
closed_more g look nullable marks at below here p n right l h e = ⊎_elim same other (cases_eq p at)
  where
    same : p ≡ at → slice_index_or marks n false ≡ true
    same i =
        let is = ap (λ q. production_of g q) (sym i) ∙ production_is g p n right h in
        let r : right_of g at ≡ right = ap (λ x. x.right) is in
        let k : left_of g at ≡ n = ap (λ x. x.left) is in
        subst (λ m. slice_index_or marks m false ≡ true) k (here (ap (λ x. holds_by look nullable marks x) r ∙ e))

    other : (p ≡ at → ⊥) → slice_index_or marks n false ≡ true
    other i = below p n right (omega (arith, i)) h e

pub nullable_iff : (g : Grammar) (nullable : List Bool) → AreExact g None nullable → (ss : List Symbol)
    → (nullable_by nullable ss ≡ true → IsNullable g ss) × (IsNullable g ss → nullable_by nullable ss ≡ true)
nullable_iff g nullable x ss = (
  nullable_sound g nullable x.sound ss,
  nullable_complete g nullable nullable
      (λ p n right h e. x.complete n (Drop p h (nullable_sound g nullable x.sound right e) None_left)),
)

pub begin_iff : (g : Grammar) (a : ℕ) (nullable marks : List Bool) → AreExact g None nullable → AreExact g (Some a) marks → (ss : List Symbol)
    → (begin_by a nullable marks ss ≡ true → InFirst g a ss) × (InFirst g a ss → begin_by a nullable marks ss ≡ true)
begin_iff g a nullable marks v x ss = (
  begin_sound g a nullable marks v.sound x.sound ss,
  begin_complete g a nullable marks v.complete
      (λ p n right h e. x.complete n (Within p h (begin_sound g a nullable marks v.sound x.sound right e))),
)
