-- The proofs of the laws, from the lemmas of the other files.
use Rattle.definitions.proofs.Std.{arith, refl, sym, inl, inr, ◌∙◌, ◌≡◌, ℕ, ◌<◌, ◌⊎◌, ◌↔◌, Bool, true, false, not, List, [], ◌∷◌, IsTrue, cases_Bool, and_from, le-leb, false≢true, list_any-from_Any, AllPairs-from_increasing}
use Rattle.definitions.proofs.Common.{Kind, Interval, IsCharacter, is_within, is_member, is_in_class, is_nothing, Grammar, IsExpected, AreWell}
use Rattle.definitions.proofs.Everything.{AreIntervals, everything, is_everything-from}
use Rattle.definitions.proofs.Ordered.{same_elements}

ends_of : (is : List Interval) → AreWell is → AreIntervals is
ends_of [] h = tt
ends_of (i ∷ is) h = ((h.0.0, h.0.1), ends_of is h.1)

first_member : (i : Interval) (is : List Interval) → AreWell (i ∷ is) → is_member i.first (i ∷ is) ≡ true
first_member i is h = list_any-from_Any (is_within i.first) (i ∷ is) (0, i, omega arith, refl, and_from _ _ (le-leb _ _ (omega arith)) (le-leb _ _ h.0.2))

not_true : (b : Bool) → b ≡ true → ¬ IsTrue (not b)
not_true true e h = false≢true h
not_true false e h = false≢true e

must_be : (b : Bool) → ¬ IsTrue (not b) → b ≡ true
must_be true h = refl
must_be false h = absurd (h refl)

pub empty_class : (negated : Bool) (is : List Interval) → AreWell is → IsTrue (is_nothing negated is) ↔ ((c : ℕ) → IsCharacter c → ¬ IsTrue (is_in_class negated is c))
empty_class true is h = (
  (λ e c character. not_true (is_member c is) (everything is (ends_of is h) e c character)),
  (λ f. is_everything-from is (ends_of is h) (λ c character. must_be (is_member c is) (f c character))),
)
empty_class false [] h = ((λ e c character t. false≢true t), (λ f. refl))
empty_class false (i ∷ is) h = ((λ e. absurd (false≢true e)), (λ f. absurd (f i.first h.0.0 (first_member i is h))))

one_way : (a b : ℕ) → a < b → b < a → ⊥
one_way a b l m = omega arith

module _ (g : Grammar) (x : List Kind) (r s : List ℕ) (a b : Bool) (h : IsExpected g x r a) (k : IsExpected g x s b) where
  pub same_rules : r ≡ s
  same_rules =
      same_elements (λ m n. m < n) one_way r s (AllPairs-from_increasing r h.in_order) (AllPairs-from_increasing s k.in_order)
      (λ c d. (k.each c).1 ((h.each c).0 d))
      (λ c d. (h.each c).1 ((k.each c).0 d))

  pub same_end : a ≡ b
  same_end = go (cases_Bool a) (cases_Bool b)
    where
      go : (a ≡ true) ⊎ (a ≡ false) → (b ≡ true) ⊎ (b ≡ false) → a ≡ b
      go (inl d) e = d ∙ sym (k.ends.1 (h.ends.0 d))
      go (inr d) (inl e) = h.ends.1 (k.ends.0 e) ∙ sym e
      go (inr d) (inr e) = d ∙ sym e
