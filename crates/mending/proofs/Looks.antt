-- What the kinds that may follow say of a kind that isn't one of them.
use Rattle.std.proofs.Common.{◌≡◌, ◌∙◌, ◌+◌, ◌<◌, ◌≤◌, ◌++◌, ℕ, zero, suc, List, [], ◌∷◌, Option, Some, None, Bool, true, false, ap, append_assoc, arith, get_or, inl, inr, length, length-append, map, refl, slice_get, subst, sym, take}
use Rattle.std.specs.Prelude.{All}
use Rattle.std.specs.List.{Contains}
use Rattle.std.proofs.Math.ListN.{get_or-append, get_or-map}
use Rattle.std.proofs.Math.Seq.{get_or-append_seam, take-append-add, take-append_seam, take-suc}
use Rattle.std.proofs.lemmas.List.{append-nil, take-append-drop, take-take}
use Rattle.std.proofs.lemmas.List.Elements.{All-append, All-nil, All-push}
use Rattle.definitions.specs.declared.Kind.{Kind}
use Rattle.definitions.specs.declared.Kind.TheVariants.{Invalid, Rule}
use Rattle.definitions.specs.declared.Symbol.{Symbol}
use Rattle.definitions.specs.declared.Symbol.TheVariants.{Rule as Terminal, Nonterminal}
use Rattle.definitions.specs.Sentences.{IsExpected, IsSentence, IsViable}
use Rattle.definitions.specs.Trees.{AreTrees, Branch, Cons, Forest, Grammar, IsTree, Leaf, Nil, Tree, yield, yields}
use Rattle.tables.specs.Expected.{AreExpected, in_file_order}
use Rattle.theory.proofs.Verdicts.{viable_prefix}
use Rattle.mending.specs.Mendings.{IsFirstFault}
use Rattle.mending.specs.Seams.{DoesNotFollow}

length_map : (rules : List ℕ) → length (map Some rules) ≡ length rules
length_map [] = refl
length_map (a ∷ rules) = ap suc (length_map rules)

-- a rule that may follow is one of those listed
no_rule : (rules : List ℕ) (tail : List (Option ℕ)) (a : ℕ) → All (λ o. o ≡ Some a → ⊥) (map Some rules ++ tail) → Contains rules a → ⊥
no_rule rules tail a all (k, lt, is) =
    let inside : k < length (map Some rules) = omega (arith, lt, length_map rules) in
    let here : k < length (map Some rules ++ tail) = omega (arith, inside, length-append (map Some rules) tail) in
    all k (Some a) here (get_or-append (map Some rules) tail (Some a) k inside ∙ get_or-map Some rules k a ∙ ap Some is)

-- the end stands last
no_end : (rules : List ℕ) → All (λ o. o ≡ None → ⊥) (map Some rules ++ None ∷ []) → ⊥
no_end rules all =
    let here : length (map Some rules) < length (map Some rules ++ None ∷ []) = omega (arith, length-append (map Some rules) (None ∷ [])) in
    all (length (map Some rules)) None here (get_or-append_seam (map Some rules) None [] None)

pub rule_refused : (g : Grammar) (x : List Kind) (looks : List (Option ℕ)) (a : ℕ) → AreExpected g x looks → All (λ o. o ≡ Some a → ⊥) looks
    → ¬ IsViable g (x ++ (Rule a ∷ []))
rule_refused g x looks a (rules, at_end, is, e) all viable =
    no_rule rules _ a (subst (All (λ o. o ≡ Some a → ⊥)) e all) ((is.each a).1 viable)

pub end_refused : (g : Grammar) (x : List Kind) (looks : List (Option ℕ)) → AreExpected g x looks → All (λ o. o ≡ None → ⊥) looks → ¬ IsSentence g x
end_refused g x looks (rules, at_end, is, e) all sentence = go at_end (is.ends.1 sentence) (subst (All (λ o. o ≡ None → ⊥)) e all)
  where
    go : (b : Bool) → b ≡ true → All (λ o. o ≡ None → ⊥) (in_file_order rules b) → ⊥
    go true e all = no_end rules all
    go false e all = absurd (cc e)

-- no tree has an invalid kind
abbrev IsNamed : Kind → Type 0
IsNamed k = k ≡ Invalid → ⊥

one_named : (k : Kind) → IsNamed k → All IsNamed (k ∷ [])
one_named k named zero d lt = named
one_named k named (suc n) d lt = absurd (omega (arith, lt))

mutual
  tree_named : (g : Grammar) (t : Tree) (s : Symbol) → IsTree g t s → All IsNamed (yield t)
  tree_named g (Leaf (Rule a)) s h = one_named (Rule a) (λ e. absurd (cc e))
  tree_named g (Leaf Invalid) (Terminal b) h = absurd h
  tree_named g (Leaf Invalid) (Nonterminal n) h = absurd h
  tree_named g (Branch p ts) (Terminal b) h = absurd h
  tree_named g (Branch p ts) (Nonterminal n) h = trees_named g ts h.0 h.2

  trees_named : (g : Grammar) (f : Forest) (ss : List Symbol) → AreTrees g f ss → All IsNamed (yields f)
  trees_named g Nil ss h = All-nil IsNamed
  trees_named g (Cons t ts) [] h = absurd h
  trees_named g (Cons t ts) (s ∷ ss) h = All-append IsNamed (yield t) (yields ts) (tree_named g t s h.0) (trees_named g ts ss h.1)

pub invalid_refused : (g : Grammar) (x : List Kind) → ¬ IsViable g (x ++ (Invalid ∷ []))
invalid_refused g x (rest, (t, of)) =
    let all : All IsNamed (x ++ Invalid ∷ rest) = subst (All IsNamed) (of.kinds ∙ append_assoc x (Invalid ∷ []) rest) (tree_named g t _ of.root) in
    all (length x) Invalid (omega (arith, length-append x (Invalid ∷ rest))) (get_or-append_seam x Invalid rest Invalid)

-- where something may follow, the kinds go on
pub viable_of : (g : Grammar) (x : List Kind) (looks : List (Option ℕ)) → AreExpected g x looks → 0 < length looks → IsViable g x
viable_of g x looks (rules, at_end, is, e) lt = go rules at_end is (subst (λ l. 0 < length l) e lt)
  where
    go : (rules : List ℕ) (b : Bool) → IsExpected g x rules b → 0 < length (in_file_order rules b) → IsViable g x
    go (a ∷ rules) b is lt = viable_prefix g x (Rule a ∷ []) ((is.each a).0 (zero, omega arith, refl))
    go [] true is lt = ([], subst (IsSentence g) (sym (append-nil x)) (is.ends.0 refl))
    go [] false is lt = absurd (omega (arith, lt))

-- each shorter front goes on
fronts : (g : Grammar) (x : List Kind) → IsViable g x → (j : ℕ) → IsViable g (take (j + 1) x)
fronts g x viable j = viable_prefix g (take (j + 1) x) _ (subst (IsViable g) (sym (take-append-drop (j + 1) x)) viable)

-- a fault stands behind kinds that go on, where the next one doesn't
pub first_fault : (g : Grammar) (x rest : List Kind) → IsViable g x → DoesNotFollow g x (slice_get rest 0) → IsFirstFault g (x ++ rest) (length x)
first_fault g x [] viable not =
    let all : x ++ [] ≡ x = append-nil x in
    inr (ap length (sym all), ((λ s. not (subst (IsSentence g) all s)), subst (IsViable g) (sym all) viable))
first_fault g x (k ∷ rest) viable not =
    let one : take (length x + 1) (x ++ k ∷ rest) ≡ x ++ k ∷ [] = take-append-add x (k ∷ rest) 1 in
    inl (
      omega (arith, length-append x (k ∷ rest)),
      (λ v. not (subst (IsViable g) one v)),
      (λ j lt.
          let few : j + 1 ≤ length x = omega (arith, lt) in
          subst (IsViable g) (ap (take (j + 1)) (sym (take-append_seam x (k ∷ rest))) ∙ take-take (j + 1) (length x) (x ++ k ∷ rest) few) (fronts g x viable j)),
    )

-- one more that isn't it
pub none_more : (looks : List (Option ℕ)) (look : Option ℕ) (i : ℕ) (d : Option ℕ) → i < length looks → All (λ o. o ≡ look → ⊥) (take i looks)
    → (get_or looks i d ≡ look → ⊥) → All (λ o. o ≡ look → ⊥) (take (i + 1) looks)
none_more looks look i d lt all not =
    subst (All (λ o. o ≡ look → ⊥)) (sym (ap (λ n. take n looks) (let e : i + 1 ≡ suc i = omega arith in e) ∙ take-suc looks i d lt))
    (All-push (λ o. o ≡ look → ⊥) (take i looks) (get_or looks i d) all not)
