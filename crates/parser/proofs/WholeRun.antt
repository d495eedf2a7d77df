-- A run on kinds alone takes nothing over: it makes each branch of its stack.
use Rattle.parser.proofs.Std.{◌≡◌, ℕ, ◌+◌, List, [], ◌∷◌, refl, sym, ap, ◌∙◌, subst, ⊎_elim, arith, length, None, head-eq_of_cons-eq, tail-eq_of_cons-eq}
use Rattle.parser.proofs.Common.{Kind, Invalid, Nonterminal, Grammar, Tree, Leaf, Branch, Forest, IsTree, yield, all_kinds, StampedIn, plain_all, StandsIn, all_branches, Rule as Token}
use Rattle.parser.proofs.Common.{NextInput, Take, AtToken, AtEnd, Tries, Nothing_left, Dropped, Passed, Opened, At_token, Goes_on, Ends, Reuses, Takes_token, Makes, MakesAt, look_at, made_or_taken, stamped_stands, TakesOver, branches-append, nowhere, Child, Cell, forest_in, trees_from, Sets}
use Rattle.parser.proofs.Common.{leaves, plain_of, AreMadeBy, makes, IsMadeByRun, SoFar}
use Rattle.parser.proofs.Counts.{reduce_count}
use Rattle.parser.proofs.Stamping.{made_forest, stamped-children}

-- what leaves offer: a kind, with the leaves after it, or the end
abbrev IsPlain : NextInput → Type 0
IsPlain (Take t ts) = ⊥
IsPlain (AtToken k ts) = (ks : List Kind) × (ts ≡ leaves ks)
IsPlain AtEnd = Unit {0}

module _ (g : Grammar) where
  leaf_has_kind : (k : Kind) (t : Tree) → t ≡ Leaf k → yield t ≡ [] → ⊥
  leaf_has_kind k t e empty = let one : k ∷ [] ≡ [] = sym (ap yield e) ∙ empty in cc one

  leaf_no_root : (k : Kind) (n : ℕ) → IsTree g (Leaf k) (Nonterminal n) → ⊥
  leaf_no_root (Token a) n h = h
  leaf_no_root Invalid n h = h

  leaf_is_branch : (k : Kind) (p : ℕ) (us : Forest) → Branch p us ≡ Leaf k → ⊥
  leaf_is_branch k p us e = cc e

  plain_prefix : {s i : List Tree} {f : NextInput} → Tries g s i f → (ks : List Kind) → i ≡ leaves ks → IsPlain f
  plain_prefix Nothing_left ks e = tt
  plain_prefix (Dropped {t = t} empty d) (k ∷ ks) e = absurd (leaf_has_kind k t (head-eq_of_cons-eq e) empty)
  plain_prefix (Passed {t = t} c) (k ∷ ks) e = leaf_no_root k c.root (subst (λ u. IsTree g u (Nonterminal c.root)) (head-eq_of_cons-eq e) c.is)
  plain_prefix (Opened {p = p} {us = us} none d) (k ∷ ks) e = absurd (leaf_is_branch k p us (head-eq_of_cons-eq e))
  plain_prefix At_token (k ∷ ks) e = (ks, tail-eq_of_cons-eq e)
  plain_prefix d [] e = absurd (cc e)

  nothing_taken : {s i s' i' : List Tree} (run : Goes_on g s i s' i') (ks : List Kind) → i ≡ leaves ks → (below : List Tree) (w : Tree) → TakesOver g run below w → ⊥
  nothing_taken Ends ks e below w h = h
  nothing_taken (Reuses t ts f c more) ks e below w h = plain_prefix f ks e
  nothing_taken (Takes_token k ts f m more) ks e below w h = let rest = plain_prefix f ks e in nothing_taken more rest.0 rest.1 below w h
  nothing_taken (Makes s1 f t n r more) ks e below w h = nothing_taken more ks e below w h

  pub plain_makes : {s i s' i' : List Tree} (run : Goes_on g s i s' i') (ks : List Kind) → i ≡ leaves ks → all_branches s' ≡ all_branches s + makes g run
  plain_makes Ends ks e = omega arith
  plain_makes (Reuses t ts f c more) ks e = absurd (plain_prefix f ks e)
  plain_makes (Takes_token {stack = s} k ts f m more) ks e = let rest = plain_prefix f ks e in omega (arith, plain_makes more rest.0 rest.1, branches-append s (Leaf k ∷ []))
  plain_makes (Makes {stack = s} {input = i} s1 f t n r more) ks e = omega (arith, plain_makes more ks e, reduce_count g s (look_at (all_kinds i) None) s1 r)

  pub plain_made : {i s' i' : List Tree} (run : Goes_on g [] i s' i') (ks : List Kind) → i ≡ leaves ks → (below : List Tree) (p : ℕ) (us : Forest)
      → StandsIn s' below (Branch p us) → MakesAt g run below (Branch p us)
  plain_made run ks e below p us w =
      ⊎_elim
      (λ a. absurd (nowhere a refl))
      (λ b. ⊎_elim (λ t. absurd (nothing_taken run ks e below (Branch p us) t)) (λ m. m) b)
      (made_or_taken g run below p us w)

module _ (t : Sets) (ks kinds : List Kind) (before number : ℕ) (cells : List Cell) (stack : List Child) (r : IsMadeByRun t (leaves ks) kinds before number cells stack) where
  abbrev h : SoFar t (leaves ks) kinds before number cells stack r.states r.read r.rest
  h = r.so_far

  -- all branches on the stack carry the number
  pub plain_stamps : AreMadeBy number (forest_in cells stack)
  plain_stamps =
      made_forest number (forest_in cells stack) (λ lefts p born us w.
      let here = subst (λ l. StampedIn l lefts p born us) (stamped-children (trees_from [] cells) stack) w in
      (h.stamps lefts p born us here).1 (plain_made t.grammar h.run ks refl lefts p (plain_all us) (subst (λ l. StandsIn l lefts (Branch p (plain_all us))) h.top_is (stamped_stands here))))

  pub plain_count : length cells ≡ before + all_branches (plain_of cells stack)
  plain_count = omega (arith, h.count, plain_makes t.grammar h.run ks refl, ap all_branches h.top_is)
