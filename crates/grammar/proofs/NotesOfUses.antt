-- Rules that are used, and what is noted of a list of symbols.
use Rattle.grammar.proofs.Std.{◌≡◌, ◌↔◌, ℕ, suc, ◌+◌, ◌<◌, ◌==◌, Bool, true, false, ◌&&◌, ◌||◌, List, [], ◌∷◌, ◌++◌, refl, ap, sym, ◌∙◌, length, take, get_or, arith, subst, Some, slice_get, slice_index_or, list_any, nat_tests, take_more, list_any-append, and_from, and_parts, or_right}
use Rattle.grammar.proofs.Common.{Symbol, Terminal, Nonterminal, Grammar, IsUsed, The_start, On_right, FileGrammar, AreNotes, none, noted_symbol, skipped, used, is_skip, is_rule, AreUsed, Production' as Production}
use Rattle.grammar.specs.Notes.{has_rule}
use Rattle.grammar.proofs.Numbered.{any_at}
use Rattle.grammar.proofs.UsedMarks.{used_right}

-- the item that passes a test
record Passes {X : Type 0} (p : X → Bool) (xs : List X) : Type 0 where
  pub place : ℕ
  pub item : X
  pub there : slice_get xs place ≡ Some item
  pub passes : p item ≡ true

passing : {X : Type 0} (p : X → Bool) (xs : List X) → list_any p xs ≡ true → Passes p xs
passing p [] h = cc
passing {X} p (x ∷ xs) h = go (p x) refl (λ rest. passing p xs rest)
  where
    go : (b : Bool) → p x ≡ b → (list_any p xs ≡ true → Passes p xs) → Passes p (x ∷ xs)
    go true e later = record { place = 0; item = x; there = refl; passes = e }
    go false e later =
        let r = later (ap (λ b. b || list_any p xs) (sym e) ∙ h) in
        record { place = suc r.place; item = r.item; there = r.there; passes = r.passes }

equal : (j k : ℕ) → (j == k) ≡ true → j ≡ k
equal j k h = grind (arith, nat_tests)

same_number : (k : ℕ) → (k == k) ≡ true
same_number k = grind (arith, nat_tests)

rule_is : (k : ℕ) (s : Symbol) → is_rule k s ≡ true → s ≡ Terminal k
rule_is k (Terminal j) h = ap Terminal (equal j k h)
rule_is k (Nonterminal n) h = cc

stands : (k : ℕ) (before after : List Symbol) → has_rule k (before ++ (Terminal k ∷ after)) ≡ true
stands k before after =
    list_any-append (is_rule k) before (Terminal k ∷ after) ∙ or_right (has_rule k before) (has_rule k (Terminal k ∷ after)) (ap (λ b. b || has_rule k after) (same_number k))

abbrev pub uses : ℕ → List Bool → Production → Bool
uses k marks x = slice_index_or marks x.left false && has_rule k x.right

used_by : (g : Grammar) (ps : List Production) (marks : List Bool) (k : ℕ) → g.productions ≡ ps → AreUsed g.start ps marks
    → (s : Symbol) → IsUsed g s → s ≡ Terminal k → list_any (uses k marks) ps ≡ true
used_by g ps marks k same all s The_start e = cc
used_by g ps marks k same all s (On_right p n before after u has) e =
    let left : slice_index_or marks n false ≡ true = all.all g n refl same u in
    let there : slice_get ps p ≡ Some (record { left = n; right = before ++ (s ∷ after) }) = ap (λ (qs : List Production). slice_get qs p) (sym same) ∙ has in
    let right : has_rule k (before ++ (s ∷ after)) ≡ true = ap (λ t. has_rule k (before ++ (t ∷ after))) e ∙ stands k before after in
    any_at (uses k marks) ps p (record { left = n; right = before ++ (s ∷ after) }) there (and_from (slice_index_or marks n false) (has_rule k (before ++ (s ∷ after))) left right)

pub rule_used : (g : Grammar) (ps : List Production) (marks : List Bool) (k : ℕ) → g.productions ≡ ps → AreUsed g.start ps marks → (list_any (uses k marks) ps ≡ true) ↔ IsUsed g (Terminal k)
rule_used g ps marks k same all = (
  (λ h.
      let x = passing (uses k marks) ps h in
      let y = passing (is_rule k) x.item.right (and_parts (slice_index_or marks x.item.left false) (has_rule k x.item.right) x.passes).1 in
      let left : IsUsed g (Nonterminal x.item.left) = all.only g x.item.left refl same (and_parts (slice_index_or marks x.item.left false) (has_rule k x.item.right) x.passes).0 in
      used_right g x.place y.place x.item (Terminal k) (ap (λ (qs : List Production). slice_get qs x.place) same ∙ x.there) (y.there ∙ ap Some (rule_is k y.item y.passes)) left),
  (λ u. used_by g ps marks k same all (Terminal k) u refl),
)

module _ (f : FileGrammar) where
  pub shown_last : (ss ns : List Symbol) (s : Symbol) → AreNotes f ss ns → is_skip f s ≡ false → (IsUsed f.grammar s → ⊥) → AreNotes f (ss ++ s ∷ []) (ns ++ s ∷ [])
  shown_last ss ns s none kept unused = noted_symbol kept unused none
  shown_last ss ns s (noted_symbol a b rest) kept unused = noted_symbol a b (shown_last _ _ s rest kept unused)
  shown_last ss ns s (skipped a rest) kept unused = skipped a (shown_last _ _ s rest kept unused)
  shown_last ss ns s (used a rest) kept unused = used a (shown_last _ _ s rest kept unused)

  pub skipped_last : (ss ns : List Symbol) (s : Symbol) → AreNotes f ss ns → is_skip f s ≡ true → AreNotes f (ss ++ s ∷ []) ns
  skipped_last ss ns s none h = skipped h none
  skipped_last ss ns s (noted_symbol a b rest) h = noted_symbol a b (skipped_last _ _ s rest h)
  skipped_last ss ns s (skipped a rest) h = skipped a (skipped_last _ _ s rest h)
  skipped_last ss ns s (used a rest) h = used a (skipped_last _ _ s rest h)

  pub used_last : (ss ns : List Symbol) (s : Symbol) → AreNotes f ss ns → IsUsed f.grammar s → AreNotes f (ss ++ s ∷ []) ns
  used_last ss ns s none h = used h none
  used_last ss ns s (noted_symbol a b rest) h = noted_symbol a b (used_last _ _ s rest h)
  used_last ss ns s (skipped a rest) h = skipped a (used_last _ _ s rest h)
  used_last ss ns s (used a rest) h = used a (used_last _ _ s rest h)

  pub one_more : (ss ns : List Symbol) (i : ℕ) (d s : Symbol) → i < length ss → s ≡ get_or ss i d → AreNotes f (take i ss ++ s ∷ []) ns → AreNotes f (take (i + 1) ss) ns
  one_more ss ns i d s within is notes = subst (λ xs. AreNotes f xs ns) (sym (take_more ss i d within ∙ ap (λ y. take i ss ++ y ∷ []) (sym is))) notes
