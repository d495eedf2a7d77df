-- A grammar without a conflict, all of whose symbols are productive, and one edit: the premises of the laws can be met.
use Rattle.std.proofs.Common.{◌≡◌, ◌⊎◌, ℕ, zero, suc, List, [], ◌∷◌, ◌++◌, Option, Some, None, refl, sym, ap, ◌∙◌, subst, inl, inr, All}
use Rattle.theory.proofs.Std.{head-eq_of_cons-eq, tail-eq_of_cons-eq, All-nil, All-cons}
use Rattle.theory.proofs.Common.{Kind, Token, Symbol, Terminal, Nonterminal, Grammar, Production, HasProduction, Tree, Leaf, Branch, Nil, Cons, HaveRoots, all_kinds, IsProductive, AllProductive, Item, Move, Shift, Reduce, Accept, kind_of, CallsFor, HasNoConflict, Here, Splice}
use Rattle.theory.proofs.Common.{Stamped, StampedForest, StampedLeaf, StampedBranch, StampedNil, StampedCons, plain_all, stamped_trees, StampedIn, StampedTop, StampedBelow, StampedPast, AreStampedExactly}
use Rattle.theory.proofs.Common.{look_at, IsFirst, ByRules, Start, Goto, Close, Shifts, Reduces, AtEnd, Nothing_left, At_token, Goes_on, Ends, Takes_token, Makes, IsPrepared, AreStampedByRun}
use Rattle.theory.proofs.Rules.{valid_rules, kind_same}
use Rattle.theory.proofs.Stack.{nowhere}
use Rattle.theory.proofs.MadeIsBuilt.{not_in_leaf}
use Rattle.theory.proofs.LawProofs.{exact}

-- S = NUM
abbrev alone : Grammar
alone = record { start = 0; rules = 1; productions = record { left = 0; right = Terminal 0 ∷ [] } ∷ [] }

-- its four items: [S' = . S, end] and [S = . NUM, end] of the empty prefix, and each with its dot after the symbol
abbrev item : Option ℕ → List Symbol → List Symbol → Item
item q before after = record { production = q; before = before; after = after; look = None }

abbrev Known : List Symbol → Item → Type 0
Known prefix i =
    ((prefix ≡ []) × (i ≡ item None [] (Nonterminal 0 ∷ [])))
    ⊎ (((prefix ≡ []) × (i ≡ item (Some 0) [] (Terminal 0 ∷ [])))
    ⊎ (((prefix ≡ Nonterminal 0 ∷ []) × (i ≡ item None (Nonterminal 0 ∷ []) []))
    ⊎ ((prefix ≡ Terminal 0 ∷ []) × (i ≡ item (Some 0) (Terminal 0 ∷ []) []))))

right_of : Option Production → List Symbol
right_of None = []
right_of (Some p) = p.right

only_production : (p n : ℕ) (right : List Symbol) → HasProduction alone p n right → (p ≡ 0) × (right ≡ Terminal 0 ∷ [])
unfolding right_of
only_production zero n right h = (refl, sym (ap right_of h))
only_production (suc p) n right h = absurd (cc h)

no_symbols : (a : Option ℕ) → IsFirst alone [] None a → a ≡ None
no_symbols a f = go f.ts f.roots f.is
  where
    go : (ts : List Tree) → HaveRoots alone ts [] → kind_of a ≡ look_at (all_kinds ts) (kind_of None) → a ≡ None
    go [] h e = kind_same a None e
    go (t ∷ ts) h e = absurd h

module _ (prefix before after : List Symbol) (q look : Option ℕ) (s : Symbol) where
  moved : (p : Option ℕ) (x : Symbol) → prefix ≡ [] → record { production = q; before = before; after = s ∷ after; look = look } ≡ item p [] (x ∷ [])
      → (prefix ++ (s ∷ []) ≡ x ∷ []) × (record { production = q; before = before ++ (s ∷ []); after = after; look = look } ≡ item p (x ∷ []) [])
  moved p x e f =
      let after_is : s ∷ after ≡ x ∷ [] = ap (λ i. i.after) f in
      let symbol : s ≡ x = head-eq_of_cons-eq after_is in
      let rest : after ≡ [] = tail-eq_of_cons-eq after_is in
      ((λ i. e i ++ (symbol i ∷ [])), (λ i. record { production = (f i).production; before = (f i).before ++ (symbol i ∷ []); after = rest i; look = (f i).look }))

  stuck : (p : Option ℕ) (x : Symbol) → record { production = q; before = before; after = s ∷ after; look = look } ≡ item p (x ∷ []) [] → ⊥
  stuck p x f = let e : s ∷ after ≡ [] = ap (λ i. i.after) f in cc e

  passed : Known prefix (record { production = q; before = before; after = s ∷ after; look = look }) → Known (prefix ++ (s ∷ []))
      (record { production = q; before = before ++ (s ∷ []); after = after; look = look })
  passed (inl h) = inr (inr (inl (moved None (Nonterminal 0) h.0 h.1)))
  passed (inr (inl h)) = inr (inr (inr (moved (Some 0) (Terminal 0) h.0 h.1)))
  passed (inr (inr (inl h))) = absurd (stuck None (Nonterminal 0) h.1)
  passed (inr (inr (inr h))) = absurd (stuck (Some 0) (Terminal 0) h.1)

closed : (prefix before after : List Symbol) (q look : Option ℕ) (n p : ℕ) (right : List Symbol) (a : Option ℕ)
    → Known prefix (record { production = q; before = before; after = Nonterminal n ∷ after; look = look }) → HasProduction alone p n right
    → IsFirst alone after look a → Known prefix (record { production = Some p; before = []; after = right; look = a })
closed prefix before after q look n p right a (inl h) g f =
    let after_is : Nonterminal n ∷ after ≡ Nonterminal 0 ∷ [] = ap (λ i. i.after) h.1 in
    let rest : after ≡ [] = tail-eq_of_cons-eq after_is in
    let look_is : look ≡ None = ap (λ i. i.look) h.1 in
    let end : a ≡ None = no_symbols a (subst (λ l. IsFirst alone [] l a) look_is (subst (λ l. IsFirst alone l look a) rest f)) in
    let sides = only_production p n right g in
    inr (inl (h.0, (λ i. record { production = Some (sides.0 i); before = []; after = sides.1 i; look = end i })))
closed prefix before after q look n p right a (inr (inl h)) g f =
    let after_is : Nonterminal n ∷ after ≡ Terminal 0 ∷ [] = ap (λ i. i.after) h.1 in
    let same : Nonterminal n ≡ Terminal 0 = head-eq_of_cons-eq after_is in
    absurd (cc same)
closed prefix before after q look n p right a (inr (inr (inl h))) g f = absurd (stuck prefix before after q look (Nonterminal n) None (Nonterminal 0) h.1)
closed prefix before after q look n p right a (inr (inr (inr h))) g f = absurd (stuck prefix before after q look (Nonterminal n) (Some 0) (Terminal 0) h.1)

known : {prefix : List Symbol} {i : Item} → ByRules alone prefix i → Known prefix i
known Start = inl (refl, refl)
known (Goto {prefix = prefix} {production = q} {before = before} {s = s} {after = after} {look = look} r) = passed prefix before after q look s (known r)
known (Close {prefix = prefix} {production = q} {before = before} {n = n} {after = after} {look = look} {p = p} {right = right} {a = a} r h f) =
    closed prefix before after q look n p right a (known r) h f

-- each prefix has one move
abbrev move_at : List Symbol → Move
move_at [] = Shift
move_at (Nonterminal n ∷ rest) = Accept
move_at (Terminal a ∷ rest) = Reduce 0

only_move : (prefix : List Symbol) (i : Item) (next : Option Kind) (m : Move) → Known prefix i → CallsFor i next m → m ≡ move_at prefix
only_move prefix i next Shift (inl h) c =
    let after_is : Nonterminal 0 ∷ [] ≡ Terminal c.0 ∷ c.1 = ap (λ i. i.after) (sym h.1) ∙ c.2 in
    let same : Nonterminal 0 ≡ Terminal c.0 = head-eq_of_cons-eq after_is in
    absurd (cc same)
only_move prefix i next Shift (inr (inl h)) c = ap move_at (sym h.0)
only_move prefix i next Shift (inr (inr (inl h))) c = let e : [] ≡ Terminal c.0 ∷ c.1 = ap (λ i. i.after) (sym h.1) ∙ c.2 in absurd (cc e)
only_move prefix i next (Reduce p) (inr (inr (inl h))) c = let e : None ≡ Some p = ap (λ i. i.production) (sym h.1) ∙ c.0 in absurd (cc e)
only_move prefix i next Accept (inr (inr (inl h))) c = ap move_at (sym h.0)
only_move prefix i next Shift (inr (inr (inr h))) c = let e : [] ≡ Terminal c.0 ∷ c.1 = ap (λ i. i.after) (sym h.1) ∙ c.2 in absurd (cc e)
only_move prefix i next (Reduce p) (inr (inr (inr h))) c =
    let e : Some 0 ≡ Some p = ap (λ i. i.production) (sym h.1) ∙ c.0 in
    let same : p ≡ 0 = cc e in
    ap Reduce same ∙ ap move_at (sym h.0)
only_move prefix i next Accept (inr (inr (inr h))) c = let e : Some 0 ≡ None = ap (λ i. i.production) (sym h.1) ∙ c.0 in absurd (cc e)
only_move prefix i next d (inl h) c = let e : Nonterminal 0 ∷ [] ≡ [] = ap (λ i. i.after) (sym h.1) ∙ c.1 in absurd (cc e)
only_move prefix i next d (inr (inl h)) c = let e : Terminal 0 ∷ [] ≡ [] = ap (λ i. i.after) (sym h.1) ∙ c.1 in absurd (cc e)

free : HasNoConflict alone
free prefix next one two c =
    c.differ
    (only_move prefix one next c.one_move (known (valid_rules alone prefix one c.one_valid)) c.one_calls
    ∙ sym (only_move prefix two next c.two_move (known (valid_rules alone prefix two c.two_valid)) c.two_calls))

productive : AllProductive alone
productive = record {
  start = (Branch 0 (Cons (Leaf (Token 0)) Nil), (_, refl, (refl, tt)));
  each = λ p n right h. subst (All (IsProductive alone)) (sym (only_production p n right h).1) (All-cons (IsProductive alone) (Terminal 0) [] (Leaf (Token 0), refl) (All-nil (IsProductive alone)));
}

-- `NUM` put into the empty document by edit 1: the run of the incremental machine, and its stamps
abbrev tree : Tree
tree = Branch 0 (Cons (Leaf (Token 0)) Nil)

abbrev kids : StampedForest
kids = StampedCons (StampedLeaf (Token 0)) StampedNil

abbrev stamped : List Stamped
stamped = StampedBranch 0 1 kids ∷ []

abbrev put_in : Splice
put_in = record { from = 0; to = 0; kinds = Token 0 ∷ [] }

shift : Shifts alone [] (Token 0)
shift = record {
  symbols = [];
  roots = tt;
  called = record {
    item = item (Some 0) [] (Terminal 0 ∷ []);
    valid = record { left = Some 0; d = []; w = []; production = refl; reaches = Here; prefix_is = refl; look_is = refl };
    calls = (0, [], refl, refl);
  };
}

abbrev reduce : Reduces alone (Leaf (Token 0) ∷ []) None (tree ∷ [])
reduce = record {
  symbols = Terminal 0 ∷ [];
  roots = (refl, tt);
  number = 0;
  called = record {
    item = item (Some 0) (Terminal 0 ∷ []) [];
    valid = record { left = Some 0; d = []; w = []; production = refl; reaches = Here; prefix_is = refl; look_is = refl };
    calls = (refl, refl, refl);
  };
  below = [];
  ts = Cons (Leaf (Token 0)) Nil;
  left = 0;
  right = Terminal 0 ∷ [];
  production = refl;
  size = refl;
  from_is = refl;
  to_is = refl;
}

abbrev run : Goes_on alone [] (Leaf (Token 0) ∷ []) (tree ∷ []) []
run = Takes_token (Token 0) [] At_token shift (Makes (tree ∷ []) AtEnd Nothing_left tt reduce Ends)

prepared : IsPrepared put_in [] (Leaf (Token 0) ∷ [])
prepared = record { from_old = λ lefts p us w nonempty. absurd (not_in_leaf w (Token 0) p us refl refl); all_old = λ place p us k. absurd (nowhere k.stood refl) }

nothing_in : {l : List Stamped} {lefts : List Tree} {p born : ℕ} {us : StampedForest} → StampedIn l lefts p born us → l ≡ [] → ⊥
nothing_in StampedTop e = cc e
nothing_in (StampedBelow w) e = cc e
nothing_in (StampedPast w) e = cc e

branch_is_leaf : (p born : ℕ) (us : StampedForest) (k : Kind) → StampedBranch p born us ≡ StampedLeaf k → ⊥
branch_is_leaf p born us k e = cc e

none_in_leaf : {l : List Stamped} {lefts : List Tree} {p born : ℕ} {us : StampedForest} → StampedIn l lefts p born us → l ≡ StampedLeaf (Token 0) ∷ [] → ⊥
none_in_leaf (StampedTop {p = p} {born = born} {us = us}) e = branch_is_leaf p born us (Token 0) (head-eq_of_cons-eq e)
none_in_leaf (StampedBelow {q = q} {other = other} {us = us} w) e = branch_is_leaf q other us (Token 0) (head-eq_of_cons-eq e)
none_in_leaf (StampedPast w) e = nothing_in w (tail-eq_of_cons-eq e)

abbrev production_in : Stamped → ℕ
production_in (StampedLeaf k) = 0
production_in (StampedBranch p born us) = p

abbrev born_in : Stamped → ℕ
born_in (StampedLeaf k) = 0
born_in (StampedBranch p born us) = born

abbrev kids_in : Stamped → StampedForest
kids_in (StampedLeaf k) = StampedNil
kids_in (StampedBranch p born us) = us

only_stamped : {l : List Stamped} {lefts : List Tree} {p born : ℕ} {us : StampedForest} → StampedIn l lefts p born us → l ≡ stamped → (lefts ≡ []) × (p ≡ 0) × (born ≡ 1) × (us ≡ kids)
only_stamped StampedTop e = let h = head-eq_of_cons-eq e in (refl, ap production_in h, ap born_in h, ap kids_in h)
only_stamped (StampedBelow w) e = absurd (none_in_leaf w (ap (λ t. stamped_trees (kids_in t)) (head-eq_of_cons-eq e)))
only_stamped (StampedPast w) e = absurd (nothing_in w (tail-eq_of_cons-eq e))

by_run : AreStampedByRun alone 1 stamped run
by_run below p born us w =
    let o = only_stamped w refl in
    ((λ e. inl (sym o.0, (λ i. Branch (sym o.1 i) (plain_all (sym o.3 i))))), (λ m. o.2))

-- all premises are met, so the new branch lies in no kept node
exactly : AreStampedExactly 1 put_in [] stamped
exactly = exact alone free productive 1 put_in [] (Leaf (Token 0) ∷ []) [] stamped run prepared (inl (tree, record { root = (_, refl, (refl, tt)); kinds = refl }, refl)) by_run
