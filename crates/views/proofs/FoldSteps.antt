-- The walk over trees that gathers the lines of the nodes that fold: what is still ahead of it, and each of its steps.
use Rattle.views.proofs.Std.{◌≡◌, ◌⊎◌, inl, inr, ⊎_elim, ◌↔◌, ◌+◌, ◌-◌, ◌<◌, ◌≤◌, ℕ, List, [], ◌∷◌, ◌++◌, length, refl, sym, ap, ◌∙◌, subst, Bool, true, false, Contains, All, slice_index_or}
use Rattle.views.proofs.Std.{arith, length-append, get_or-append_seam, cases_lt, append-nil, get_or_append_left, All-push, Contains-append_left, Contains-push, Contains-push_cases}
use Rattle.views.proofs.Common.{Kind, Symbol, Terminal, Nonterminal, Grammar, Tree, Forest, Leaf, Branch, HasProduction, IsTree, HaveRoots, trees, yield, yields, all_kinds, branches, all_branches, Node, IsNodeOf}
use Rattle.views.proofs.Common.{roots-trees, kinds-trees, branches-trees, production_unique, line_at, SpanLines, AreAscending, IsFold, AreSpanned, with_own, IsNodeFrom}
use Rattle.views.proofs.NodesFrom.{IsBranchAt, nodes_from_start, nodes_from_none, nodes_from_leaf, nodes_from_branch, nodes_from_first, nodes_from_within}

-- trees that are still to be gone over, and the place where the first one begins
pub record Ahead : Type 0 where
  pub trees : List Tree
  pub from : ℕ

-- a node of one of these lists
abbrev pub IsAhead : Grammar → List Ahead → Node → Type 0
IsAhead g [] n = ⊥
IsAhead g (a ∷ stack) n = IsNodeFrom g a.from a.trees n ⊎ IsAhead g stack n

-- how many steps are left at most: a list ends in one, a leaf takes one, and a branch two
abbrev pub work : List Ahead → ℕ
work [] = 0
work (a ∷ stack) = 1 + all_branches a.trees + all_branches a.trees + length (all_kinds a.trees) + work stack

-- trees of the grammar whose kinds end at or before a place
abbrev pub IsRooted : Grammar → ℕ → Ahead → Type 0
IsRooted g end a = (symbols : List Symbol) × HaveRoots g a.trees symbols × (a.from + length (all_kinds a.trees) ≤ end)

ahead_push : (g : Grammar) (stack : List Ahead) (a : Ahead) (n : Node) → IsAhead g (stack ++ a ∷ []) n ↔ (IsAhead g stack n ⊎ IsNodeFrom g a.from a.trees n)
ahead_push g [] a n = (⊎_elim inr absurd, ⊎_elim absurd inl)
ahead_push g (b ∷ stack) a n =
    let h = ahead_push g stack a n in
    (⊎_elim (λ l. inl (inl l)) (λ r. ⊎_elim (λ l. inl (inr l)) inr (h.0 r)), ⊎_elim (⊎_elim inl (λ l. inr (h.1 (inl l)))) (λ r. inr (h.1 (inr r))))

work-push : (stack : List Ahead) (a : Ahead) → work (stack ++ a ∷ []) ≡ work (a ∷ []) + work stack
work-push [] a = omega arith
work-push (b ∷ stack) a = omega (arith, work-push stack a)

some_work : (t : Tree) → 1 ≤ length (yield t) + branches t
some_work (Leaf k) = omega arith
some_work (Branch p us) = omega arith

pub smaller_end : (stack : List Ahead) (a : Ahead) → work stack < work (stack ++ a ∷ [])
smaller_end stack a = omega (arith, work-push stack a)

-- what is gathered so far, where these trees are ahead, of all trees
pub record IsGathered (g : Grammar) (folds : List Bool) (lines : List (ℕ × ℕ)) (all : List Tree) (stack : List Ahead) (pairs : List (ℕ × ℕ)) : Type 0 where
  pub rooted : All (IsRooted g (length lines)) stack
  pub inside : (n : Node) → IsAhead g stack n → IsNodeOf g all n
  pub only : (p : ℕ × ℕ) → Contains pairs p → (n : Node) × IsNodeOf g all n × IsFold folds lines n p
  pub rest : (n : Node) (p : ℕ × ℕ) → IsNodeOf g all n → IsFold folds lines n p → Contains pairs p ⊎ IsAhead g stack n

module _ (g : Grammar) (folds : List Bool) (lines : List (ℕ × ℕ)) (all : List Tree) where
  pub gathered_none : (symbols : List Symbol) → HaveRoots g all symbols → length (all_kinds all) ≤ length lines → IsGathered g folds lines all (record { trees = all; from = 0 } ∷ []) []
  gathered_none symbols roots short = record {
    rooted = All-push (IsRooted g (length lines)) [] (record { trees = all; from = 0 }) (λ k d l. absurd (omega (arith, l))) (symbols, roots, omega (arith, short));
    inside = λ n h. (nodes_from_start g all n).0 (⊎_elim (λ l. l) absurd h);
    only = λ p c. absurd (omega (arith, c.1));
    rest = λ n p h f. inr (inl ((nodes_from_start g all n).1 h));
  }

  -- where nothing is ahead, all is gathered
  pub all_gathered : (stack : List Ahead) (pairs : List (ℕ × ℕ)) → length stack ≡ 0 → IsGathered g folds lines all stack pairs → AreSpanned g folds lines all pairs
  all_gathered [] pairs e w = record { only = w.only; all = λ n p h f. ⊎_elim (λ c. c) absurd (w.rest n p h f) }
  all_gathered (a ∷ stack) pairs e w = absurd (omega (arith, e))

  -- the last list
  module _ (stack : List Ahead) (a : Ahead) (pairs : List (ℕ × ℕ)) (w : IsGathered g folds lines all (stack ++ a ∷ []) pairs) where
    pub here : IsRooted g (length lines) a
    here = subst (IsRooted g (length lines)) (get_or-append_seam stack a [] a) (w.rooted (length stack) a (omega (arith, length-append stack (a ∷ []))))

    others : All (IsRooted g (length lines)) stack
    others = λ k d l. subst (IsRooted g (length lines)) (get_or_append_left stack (a ∷ []) d k l) (w.rooted k d (omega (arith, l, length-append stack (a ∷ []))))

    -- is empty
    pub gathered_end : a.trees ≡ [] → IsGathered g folds lines all stack pairs
    gathered_end e = record {
      rooted = others;
      inside = λ n h. w.inside n ((ahead_push g stack a n).1 (inl h));
      only = w.only;
      rest = λ n p h f. ⊎_elim inl (λ r. ⊎_elim inr (λ l. absurd (nodes_from_none g a.from n (subst (λ ts. IsNodeFrom g a.from ts n) e l))) ((ahead_push g stack a n).0 r)) (w.rest n p h f);
    }

    -- begins with a tree, after which the others begin at this place
    module _ (t : Tree) (ts : List Tree) (e : a.trees ≡ t ∷ ts) (to : ℕ) (end : to ≡ a.from + length (yield t)) where
      abbrev after : Ahead
      after = record { trees = ts; from = to }

      pub first_within : to + length (all_kinds ts) ≤ length lines
      first_within = omega (arith, end, here.2, ap (λ us. length (all_kinds us)) e, length-append (yield t) (all_kinds ts))

      roots : (ss : List Symbol) → HaveRoots g (t ∷ ts) ss → (s : Symbol) × (rest : List Symbol) × IsTree g t s × HaveRoots g ts rest
      roots [] h = absurd h
      roots (s ∷ rest) h = (s, rest, h.0, h.1)

      both_rooted : (s : Symbol) × (rest : List Symbol) × IsTree g t s × HaveRoots g ts rest
      both_rooted = roots here.0 (subst (λ us. HaveRoots g us here.0) e here.1)

      rest_rooted : All (IsRooted g (length lines)) (stack ++ after ∷ [])
      rest_rooted = All-push (IsRooted g (length lines)) stack after others (both_rooted.1, both_rooted.3, first_within)

      -- the nodes of the last list are those of the tree, and those after it
      split : (n : Node) → IsNodeFrom g a.from a.trees n ↔ (IsNodeFrom g a.from (t ∷ []) n ⊎ IsNodeFrom g to ts n)
      split n = subst (λ us. IsNodeFrom g a.from us n ↔ (IsNodeFrom g a.from (t ∷ []) n ⊎ IsNodeFrom g to ts n)) (sym e)
          (subst (λ m. IsNodeFrom g a.from (t ∷ ts) n ↔ (IsNodeFrom g a.from (t ∷ []) n ⊎ IsNodeFrom g m ts n)) (sym end) (nodes_from_first g a.from t ts n))

      -- of which no node is to be gathered
      pub gathered_past : ((n : Node) (p : ℕ × ℕ) → IsNodeFrom g a.from (t ∷ []) n → IsFold folds lines n p → ⊥) → IsGathered g folds lines all (stack ++ after ∷ []) pairs
      gathered_past free = record {
        rooted = rest_rooted;
        inside = λ n h. w.inside n ((ahead_push g stack a n).1 (⊎_elim inl (λ r. inr ((split n).1 (inr r))) ((ahead_push g stack after n).0 h)));
        only = w.only;
        rest = λ n p h f.
            ⊎_elim inl
            (λ r. inr ((ahead_push g stack after n).1 (⊎_elim inl (λ l. ⊎_elim (λ m. absurd (free n p m f)) inr ((split n).0 l)) ((ahead_push g stack a n).0 r))))
            (w.rest n p h f);
      }

      pub smaller_past : work (stack ++ after ∷ []) < work (stack ++ a ∷ [])
      smaller_past = omega (arith, some_work t, work-push stack after, work-push stack a, ap (λ us. length (all_kinds us)) e, ap all_branches e, length-append (yield t) (all_kinds ts))

      -- which is a branch, and its own lines are gathered where they are to be
      module _ (q : ℕ) (us : Forest) (f : t ≡ Branch q us) where
        abbrev inner : Ahead
        inner = record { trees = trees us; from = a.from }

        kinds : length (all_kinds (trees us)) ≡ length (yield t)
        kinds = ap length (kinds-trees us) ∙ sym (ap (λ u. length (yield u)) f)

        inner_roots : (s : Symbol) → IsTree g (Branch q us) s → (ss : List Symbol) × HaveRoots g (trees us) ss
        inner_roots (Terminal b) h = absurd h
        inner_roots (Nonterminal n) h = (h.0, roots-trees g us h.0 h.2)

        sides : (s : Symbol) → IsTree g (Branch q us) s → (n : ℕ) × (right : List Symbol) × HasProduction g q n right
        sides (Terminal b) h = absurd h
        sides (Nonterminal n) h = (n, h.0, h.1)

        branch_root : IsTree g (Branch q us) both_rooted.0
        branch_root = subst (λ u. IsTree g u both_rooted.0) f both_rooted.2

        pub left_side : (n : ℕ) × (right : List Symbol) × HasProduction g q n right
        left_side = sides both_rooted.0 branch_root

        inner_rooted : IsRooted g (length lines) inner
        inner_rooted = let r = inner_roots both_rooted.0 branch_root in (r.0, r.1, omega (arith, first_within, end, kinds))

        -- the nodes of the last list are the branch, those below it, and those after it
        parts : (n : Node) → IsNodeFrom g a.from a.trees n ↔ (IsBranchAt g a.from q us n ⊎ (IsNodeFrom g a.from (trees us) n ⊎ IsNodeFrom g to ts n))
        parts n =
            let place : a.from + length (yields us) ≡ to = ap (λ u. a.from + length (yield u)) (sym f) ∙ sym end in
            let list : Branch q us ∷ ts ≡ a.trees = ap (λ u. u ∷ ts) (sym f) ∙ sym e in
            subst (λ l. IsNodeFrom g a.from l n ↔ (IsBranchAt g a.from q us n ⊎ (IsNodeFrom g a.from (trees us) n ⊎ IsNodeFrom g to ts n))) list
            (subst (λ m. IsNodeFrom g a.from (Branch q us ∷ ts) n ↔ (IsBranchAt g a.from q us n ⊎ (IsNodeFrom g a.from (trees us) n ⊎ IsNodeFrom g m ts n))) place
            (nodes_from_branch g a.from q us ts n))

        pushed : (n : Node) → IsAhead g (stack ++ after ∷ [] ++ inner ∷ []) n ↔ ((IsAhead g stack n ⊎ IsNodeFrom g to ts n) ⊎ IsNodeFrom g a.from (trees us) n)
        pushed n =
            let one = ahead_push g stack after n in
            let two = ahead_push g (stack ++ after ∷ []) inner n in
            (λ h. ⊎_elim (λ l. inl (one.0 l)) inr (two.0 h), λ h. two.1 (⊎_elim (λ l. inl (one.1 l)) inr h))

        own : (n : Node) → IsBranchAt g a.from q us n → IsNodeOf g all n
        own n h = w.inside n ((ahead_push g stack a n).1 (inr ((parts n).1 (inl h))))

        pub gathered_into : (new : List (ℕ × ℕ)) → ((p : ℕ × ℕ) → Contains pairs p → Contains new p)
            → ((p : ℕ × ℕ) → Contains new p → Contains pairs p ⊎ ((n : Node) × IsBranchAt g a.from q us n × IsFold folds lines n p))
            → ((n : Node) (p : ℕ × ℕ) → IsBranchAt g a.from q us n → IsFold folds lines n p → Contains new p) → IsGathered g folds lines all (stack ++ after ∷ [] ++ inner ∷ []) new
        gathered_into new kept only_own all_own = record {
          rooted = All-push (IsRooted g (length lines)) (stack ++ after ∷ []) inner rest_rooted inner_rooted;
          inside = λ n h.
              w.inside n
              ((ahead_push g stack a n).1
              (⊎_elim (⊎_elim inl (λ r. inr ((parts n).1 (inr (inr r))))) (λ l. inr ((parts n).1 (inr (inl l)))) ((pushed n).0 h)));
          only = λ p c. ⊎_elim (w.only p) (λ o. (o.0, own o.0 o.1, o.2)) (only_own p c);
          rest = λ n p h f.
              ⊎_elim (λ c. inl (kept p c))
              (λ r.
              ⊎_elim (λ l. inr ((pushed n).1 (inl (inl l))))
              (λ l. ⊎_elim (λ o. inl (all_own n p o f)) (⊎_elim (λ m. inr ((pushed n).1 (inr m))) (λ m. inr ((pushed n).1 (inl (inr m))))) ((parts n).0 l))
              ((ahead_push g stack a n).0 r))
              (w.rest n p h f);
        }

        pub smaller_into : work (stack ++ after ∷ [] ++ inner ∷ []) < work (stack ++ a ∷ [])
        smaller_into = omega (
          arith,
          work-push (stack ++ after ∷ []) inner,
          work-push stack after,
          work-push stack a,
          ap (λ l. length (all_kinds l)) e,
          ap all_branches e,
          length-append (yield t) (all_kinds ts),
          kinds,
          ap branches f,
          branches-trees us,
        )

  -- a leaf has no node
  pub free_leaf : (from : ℕ) (t : Tree) (k : Kind) → t ≡ Leaf k → (n : Node) → IsNodeFrom g from (t ∷ []) n → ⊥
  free_leaf from t k e n h = nodes_from_none g (from + 1) n ((nodes_from_leaf g from k [] n).0 (subst (λ u. IsNodeFrom g from (u ∷ []) n) e h))

-- what spans lines spans them with more tokens on either side
earlier : (lines : List (ℕ × ℕ)) → AreAscending lines → (i j : ℕ) → i ≤ j → j < length lines → ((line_at lines i).0 ≤ (line_at lines j).0) × ((line_at lines i).1 ≤ (line_at lines j).1)
earlier lines up i j l m = go (cases_lt i j)
  where
    go : (i < j) ⊎ (j ≤ i) → ((line_at lines i).0 ≤ (line_at lines j).0) × ((line_at lines i).1 ≤ (line_at lines j).1)
    go (inl h) = up i j (0, 0) h m
    go (inr h) =
        let same : i ≡ j = omega arith in
        (omega (arith, ap (λ k. (line_at lines k).0) same), omega (arith, ap (λ k. (line_at lines k).1) same))

pub wider : (lines : List (ℕ × ℕ)) → AreAscending lines → (a b c d : ℕ) (p : ℕ × ℕ) → a ≤ b → c ≤ d → d ≤ length lines
    → SpanLines lines b c p → SpanLines lines a d ((line_at lines a).0, (line_at lines (d - 1)).1)
wider lines up a b c d p l m within s =
    let first = earlier lines up a b l (omega (arith, s.0)) in
    let last = earlier lines up (c - 1) (d - 1) (omega (arith, s.0)) (omega (arith, s.0)) in
    (omega (arith, s.0), refl, refl, omega (arith, first.0, last.1, s.1, s.2, s.3))

-- a tree whose tokens span no lines has no node to be gathered
pub free_line : (g : Grammar) (folds : List Bool) (lines : List (ℕ × ℕ)) → AreAscending lines → (from to : ℕ) (t : Tree) → to ≡ from + length (yield t)
    → to ≤ length lines → ((p : ℕ × ℕ) → SpanLines lines from to p → ⊥) → (n : Node) (p : ℕ × ℕ) → IsNodeFrom g from (t ∷ []) n → IsFold folds lines n p → ⊥
free_line g folds lines up from to t end within none n p h f =
    let w = nodes_from_within g from (t ∷ []) n h in
    none _ (wider lines up from n.from n.to to p w.0 (omega (arith, w.2, end, ap length (append-nil (yield t)))) within f.1)

-- a branch adds its own lines where its symbol folds
module _ (g : Grammar) (folds : List Bool) (lines : List (ℕ × ℕ)) (q m : ℕ) (right : List Symbol) (made : HasProduction g q m right) (from to : ℕ) (us : Forest)
    (end : to ≡ from + length (yields us)) (pair : ℕ × ℕ) (spans : SpanLines lines from to pair) (pairs : List (ℕ × ℕ)) where
  pub own_kept : (b : Bool) (p : ℕ × ℕ) → Contains pairs p → Contains (with_own b pair pairs) p
  own_kept false p c = c
  own_kept true p c = Contains-append_left pairs (pair ∷ []) p c

  pub own_only : (b : Bool) → slice_index_or folds m false ≡ b → (p : ℕ × ℕ) → Contains (with_own b pair pairs) p → Contains pairs p ⊎ ((n : Node) × IsBranchAt g from q us n × IsFold folds lines n p)
  own_only false flag p c = inl c
  own_only true flag p c =
      ⊎_elim inl
      (λ e. inr (record { symbol = m; from = from; to = to }, (right, made, refl, end), (flag, subst (SpanLines lines from to) e spans)))
      (Contains-push_cases pairs pair p c)

  same_symbol : (n : Node) → IsBranchAt g from q us n → n.symbol ≡ m
  same_symbol n h = (production_unique g q n.symbol m h.0 right h.1 made).0

  same_pair : (n : Node) → IsBranchAt g from q us n → (p : ℕ × ℕ) → IsFold folds lines n p → pair ≡ p
  same_pair n h p f =
      let first : pair.0 ≡ p.0 = spans.1 ∙ ap (λ k. (line_at lines k).0) (sym h.2) ∙ sym f.1.1 in
      let last : pair.1 ≡ p.1 = spans.2 ∙ ap (λ k. (line_at lines (k - 1)).1) (end ∙ sym h.3) ∙ sym f.1.2 in
      λ i. (first i, last i)

  pub all_own : (b : Bool) → slice_index_or folds m false ≡ b → (n : Node) (p : ℕ × ℕ) → IsBranchAt g from q us n → IsFold folds lines n p → Contains (with_own b pair pairs) p
  all_own false flag n p h f = absurd (cc (f.0, flag, ap (λ k. slice_index_or folds k false) (same_symbol n h)))
  all_own true flag n p h f = subst (λ o. Contains (pairs ++ pair ∷ []) o) (same_pair n h p f) (Contains-push pairs pair)
