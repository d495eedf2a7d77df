-- What could be taken over is taken over: no node that the edit keeps is broken before it is tried.
use Rattle.theory.proofs.Std.{◌≡◌, ◌⊎◌, ◌+◌, ◌<◌, ◌≤◌, List, [], ◌∷◌, ◌++◌, length, Option, Some, None, refl, sym, ap, ◌∙◌, subst, inl, inr, ⊎_elim, arith, append_assoc, length-append, append-nil, append_cancel_left, append_cancel_right, cases_lt, head-eq_of_cons-eq, tail-eq_of_cons-eq}
use Rattle.theory.proofs.Common.{Kind, Grammar, Tree, Forest, Leaf, Branch, Nil, Cons, trees, yield, yields, all_kinds, AllProductive, HasNoConflict, StandsIn, Top, Below, Past, branches, branches_of, all_branches}
use Rattle.theory.proofs.Common.{look_at, Reduces, Shifts, Run, Stay, Reduced, Shifted, CanReuse, NextInput, Take, AtToken, AtEnd, Tries, Nothing_left, Dropped, Passed, Opened, At_token, IsNoTree, Goes_on, Ends, Reuses, Takes_token, Makes}
use Rattle.theory.proofs.Simulation.{look-append}
use Rattle.theory.proofs.Unique.{reduces_unique, no_reduction_at_shift}
use Rattle.theory.proofs.StackIsRead.{kinds-append, kinds-trees, run_kinds}
use Rattle.theory.proofs.Theorems.{reuse}
use Rattle.theory.proofs.Stack.{stands_in_prefix, stands_after, stands_kinds, stands_later, stands_on_top, nowhere}
use Rattle.theory.proofs.Incremental.{Passes, tries_kinds, tries_finds, goes_on_passes, passes_linear}

pub branches-trees : (ts : Forest) → all_branches (trees ts) ≡ branches_of ts
branches-trees Nil = refl
branches-trees (Cons t ts) = ap (λ n. branches t + n) (branches-trees ts)

pub branches-append : (one two : List Tree) → all_branches (one ++ two) ≡ all_branches one + all_branches two
branches-append [] two = omega arith
branches-append (t ∷ one) two = omega (arith, branches-append one two)

pub stands_length : {l lefts : List Tree} {t : Tree} → StandsIn l lefts t → length (all_kinds lefts) + length (yield t) ≤ length (all_kinds l)
stands_length {lefts = lefts} {t = t} w = let r = stands_kinds w in omega (arith, ap length r.1, length-append (all_kinds lefts) (yield t ++ r.0), length-append (yield t) r.0)

below_length : (us : Forest) {lefts : List Tree} {t : Tree} → StandsIn (trees us) lefts t → length (all_kinds lefts) + length (yield t) ≤ length (yields us)
below_length us w = omega (arith, stands_length w, ap length (kinds-trees us))

pub stands_branches : {l lefts : List Tree} {t : Tree} → StandsIn l lefts t → all_branches lefts + branches t ≤ all_branches l
stands_branches Top = omega arith
stands_branches (Below {us = us} w) = omega (arith, stands_branches w, branches-trees us)
stands_branches (Past w) = omega (arith, stands_branches w)

-- a tree below another is smaller
inside_same : {u w : Tree} {lefts : List Tree} → StandsIn (u ∷ []) lefts w → (u ≡ w) ⊎ (branches w < branches u)
inside_same Top = inl refl
inside_same (Below {us = us} w) = inr (omega (arith, stands_branches w, branches-trees us))
inside_same (Past w) = absurd (nowhere w refl)

-- of two nodes that share a kind, one is in the other
data Nested (l1 l2 : List Tree) (t1 t2 : Tree) : Type 0 where
  Within : (inner : List Tree) → StandsIn (t1 ∷ []) inner t2 → l2 ≡ l1 ++ inner → Nested l1 l2 t1 t2
  Around : (inner : List Tree) → StandsIn (t2 ∷ []) inner t1 → l1 ≡ l2 ++ inner → Nested l1 l2 t1 t2

nested_past : (u : Tree) (l1 l2 : List Tree) (t1 t2 : Tree) → Nested l1 l2 t1 t2 → Nested (u ∷ l1) (u ∷ l2) t1 t2
nested_past u l1 l2 t1 t2 (Within i w e) = Within i w (ap (λ l. u ∷ l) e)
nested_past u l1 l2 t1 t2 (Around i w e) = Around i w (ap (λ l. u ∷ l) e)

nested : {l l1 l2 : List Tree} {t1 t2 : Tree} → StandsIn l l1 t1 → StandsIn l l2 t2 → 0 < length (yield t1) → 0 < length (yield t2) → length (all_kinds l1) ≤ length (all_kinds l2)
    → length (all_kinds l2) < length (all_kinds l1) + length (yield t1) → Nested l1 l2 t1 t2
nested Top Top n m le lt = Within [] Top refl
nested Top (Below {lefts = l2} w) n m le lt = Within l2 (Below w) refl
nested (Top {t = t}) (Past {lefts = l2} w) n m le lt = absurd (omega (arith, lt, length-append (yield t) (all_kinds l2)))
nested (Below {lefts = l1} v) Top n m le lt = Around l1 (Below v) refl
nested (Below v) (Below w) n m le lt = nested v w n m le lt
nested (Below {us = us} v) (Past {lefts = l2} w) n m le lt = absurd (omega (arith, lt, below_length us v, length-append (yields us) (all_kinds l2)))
nested (Past {u = u} {lefts = l1} v) Top n m le lt = absurd (omega (arith, le, m, length-append (yield u) (all_kinds l1)))
nested (Past {lefts = l1} v) (Below {us = us} w) n m le lt = absurd (omega (arith, le, m, below_length us w, length-append (yields us) (all_kinds l1)))
nested {t1 = t1} {t2 = t2} (Past {u = u} {lefts = l1} v) (Past {lefts = l2} w) n m le lt =
    nested_past u l1 l2 t1 t2 (nested v w n m (omega (arith, le, length-append (yield u) (all_kinds l1), length-append (yield u) (all_kinds l2)))
    (omega (arith, lt, length-append (yield u) (all_kinds l1), length-append (yield u) (all_kinds l2))))

-- a node before another is among its left siblings
left_of : {l l1 l2 : List Tree} {t1 t2 : Tree} → StandsIn l l1 t1 → StandsIn l l2 t2 → 0 < length (yield t1) → 0 < length (yield t2)
    → length (all_kinds l1) + length (yield t1) ≤ length (all_kinds l2) → StandsIn l2 l1 t1
left_of v Top n m le = absurd (omega (arith, n, le))
left_of Top (Below {us = us} w) n m le = absurd (omega (arith, m, le, below_length us w))
left_of Top (Past w) n m le = Top
left_of (Below v) (Below w) n m le = left_of v w n m le
left_of (Below v) (Past w) n m le = Below v
left_of (Past {lefts = l1} v) (Below {us = us} w) n m le = absurd (omega (arith, le, m, below_length us w, length-append (yields us) (all_kinds l1)))
left_of (Past {u = u} {lefts = l1} v) (Past {lefts = l2} w) n m le = Past (left_of v w n m (omega (arith, le, length-append (yield u) (all_kinds l1), length-append (yield u) (all_kinds l2))))

is_nil : (x : List Kind) → length x ≡ 0 → x ≡ []
is_nil [] e = refl
is_nil (k ∷ x) e = absurd (omega (arith, e))

abbrev pub taken_of : NextInput → List Kind
taken_of (Take t ts) = yield t
taken_of (AtToken k ts) = k ∷ []
taken_of AtEnd = []

abbrev pub rest_of : NextInput → List Tree
rest_of (Take t ts) = ts
rest_of (AtToken k ts) = ts
rest_of AtEnd = []

module _ (g : Grammar) where
  -- a node after what is taken stays in the input
  tries_keeps : {stack input : List Tree} {f : NextInput} → Tries g stack input f → (lefts : List Tree) (w : Tree) (more : List Kind) → StandsIn input lefts w
      → 0 < length (yield w) → 0 < length (taken_of f) → all_kinds lefts ≡ taken_of f ++ more → (lefts' : List Tree) × StandsIn (rest_of f) lefts' w × (all_kinds lefts' ≡ more)
  tries_keeps Nothing_left lefts w more place n m e = absurd (nowhere place refl)
  tries_keeps (Dropped {t = t} h d) lefts w more Top n m e = absurd (omega (arith, n, ap length h))
  tries_keeps (Dropped h d) lefts w more (Below {us = us} place) n m e = absurd (omega (arith, n, ap length h, below_length us place))
  tries_keeps (Dropped h d) lefts w more (Past {lefts = inner} place) n m e = tries_keeps d inner w more place n m (ap (λ l. l ++ all_kinds inner) (sym h) ∙ e)
  tries_keeps (Passed {t = t} c) lefts w more Top n m e = absurd (omega (arith, m, ap length e, length-append (yield t) more))
  tries_keeps (Passed c) lefts w more (Below {us = us} place) n m e = absurd (omega (arith, n, ap length e, length-append (yields us) more, below_length us place))
  tries_keeps (Passed {t = t} c) lefts w more (Past {lefts = inner} place) n m e = (inner, place, append_cancel_left (yield t) (all_kinds inner) more e)
  tries_keeps (Opened {f = f} h d) lefts w more Top n m e = absurd (omega (arith, m, ap length e, length-append (taken_of f) more))
  tries_keeps (Opened {ts = ts} h d) lefts w more (Below place) n m e = tries_keeps d lefts w more (stands_in_prefix ts place) n m e
  tries_keeps (Opened {us = us} h d) lefts w more (Past {lefts = inner} place) n m e =
      tries_keeps d (trees us ++ inner) w more (stands_after (trees us) place) n m (kinds-append (trees us) inner ∙ ap (λ l. l ++ all_kinds inner) (kinds-trees us) ∙ e)
  tries_keeps (At_token {k = k}) lefts w more Top n m e = absurd (omega (arith, ap length e))
  tries_keeps (At_token {k = k}) lefts w more (Past {lefts = inner} place) n m e = (inner, place, tail-eq_of_cons-eq e)

  -- each reduction makes one branch
  reduction_branches : (stack stack' : List Tree) (next : Option Kind) → Reduces g stack next stack' → all_branches stack' ≡ all_branches stack + 1
  reduction_branches stack stack' next r =
      omega (arith, ap all_branches r.from_is, ap all_branches r.to_is, branches-append r.below (trees r.ts), branches-append r.below (Branch r.number r.ts ∷ []), branches-trees r.ts)

  run_branches : {next : Option Kind} {s b : List Tree} {x : List Kind} → Run g next s x b → x ≡ [] → (all_branches s ≤ all_branches b) × (all_branches b ≤ all_branches s → s ≡ b)
  run_branches Stay e = (omega arith, λ h. refl)
  run_branches {next} {s} {x = x} (Reduced {stack1 = s1} r p) e =
      let i = run_branches p e in
      let one = reduction_branches s s1 (look_at x next) r in
      (omega (arith, i.0, one), λ h. absurd (omega (arith, h, i.0, one)))
  run_branches (Shifted m p) e = absurd (cc e)

  -- a subtree that the run took over, with this node in it
  abbrev pub TakesOver : {s i s' i' : List Tree} → Goes_on g s i s' i' → List Tree → Tree → Type 0
  TakesOver Ends below w = ⊥
  TakesOver (Reuses {stack = s} t ts f c more) below w = ((inner : List Tree) × StandsIn (t ∷ []) inner w × (s ++ inner ≡ below)) ⊎ TakesOver more below w
  TakesOver (Takes_token k ts f m more) below w = TakesOver more below w
  TakesOver (Makes s1 f t n r more) below w = TakesOver more below w

  module _ (free : HasNoConflict g) where
    after_reduction : {look : Option Kind} {s b s1 : List Tree} {read : List Kind} → Run g look s read b → (i r : List Kind) → look ≡ look_at r None
        → i ≡ read ++ r → Reduces g s (look_at i None) s1 → ((s ≡ b) × (i ≡ r)) ⊎ Passes g s1 i b r
    after_reduction Stay i r l e m = inl (refl, e)
    after_reduction {look} {s} {b} {s1} {read = read} (Reduced {stack1 = s2} q p) i r l e m =
        let see : look_at read look ≡ look_at i None = ap (λ k. look_at read k) l ∙ sym (look-append read r None) ∙ ap (λ k. look_at k None) (sym e) in
        let same = reduces_unique g free s (look_at i None) s2 s1 (subst (λ k. Reduces g s k s2) see q) m in
        inr (record { read = read; split = e; run = subst (λ k. Run g k s1 read b) l (subst (λ k. Run g look k read b) same p) })
    after_reduction {s = s} {s1 = s1} (Shifted {k = k} q p) i r l e m = absurd (no_reduction_at_shift g free s k q s1 (subst (λ k. Reduces g s k s1) (ap (λ k. look_at k None) e) m))

    after_shift : {look : Option Kind} {s b : List Tree} {read : List Kind} → Run g look s read b → (k : Kind) (i r : List Kind) → look ≡ look_at r None
        → k ∷ i ≡ read ++ r → Shifts g s k → ((s ≡ b) × (k ∷ i ≡ r)) ⊎ Passes g (s ++ (Leaf k ∷ [])) i b r
    after_shift Stay k i r l e m = inl (refl, e)
    after_shift {look} {s} {read = read} (Reduced {stack1 = s2} q p) k i r l e m =
        let see : look_at read look ≡ Some k = ap (λ k. look_at read k) l ∙ sym (look-append read r None) ∙ ap (λ k. look_at k None) (sym e) in
        absurd (no_reduction_at_shift g free s k m s2 (subst (λ k. Reduces g s k s2) see q))
    after_shift {look} {s} {b} (Shifted {k = j} {x = x} q p) k i r l e m =
        inr (record {
          read = x;
          split = tail-eq_of_cons-eq e;
          run = subst (λ v. Run g v (s ++ (Leaf k ∷ [])) x b) l (subst (λ v. Run g look (s ++ (Leaf v ∷ [])) x b) (sym (head-eq_of_cons-eq e)) p);
        })

    module _ (productive : AllProductive g) (below : List Tree) (w : Tree) (rest : List Kind) (can : CanReuse g below w rest) where
      -- where the run stands at the node's left siblings, the node or one above it is taken
      found_now : (s input : List Tree) (f : NextInput) → Tries g s input f → s ≡ below → (lefts : List Tree) → StandsIn input lefts w → all_kinds s ++ all_kinds lefts ≡ all_kinds below
          → all_kinds input ≡ all_kinds lefts ++ (yield w ++ rest) → (t : Tree) × (ts : List Tree) × (f ≡ Take t ts) × ((inner : List Tree) × StandsIn (t ∷ []) inner w)
      found_now s input f d e lefts place at kinds =
          let none = is_nil (all_kinds lefts) (omega (arith, ap length at, ap (λ l. length (all_kinds l)) e, length-append (all_kinds s) (all_kinds lefts))) in
          tries_finds g d lefts w rest place none (kinds ∙ ap (λ l. l ++ (yield w ++ rest)) none) (subst (λ l. CanReuse g l w rest) (sym e) can)

      -- a tree is taken: the node is in it, or still ahead
      reuse_case : (L : Type 0) (s input s' : List Tree) (t : Tree) (ts : List Tree) → Tries g s input (Take t ts) → CanReuse g s t (all_kinds ts) → StandsIn s' s t
          → (lefts : List Tree) → StandsIn input lefts w → all_kinds s ++ all_kinds lefts ≡ all_kinds below → all_kinds input ≡ all_kinds lefts ++ (yield w ++ rest)
          → Passes g s (all_kinds input) below (yield w ++ rest) → StandsIn s' below w
          → ((lefts' : List Tree) → StandsIn ts lefts' w → all_kinds (s ++ (t ∷ [])) ++ all_kinds lefts' ≡ all_kinds below → all_kinds ts ≡ all_kinds lefts' ++ (yield w ++ rest)
          → Passes g (s ++ (t ∷ [])) (all_kinds ts) below (yield w ++ rest) → L) → ((inner : List Tree) × StandsIn (t ∷ []) inner w × (s ++ inner ≡ below)) ⊎ L
      reuse_case L s input s' t ts d c stands lefts place at kinds pass end later =
          ⊎_elim
          (λ lt. inl (inside (nested stands end c.not_empty can.not_empty (omega (arith, ap length at, length-append (all_kinds s) (all_kinds lefts))) lt)))
          (λ ge. inr (after ge))
          (cases_lt (length (all_kinds below)) (length (all_kinds s) + length (yield t)))
        where
          inside : Nested s below t w → (inner : List Tree) × StandsIn (t ∷ []) inner w × (s ++ inner ≡ below)
          inside (Within inner p e) = (inner, p, sym e)
          inside (Around inner p e) =
              let none : all_kinds lefts ≡ [] =
              is_nil (all_kinds lefts) (omega (
                arith,
                ap length at,
                length-append (all_kinds s) (all_kinds lefts),
                ap (λ l. length (all_kinds l)) e,
                ap length (kinds-append below inner),
                length-append (all_kinds below) (all_kinds inner),
              )) in
              let read : pass.read ≡ [] = append_cancel_right pass.read (all_kinds lefts) (yield w ++ rest) (sym pass.split ∙ kinds) ∙ none in
              let same : s ≡ below = (run_branches pass.run read).1 (omega (arith, ap all_branches e, branches-append below inner)) in
              let f = found_now s input (Take t ts) d same lefts place at kinds in
              let is : t ≡ f.0 = (let k : Take t ts ≡ Take f.0 f.1 = f.2 in cc k) in
              let q = subst (λ u. StandsIn (u ∷ []) f.3.0 w) (sym is) f.3.1 in
              let top : StandsIn (t ∷ []) [] w = ⊎_elim (λ k. subst (λ u. StandsIn (t ∷ []) [] u) (sym k) Top)
              (λ less. ⊎_elim (λ k. subst (λ u. StandsIn (t ∷ []) [] u) k Top) (λ more. absurd (omega (arith, less, more))) (inside_same q)) (inside_same p) in
              ([], top, append-nil s ∙ same)

          onward : length (all_kinds s) + length (yield t) ≤ length (all_kinds below) → Passes g (s ++ (t ∷ [])) (all_kinds ts) below (yield w ++ rest)
          onward ge =
              let step : Passes g s (all_kinds input) (s ++ (t ∷ [])) (all_kinds ts) =
              record { read = yield t; split = tries_kinds g d; run = reuse g productive t c.root c.is s c.symbols c.roots (look_at (all_kinds ts) None) c.move c.called } in
              ⊎_elim
              (λ p. p)
              (λ p.
              let read : p.read ≡ [] = is_nil p.read
              (omega (
                arith,
                ge,
                ap length at,
                length-append (all_kinds s) (all_kinds lefts),
                ap length kinds,
                ap length (tries_kinds g d),
                length-append (yield t) (all_kinds ts),
                length-append (all_kinds lefts) (yield w ++ rest),
                ap length p.split,
                length-append p.read (all_kinds ts),
              )) in
              let same : below ≡ s ++ (t ∷ []) = (run_branches p.run read).1 (omega (arith, stands_branches (left_of stands end c.not_empty can.not_empty ge), branches-append s (t ∷ []))) in
              record { read = []; split = sym (p.split ∙ ap (λ l. l ++ all_kinds ts) read); run = subst (λ l. Run g (look_at (yield w ++ rest) None) (s ++ (t ∷ [])) [] l) (sym same) Stay })
              (passes_linear g free s (s ++ (t ∷ [])) below (all_kinds input) (all_kinds ts) (yield w ++ rest) step pass)

          after : length (all_kinds s) + length (yield t) ≤ length (all_kinds below) → L
          after ge =
              let on = onward ge in
              let read : all_kinds lefts ≡ yield t ++ on.read = append_cancel_right (all_kinds lefts) (yield t ++ on.read) (yield w ++ rest)
              (sym kinds ∙ tries_kinds g d ∙ ap (λ l. yield t ++ l) on.split ∙ sym (append_assoc (yield t) on.read (yield w ++ rest))) in
              let kept = tries_keeps d lefts w on.read place can.not_empty c.not_empty read in
              let at' : all_kinds (s ++ (t ∷ [])) ++ all_kinds kept.0 ≡ all_kinds below = ap (λ l. l ++ all_kinds kept.0) (kinds-append s (t ∷ []))
              ∙ ap (λ l. (all_kinds s ++ l) ++ all_kinds kept.0) (append-nil (yield t)) ∙ append_assoc (all_kinds s) (yield t) (all_kinds kept.0)
              ∙ ap (λ l. all_kinds s ++ (yield t ++ l)) kept.2 ∙ ap (λ l. all_kinds s ++ l) (sym read) ∙ at in
              later kept.0 kept.1 at' (on.split ∙ ap (λ l. l ++ (yield w ++ rest)) (sym kept.2)) on

      pub kept_taken_over : {s input s' input' : List Tree} (run : Goes_on g s input s' input') → (lefts : List Tree) → StandsIn input lefts w
          → all_kinds s ++ all_kinds lefts ≡ all_kinds below → all_kinds input ≡ all_kinds lefts ++ (yield w ++ rest)
          → Passes g s (all_kinds input) below (yield w ++ rest) → StandsIn s' below w → TakesOver run below w
      kept_taken_over {s} Ends lefts place at kinds pass end =
          absurd (omega (arith, can.not_empty, stands_length end, ap length at, length-append (all_kinds s) (all_kinds lefts)))
      kept_taken_over {s} {input} (Makes s1 f d n r more) lefts place at kinds pass end =
          ⊎_elim
          (λ now. let k = found_now s input f d now.0 lefts place at kinds in absurd (subst IsNoTree k.2 n))
          (λ on. kept_taken_over more lefts place
          (ap (λ l. l ++ all_kinds lefts) (run_kinds g {next = look_at (all_kinds input) None} (Reduced {x = []} r Stay) ∙ append-nil (all_kinds s)) ∙ at) kinds on end)
          (after_reduction pass.run (all_kinds input) (yield w ++ rest) refl pass.split r)
      kept_taken_over {s} {input} (Takes_token k ts d m more) lefts place at kinds pass end =
          ⊎_elim
          (λ now. let f = found_now s input (AtToken k ts) d now.0 lefts place at kinds in absurd (let e : AtToken k ts ≡ Take f.0 f.1 = f.2 in cc e))
          (λ on.
          let read : all_kinds lefts ≡ k ∷ on.read = append_cancel_right (all_kinds lefts) (k ∷ on.read) (yield w ++ rest) (sym kinds ∙ tries_kinds g d ∙ ap (λ l. k ∷ l) on.split) in
          let kept = tries_keeps d lefts w on.read place can.not_empty (omega arith) read in
          let at' : all_kinds (s ++ (Leaf k ∷ [])) ++ all_kinds kept.0 ≡ all_kinds below = ap (λ l. l ++ all_kinds kept.0) (kinds-append s (Leaf k ∷ []))
          ∙ append_assoc (all_kinds s) (k ∷ []) (all_kinds kept.0) ∙ ap (λ l. all_kinds s ++ (k ∷ l)) kept.2 ∙ ap (λ l. all_kinds s ++ l) (sym read) ∙ at in
          kept_taken_over more kept.0 kept.1 at' (on.split ∙ ap (λ l. l ++ (yield w ++ rest)) (sym kept.2)) on end)
          (after_shift pass.run k (all_kinds ts) (yield w ++ rest) refl (sym (tries_kinds g d) ∙ pass.split) m)
      kept_taken_over {s} {input} {s'} (Reuses t ts d c more) lefts place at kinds pass end =
          let stands = stands_later g (goes_on_passes g productive more).run s t (stands_on_top s t) in
          reuse_case (TakesOver more below w) s input s' t ts d c stands lefts place at kinds pass end (λ lefts' place' at' kinds' pass'. kept_taken_over more lefts' place' at' kinds' pass' end)
