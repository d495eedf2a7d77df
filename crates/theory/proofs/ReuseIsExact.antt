-- What the incremental machine takes over is exactly what the edit keeps.
use Rattle.theory.proofs.Std.{◌≡◌, ◌⊎◌, inl, inr, ⊎_elim, ◌+◌, ◌<◌, ℕ, List, [], ◌∷◌, ◌++◌, length, None, refl, sym, ap, ◌∙◌, subst, arith, append_assoc, length-append, append-nil, append_cancel_left}
use Rattle.theory.proofs.Common.{Kind, Nonterminal, Token, Invalid, IsTree, Grammar, Tree, Forest, Leaf, Branch, trees, yield, yields, all_kinds, AllProductive, HasMove, HasNoConflict, Way, WayAmong, At, Down, This, Next, IsSettledIn, StandsIn, Top, Below, Past, place_of, Splice, IsKept}
use Rattle.theory.proofs.Common.{look_at, Run, Stay, Reduced, IsPrepared, CanReuse, NextInput, Take, Tries, Nothing_left, Dropped, Passed, Opened, At_token, Goes_on, Ends, Reuses, Takes_token, Makes}
use Rattle.theory.proofs.StackIsRead.{kinds-append, kinds-trees, run_kinds}
use Rattle.theory.proofs.Lists.{ends_equal}
use Rattle.theory.proofs.Simulation.{look-append}
use Rattle.theory.proofs.Stack.{stands_in_prefix, stands_kinds, stands_later, stands_on_top, nowhere}
use Rattle.theory.proofs.PathToLeaf.{way_kinds}
use Rattle.theory.proofs.ReusableNodes.{Taken, sentence_node}
use Rattle.theory.proofs.Incremental.{goes_on_passes}
use Rattle.theory.proofs.KeptIsReused.{TakesOver, kept_taken_over, taken_of, rest_of}

mutual
  -- the left siblings on a way are nodes of the tree, with all their own nodes
  pub way_stands : {t : Tree} {lefts : List Tree} {k : Kind} {after : List Kind} → Way t lefts k after → {inner : List Tree} {u : Tree} → StandsIn lefts inner u → StandsIn (t ∷ []) inner u
  way_stands At w = absurd (nowhere w refl)
  way_stands (Down v) w = Below (among_stands v w)

  pub among_stands : {ts : Forest} {lefts : List Tree} {k : Kind} {after : List Kind} → WayAmong ts lefts k after
      → {inner : List Tree} {u : Tree} → StandsIn lefts inner u → StandsIn (trees ts) inner u
  among_stands (This {ts = ts} v) w = stands_in_prefix (trees ts) (way_stands v w)
  among_stands (Next v) Top = Top
  among_stands (Next v) (Below w) = Below w
  among_stands (Next v) (Past w) = Past (among_stands v w)

abbrev pub TakenIsKept : Splice → List Tree → List Tree → List Tree → Tree → Type 0
TakenIsKept s old end stack t = (p : ℕ) × (us : Forest) × (t ≡ Branch p us) × IsKept s old (place_of stack) p us × StandsIn end stack t

-- a node of two lists joined
pub stands_split : (one two : List Tree) {lefts : List Tree} {t : Tree} → StandsIn (one ++ two) lefts t → StandsIn one lefts t ⊎ ((more : List Tree) × StandsIn two more t × (lefts ≡ one ++ more))
stands_split [] two {lefts = lefts} w = inr (lefts, w, refl)
stands_split (u ∷ one) two Top = inl Top
stands_split (u ∷ one) two (Below w) = inl (Below w)
stands_split (u ∷ one) two (Past {lefts = lefts} w) = ⊎_elim (λ l. inl (Past l)) (λ r. inr (r.0, r.1, ap (λ l. u ∷ l) r.2)) (stands_split one two w)

-- a node of an opened tree was one before
pub closed : (p : ℕ) (us : Forest) (ts lefts : List Tree) (t : Tree) → StandsIn (trees us ++ ts) lefts t → (before : List Tree)
    × StandsIn (Branch p us ∷ ts) before t × (all_kinds before ≡ all_kinds lefts)
closed p us ts lefts t w =
    ⊎_elim
    (λ l. (lefts, Below l, refl))
    (λ r. (Branch p us ∷ r.0, Past r.1, ap (λ l. l ++ all_kinds r.0) (sym (kinds-trees us)) ∙ sym (kinds-append (trees us) r.0) ∙ ap all_kinds (sym r.2)))
    (stands_split (trees us) ts w)

-- the tree to take over stands at the start
abbrev PrefixStands : List Tree → NextInput → Type 0
PrefixStands input (Take t ts) = (lefts : List Tree) × StandsIn input lefts t × (all_kinds lefts ≡ [])
PrefixStands input d = Unit {0}

prefix_map : (one two : List Tree) (f : NextInput) → ((lefts : List Tree) (t : Tree) → StandsIn one lefts t → (before : List Tree)
    × StandsIn two before t × (all_kinds before ≡ all_kinds lefts)) → PrefixStands one f → PrefixStands two f
prefix_map one two (Take t ts) h w = let r = h w.0 t w.1 in (r.0, r.1, r.2 ∙ w.2)
prefix_map one two d h w = tt

module _ (g : Grammar) where
  tries_at : {stack input : List Tree} {f : NextInput} → Tries g stack input f → PrefixStands input f
  tries_at (Dropped {t = t} {ts = ts} {f = f} e d) = prefix_map ts (t ∷ ts) f (λ lefts u w. (t ∷ lefts, Past w, ap (λ l. l ++ all_kinds lefts) e)) (tries_at d)
  tries_at (Passed c) = ([], Top, refl)
  tries_at (Opened {p = p} {us = us} {ts = ts} {f = f} n d) = prefix_map (trees us ++ ts) (Branch p us ∷ ts) f (closed p us ts) (tries_at d)
  tries_at d = tt

  -- what stands in the rest of the input stood in the input
  tries_from : {stack input : List Tree} {f : NextInput} → Tries g stack input f → (lefts : List Tree) (w : Tree) → StandsIn (rest_of f) lefts w
      → (before : List Tree) × StandsIn input before w × (all_kinds before ≡ taken_of f ++ all_kinds lefts)
  tries_from Nothing_left lefts w h = absurd (nowhere h refl)
  tries_from (Dropped {t = t} e d) lefts w h = let r = tries_from d lefts w h in (t ∷ r.0, Past r.1, ap (λ l. l ++ all_kinds r.0) e ∙ r.2)
  tries_from (Passed {t = t} c) lefts w h = (t ∷ lefts, Past h, refl)
  tries_from (Opened {p = p} {us = us} {ts = ts} n d) lefts w h =
      let r = tries_from d lefts w h in
      let c = closed p us ts r.0 w r.1 in
      (c.0, c.1, c.2 ∙ r.2)
  tries_from (At_token {k = k}) lefts w h = (Leaf k ∷ lefts, Past h, refl)

  -- what holds of each subtree that the run takes over, at its stack
  abbrev pub EachTaken : (List Tree → Tree → Type 0) → {s i s' i' : List Tree} → Goes_on g s i s' i' → Type 0
  EachTaken P Ends = Unit {0}
  EachTaken P (Reuses {stack = s} t ts f c more) = P s t × EachTaken P more
  EachTaken P (Takes_token k ts f m more) = EachTaken P more
  EachTaken P (Makes s1 f t n r more) = EachTaken P more

  -- it stood in the whole input at that place, and stays a node where the run ends
  abbrev pub Stood : List Tree → List Tree → List Tree → Tree → Type 0
  Stood whole end s t = ((lefts : List Tree) × StandsIn whole lefts t × (length (all_kinds lefts) ≡ length (all_kinds s)))
      × StandsIn end s t × (0 < length (yield t)) × ((n : ℕ) × IsTree g t (Nonterminal n))

  abbrev Follows : List Tree → List Tree → List Tree → Type 0
  Follows whole s input = (lefts : List Tree) (w : Tree) → StandsIn input lefts w → (before : List Tree) × StandsIn whole before w
      × (length (all_kinds before) ≡ length (all_kinds s) + length (all_kinds lefts))

  module _ (productive : AllProductive g) where
    pub each_stood : (whole : List Tree) {s input s' input' : List Tree} (run : Goes_on g s input s' input') → Follows whole s input → EachTaken (Stood whole s') run
    each_stood whole Ends h = tt
    each_stood whole {s} {input} (Reuses t ts d c more) h =
        let at = tries_at d in
        let first = h at.0 t at.1 in
        let stands = stands_later g (goes_on_passes g productive more).run s t (stands_on_top s t) in
        let place : length (all_kinds first.0) ≡ length (all_kinds s) = omega (arith, first.2, ap length at.2) in (
          ((first.0, first.1, place), stands, c.not_empty, (c.root, c.is)),
          each_stood whole more (λ lefts w v.
              let b = tries_from d lefts w v in
              let k = h b.0 w b.1 in (
                k.0,
                k.1,
                omega (
                  arith,
                  k.2,
                  ap length b.2,
                  ap length (kinds-append s (t ∷ [])),
                  ap length (append-nil (yield t)),
                  length-append (all_kinds s) (yield t ++ []),
                  length-append (yield t) (all_kinds lefts),
                ),
              )),
        )
    each_stood whole {s} {input} (Takes_token k ts d m more) h =
        each_stood whole more (λ lefts w v.
        let b = tries_from d lefts w v in
        let r = h b.0 w b.1 in
        (r.0, r.1, omega (arith, r.2, ap length b.2, ap length (kinds-append s (Leaf k ∷ [])), length-append (all_kinds s) (k ∷ []))))
    each_stood whole {s} {input} (Makes s1 f d n r more) h =
        let same = run_kinds g {next = look_at (all_kinds input) None} (Reduced {x = []} r Stay) ∙ append-nil (all_kinds s) in
        each_stood whole more (λ lefts w v. let b = h lefts w v in (b.0, b.1, omega (arith, b.2, ap length same)))

  -- a node of the settled trees can be taken over whole, whatever follows the kinds that settle it
  pub settled_node : (x : List Kind) (settled : List Tree) → IsSettledIn g x settled → (tail : List Kind) (below : List Tree) (q : ℕ) (vs : Forest)
      → StandsIn settled below (Branch q vs) → Taken g [] below q vs (x ++ tail)
  settled_node x settled h tail below q vs w =
      let whole = yield h.tree in
      let a = sentence_node g whole h.tree (record { root = h.root; kinds = refl }) below q vs (way_stands h.way w) in
      let c = a.can in
      let r = stands_kinds w in
      let rest = r.0 ++ (h.last ∷ tail) in
      let shape : (v : List Kind) → (all_kinds below ++ (yields vs ++ r.0)) ++ (h.last ∷ v) ≡ all_kinds below ++ (yields vs ++ (r.0 ++ (h.last ∷ v))) = λ v. simp append_assoc in
      let kinds : x ++ tail ≡ all_kinds below ++ (yields vs ++ rest) = ap (λ l. l ++ tail) h.kinds
      ∙ append_assoc (all_kinds settled) (h.last ∷ []) tail ∙ ap (λ l. l ++ (h.last ∷ tail)) r.1 ∙ shape tail in
      let old : a.rest ≡ r.0 ++ (h.last ∷ h.after) = append_cancel_left (yields vs) a.rest (r.0 ++ (h.last ∷ h.after))
      (append_cancel_left (all_kinds below) (yields vs ++ a.rest) (yields vs ++ (r.0 ++ (h.last ∷ h.after)))
      (sym a.kinds ∙ way_kinds h.way ∙ ap (λ l. l ++ (h.last ∷ h.after)) r.1 ∙ shape h.after)) in
      let next : look_at a.rest None ≡ look_at rest None = ap (λ l. look_at l None) old ∙ look-append r.0 (h.last ∷ h.after) None ∙ sym (look-append r.0 (h.last ∷ tail) None) in
      let sees : look_at (yields vs ++ a.rest) None ≡ look_at (yields vs ++ rest) None = look-append (yields vs) a.rest None
      ∙ ap (λ l. look_at (yields vs) l) next ∙ sym (look-append (yields vs) rest None) in
      record {
        rest = rest;
        kinds = kinds;
        can = record {
          root = c.root;
          is = c.is;
          symbols = c.symbols;
          roots = c.roots;
          run = subst (λ l. Run g l [] (all_kinds below) below) sees c.run;
          goes_on = (c.goes_on.0, subst (λ l. HasMove g (c.symbols ++ (Nonterminal c.root ∷ [])) l c.goes_on.0) next c.goes_on.1);
        };
      }

  module _ (free : HasNoConflict g) (productive : AllProductive g) where
    -- a node of the new trees that is in the input at its place is taken over, alone or in a larger one
    pub kept_is_reused : (input : List Tree) (below : List Tree) (q : ℕ) (vs : Forest) → Taken g [] below q vs (all_kinds input) → 0 < length (yields vs)
        → {stack' input' : List Tree} (run : Goes_on g [] input stack' input') → StandsIn stack' below (Branch q vs) → (lefts : List Tree) → StandsIn input lefts (Branch q vs)
        → length (all_kinds lefts) ≡ length (all_kinds below) → TakesOver g run below (Branch q vs)
    kept_is_reused input below q vs a nonempty run end lefts place same =
        let c = a.can in
        let r = stands_kinds place in
        let parts = ends_equal (all_kinds lefts) (all_kinds below) (yields vs ++ r.0) (yields vs ++ a.rest)
        (omega (arith, same, ap length r.1, ap length a.kinds, length-append (all_kinds lefts) (yields vs ++ r.0), length-append (all_kinds below) (yields vs ++ a.rest))) (sym r.1 ∙ a.kinds) in
        let can : CanReuse g below (Branch q vs) a.rest = record { root = c.root; is = c.is; not_empty = nonempty; symbols = c.symbols; roots = c.roots; move = c.goes_on.0; called = c.goes_on.1 } in
        kept_taken_over g free productive below (Branch q vs) a.rest can run lefts place parts.0 (a.kinds ∙ ap (λ l. l ++ (yields vs ++ a.rest)) (sym parts.0))
        (record { read = all_kinds below; split = a.kinds; run = c.run }) end

    as_branch : (t : Tree) (n : ℕ) → IsTree g t (Nonterminal n) → (p : ℕ) × (us : Forest) × (t ≡ Branch p us)
    as_branch (Leaf (Token a)) n h = absurd h
    as_branch (Leaf Invalid) n h = absurd h
    as_branch (Branch p us) n h = (p, us, refl)

    each_kept : (s : Splice) (old whole end : List Tree) → IsPrepared s old whole → {stack input stack' input' : List Tree} (run : Goes_on g stack input stack' input')
        → EachTaken (Stood whole end) run → EachTaken (TakenIsKept s old end) run
    each_kept s old whole end prep Ends h = tt
    each_kept s old whole end prep (Reuses {stack = stack} t ts d c more) h =
        let b = as_branch t h.0.3.0 h.0.3.1 in
        let lefts = h.0.0.0 in
        let kept = prep.from_old lefts b.0 b.1 (subst (StandsIn whole lefts) b.2 h.0.0.1) (subst (λ u. 0 < length (yield u)) b.2 h.0.2) in
        ((b.0, b.1, b.2, subst (λ n. IsKept s old n b.0 b.1) h.0.0.2 kept, h.0.1), each_kept s old whole end prep more h.1)
    each_kept s old whole end prep (Takes_token k ts d m more) h = each_kept s old whole end prep more h
    each_kept s old whole end prep (Makes s1 f d n r more) h = each_kept s old whole end prep more h

    -- each subtree that is taken over is a kept node of the new trees
    pub taken_is_kept : (s : Splice) (old input : List Tree) → IsPrepared s old input → {stack' input' : List Tree} (run : Goes_on g [] input stack' input') → EachTaken (TakenIsKept s old stack') run
    taken_is_kept s old input prep {stack'} run = each_kept s old input stack' prep run (each_stood productive input run (λ lefts w v. (lefts, v, omega arith)))

    -- and each kept node of the new trees is taken over, alone or in a larger one
    pub kept_is_taken : (s : Splice) (old input : List Tree) → IsPrepared s old input → {stack' input' : List Tree} (run : Goes_on g [] input stack' input')
        → (below : List Tree) (q : ℕ) (vs : Forest) → Taken g [] below q vs (all_kinds input) → StandsIn stack' below (Branch q vs)
        → IsKept s old (place_of below) q vs → TakesOver g run below (Branch q vs)
    kept_is_taken s old input prep run below q vs can end kept =
        let there = prep.all_old (place_of below) q vs kept in
        kept_is_reused input below q vs can kept.not_empty run end there.0 there.1 there.2
