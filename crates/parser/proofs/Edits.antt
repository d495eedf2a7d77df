-- An edit of the kinds: the old trees as an input, and what the stamps on the new ones show.
use Rattle.parser.proofs.Std.{◌≡◌, ◌≢◌, ◌⊎◌, ◌+◌, ◌≤◌, length-append, ℕ, List, [], ◌∷◌, ◌++◌, length, take, drop, refl, sym, ap, ◌∙◌, subst, inl, inr, ⊎_elim, take-append-drop, arith, append-nil, drop-append_seam}
use Rattle.parser.proofs.Common.{Kind, Grammar, Tree, Branch, all_kinds, StandsIn, place_of, Verdict, HasTree, FaultAt, FaultAtEnd, IsVerdict, IsSettled, Splice, AreStampedExactly, Built, LiesInKept, Stamped, StampedForest, StampedIn, plain_all, plain_trees}
use Rattle.parser.proofs.Common.{AreAnswer, Goes_on, Ends, Reuses, Takes_token, Makes, IsPrepared, EachTaken, TakenIsKept, taken_is_kept, exact, made_or_taken, stamped_stands, TakesOver, kinds-append, nowhere, Child, Cell, most, all_trees, Sets, IsAccepted}
use Rattle.parser.proofs.Common.{leaves, IsInput, plain_of, AreStacked, IsParseOf, Stop, all_branches_by, last_leaf, verdict_in, AreStampedBy, IsMadeByRun, SoFar}
use Rattle.parser.proofs.Built.{built_counts}
use Rattle.parser.proofs.LeftEdge.{roots_parts}
use Rattle.parser.proofs.Running.{kinds_leaves}
use Rattle.parser.proofs.StackNodes.{stacked_prefix}
use Rattle.parser.proofs.StopDecides.{last-append}

-- the old trees begin at the first of their kinds
pub old_input : (t : Sets) (kinds : List Kind) (cells : List Cell) (parse : Stop) → IsParseOf t kinds cells parse → IsInput t.grammar cells parse.stack kinds 0
old_input t kinds cells parse h =
    let ts = plain_of cells parse.stack in
    let all = all_kinds ts in
    let n : 0 + length all ≡ length all = omega arith in
    let prefix = stacked_prefix t.grammar kinds (verdict_in cells parse.verdict) ts h.stop.verdict h.stop.stack in
    record {
      below = h.stop.below;
      parts = roots_parts t.grammar ts h.stop.roots h.stop.are_roots;
      covers = kinds-append ts (leaves (drop (0 + length all) kinds)) ∙ ap (λ l. all ++ l) (kinds_leaves (drop (0 + length all) kinds)) ∙ ap (λ m. all ++ drop m kinds) n
          ∙ ap (λ l. all ++ drop (length all) l) prefix.1 ∙ ap (λ l. all ++ l) (drop-append_seam all prefix.0) ∙ sym prefix.1;
    }

-- and no more kinds than can be counted
pub stack_countable : (t : Sets) (kinds : List Kind) (cells : List Cell) (parse : Stop) → IsParseOf t kinds cells parse → place_of (plain_of cells parse.stack) ≤ most
stack_countable t kinds cells parse h =
    let ts = plain_of cells parse.stack in
    let prefix = stacked_prefix t.grammar kinds (verdict_in cells parse.verdict) ts h.stop.verdict h.stop.stack in
    omega (arith, h.countable, ap length prefix.1, length-append (all_kinds ts) prefix.0)

module _ (g : Grammar) where
  settled_answer : (x tail : List Kind) (settled stack : List Tree) → IsSettled g x settled → stack ≡ settled ++ last_leaf x → AreAnswer g (x ++ tail) stack ⊎ (stack ≡ [])
  settled_answer [] tail settled stack h e = inr (e ∙ ap (λ l. l ++ []) h)
  settled_answer (k ∷ x) tail settled stack h e =
      inl (inr (k ∷ x, tail, settled, h, refl, e ∙ ap (λ l. settled ++ l) (ap last_leaf h.kinds ∙ last-append (all_kinds settled) h.last)))

  -- what stands on the stack is an answer, where anything does
  answered : (kinds : List Kind) (v : Verdict) (stack : List Tree) → IsVerdict g kinds v → AreStacked g kinds v stack → AreAnswer g kinds stack ⊎ (stack ≡ [])
  answered kinds (HasTree t) stack h s = inl (inl (t, h, s.stack_is ∙ ap (λ l. l ++ []) s.are))
  answered kinds (FaultAt k) stack h s =
      subst (λ l. AreAnswer g l stack ⊎ (stack ≡ [])) (take-append-drop k kinds) (settled_answer (take k kinds) (drop k kinds) s.trees stack s.are s.stack_is)
  answered kinds FaultAtEnd stack h s =
      subst (λ l. AreAnswer g l stack ⊎ (stack ≡ [])) (append-nil kinds) (settled_answer kinds [] s.trees stack s.are s.stack_is)

  -- what holds of each tree that is taken over holds of the one in which a node is
  taken_in : (P : List Tree → Tree → Type 0) {s i s' i' : List Tree} (run : Goes_on g s i s' i') → EachTaken g P run → (below : List Tree) (w : Tree)
      → TakesOver g run below w → (at : List Tree) × (t : Tree) × (inner : List Tree) × P at t × StandsIn (t ∷ []) inner w × (at ++ inner ≡ below)
  taken_in P Ends each below w h = absurd h
  taken_in P (Reuses {stack = stack} t ts f c more) each below w h = ⊎_elim (λ a. (stack, t, a.0, each.0, a.1, a.2)) (λ b. taken_in P more each.1 below w b) h
  taken_in P (Takes_token k ts f m more) each below w h = taken_in P more each below w h
  taken_in P (Makes s1 f t n r more) each below w h = taken_in P more each below w h

module _ (t : Sets) (accepted : IsAccepted t.grammar) (kinds : List Kind) (whole : List Tree) (before number : ℕ) (cells : List Cell) (stack : List Child)
    (r : IsMadeByRun t whole kinds before number cells stack) (s : Splice) (old : List Tree) (prepared : IsPrepared s old whole) where
  abbrev h : SoFar t whole kinds before number cells stack r.states r.read r.rest
  h = r.so_far

  abbrev new : List Stamped
  new = all_trees cells stack

  abbrev Stamping : Type 0
  Stamping = (run : Goes_on t.grammar [] whole (plain_trees new) h.now) × AreStampedBy t.grammar run number new

  run_here : Stamping
  run_here = subst (λ top. (run : Goes_on t.grammar [] whole top h.now) × AreStampedBy t.grammar run number new) (sym h.top_is) (h.run, h.stamps)

  -- the stamps are those that the edit calls for
  pub stamped_exactly : (v : Verdict) → IsVerdict t.grammar kinds v → AreStacked t.grammar kinds v (plain_of cells stack) → AreStampedExactly number s old new
  stamped_exactly v is stacked =
      ⊎_elim
      (λ answer. exact t.grammar accepted.free accepted.productive number s old whole h.now new run_here.0 prepared
      (subst (λ l. AreAnswer t.grammar l (plain_trees new)) (sym h.whole_is) answer) run_here.1)
      (λ none below p born us w. absurd (nowhere (stamped_stands w) none))
      (answered t.grammar kinds v (plain_of cells stack) is stacked)

  -- a branch with another stamp lies in a kept one
  taken_within : (below : List Tree) (p born : ℕ) (us : StampedForest) → StampedIn new below p born us → born ≢ number → LiesInKept s old (plain_trees new) below (Branch p (plain_all us))
  taken_within below p born us w differ =
      ⊎_elim
      (λ a. absurd (nowhere a refl))
      (λ b. ⊎_elim lies (λ m. absurd (differ ((run_here.1 below p born us w).1 m))) b)
      (made_or_taken t.grammar run_here.0 below p (plain_all us) (stamped_stands w))
    where
      lies : TakesOver t.grammar run_here.0 below (Branch p (plain_all us)) → LiesInKept s old (plain_trees new) below (Branch p (plain_all us))
      lies over =
          let each = taken_is_kept t.grammar accepted.free accepted.productive s old whole prepared run_here.0 in
          let in' = taken_in t.grammar (TakenIsKept s old (plain_trees new)) run_here.0 each below (Branch p (plain_all us)) over in
          let k = in'.3 in
          record {
            at = in'.0;
            p = k.0;
            us = k.1;
            kept = k.3;
            stands = subst (λ u. StandsIn (plain_trees new) in'.0 u) k.2 k.4;
            inner = in'.2;
            way = subst (λ u. StandsIn (u ∷ []) in'.2 (Branch p (plain_all us))) k.2 in'.4;
            is = in'.5;
          }

  -- and their count is what the edit has built
  pub built_exactly : AreStampedExactly number s old new → Built s old 0 (plain_of cells stack) (all_branches_by number new)
  built_exactly stamps = built_counts s old number new (λ below p born us w. ((stamps below p born us w).0, taken_within below p born us w))
