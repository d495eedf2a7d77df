-- What a move of the machine makes of how far the run has come.
use Rattle.parser.proofs.Std.{◌≡◌, ◌↔◌, inl, ⊎_elim, ℕ, ◌+◌, ◌<◌, zero, suc, List, [], ◌∷◌, ◌++◌, length, take, drop, slice_get, Option, Some, None, MatchOption, refl, sym, ap, ◌∙◌, subst, arith, length-append, take-append-drop, get_or, append_cancel_right, head-eq_of_cons-eq}
use Rattle.parser.proofs.Common.{Kind, Terminal, Nonterminal, Grammar, Tree, Leaf, Branch, HaveRoots, yield, all_kinds, StampedBranch, StampedLeaf, plain, plain_all, AllProductive, HasMove, Shift, Reduce, Rule as Token}
use Rattle.parser.proofs.Common.{look_at, Reduces, Shifts, Run, IsStackAfter, NextInput, Take, AtToken, AtEnd, IsNoTree, CanReuse, Tries, Nothing_left, Passed, At_token, Goes_on, Ends, Reuses, Takes_token, Makes, MakesAt, goes_on_passes, ends_equal, goes_on_join, roots-append, last_of, run_split}
use Rattle.parser.proofs.Common.{NodeId, Child, TokenChild, Node, Cell, AreBelow, all_trees, forest_in, tree, trees_from, all_below-more}
use Rattle.parser.proofs.Common.{Sets, IsStateOf}
use Rattle.parser.proofs.Common.{plain_of, HasStates, HasMade, leaves, input_of, AreParts, IsInput, Skips, Offers, IsReusable, BeginsWithNoNode, AreUpTo, all_branches_by, makes, AreStampedBy, ComeFrom, SoFar, AreOlder}
use Rattle.parser.proofs.WhereBranchesComeFrom.{come_after, come_older}
use Rattle.parser.proofs.Counts.{by-append, by-branch, by-none}
use Rattle.parser.proofs.LeftEdge.{after_drop, dropped, first_fits}
use Rattle.parser.proofs.Moves.{Reached, states_push}
use Rattle.parser.proofs.Reductions.{plain-append, plain-stay, below-append, below-prefix, made_trees}
use Rattle.parser.proofs.Reusing.{look_drop}
use Rattle.parser.proofs.Stamping.{none_after, none_first, nowhere_stamped, older_up_to, stamped-children, stamps_made, stamps_taken, stamps_token, trees_of-append, up_to-append, up_to-leaf, up_to-made}
use Rattle.parser.proofs.Stamps.{below_on, grown_by_one, made_stamped, trees-stay}

pub kinds_leaves : (ks : List Kind) → all_kinds (leaves ks) ≡ ks
kinds_leaves [] = refl
kinds_leaves (k ∷ ks) = ap (λ l. k ∷ l) (kinds_leaves ks)

drop_at : (kinds : List Kind) (read : ℕ) (k : Kind) → slice_get kinds read ≡ Some k → drop read kinds ≡ k ∷ drop (read + 1) kinds
drop_at kinds read k e = subst (λ n. drop read kinds ≡ k ∷ drop n kinds) (let s : suc read ≡ read + 1 = omega arith in s) (go kinds read e)
  where
    go : (l : List Kind) (i : ℕ) → slice_get l i ≡ Some k → drop i l ≡ k ∷ drop (suc i) l
    go [] i e = absurd (cc e)
    go (j ∷ l) zero e = let same : j ≡ k = cc e in ap (λ m. m ∷ l) same
    go (j ∷ l) (suc i) e = go l i e

-- the first tree, and the input after it
pub tail_shape : (cells : List Cell) (c : Child) (rest : List Child) (kinds : List Kind) (read : ℕ) → input_of cells (c ∷ rest) kinds read
    ≡ plain (tree cells c) ∷ input_of cells rest kinds (read + length (yield (plain (tree cells c))))
tail_shape cells c rest kinds read =
    let y = yield (plain (tree cells c)) in
    let n : read + length (y ++ all_kinds (plain_of cells rest)) ≡ (read + length y) + length (all_kinds (plain_of cells rest)) = omega (arith, length-append y (all_kinds (plain_of cells rest))) in
    ap (λ m. plain (tree cells c) ∷ (plain_of cells rest ++ leaves (drop m kinds))) n

module _ (g : Grammar) where
  -- runs one after the other make what both make
  pub makes_join : {s1 i1 s2 i2 s3 i3 : List Tree} (p : Goes_on g s1 i1 s2 i2) (q : Goes_on g s2 i2 s3 i3) → makes g (goes_on_join g p q) ≡ makes g p + makes g q
  makes_join Ends q = omega arith
  makes_join (Reuses t ts f c more) q = makes_join more q
  makes_join (Takes_token k ts f m more) q = makes_join more q
  makes_join (Makes s1 f t n r more) q = omega (arith, makes_join more q)

  -- without trees of no kinds at the start, the input offers what it did
  skipped : (cells : List Cell) (kinds : List Kind) (read : ℕ) (gone rest : List Child) → all_kinds (plain_of cells gone) ≡ [] → IsInput g cells (gone ++ rest) kinds read
      → IsInput g cells rest kinds read × ((s : List Tree) → Offers g s (input_of cells rest kinds read) (input_of cells (gone ++ rest) kinds read))
  skipped cells kinds read [] rest e h = (h, λ s f d. d)
  skipped cells kinds read (c ∷ gone) rest e h =
      let y = yield (plain (tree cells c)) in
      let empty : length y ≡ 0 = omega (arith, ap length e, length-append y (all_kinds (plain_of cells gone))) in
      let none = nothing_after y (all_kinds (plain_of cells gone)) e in
      let step = dropped g cells [] kinds read c (gone ++ rest) h.parts h.covers empty in
      let more = skipped cells kinds read gone rest none (record { below = h.below.1; parts = step.0; covers = step.1 }) in
      (more.0, λ s f d. (dropped g cells s kinds read c (gone ++ rest) h.parts h.covers empty).2 f (more.1 s f d))
    where
      nothing_after : (x y : List Kind) → x ++ y ≡ [] → y ≡ []
      nothing_after [] y e = e
      nothing_after (k ∷ x) y e = absurd (cc e)

  pub skipped_on : (cells : List Cell) (kinds : List Kind) (read : ℕ) (rest rest' : List Child) → Skips cells rest rest' → IsInput g cells rest kinds read
      → IsInput g cells rest' kinds read × ((s : List Tree) → Offers g s (input_of cells rest' kinds read) (input_of cells rest kinds read))
  skipped_on cells kinds read rest rest' k h =
      let both = skipped cells kinds read k.0 rest' k.2 (subst (λ l. IsInput g cells l kinds read) k.1 h) in
      (both.0, λ s f d. subst (λ l. Tries g s (input_of cells l kinds read) f) (sym k.1) (both.1 s f d))

  leaves_prefix : (s : List Tree) (ks : List Kind) → (f : NextInput) × Tries g s (leaves ks) f × IsNoTree f
  leaves_prefix s [] = (AtEnd, Nothing_left, tt)
  leaves_prefix s (k ∷ ks) = (AtToken k (leaves ks), At_token, tt)

  -- where no node stands at the start, the input offers no tree
  pub no_tree_prefix : (s : List Tree) (cells : List Cell) (kinds : List Kind) (read : ℕ) (now : List Child) → BeginsWithNoNode now
      → (f : NextInput) × Tries g s (input_of cells now kinds read) f × IsNoTree f
  no_tree_prefix s cells kinds read [] h = leaves_prefix s (drop (read + 0) kinds)
  no_tree_prefix s cells kinds read (TokenChild k ∷ rest) h = (AtToken k _, At_token, tt)
  no_tree_prefix s cells kinds read (Node id ∷ rest) h = absurd h

  -- the input after its first kind
  pub record After (cells : List Cell) (kinds : List Kind) (read : ℕ) (now rest : List Child) (k : Kind) : Type 0 where
    pub shape : input_of cells now kinds read ≡ Leaf k ∷ input_of cells rest kinds (read + 1)
    pub below : AreBelow (length cells) rest
    pub parts : AreParts g (plain_of cells rest)
    pub came : ComeFrom (all_trees cells now) 1 (all_trees cells rest)

  after_leaves : (cells : List Cell) (kinds : List Kind) (read : ℕ) (k : Kind) → slice_get kinds read ≡ Some k → After cells kinds read [] [] k
  after_leaves cells kinds read k is =
      let here : read + 0 ≡ read = omega arith in
      let there : read + 1 ≡ read + 1 + 0 = omega arith in
      record {
        shape = ap (λ n. leaves (drop n kinds)) here ∙ ap leaves (drop_at kinds read k is) ∙ ap (λ n. Leaf k ∷ leaves (drop n kinds)) there;
        below = tt;
        parts = tt;
        came = λ lefts p born us w. absurd (nowhere_stamped w refl);
      }

  after_child : (cells : List Cell) (kinds : List Kind) (read : ℕ) (c : Child) (rest : List Child) (k : Kind) → BeginsWithNoNode (c ∷ rest)
      → IsInput g cells (c ∷ rest) kinds read → slice_get kinds read ≡ Some k → After cells kinds read (c ∷ rest) rest k
  after_child cells kinds read (Node id) rest k begins h is = absurd begins
  after_child cells kinds read (TokenChild j) rest k begins h is =
      let shape = tail_shape cells (TokenChild j) rest kinds read in
      let kinds_are : j ∷ all_kinds (input_of cells rest kinds (read + 1)) ≡ k ∷ drop (read + 1) kinds = sym (ap all_kinds shape) ∙ h.covers ∙ drop_at kinds read k is in
      let same : j ≡ k = head-eq_of_cons-eq kinds_are in
      record {
        shape = shape ∙ ap (λ l. Leaf l ∷ input_of cells rest kinds (read + 1)) same;
        below = h.below.1;
        parts = h.parts.1;
        came = come_after (tree cells (TokenChild j)) (all_trees cells rest);
      }

  pub after_first : (cells : List Cell) (kinds : List Kind) (read : ℕ) (now rest : List Child) (r : Option Child) (k : Kind) → BeginsWithNoNode now
      → IsInput g cells now kinds read → slice_get kinds read ≡ Some k → MatchOption r ((now ≡ []) × (rest ≡ [])) (λ c. now ≡ c ∷ rest) → After cells kinds read now rest k
  after_first cells kinds read now rest None k begins h is taken =
      subst (λ l. After cells kinds read l rest k) (sym taken.0) (subst (λ l. After cells kinds read [] l k) (sym taken.1) (after_leaves cells kinds read k is))
  after_first cells kinds read now rest (Some c) k begins h is taken =
      subst (λ l. After cells kinds read l rest k) (sym taken) (after_child cells kinds read c rest k (subst BeginsWithNoNode taken begins) (subst (λ l. IsInput g cells l kinds read) taken h) is)

  -- the kinds of the input after what was taken from it
  pub covers_on : (cells : List Cell) (kinds : List Kind) (read : ℕ) (now rest : List Child) (u : Tree) (following : List Tree) → input_of cells now kinds read ≡ u ∷ following
      → all_kinds (input_of cells now kinds read) ≡ drop read kinds → all_kinds following ≡ drop (read + length (yield u)) kinds
  covers_on cells kinds read now rest u following shape covers = after_drop (yield u) (all_kinds following) kinds read (sym (ap all_kinds shape) ∙ covers)

module _ (t : Sets) (whole : List Tree) (kinds : List Kind) (before number : ℕ) (cells : List Cell) (stack : List Child) (states : List ℕ) (read : ℕ)
    (rest : List Child) (h : SoFar t whole kinds before number cells stack states read rest) where
  -- what the input offers above the stack, the run's input does
  offered : (now : List Child) → Offers t.grammar (plain_of cells stack) (input_of cells now kinds read) (input_of cells rest kinds read) → (f : NextInput)
      → Tries t.grammar (plain_of cells stack) (input_of cells now kinds read) f → Tries t.grammar h.top h.now f
  offered now offers f d = subst (λ s. Tries t.grammar s h.now f) h.top_is (h.offers (plain_of cells stack) f (offers f d))

  -- a tree is taken over
  pub taken_on : (now' rest' : List Child) (id : NodeId) (next : ℕ) → now' ≡ Node id ∷ rest' → IsInput t.grammar cells now' kinds read
      → Offers t.grammar (plain_of cells stack) (input_of cells now' kinds read) (input_of cells rest kinds read) → AreOlder number (all_trees cells now')
      → IsReusable t cells (plain_of cells stack) kinds read id next → SoFar t whole kinds before number cells (stack ++ (Node id ∷ []))
      (states ++ (next ∷ [])) (read + length (yield (plain (tree cells (Node id))))) rest'
  taken_on now' rest' id next now_is input' offers older' r =
      let g = t.grammar in
      let u = plain (tree cells (Node id)) in
      let on = Node id ∷ rest' in
      let input : IsInput g cells on kinds read = subst (λ l. IsInput g cells l kinds read) now_is input' in
      let trees = plain_of cells stack in
      let trees' : plain_of cells (stack ++ (Node id ∷ [])) ≡ trees ++ (u ∷ []) = plain-append cells stack (Node id ∷ []) in
      let symbols = h.has_states.symbols in
      let roots : HaveRoots g (trees ++ (u ∷ [])) (symbols ++ (Nonterminal r.left ∷ [])) = roots-append g trees (u ∷ []) symbols (Nonterminal r.left ∷ []) h.has_states.roots (r.is, tt) in
      let ts = input_of cells rest' kinds (read + length (yield u)) in
      let shape = tail_shape cells (Node id) rest' kinds read in
      let covers : all_kinds ts ≡ drop (read + length (yield u)) kinds = covers_on g cells kinds read on rest' u ts shape input.covers in
      let can : CanReuse g trees u (all_kinds ts) = subst (CanReuse g trees u) (sym covers) r.can in
      let tries : Tries g trees (input_of cells now' kinds read) (Take u ts) = subst (λ l. Tries g trees (input_of cells l kinds read) (Take u ts))
      (sym now_is) (subst (λ l. Tries g trees l (Take u ts)) (sym shape) (Passed can)) in
      let tries' = offered now' offers (Take u ts) tries in
      let can' = subst (λ s. CanReuse g s u (all_kinds ts)) h.top_is can in
      let step : Goes_on g h.top h.now (h.top ++ (u ∷ [])) ts = Reuses u ts tries' can' Ends in
      let older : AreOlder number (all_trees cells on) = subst (λ l. AreOlder number (all_trees cells l)) now_is older' in
      let first = none_first number (tree cells (Node id)) (all_trees cells rest') older in
      let stamps = stamps_taken g h.run u ts tries' can' number (all_trees cells stack) (tree cells (Node id)) h.top_is refl first h.stamps in
      record {
        has_states = states_push t trees (plain_of cells (stack ++ (Node id ∷ []))) states h.has_states (Nonterminal r.left) next
            (subst (λ l. HaveRoots g l (symbols ++ (Nonterminal r.left ∷ []))) (sym trees') roots) (r.goes symbols h.has_states.roots);
        below = below-append (length cells) stack (Node id ∷ []) h.below (input.below.0, tt);
        within = first_fits g [] kinds read u (plain_of cells rest') input.covers r.can.not_empty;
        whole_is = h.whole_is;
        input = record { below = input.below.1; parts = input.parts.1; covers = covers };
        now = ts;
        left = covers;
        offers = λ s f d. d;
        top = h.top ++ (u ∷ []);
        top_is = trees' ∙ ap (λ l. l ++ (u ∷ [])) h.top_is;
        run = goes_on_join g h.run step;
        count = omega (arith, h.count, makes_join g h.run step);
        stamps = subst (AreStampedBy g (goes_on_join g h.run step) number) (sym (trees_of-append (trees_from [] cells) stack (Node id ∷ []))) stamps;
        made = omega (
          arith,
          ap (all_branches_by number) (trees_of-append (trees_from [] cells) stack (Node id ∷ [])),
          by-append number (all_trees cells stack) (tree cells (Node id) ∷ []),
          by-none number (tree cells (Node id)) first,
          h.made,
          makes_join g h.run step,
        );
        up_to = subst (AreUpTo number) (sym (trees_of-append (trees_from [] cells) stack (Node id ∷ [])))
            (up_to-append number (all_trees cells stack) (tree cells (Node id) ∷ []) h.up_to (older_up_to number (tree cells (Node id) ∷ []) first));
        older = none_after number (tree cells (Node id)) (all_trees cells rest') older;
      }

  -- a token comes onto the stack
  pub shifted_on : (now' rest' : List Child) (k : Kind) (a next : ℕ) → After t.grammar cells kinds read now' rest' k → IsInput t.grammar cells now' kinds read
      → Offers t.grammar (plain_of cells stack) (input_of cells now' kinds read) (input_of cells rest kinds read) → AreOlder number (all_trees cells now')
      → k ≡ Token a → read < length kinds → HasMove t.grammar h.has_states.symbols (Some k) Shift → IsStateOf t (h.has_states.symbols ++ (Terminal a ∷ [])) next
      → SoFar t whole kinds before number cells (stack ++ (TokenChild k ∷ [])) (states ++ (next ∷ [])) (read + 1) rest'
  shifted_on now' rest' k a next following input offers older' rule within called there =
      let g = t.grammar in
      let trees = plain_of cells stack in
      let trees' : plain_of cells (stack ++ (TokenChild k ∷ [])) ≡ trees ++ (Leaf k ∷ []) = plain-append cells stack (TokenChild k ∷ []) in
      let symbols = h.has_states.symbols in
      let leaf : HaveRoots g (Leaf k ∷ []) (Terminal a ∷ []) = subst (λ l. HaveRoots g (Leaf l ∷ []) (Terminal a ∷ [])) (sym rule) (refl, tt) in
      let roots : HaveRoots g (trees ++ (Leaf k ∷ [])) (symbols ++ (Terminal a ∷ [])) = roots-append g trees (Leaf k ∷ []) symbols (Terminal a ∷ []) h.has_states.roots leaf in
      let ts = input_of cells rest' kinds (read + 1) in
      let covers : all_kinds ts ≡ drop (read + 1) kinds = covers_on g cells kinds read now' rest' (Leaf k) ts following.shape input.covers in
      let tries : Tries g trees (input_of cells now' kinds read) (AtToken k ts) = subst (λ l. Tries g trees l (AtToken k ts)) (sym following.shape) At_token in
      let shift : Shifts g h.top k = record { symbols = symbols; roots = subst (λ l. HaveRoots g l symbols) h.top_is h.has_states.roots; called = called } in
      let step : Goes_on g h.top h.now (h.top ++ (Leaf k ∷ [])) ts = Takes_token k ts (offered now' offers (AtToken k ts) tries) shift Ends in
      record {
        has_states = states_push t trees (plain_of cells (stack ++ (TokenChild k ∷ []))) states h.has_states (Terminal a) next
            (subst (λ l. HaveRoots g l (symbols ++ (Terminal a ∷ []))) (sym trees') roots) there;
        below = below-append (length cells) stack (TokenChild k ∷ []) h.below (tt, tt);
        within = omega (arith, within);
        whole_is = h.whole_is;
        input = record { below = following.below; parts = following.parts; covers = covers };
        now = ts;
        left = covers;
        offers = λ s f d. d;
        top = h.top ++ (Leaf k ∷ []);
        top_is = trees' ∙ ap (λ l. l ++ (Leaf k ∷ [])) h.top_is;
        run = goes_on_join g h.run step;
        count = omega (arith, h.count, makes_join g h.run step);
        stamps = subst (AreStampedBy g (goes_on_join g h.run step) number) (sym (trees_of-append (trees_from [] cells) stack (TokenChild k ∷ [])))
            (stamps_token g h.run step (λ below x m. m) number (all_trees cells stack) k h.stamps);
        made = omega (
          arith,
          ap (all_branches_by number) (trees_of-append (trees_from [] cells) stack (TokenChild k ∷ [])),
          by-append number (all_trees cells stack) (StampedLeaf k ∷ []),
          h.made,
          makes_join g h.run step,
        );
        up_to = subst (AreUpTo number) (sym (trees_of-append (trees_from [] cells) stack (TokenChild k ∷ [])))
            (up_to-append number (all_trees cells stack) (StampedLeaf k ∷ []) h.up_to (up_to-leaf number k));
        older = come_older number 1 (all_trees cells now') (all_trees cells rest') following.came older';
      }

  -- a branch is made
  pub reduced_on : (now' : List Child) → BeginsWithNoNode now' → Offers t.grammar (plain_of cells stack) (input_of cells now' kinds read) (input_of cells rest kinds read)
      → (p : ℕ) (new : List Cell) (stack' : List Child) (states' : List ℕ) → HasMade cells stack p number new stack' → Reduces t.grammar (plain_of cells stack)
      (slice_get kinds read) (plain_of new stack') → HasStates t (plain_of new stack') states' → (rest' : List Child) → IsInput t.grammar cells rest' kinds read
      → ((s : List Tree) → Offers t.grammar s (input_of cells rest' kinds read) (input_of cells rest kinds read))
      → AreOlder number (all_trees cells rest') → SoFar t whole kinds before number new stack' states' read rest'
  reduced_on now' begins offers p new stack' states' made r has_states' rest' input' offers' older' =
      let g = t.grammar in
      let trees = plain_of cells stack in
      let top' = plain_of new stack' in
      let prefix = no_tree_prefix g trees cells kinds read now' begins in
      let look : slice_get kinds read ≡ look_at (all_kinds h.now) None = look_drop kinds read ∙ ap (λ l. look_at l None) (sym h.left) in
      let r' : Reduces g h.top (look_at (all_kinds h.now) None) top' =
      record {
        symbols = r.symbols;
        roots = subst (λ l. HaveRoots g l r.symbols) h.top_is r.roots;
        number = r.number;
        called = subst (λ l. HasMove g r.symbols l (Reduce r.number)) look r.called;
        below = r.below;
        ts = r.ts;
        left = r.left;
        right = r.right;
        production = r.production;
        size = r.size;
        from_is = sym h.top_is ∙ r.from_is;
        to_is = r.to_is;
      } in
      let step : Goes_on g h.top h.now top' h.now = Makes top' prefix.0 (offered now' offers prefix.0 prefix.1) prefix.2 r' Ends in
      let under = made.under in
      let f = forest_in cells made.kids in
      let under_below : AreBelow (length cells) under = below-prefix (length cells) under made.kids (subst (AreBelow (length cells)) made.stack_is h.below) in
      let same_end = ends_equal r.below (plain_of cells under) (Branch r.number r.ts ∷ []) (Branch p (plain_all f) ∷ []) refl
      (sym r.to_is ∙ ap (plain_of new) made.stack_is' ∙ made_trees cells new p number under made.kids made.id made.grown under_below) in
      let node : Branch r.number r.ts ≡ Branch p (plain_all f) = head-eq_of_cons-eq same_end.1 in
      let makes_it : (below : List Tree) (w : Tree) → MakesAt g step below w ↔ ((plain_of cells under ≡ below) × (Branch p (plain_all f) ≡ w)) = λ below w. (
        (λ m. ⊎_elim (λ a. (sym same_end.0 ∙ a.0, sym node ∙ a.1)) (λ b. absurd b) m),
        (λ a. inl (same_end.0 ∙ a.0, node ∙ a.1)),
      ) in
      let parts : all_trees cells stack ≡ all_trees cells under ++ all_trees cells made.kids = ap (all_trees cells) made.stack_is ∙ trees_of-append (trees_from [] cells) under made.kids in
      let stamps = stamps_made g h.run step number p (all_trees cells under) (all_trees cells made.kids) f
      (stamped-children (trees_from [] cells) made.kids) makes_it (subst (AreStampedBy g h.run number) parts h.stamps) in
      let now_stamped : all_trees new stack' ≡ all_trees cells under ++ (StampedBranch p number f ∷ []) = ap (all_trees new) made.stack_is'
      ∙ made_stamped cells new p number under made.kids made.id made.grown under_below in
      let same_rest : all_trees new rest' ≡ all_trees cells rest' = ap (λ l. all_trees l rest') made.grown.cells_are ∙ trees-stay cells made.grown.cell rest' input'.below in
      let long = grown_by_one cells stack p number new stack' made in
      let stays : plain_of new rest' ≡ plain_of cells rest' = ap (λ l. plain_of l rest') made.grown.cells_are ∙ plain-stay cells made.grown.cell rest' input'.below in
      let same : input_of new rest' kinds read ≡ input_of cells rest' kinds read = ap (λ l. l ++ leaves (drop (read + length (all_kinds l)) kinds)) stays in
      record {
        has_states = has_states';
        below = below_on cells stack p number new stack' made h.below;
        within = h.within;
        whole_is = h.whole_is;
        input = record {
          below = all_below-more (length cells) (length new) (omega (arith, long)) rest' input'.below;
          parts = subst (AreParts g) (sym stays) input'.parts;
          covers = ap all_kinds same ∙ input'.covers;
        };
        now = h.now;
        left = h.left;
        offers = λ s f d. h.offers s f (offers' s f (subst (λ l. Tries g s l f) same d));
        top = top';
        top_is = refl;
        run = goes_on_join g h.run step;
        count = omega (arith, h.count, makes_join g h.run step, long);
        stamps = subst (AreStampedBy g (goes_on_join g h.run step) number) (sym now_stamped) stamps;
        made = omega (
          arith,
          ap (all_branches_by number) now_stamped,
          ap (all_branches_by number) parts,
          by-append number (all_trees cells under) (StampedBranch p number f ∷ []),
          by-append number (all_trees cells under) (all_trees cells made.kids),
          by-branch number p (all_trees cells made.kids) f (stamped-children (trees_from [] cells) made.kids),
          h.made,
          makes_join g h.run step,
        );
        up_to = subst (AreUpTo number) (sym now_stamped) (up_to-made number p (all_trees cells under) (all_trees cells made.kids) f
            (stamped-children (trees_from [] cells) made.kids) (subst (AreUpTo number) parts h.up_to));
        older = subst (AreOlder number) (sym same_rest) older';
      }

  -- it is a run of the plain machine
  pub reached : AllProductive t.grammar → Reached t kinds cells stack states read
  reached productive =
      let g = t.grammar in
      let p = goes_on_passes g productive h.run in
      let all : kinds ≡ p.read ++ drop read kinds = sym h.whole_is ∙ p.split ∙ ap (λ l. p.read ++ l) h.left in
      let prefix : p.read ≡ take read kinds = append_cancel_right p.read (take read kinds) (drop read kinds) (sym all ∙ sym (take-append-drop read kinds)) in
      let look : look_at (all_kinds h.now) None ≡ slice_get kinds read = ap (λ l. look_at l None) h.left ∙ sym (look_drop kinds read) in
      let run : Run g (slice_get kinds read) [] (take read kinds) (plain_of cells stack) = subst (λ s. Run g (slice_get kinds read) [] (take read kinds) s)
      (sym h.top_is) (subst (λ x. Run g (slice_get kinds read) [] x h.top) prefix (subst (λ l. Run g l [] p.read h.top) look p.run)) in
      let parts = settle (take read kinds) run in
      record { has_states = h.has_states; below = h.below; within = h.within; shifted = parts.0; after = parts.1; run = parts.2 }
    where
      settle : (x : List Kind) → Run t.grammar (slice_get kinds read) [] x (plain_of cells stack) → (shifted : List Tree)
          × IsStackAfter t.grammar x shifted × Run t.grammar (slice_get kinds read) shifted [] (plain_of cells stack)
      settle [] run = ([], refl, run)
      settle (k ∷ x) run =
          let last = last_of k x in
          let s = run_split t.grammar last.0 last.1 [] run last.2 in
          (s.0 ++ (Leaf last.1 ∷ []), (last.0, last.1, s.0, last.2, s.1, s.2, refl), s.3)

-- a machine that has read nothing
pub begun : (t : Sets) (kinds : List Kind) (number : ℕ) (cells : List Cell) (start : ℕ) (input : List Child) → IsStateOf t [] start → IsInput t.grammar cells input kinds 0
    → AreOlder number (all_trees cells input) → SoFar t (input_of cells input kinds 0) kinds (length cells) number cells [] (start ∷ []) 0 input
begun t kinds number cells start input there h older = record {
  has_states = record { symbols = []; roots = tt; long = omega arith; each = first };
  below = tt;
  within = omega arith;
  whole_is = h.covers;
  input = h;
  now = input_of cells input kinds 0;
  left = h.covers;
  offers = λ s f d. d;
  top = [];
  top_is = refl;
  run = Ends;
  count = omega arith;
  stamps = λ lefts p born us w. absurd (nowhere_stamped w refl);
  made = refl;
  up_to = λ lefts p born us w. absurd (nowhere_stamped w refl);
  older = older;
}
  where
    first : (i : ℕ) → i < length (start ∷ []) → IsStateOf t (take i []) (get_or (start ∷ []) i 0)
    first zero l = there
    first (suc i) l = absurd (omega (arith, l))

-- the list of no trees, with all kinds after it
pub no_input : (g : Grammar) (cells : List Cell) (kinds : List Kind) → IsInput g cells [] kinds 0
no_input g cells kinds = record { below = tt; parts = tt; covers = kinds_leaves (drop 0 kinds) }
