-- The moves of a state, and the gotos and moves of one state more.
use Rattle.tables.proofs.Std.{◌≡◌, ◌+◌, ◌<◌, ℕ, List, [], ◌∷◌, ◌++◌, Option, Some, None, MatchOption, All, drop, length, length-append, slice_index_or, refl, sym, ap, ◌∙◌, subst, inl, inr, ⊎_elim, arith, IfSome, option_map, cases_lt, get_or-drop, length-drop}
use Rattle.tables.proofs.Common.{Symbol, Terminal, Nonterminal, Grammar, LrItem, IsValid, LrShift, HasMove, HasItem, kind_of}
use Rattle.tables.proofs.Common.{ByRules, Goto, rules_valid, valid_rules, Item, kernel_at, GoesOn, IsStep, IsRow, lookahead_at, Shape, IsKnown, IsItem, HasKernel, HasSet, number, lookahead_small, symbol_of-number, each_more, step_goes_on}
use Rattle.tables.proofs.Common.{Decided, Moves, AClash, Move, Shift, Call, ToShift, ClashAt, IsOnlyMove, IsMoveAt, AreMoves, IsClashAt, Made, AddsMoves, AreAllMoves, AreMade, AreGotos, HasSteps, move_of, chosen, AreChosen, IsClash, IsDecided}
use Rattle.tables.specs.declared.decisions.Clash.{Clash}
use Rattle.tables.proofs.DecisionOfPrefix.{no_move, the_move, is_conflict}

module _ (g : Grammar) where
  pub shift_item : (prefix : List Symbol) (a : ℕ) (i : LrItem) (rest : List Symbol) → IsValid g prefix i → i.after ≡ Terminal a ∷ rest → HasItem g (prefix ++ Terminal a ∷ [])
  shift_item prefix a i rest v e =
      (_, rules_valid g (Goto (subst (λ y. ByRules g prefix (record { production = i.production; before = i.before; after = y; look = i.look })) e (valid_rules g prefix i v))))

  -- where a shift is called for, some item is valid for the longer prefix
  pub shift_there : (prefix : List Symbol) (a : ℕ) → HasMove g prefix (kind_of (Some a)) LrShift → HasItem g (prefix ++ Terminal a ∷ [])
  shift_there prefix a h =
      let b = h.calls.0 in
      let same : b ≡ a = cc h.calls.3 in
      shift_item prefix a h.item h.calls.1 h.valid (h.calls.2 ∙ ap (λ n. Terminal n ∷ h.calls.1) same)

  module _ (kernels : List (List Item)) (s : ℕ) (row : List (Option ℕ)) (prefix : List Symbol) (kernel : HasKernel g (kernel_at kernels s) prefix) where
    shift_leads : (a : ℕ) (to : Option ℕ) → IsStep g kernels s (Terminal a) to → IsOnlyMove g prefix (Some a) LrShift → IsMoveAt g kernels prefix (Some a) (option_map Shift to)
    shift_leads a None step m = absurd (step prefix kernel (shift_there prefix a m.has))
    shift_leads a (Some t) step m = (m, (a, refl, step.0, step.1 prefix kernel))

    chosen_move : (look : Option ℕ) (c : Call) → IfSome look (λ a. IsStep g kernels s (Terminal a) (slice_index_or row a None))
        → IsOnlyMove g prefix look (move_of c) → IsMoveAt g kernels prefix look (chosen row look c)
    chosen_move None ToShift step m = absurd (cc m.has.calls.3)
    chosen_move (Some a) ToShift step m = shift_leads a (slice_index_or row a None) step m
    chosen_move look c step m = (m, tt)

module _ (g : Shape) (kernels : List (List Item)) (s : ℕ) (row : List (Option ℕ)) (is_row : IsRow g kernels s row) where
  known_number : (x : Symbol) → IsKnown g x → number g.grammar x < g.grammar.rules + g.nonterminals
  known_number (Terminal a) l = omega (arith, l)
  known_number (Nonterminal n) l = omega (arith, l)

  row_steps : HasSteps g kernels s
  row_steps x k =
      let n = is_row.filled in
      let b = known_number x k in
      let o = slice_index_or row (number g.grammar x) None in
      (o, subst (λ y. IsStep g.grammar kernels s y o) (symbol_of-number g x k) (is_row.steps (number g.grammar x) (omega (arith, n, b))))

  row_gotos : (gotos : List (Option ℕ)) → gotos ≡ drop g.grammar.rules row → AreGotos g kernels s gotos
  row_gotos gotos is =
      let n = is_row.filled in
      let long : length gotos ≡ g.nonterminals = ap length is ∙ length-drop g.grammar.rules row ∙ omega (arith, n) in
      record {
        filled = long;
        steps = λ k l.
            let below : k < g.nonterminals = omega (arith, l, long) in
            let there : slice_index_or gotos k None ≡ slice_index_or row (g.grammar.rules + k) None = ap (λ x. slice_index_or x k None) is ∙ get_or-drop g.grammar.rules row k None in
            subst (λ o. IsStep g.grammar kernels s (Nonterminal k) o) (sym there) (subst (λ y. IsStep g.grammar kernels s y (slice_index_or row (g.grammar.rules + k) None))
            (symbol_of-number g (Nonterminal k) below) (is_row.steps (g.grammar.rules + k) (omega (arith, n, below))));
      }

module _ (g : Shape) (items : List Item) (kernels : List (List Item)) (s : ℕ) (set : (prefix : List Symbol) → HasKernel g.grammar (kernel_at kernels s) prefix → HasSet g.grammar items prefix) where
  module _ (row : List (Option ℕ)) (is_row : IsRow g kernels s row) where
    row_step : (look : Option ℕ) → IfSome look (λ a. a < g.grammar.rules) → IfSome look (λ a. IsStep g.grammar kernels s (Terminal a) (slice_index_or row a None))
    row_step None l = tt
    row_step (Some a) l =
        let n = is_row.filled in
        subst (λ x. IsStep g.grammar kernels s x (slice_index_or row a None)) (symbol_of-number g (Terminal a) (omega (arith, l))) (is_row.steps a (omega (arith, l, n)))

    moves_made : (moves : List (Option Move)) → AreChosen g.grammar items row moves → AreMoves g.grammar kernels s moves
    moves_made moves h = record {
      filled = h.filled;
      each = λ k l prefix kernel. ⊎_elim
          (λ d. subst (IsMoveAt g.grammar kernels prefix (lookahead_at k)) (sym d.1) (no_move g.grammar items prefix (set prefix kernel) (lookahead_at k) d.0))
          (λ d. let x = the_move g.grammar items prefix (set prefix kernel) (lookahead_at k) d.0 d.1 in subst (IsMoveAt g.grammar kernels prefix (lookahead_at k))
          (sym d.2) (chosen_move g.grammar kernels s row prefix kernel (lookahead_at k) d.0
          (row_step (lookahead_at k) (lookahead_small g.grammar.rules k (let n = h.filled in omega (arith, l, n)))) (record { has = x.0; only = x.1 })))
          (h.each k l);
    }

  clash_made : (known : All (IsItem g) items) → s < length kernels → (clash : Clash) → IsClash g.grammar items clash → IsClashAt g kernels (record { state = s; clash = clash })
  clash_made known l clash d = record {
    below = l;
    one = subst (IsItem g) d.0.2 (known d.0.0 clash.one d.0.1);
    two = subst (IsItem g) d.1.2 (known d.1.0 clash.two d.1.1);
    conflict = λ prefix kernel. is_conflict g.grammar items prefix (set prefix kernel) clash.look clash.one clash.two d;
  }

module _ (g : Shape) (old new : List (List Item)) (e : GoesOn old new) where
  moves_stay : (s : ℕ) → s < length old → (moves : List (Option Move)) → AreMoves g.grammar old s moves → AreMoves g.grammar new s moves
  moves_stay s l moves h = record {
    filled = h.filled;
    each = λ k b prefix kernel. stay prefix (lookahead_at k) (slice_index_or moves k None)
        (h.each k b prefix (subst (λ y. HasKernel g.grammar y prefix) (e.same s l) kernel));
  }
    where
      stay : (prefix : List Symbol) (look : Option ℕ) (m : Option Move) → IsMoveAt g.grammar old prefix look m → IsMoveAt g.grammar new prefix look m
      stay prefix look (Some (Shift t)) (x, (a, f, b, k)) = (x, (a, f, (let n = e.longer in omega (arith, b, n)), subst (λ y. HasKernel g.grammar y (prefix ++ Terminal a ∷ [])) (sym (e.same t b)) k))
      stay prefix look m x = x

  steps_stay : (s : ℕ) → s < length old → HasSteps g old s → HasSteps g new s
  steps_stay s l h x k = let y = h x k in (y.0, step_goes_on g.grammar old new s x y.0 e l y.1)

  gotos_stay : (s : ℕ) → s < length old → (gotos : List (Option ℕ)) → AreGotos g old s gotos → AreGotos g new s gotos
  gotos_stay s l gotos h = record { filled = h.filled; steps = λ n b. step_goes_on g.grammar old new s (Nonterminal n) (slice_index_or gotos n None) e l (h.steps n b) }

  clash_stays : (f : ClashAt) → IsClashAt g old f → IsClashAt g new f
  clash_stays f h = record {
    below = let b = h.below in let n = e.longer in omega (arith, b, n);
    one = h.one;
    two = h.two;
    conflict = λ prefix kernel. h.conflict prefix (subst (λ y. HasKernel g.grammar y prefix) (e.same f.state h.below) kernel);
  }

  module _ (t u : Made) (h : AreMade g old t) (more : length t.gotos < length old) (row : List (Option ℕ)) (is_row : IsRow g new (length t.gotos) row)
      (gotos : List (Option ℕ)) (are_gotos : gotos ≡ drop g.grammar.rules row) (added : u.gotos ≡ t.gotos ++ gotos ∷ []) where
    longer : length u.gotos ≡ length t.gotos + 1
    longer = ap length added ∙ length-append t.gotos (gotos ∷ [])

    abbrev Clashes : Option ClashAt → Type 0
    Clashes o = MatchOption o (AreAllMoves g.grammar new u) (λ f. IsClashAt g new f)

    all_more : (moves : List (Option Move)) → AreMoves g.grammar new (length t.gotos) moves → u.moves ≡ t.moves ++ moves ∷ [] → AreAllMoves g.grammar old t → AreAllMoves g.grammar new u
    all_more moves m is k =
        let filled = k.filled in
        let n = ap length is ∙ length-append t.moves (moves ∷ []) in
        let r = longer in
        let each : (s : ℕ) → s < length t.moves → AreMoves g.grammar new s (slice_index_or t.moves s []) =
        λ s l. moves_stay s (omega (arith, l, filled, more)) (slice_index_or t.moves s []) (k.each s l) in
        let last : AreMoves g.grammar new (length t.moves) moves = subst (λ y. AreMoves g.grammar new y moves) (sym filled) m in
        record {
          filled = omega (arith, n, r, filled);
          each = subst (λ y. (s : ℕ) → s < length y → AreMoves g.grammar new s (slice_index_or y s [])) (sym is) (each_more (λ s y. AreMoves g.grammar new s y) t.moves moves [] each last);
        }

    moves_more : (moves : List (Option Move)) → AreMoves g.grammar new (length t.gotos) moves → u.moves ≡ t.moves ++ moves ∷ [] → (o : Option ClashAt)
        → MatchOption o (AreAllMoves g.grammar old t) (λ f. IsClashAt g old f) → Clashes o
    moves_more moves m is None k = all_more moves m is k
    moves_more moves m is (Some f) k = clash_stays f k

    steps_more : (s : ℕ) → s < length u.gotos → HasSteps g new s
    steps_more s l =
        let n = longer in
        ⊎_elim
        (λ b. steps_stay s (omega (arith, b, more)) (h.steps s b))
        (λ b. let at : s ≡ length t.gotos = omega (arith, l, n, b) in subst (HasSteps g new) (sym at) (row_steps g new (length t.gotos) row is_row))
        (cases_lt s (length t.gotos))

    -- the gotos and moves of one state more, or its conflict
    pub made_more : (items : List Item) → All (IsItem g) items → ((prefix : List Symbol) → HasKernel g.grammar (kernel_at new (length t.gotos)) prefix → HasSet g.grammar items prefix)
        → (decided : Decided) → IsDecided g.grammar items row decided → AddsMoves t u decided → AreMade g new u
    made_more items known set decided d adds =
        let r = longer in
        let n = e.longer in
        let below : length t.gotos < length new = omega (arith, more, n) in
        let each : (s : ℕ) → s < length t.gotos → AreGotos g new s (slice_index_or t.gotos s []) = λ s l. gotos_stay s (omega (arith, l, more)) (slice_index_or t.gotos s []) (h.gotos s l) in
        record {
          within = omega (arith, r, below);
          steps = steps_more;
          gotos = subst (λ y. (s : ℕ) → s < length y → AreGotos g new s (slice_index_or y s [])) (sym added)
              (each_more (λ s y. AreGotos g new s y) t.gotos gotos [] each (row_gotos g new (length t.gotos) row is_row gotos are_gotos));
          moves = go decided d adds;
        }
      where
        go : (decided : Decided) → IsDecided g.grammar items row decided → AddsMoves t u decided → Clashes u.clash
        go (Moves moves) d (is, same) = subst Clashes (sym same) (moves_more moves (moves_made g items new (length t.gotos) set row is_row moves d) is t.clash h.moves)
        go (AClash clash) d (is, inl (f, old_is, new_is)) =
            subst Clashes (sym new_is) (clash_stays f (subst (λ o. MatchOption o (AreAllMoves g.grammar old t) (λ x. IsClashAt g old x)) old_is h.moves))
        go (AClash clash) d (is, inr (old_is, new_is)) = subst Clashes (sym new_is) (clash_made g items new (length t.gotos) set known (let n = e.longer in omega (arith, more, n)) clash d)
