-- What a move of the machine makes of its states.
use Rattle.states.proofs.Std.{◌++◌, ◌+◌, ◌<◌, ◌≡◌, ◌∙◌, ◌∷◌, ℕ, suc, List, [], Some, ap, append_assoc, arith, drop, get_or, length, length-append, refl, subst, sym, take, take-append-drop, ◌-◌}
use Rattle.states.proofs.Common.{viable_prefix, length-roots, roots-append, run_join, Handle, accept_stack, handle, roots-forest, roots_unique, after_viable, move_iff_viable, stuck_at_kind, IsStackAfter, Reduced, Reduces, Run, Shifts, Stay}
use Rattle.states.proofs.Common.{run_on, states_push, state_under, states_after, HasStates}
use Rattle.states.proofs.Common.{IsAccepted, IsStateOf, Sets}
use Rattle.states.proofs.Common.{AreStatesAfter, AreStatesOn}
use Rattle.states.proofs.Common.{HasMove, Move, Accept, Reduce, Shift, IsViable, Branch, Grammar, HasProduction, HaveRoots, Leaf, Tree, forest, trees, Kind, TokenRule, Symbol, Nonterminal, Terminal}
use Rattle.std.proofs.Math.Seq.{drop-cons}

-- before any kind
pub states_first : (t : Sets) (start : ℕ) → IsStateOf t [] start → AreStatesAfter t [] (start ∷ [])
states_first t start h = record {
  stack = [];
  after = refl;
  has = record {
    symbols = [];
    roots = tt;
    long = refl;
    each = λ i lt. let first : 0 ≡ i = omega (arith, lt) in subst (λ j. IsStateOf t (take j []) (get_or (start ∷ []) j 0)) first h;
  };
}

-- before a kind is read, nothing is reduced on it yet
pub states_on : (t : Sets) (x : List Kind) (k : Kind) (states : List ℕ) → AreStatesAfter t x states → AreStatesOn t x k states
states_on t x k states h = record { shifted = h.stack; after = h.after; stack = h.stack; run = Stay; has = h.has }

-- a kind comes onto the stack
put_last : (g : Grammar) (x : List Kind) (k : Kind) (below : List Tree) → Run g (Some k) [] x below → Shifts g below k
    → IsStackAfter g (x ++ k ∷ []) (below ++ Leaf k ∷ [])
put_last g [] k below run shifts = ([], k, below, refl, run, shifts, refl)
put_last g (j ∷ x) k below run shifts = (j ∷ x, k, below, refl, run, shifts, refl)

pub states_shifted : (t : Sets) (x : List Kind) (k : Kind) (states : List ℕ) (on : AreStatesOn t x k states) (a next : ℕ) → k ≡ TokenRule a
    → HasMove t.grammar on.has.symbols (Some k) Shift → IsStateOf t (on.has.symbols ++ Terminal a ∷ []) next → AreStatesAfter t (x ++ k ∷ []) (states ++ next ∷ [])
states_shifted t x k states on a next rule called there =
    let g = t.grammar in
    let symbols = on.has.symbols in
    let leaf : HaveRoots g (Leaf k ∷ []) (Terminal a ∷ []) = subst (λ l. HaveRoots g (Leaf l ∷ []) (Terminal a ∷ [])) (sym rule) (refl, tt) in
    let roots = roots-append g on.stack (Leaf k ∷ []) symbols (Terminal a ∷ []) on.has.roots leaf in
    record {
      stack = on.stack ++ Leaf k ∷ [];
      after = put_last g x k on.stack (run_on g x on.shifted on.stack (Some k) on.after on.run) (record { symbols = symbols; roots = on.has.roots; called = called });
      has = states_push t on.stack (on.stack ++ Leaf k ∷ []) states on.has (Terminal a) next roots there;
    }

trees-forest : (ts : List Tree) → trees (forest ts) ≡ ts
trees-forest [] = refl
trees-forest (t ∷ ts) = ap (λ l. t ∷ l) (trees-forest ts)

-- the right side's symbols have states, and one is below them
pub right_within : (t : Sets) (x : List Kind) (k : Kind) (states : List ℕ) (on : AreStatesOn t x k states) (p left : ℕ) (right : List Symbol)
    → HasMove t.grammar on.has.symbols (Some k) (Reduce p) → HasProduction t.grammar p left right → length right < length states
right_within t x k states on p left right called production =
    let h : Handle t.grammar on.stack on.has.symbols left right = handle t.grammar on.stack on.has.symbols (Some k) p left right on.has.roots called production in
    omega (arith, on.has.long, ap length h.symbols_are, length-append h.d right)

-- the trees of a right side give way to one of the left side
module _ (t : Sets) (x : List Kind) (k : Kind) (states : List ℕ) (on : AreStatesOn t x k states) (p left : ℕ) (right : List Symbol)
    (called : HasMove t.grammar on.has.symbols (Some k) (Reduce p)) (production : HasProduction t.grammar p left right) (m : ℕ) (at : m + length right ≡ length states) where
  abbrev pub place : Handle t.grammar on.stack on.has.symbols left right
  place = handle t.grammar on.stack on.has.symbols (Some k) p left right on.has.roots called production

  depth : m ≡ length place.d + 1
  depth = omega (arith, at, on.has.long, ap length place.symbols_are, length-append place.d right)

  one_less : (m - 1) + 1 ≡ m
  one_less = omega (arith, depth)

  long : (m - 1) + length right ≡ length on.stack
  long = omega (arith, depth, at, on.has.long, length-roots t.grammar on.stack on.has.symbols on.has.roots)

  pub state_below : IsStateOf t place.d (get_or (take m states) (length (take m states) - 1) 0)
  state_below = subst (λ j. IsStateOf t place.d (get_or (take j states) (length (take j states) - 1) 0)) one_less
      (state_under t on.stack states on.has on.has.symbols on.has.roots left right place (m - 1) long)

  abbrev made : Tree
  made = Branch p (forest place.kids)

  reduces : Reduces t.grammar on.stack (Some k) (place.under ++ made ∷ [])
  reduces = record {
    symbols = on.has.symbols;
    roots = on.has.roots;
    number = p;
    called = called;
    below = place.under;
    ts = forest place.kids;
    left = left;
    right = right;
    production = production;
    size = ap length (trees-forest place.kids) ∙ length-roots t.grammar place.kids right place.kids_roots;
    from_is = place.stack_is ∙ ap (λ l. place.under ++ l) (sym (trees-forest place.kids));
    to_is = refl;
  }

  pub states_reduced : (next : ℕ) → IsStateOf t (place.d ++ Nonterminal left ∷ []) next → AreStatesOn t x k (take m states ++ next ∷ [])
  states_reduced next there =
      let g = t.grammar in
      let stack = place.under ++ made ∷ [] in
      let roots = roots-append g place.under (made ∷ []) place.d (Nonterminal left ∷ []) place.under_roots ((right, production, roots-forest g place.kids right place.kids_roots), tt) in
      record {
        shifted = on.shifted;
        after = on.after;
        stack = stack;
        run = run_join g [] on.run (Reduced reduces Stay);
        has = subst (λ j. HasStates t stack (take j states ++ next ∷ [])) one_less
            (states_after t on.stack states on.has on.has.symbols on.has.roots left right place (m - 1) long stack next roots there);
      }

-- where there is no move on the kind, no sentence goes on with it
pub stuck : (t : Sets) (x : List Kind) (k : Kind) (states : List ℕ) (on : AreStatesOn t x k states) → IsAccepted t.grammar
    → ((move : Move) → HasMove t.grammar on.has.symbols (Some k) move → ⊥) → ¬ IsViable t.grammar (x ++ k ∷ [])
stuck t x k states on accepted none =
    (stuck_at_kind t.grammar accepted.free accepted.productive x on.shifted on.stack k on.after on.run
    (λ m. none m.move (subst (λ l. HasMove t.grammar l (Some k) m.move) (roots_unique t.grammar on.stack m.symbols on.has.symbols m.roots on.has.roots) m.called))).0

-- where there is one right after the last kind, some sentence does
pub goes_on : (t : Sets) (x : List Kind) (k : Kind) (states : List ℕ) (after : AreStatesAfter t x states) → IsAccepted t.grammar
    → (move : Move) → HasMove t.grammar after.has.symbols (Some k) move → IsViable t.grammar (x ++ k ∷ [])
goes_on t x k states after accepted move called =
    (move_iff_viable t.grammar accepted.free accepted.productive x after.stack k after.after).0
    (record { symbols = after.has.symbols; roots = after.has.roots; move = move; called = called })

-- kinds that the machine has read begin a sentence
pub begins : (t : Sets) (x : List Kind) (states : List ℕ) → IsAccepted t.grammar → AreStatesAfter t x states → IsViable t.grammar x
begins t x states accepted after = after_viable t.grammar accepted.free accepted.productive x after.stack after.after

-- where none does with one of some kinds, after those before it, none does with all of them
pub not_with_all : (g h : Grammar) (x kinds : List Kind) (i : ℕ) (d : Kind) → h ≡ g → i < length kinds
    → ¬ IsViable h (x ++ take i kinds ++ get_or kinds i d ∷ []) → ¬ IsViable g (x ++ kinds)
not_with_all g h x kinds i d same lt none viable =
    let k : Kind = get_or kinds i d in
    let rest : List Kind = drop (suc i) kinds in
    let split : kinds ≡ take i kinds ++ k ∷ rest = sym (take-append-drop i kinds) ∙ ap (λ l. take i kinds ++ l) (drop-cons kinds i d lt) in
    let parts : x ++ kinds ≡ x ++ take i kinds ++ k ∷ [] ++ rest =
    ap (λ l. x ++ l) split ∙ sym (append_assoc x (take i kinds) (k ∷ rest)) ∙ sym (append_assoc (x ++ take i kinds) (k ∷ []) rest) in
    none (subst (λ g. IsViable g (x ++ take i kinds ++ k ∷ [])) (sym same) (viable_prefix g (x ++ take i kinds ++ k ∷ []) rest (subst (IsViable g) parts viable)))

-- nothing is accepted before a kind
pub no_accept : (t : Sets) (x : List Kind) (k : Kind) (states : List ℕ) (on : AreStatesOn t x k states) → HasMove t.grammar on.has.symbols (Some k) Accept → ⊥
no_accept t x k states on called = let e = (accept_stack t.grammar on.stack on.has.symbols (Some k) on.has.roots called).3 in cc e
