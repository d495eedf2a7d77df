-- What a move of the machine makes of how far it has come.
use Rattle.parser.proofs.Std.{◌≡◌, ℕ, ◌-◌, ◌<◌, ◌≤◌, List, [], ◌∷◌, ◌++◌, length, take, get_or, slice_get, Option, sym, ap, ◌∙◌, subst, arith, length-append, ⊎_elim, cases_lt, append-nil, take-append-le, get_or_append_left, take_all, get_or-append_seam}
use Rattle.parser.proofs.Common.{Kind, Symbol, Grammar, Tree, Leaf, HaveRoots, Run, Stay, Shifted, IsStackAfter, run_join, Child, Cell, AreBelow, Sets, IsStateOf, plain_of, HasStates}

-- the state on top stands for the whole stack
pub top_stands : (t : Sets) (stack : List Tree) (states : List ℕ) (h : HasStates t stack states) → IsStateOf t h.symbols (get_or states (length states - 1) 0)
top_stands t stack states h =
    let lt : length states - 1 < length states = omega (arith, h.long) in
    subst (λ l. IsStateOf t l (get_or states (length states - 1) 0)) (take_all (length states - 1) h.symbols (omega (arith, h.long))) (h.each (length states - 1) lt)

-- one symbol more, with its state
pub states_push : (t : Sets) (stack stack' : List Tree) (states : List ℕ) (h : HasStates t stack states) (s : Symbol) (next : ℕ) → HaveRoots t.grammar stack' (h.symbols ++ (s ∷ []))
    → IsStateOf t (h.symbols ++ (s ∷ [])) next → HasStates t stack' (states ++ (next ∷ []))
states_push t stack stack' states h s next roots there =
    let whole = h.symbols ++ (s ∷ []) in
    record {
      symbols = whole;
      roots = roots;
      long = omega (arith, h.long, length-append states (next ∷ []), length-append h.symbols (s ∷ []));
      each = λ i lt. ⊎_elim
          (λ low.
          let is : take i whole ≡ take i h.symbols = take-append-le i h.symbols (s ∷ []) (omega (arith, low, h.long)) in
          let at : get_or (states ++ (next ∷ [])) i 0 ≡ get_or states i 0 = get_or_append_left states (next ∷ []) 0 i low in
          subst (λ k. IsStateOf t (take i whole) k) (sym at) (subst (λ l. IsStateOf t l (get_or states i 0)) (sym is) (h.each i low)))
          (λ high.
          let i_is : i ≡ length states = omega (arith, high, lt, length-append states (next ∷ [])) in
          let all : take i whole ≡ whole = take_all i whole (omega (arith, i_is, h.long, length-append h.symbols (s ∷ []))) in
          let at : get_or (states ++ (next ∷ [])) i 0 ≡ next = ap (λ j. get_or (states ++ (next ∷ [])) j 0) i_is ∙ get_or-append_seam states next [] 0 in
          subst (λ k. IsStateOf t (take i whole) k) (sym at) (subst (λ l. IsStateOf t l next) (sym all) there))
          (cases_lt i (length states));
    }

module _ (g : Grammar) where
  -- the plain machine comes to the stack after x
  pub after_run : (x : List Kind) (stack : List Tree) (next : Option Kind) → IsStackAfter g x stack → Run g next [] x stack
  after_run [] stack next e = subst (λ l. Run g next [] [] l) (sym e) Stay
  after_run (k ∷ x) stack next (before, last, below, x_is, read, shift, stack_is) =
      let run : Run g next [] (before ++ (last ∷ [])) (below ++ (Leaf last ∷ [])) = run_join g (last ∷ []) read (Shifted shift Stay) in
      subst (λ l. Run g next [] l stack) (sym x_is) (subst (λ l. Run g next [] (before ++ (last ∷ [])) l) (sym stack_is) run)

  -- and from there on
  pub run_on : (x : List Kind) (shifted stack : List Tree) (next : Option Kind) → IsStackAfter g x shifted → Run g next shifted [] stack → Run g next [] x stack
  run_on x shifted stack next after run = subst (λ l. Run g next [] l stack) (append-nil x) (run_join g [] (after_run x shifted next after) run)

-- the plain machine has put as many kinds onto the stack as were read, and has come to this stack on the next kind
pub record Reached (t : Sets) (kinds : List Kind) (cells : List Cell) (stack : List Child) (states : List ℕ) (read : ℕ) : Type 0 where
  pub has_states : HasStates t (plain_of cells stack) states
  pub below : AreBelow (length cells) stack
  pub within : read ≤ length kinds
  pub shifted : List Tree
  pub after : IsStackAfter t.grammar (take read kinds) shifted
  pub run : Run t.grammar (slice_get kinds read) shifted [] (plain_of cells stack)
