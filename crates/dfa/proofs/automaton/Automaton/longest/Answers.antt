use Rattle.dfa.proofs.Std.{arith, ◌≡◌, ◌⊎◌, ℕ, List, Option, take, suc, IfSome, ◌+◌, ◌*◌, ◌-◌, ◌<◌, ◌≤◌, Some, None, drop, length, length-drop, slice_index_or, subst, sym, ◌∙◌, inl, inr, refl, ap, get_or-drop, All-nil}
use Rattle.dfa.proofs.Common.{Expression, IsCharacter, IsText, IsCharacter-from_scalar, Match, IsNoted, Table, follower, part, state_after, width, IsAutomaton, IsWithinReach}
use Rattle.dfa.proofs.Numbers.{numbered_positive}
use Rattle.dfa.proofs.LongestMatch.{AreBounds, read_none, read_anew, read_on, kept_noted, kept_prefixes, kept_text, keeps_on, state_after-none, within_reach, Ends, piece_of, reach_of, more_state, more_text, more_prefix, more_first, more_dead, prefixes_more}
use Rattle.dfa.proofs.automaton.Automaton.longest.Given.{Over}
use Rattle.dfa.proofs.automaton.Automaton.longest.Goals as goal
use Rattle.dfa.proofs.automaton.Automaton.longest.Goals.{else-loop-read-test, then-loop-read-test+in_default}

pub loop-read-init : goal.loop-read-init
loop-read-init g c =
    let t = drop c.args.from (g.S.Source.text c.args.source.now) in
    let many : length t ≡ c.len.result - c.args.from = length-drop c.args.from (g.S.Source.text c.args.source.now) ∙ omega arith in
    record {
      in_text = omega arith;
      state_is = c.start-state.ensures.is;
      before = subst (λ i. g.S.Source.is_before c.args.source.now i c.ahead-ahead.result) (let h : c.args.from ≡ c.args.from + 0 = omega arith in h) c.ahead-ahead.ensures;
      bounds = record { inside = omega arith; nonempty = λ h. omega arith; at_end = λ h. (refl, omega arith) };
      stands = state_after-none c.args.self.now ∙ ap (λ n. Some n) (sym c.start-state.ensures.number);
      text = All-nil IsCharacter;
      so_far = λ ps a. (λ m p q. absurd (omega arith), read_none ps t c.start-state.result.rule c.min.result (omega arith));
    }

pub next-c-requires-clause-window : goal.next-c-requires-clause-window
next-c-requires-clause-window g c =
    let old = c.loop-read.invariant.so_far c.requires.window.0 c.requires.window.1 in
    c.requires.window.2 (c.args.from + c.loop-read.read) (within_reach c.requires.window.0 (g.S.Source.text c.args.source.now) c.args.from c.loop-read.read (omega arith) old.0)

-- what the better of two matches leaves as it was
longer_is : (rest read : ℕ) (old new : Match) → read ≤ rest → (new ≡ old) ⊎ ((0 < read) × (new.length ≡ read)) → AreBounds rest old → AreBounds rest new
longer_is rest read old new within (inl same) h = subst (AreBounds rest) (sym same) h
longer_is rest read old new within (inr e) h = record { inside = omega (arith, e); nonempty = λ some. omega (arith, e); at_end = λ none. absurd (omega (arith, e)) }

-- no state leads to the first one
positive : (table : Table) (s x t : ℕ) → follower table s x ≡ Some t → 0 < t
positive table s x t e = subst (λ (o : Option ℕ). IfSome o (λ n. 0 < n)) e (numbered_positive (slice_index_or table.next (s * width table + part table.starts x) 0))

pub stay-read-requires-clause-entered : goal.stay-read-requires-clause-entered
stay-read-requires-clause-entered g c = positive c.args.self.now c.loop-read.state.number c.next-c.result c.loop-read.state.number cc

pub stay-read-requires-clause-window : goal.stay-read-requires-clause-window
stay-read-requires-clause-window g c = λ n lt passed.
    let table = c.args.self.now in
    let old = c.loop-read in
    let ps = c.requires.window.0 in
    let text = g.S.Source.text c.args.source.now in
    let t = drop c.args.from text in
    let read : c.next-c.result ≡ slice_index_or t old.read 0 = c.next-c.ensures.is ∙ sym (get_or-drop c.args.from text old.read 0) in
    let character : IsCharacter c.next-c.result = IsCharacter-from_scalar c.next-c.result c.next-c.type_inv.1.1 in
    let next : follower table old.state.number c.next-c.result ≡ Some old.state.number = cc in
    let keeps = keeps_on table text c.args.from old.read n old.state.number c.next-c.result (omega (arith, lt)) character read next passed in
    let prefixes = kept_prefixes ps table c.requires.window.1 t old.state.number old.read old.invariant.text old.invariant.stands (suc n) keeps (old.invariant.so_far ps c.requires.window.1).0 in
    let e : c.args.from + (old.read + suc n) ≡ c.args.from + (old.read + 1) + n = omega arith in
    c.requires.window.2 (c.args.from + (old.read + 1) + n) (subst (IsWithinReach ps text c.args.from) e (within_reach ps text c.args.from (old.read + suc n) (omega (arith, lt)) prefixes))

pub loop-read-preserved-then-is_ascii : goal.loop-read-preserved-then-is_ascii
loop-read-preserved-then-is_ascii g c =
    let table = c.args.self.now in
    let old = c.loop-read in
    let s = old.state.number in
    let k = c.stay-read.result in
    let text = g.S.Source.text c.args.source.now in
    let t = drop c.args.from text in
    let read : c.next-c.result ≡ slice_index_or t old.read 0 = c.next-c.ensures.is ∙ sym (get_or-drop c.args.from text old.read 0) in
    let character : IsCharacter c.next-c.result = IsCharacter-from_scalar c.next-c.result c.next-c.type_inv.1.1 in
    let next : follower table s c.next-c.result ≡ Some s = cc in
    let keeps = keeps_on table text c.args.from old.read k s c.next-c.result c.stay-read.ensures.inside character read next c.stay-read.ensures.kept in
    let e : old.read + suc k ≡ old.read + 1 + k = omega arith in
    let kept = kept_text c.requires.window.0 table c.requires.window.1 t s old.read old.invariant.text old.invariant.stands (suc k) keeps in
    record {
      in_text = omega (arith, c.stay-read.ensures.inside);
      state_is = old.invariant.state_is;
      before = subst (λ i. g.S.Source.is_before c.args.source.now i c.stay-read.new.ahead)
          (let h : c.args.from + (old.read + 1) + k ≡ c.args.from + (old.read + 1 + k) = omega arith in h) c.stay-read.ensures.moved;
      bounds = old.invariant.bounds;
      stands = subst (λ (m : ℕ). state_after table (take m t) ≡ Some s) e kept.1;
      text = subst (λ (m : ℕ). IsText (take m t)) e kept.0;
      so_far = λ ps a.
          let h = old.invariant.so_far ps a in (
            λ m p q. kept_prefixes ps table a t s old.read old.invariant.text old.invariant.stands (suc k) keeps h.0 m p (omega (arith, q)),
            subst (λ (m : ℕ). IsNoted ps t m old.state.rule old.best.rule old.best.length) e
                (kept_noted ps table a t s old.read old.invariant.text old.invariant.stands (suc k) keeps old.state.rule old.best.rule old.best.length (sym old.invariant.state_is.rule) h.1),
          );
    }

pub loop-read-preserved-else-read-ge-LONG : goal.loop-read-preserved-else-read-ge-LONG
loop-read-preserved-else-read-ge-LONG g c =
    let table = c.args.self.now in
    let old = c.loop-read in
    let s = old.state.number in
    let x = c.next-c.result in
    let text = g.S.Source.text c.args.source.now in
    let t = drop c.args.from text in
    let lt : old.read < length t = omega (arith, length-drop c.args.from text) in
    let read : x ≡ slice_index_or t old.read 0 = c.next-c.ensures.is ∙ sym (get_or-drop c.args.from text old.read 0) in
    let character : IsCharacter x = IsCharacter-from_scalar x c.next-c.type_inv.1.1 in
    let next : follower table s x ≡ Some s = cc in
    let is = old.invariant.stands in
    record {
      in_text = omega arith;
      state_is = old.invariant.state_is;
      before = subst (λ i. g.S.Source.is_before c.args.source.now i c.next-c.new.ahead) (let h : c.args.from + old.read + 1 ≡ c.args.from + (old.read + 1) = omega arith in h) c.next-c.ensures.moved;
      bounds = old.invariant.bounds;
      stands = more_state c.requires.window.0 table c.requires.window.1 t old.read s x old.invariant.text character lt read is (Some s) next;
      text = more_text c.requires.window.0 table c.requires.window.1 t old.read s x old.invariant.text character lt read is;
      so_far = λ ps a.
          let h = old.invariant.so_far ps a in
          let first = more_first ps table a t old.read s x old.invariant.text character lt read is s old.state.rule next (sym old.invariant.state_is.rule) in (
            prefixes_more ps t old.read h.0 (more_prefix ps table a t old.read s x old.invariant.text character lt read is s next),
            read_on ps t old.read old.state.rule old.best.rule old.best.length h.1 first,
          );
    }

pub loop-read-preserved : goal.loop-read-preserved
loop-read-preserved g c =
    let table = c.args.self.now in
    let old = c.loop-read in
    let best = c.or_longer-best in
    let rest = c.len.result - c.args.from in
    let text = g.S.Source.text c.args.source.now in
    let t = drop c.args.from text in
    let many : length t ≡ rest = length-drop c.args.from text ∙ omega arith in
    let lt : old.read < length t = omega arith in
    let within : old.read ≤ rest = omega arith in
    let read : c.next-c.result ≡ slice_index_or t old.read 0 = c.next-c.ensures.is ∙ sym (get_or-drop c.args.from text old.read 0) in
    let character : IsCharacter c.next-c.result = IsCharacter-from_scalar c.next-c.result c.next-c.type_inv.1.1 in
    let next : follower table old.state.number c.next-c.result ≡ Some c.in-Some.next = cc in
    let rule : slice_index_or table.accepts c.in-Some.next None ≡ c.state-state.result.rule =
    ap (λ n. slice_index_or table.accepts n None) (sym c.state-state.ensures.number) ∙ sym c.state-state.ensures.is.rule in
    record {
      in_text = omega arith;
      state_is = c.state-state.ensures.is;
      before = subst (λ i. g.S.Source.is_before c.args.source.now i c.next-c.new.ahead) (let h : c.args.from + old.read + 1 ≡ c.args.from + (old.read + 1) = omega arith in h) c.next-c.ensures.moved;
      bounds = longer_is rest old.read old.best best.result within best.ensures.either old.invariant.bounds;
      stands = more_state c.requires.window.0 _ c.requires.window.1 t old.read old.state.number c.next-c.result old.invariant.text character lt read old.invariant.stands
          (Some c.in-Some.next) next ∙ ap (λ n. Some n) (sym c.state-state.ensures.number);
      text = more_text c.requires.window.0 _ c.requires.window.1 t old.read old.state.number c.next-c.result old.invariant.text character lt read old.invariant.stands;
      so_far = λ ps a.
          let h = old.invariant.so_far ps a in
          let is = old.invariant.stands in
          let first = more_first ps _ a t old.read old.state.number c.next-c.result old.invariant.text character lt read is c.in-Some.next c.state-state.result.rule next rule in (
            prefixes_more ps t old.read h.0 (more_prefix ps _ a t old.read old.state.number c.next-c.result old.invariant.text character lt read is c.in-Some.next next),
            read_anew ps t old.read c.state-state.result.rule best.result.rule best.result.length (best.ensures.best ps t h.1) first,
          );
    }

-- the loop ends where the text does, or where one more character begins no text of a rule
ended : (g : Over) (c : goal.After-drop-ahead g) (ps : List Expression) → IsAutomaton ps c.args.self.now → Ends ps (drop c.args.from (g.S.Source.text c.args.source.now)) c.loop-read.read
ended g c ps a =
    let t = drop c.args.from (g.S.Source.text c.args.source.now) in
    let many : length t ≡ c.len.result - c.args.from = length-drop c.args.from (g.S.Source.text c.args.source.now) ∙ omega arith in
    elim c.loop-read-test.branch [
      | else-loop-read-test w ↦ inl (omega (arith, w.loop-read-test.false))
      | then-loop-read-test+in_default w ↦
          let lt : c.loop-read.read < length t = omega (arith, w.loop-read-test.true) in
          let read : w.next-c.result ≡ slice_index_or t c.loop-read.read 0 = w.next-c.ensures.is ∙ sym (get_or-drop c.args.from (g.S.Source.text c.args.source.now) c.loop-read.read 0) in
          let character : IsCharacter w.next-c.result = IsCharacter-from_scalar w.next-c.result w.next-c.type_inv.1.1 in
          let next : follower c.args.self.now c.loop-read.state.number w.next-c.result ≡ None = cc (w.next.ensures.is, w.in_default.is) in
          inr (lt, more_dead ps _ a t c.loop-read.read c.loop-read.state.number w.next-c.result c.loop-read.invariant.text character lt read c.loop-read.invariant.stands next)
    ]

pub returns-clause-piece : goal.returns-clause-piece
returns-clause-piece g c = λ ps a some.
    let t = drop c.args.from (g.S.Source.text c.args.source.now) in
    let many : length t ≡ c.len.result - c.args.from = length-drop c.args.from (g.S.Source.text c.args.source.now) ∙ omega arith in
    let best = c.or_longer-best-2 in
    piece_of ps t c.loop-read.read best.result.rule best.result.length (best.ensures.best ps t (c.loop-read.invariant.so_far ps a).1) (ended g c ps a) (omega arith) (omega arith)

pub returns-clause-reach : goal.returns-clause-reach
returns-clause-reach g c = λ ps a.
    let t = drop c.args.from (g.S.Source.text c.args.source.now) in
    reach_of ps t c.loop-read.read (c.loop-read.invariant.so_far ps a).0 (ended g c ps a)
