use Rattle.dfa.proofs.Std.{arith, ◌<◌, ℕ, Option, subst, sym}
use Rattle.dfa.proofs.Common.{IsBest, IsNoted}
use Rattle.dfa.proofs.LongestMatch.{best_at_start, best_matched, best_unmatched}
use Rattle.dfa.proofs.automaton.Match.or_longer.Goals as goal

pub returns-then-read-eq0-clause-best : goal.returns-then-read-eq0-clause-best
returns-then-read-eq0-clause-best c = λ ps t h.
    let best = c.args.self in
    subst (λ (n : ℕ). IsBest ps t n best.rule best.length) (sym c.if-read-eq0.true)
    (best_at_start ps t c.args.rule best.rule best.length (subst (λ (n : ℕ). IsNoted ps t n c.args.rule best.rule best.length) c.if-read-eq0.true h))

pub returns-in-Some-clause-best : goal.returns-in-Some-clause-best
returns-in-Some-clause-best c = λ ps t h.
    let best = c.args.self in
    let read = c.args.read in
    let some : 0 < read = omega (arith, c.if-read-eq0.false) in
    subst (λ (r : Option ℕ). IsBest ps t read r read) (sym c.in-Some.is)
    (best_matched ps t read c.in-Some.field-0 best.rule best.length some (subst (λ (r : Option ℕ). IsNoted ps t read r best.rule best.length) c.in-Some.is h))

pub returns-in-None-clause-best : goal.returns-in-None-clause-best
returns-in-None-clause-best c = λ ps t h.
    let best = c.args.self in
    best_unmatched ps t c.args.read best.rule best.length (subst (λ (r : Option ℕ). IsNoted ps t c.args.read r best.rule best.length) c.in-None.is h)
