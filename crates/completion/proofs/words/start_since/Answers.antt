use Rattle.completion.proofs.Std.{◌+◌, ◌≡◌, ◌∙◌, ◌∷◌, arith, drop, subst, sym}
use Rattle.completion.proofs.Steps.{IsSince, begun_behind, char_here, still_in, tail_here}
use Rattle.completion.proofs.words.start_since.Goals.{then-not-is_in_word, else-not-is_in_word}
use Rattle.completion.proofs.words.start_since.Goals as goal

pub loop-at-init : goal.loop-at-init
loop-at-init c = record {
  ahead = c.chars_from-ahead.ensures;
  since = record { lower = omega arith; upper = omega arith; word = λ i low high. absurd (omega (arith, low, high)); begins = λ i lt is. absurd (omega (arith, lt)) };
}

pub loop-at-preserved : goal.loop-at-preserved
loop-at-preserved c =
    let t = c.args.text.now in
    let at = c.loop-at.at in
    let char = c.in-Some.character in
    let here : drop at t ≡ char ∷ c.next.new.self = sym c.loop-at.invariant.ahead ∙ c.in-Some.ensures.steps in
    let is = char_here t at char c.next.new.self here in
    record {
      ahead = tail_here t at char c.next.new.self here;
      since = elim c.if-not-is_in_word.branch [
        | then-not-is_in_word w ↦ subst (IsSince t c.args.from (at + 1)) (sym w.start-is)
            (begun_behind t c.args.from at c.loop-at.start char c.loop-at.invariant.since is (sym c.is_in_word.ensures ∙ w.if-not-is_in_word.true))
        | else-not-is_in_word w ↦ subst (IsSince t c.args.from (at + 1)) (sym w.start-is)
            (still_in t c.args.from at c.loop-at.start char c.loop-at.invariant.since is (sym c.is_in_word.ensures ∙ w.if-not-is_in_word.false))
      ];
    }

pub returns-clause-lower : goal.returns-clause-lower
returns-clause-lower c = c.loop-at.invariant.since.lower

pub returns-clause-word : goal.returns-clause-word
returns-clause-word c = let end : c.loop-at.at ≡ c.args.end = omega (arith, c.requires.ordered) in (
  omega (arith, c.loop-at.invariant.since.upper, end),
  λ i low high.
      c.loop-at.invariant.since.word i low (omega (arith, high, end)),
)

pub returns-clause-begins : goal.returns-clause-begins
returns-clause-begins c = c.loop-at.invariant.since.begins
