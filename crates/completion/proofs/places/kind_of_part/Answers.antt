use Rattle.completion.proofs.Std.{◌≡◌, ◌∙◌, ℕ, ap, arith, cases_lt, inl, inr, slice_range, slice_set, subst, sym}
use Rattle.completion.proofs.Common.{IsLetter, IsPiece, Kind, typed}
use Rattle.completion.proofs.Matches.{none_after, some_after}
use Rattle.completion.proofs.Splits.{seam, typed_between}
use Rattle.completion.proofs.places.kind_of_part.Goals.{After-kind_before-kind}
use Rattle.completion.proofs.places.kind_of_part.Goals as goal

-- the text with this letter typed into it
typed_is : (c : After-kind_before-kind) → slice_set c.loop-letter.characters.items c.args.part c.from.result
    ≡ typed c.args.part c.loop-letter.letter (slice_range c.args.text.now c.args.start c.args.end)
typed_is c =
    ap (λ l. slice_set c.loop-letter.characters.items c.args.part l) c.from.ensures
    ∙ seam c.args.text.now c.args.start c.args.part c.args.end c.loop-letter.letter c.loop-letter.characters.items c.requires.ordered c.requires.within c.loop-letter.invariant.characters

pub returns-then-is_some : goal.returns-then-is_some
returns-then-is_some c rules automaton =
    let here = goal.at.returns-then-is_some c in
    let u = slice_range c.args.text.now c.args.start c.args.end in
    let part = c.args.part in
    let letter = c.loop-letter.letter in
    let set = slice_set c.loop-letter.characters.items part c.from.result in
    some_after ((kind : Kind) → ¬ IsPiece rules set kind part) ((c' : ℕ) (kind : Kind) → IsLetter c' → ¬ IsPiece rules (typed part c' u) kind part)
    (λ kind. IsPiece rules set kind part) (λ kind. (c' : ℕ) × IsLetter c' × IsPiece rules (typed part c' u) kind part) c.kind_before-kind.result
    (sym c.is_some.ensures ∙ c.if-is_some.true)
    (λ kind piece. (letter, (c.loop-letter.invariant.low, c.loop-letter-test.true), subst (λ l. IsPiece rules l kind part) (typed_is here.After-kind_before-kind) piece))
    (c.kind_before-kind.ensures.piece rules automaton)

pub loop-letter-preserved : goal.loop-letter-preserved
loop-letter-preserved c =
    let here = goal.at.loop-letter-preserved c in
    let t = c.args.text.now in
    let part = c.args.part in
    let u = slice_range t c.args.start c.args.end in
    let letter = c.loop-letter.letter in
    let set = slice_set c.loop-letter.characters.items part c.from.result in
    let is = typed_is here.After-kind_before-kind in
    record {
      low = omega (arith, c.loop-letter.invariant.low);
      characters = (letter, c.kind_before-kind.ensures.letter ∙ is ∙ typed_between t c.args.start part c.args.end letter c.requires.ordered);
      none = λ rules automaton c' kind low high. elim (cases_lt c' letter) [
        | inl lt ↦ c.loop-letter.invariant.none rules automaton c' kind low lt
        | inr ge ↦ λ piece.
            let same : letter ≡ c' = omega (arith, ge, high) in
            none_after ((kind : Kind) → ¬ IsPiece rules set kind part) (λ kind. IsPiece rules set kind part) c.kind_before-kind.result (sym c.is_some.ensures ∙ c.if-is_some.false)
            (c.kind_before-kind.ensures.piece rules automaton) kind (subst (λ l. IsPiece rules l kind part) (sym (is ∙ ap (λ d. typed part d u) same)) piece)
      ];
    }
