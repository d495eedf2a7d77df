use Rattle.text.proofs.Std.{arith, ap, sym, ◌∙◌, ◌≡◌, ◌∷◌, ℕ, List, length, length-drop, drop, rules}
use Rattle.text.proofs.Common.{text_in}
use Rattle.text.proofs.NextPosition.{position-line, position-character, at_place}
use Rattle.text.proofs.places.Places.advance.Goals as goal

pub returns-in_default-clause-offset : goal.returns-in_default-clause-offset
returns-in_default-clause-offset c =
    let text : List ℕ = text_in c.loop.self-inside.pieces.now in
    let placed = c.loop.invariant.placed in
    omega (
      arith,
      c.loop.invariant.far,
      c.loop-test.true,
      placed.within,
      ap length (sym placed.ahead ∙ c.in_default.ensures.steps.0),
      length-drop c.loop.self-inside.offset text,
      ap length c.loop.invariant.text,
    )

pub position_after-self-inside-requires-clause-line : goal.position_after-self-inside-requires-clause-line
position_after-self-inside-requires-clause-line c =
    let placed = c.loop.invariant.placed in
    omega (arith, placed.within, placed.few, ap (λ p. p.line) placed.is, position-line c.loop.self-inside.unit (text_in c.loop.self-inside.pieces.now) c.loop.self-inside.offset placed.within)

pub position_after-self-inside-requires-clause-character : goal.position_after-self-inside-requires-clause-character
position_after-self-inside-requires-clause-character c =
    let placed = c.loop.invariant.placed in
    omega (arith, placed.within, placed.few, ap (λ p. p.character) placed.is, position-character c.loop.self-inside.unit (text_in c.loop.self-inside.pieces.now) c.loop.self-inside.offset)

pub loop-preserved : goal.loop-preserved
loop-preserved c =
    let text : List ℕ = text_in c.loop.self-inside.pieces.now in
    let offset = c.loop.self-inside.offset in
    let placed = c.loop.invariant.placed in
    let rest : List ℕ = c.next.new.self in
    let next : drop offset text ≡ c.in-Some.c ∷ rest = sym placed.ahead ∙ c.in-Some.ensures.steps in
    let at = at_place text rest offset c.in-Some.c next in
    record {
      placed = record { within = omega (arith, at.0); few = placed.few; ahead = at.2; is = c.position_after-self-inside.ensures text offset rest next c.peek.ensures placed.is };
      text = c.loop.invariant.text;
      unit = c.loop.invariant.unit;
      far = omega (arith, c.loop.invariant.far);
    }

pub returns-clause-offset : goal.returns-clause-offset
returns-clause-offset c = search rules
