use Rattle.completion.proofs.Std.{◌++◌, ◌≡◌, ◌∙◌, ◌∷◌, [], ap, append_assoc, arith, drop, slice_range, sym}
use Rattle.completion.proofs.Steps.{none_here, slice_more, tail_here}
use Rattle.completion.proofs.places.push_between.Goals as goal

pub unreachable-requires : goal.unreachable-requires
unreachable-requires c =
    let none : drop c.loop.counter c.args.text.now ≡ [] = sym c.loop.invariant.ahead ∙ c.in_default.ensures.steps.0 in
    omega (arith, none_here c.args.text.now c.loop.counter none, c.loop-test.true, c.requires.within)

pub loop-preserved : goal.loop-preserved
loop-preserved c =
    let t = c.args.text.now in
    let at = c.loop.counter in
    let char = c.in-Some.character in
    let rest = c.next.new.self in
    let before = c.args.characters.now.items in
    let here : drop at t ≡ char ∷ rest = sym c.loop.invariant.ahead ∙ c.in-Some.ensures.steps in
    record {
      ahead = tail_here t at char rest here;
      characters = c.in_ok-push.ensures.items ∙ ap (λ l. l ++ char ∷ []) c.loop.invariant.characters ∙ append_assoc before (slice_range t c.args.from at) (char ∷ [])
          ∙ ap (λ l. before ++ l) (sym (slice_more t c.args.from at char rest c.loop.auto.counter here));
    }
