use Rattle.text.proofs.Std.{rules, arith, ◌≡◌, ◌<◌, ℕ, slice_index_or, subst, true, All-more}
use Rattle.text.proofs.characters.passed.Goals as goal

pub loop-count-preserved : goal.loop-count-preserved
loop-count-preserved g c =
    let bytes = c.args.bytes.now in
    let byte = slice_index_or bytes c.loop-count.count 0 in
    let Passes : ℕ → Type 0 = λ x. (x < 128) × goal.F-post g c.args.test x true in
    let ascii : byte < 128 = search rules in
    let read : c.from.result ≡ byte = search rules in
    let passes : goal.F-post g c.args.test c.from.result true = search rules in
    record {
      inside = omega arith;
      passed = All-more Passes bytes c.loop-count.count 0 c.loop-count-test.true c.loop-count.invariant.passed (ascii, subst (λ x. goal.F-post g c.args.test x true) read passes);
    }
