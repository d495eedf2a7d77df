use Rattle.completion.proofs.Std.{◌++◌, ◌≡◌, ◌∙◌, ◌∷◌, [], ap, arith, drop, sym, take}
use Rattle.completion.proofs.Common.{significant_kinds}
use Rattle.completion.proofs.Steps.{none_here, tail_here}
use Rattle.completion.proofs.Significant.{kinds_skipped, kinds_taken}
use Rattle.completion.proofs.before.kinds_before.Goals.{then-not-is_skipped+in_ok-push, else-not-is_skipped}
use Rattle.completion.proofs.before.kinds_before.Goals as goal

pub unreachable-requires : goal.unreachable-requires
unreachable-requires c =
    let items = c.args.tokens.now.items in
    let none : drop c.loop.counter items ≡ [] = sym c.loop.invariant.ahead ∙ c.in_default.ensures.steps.0 in
    omega (arith, none_here items c.loop.counter none, c.loop-test.true, c.requires.within)

pub loop-preserved : goal.loop-preserved
loop-preserved c =
    let items = c.args.tokens.now.items in
    let n = c.loop.counter in
    let token = c.in-Some.token.now in
    let here : drop n items ≡ token ∷ c.next.new.self = sym c.loop.invariant.ahead ∙ c.in-Some.ensures.steps in
    record {
      ahead = tail_here items n token c.next.new.self here;
      kinds = elim c.if-not-is_skipped.branch [
        | then-not-is_skipped+in_ok-push w ↦
            ap (λ v. v.items) w.kinds-is ∙ w.in_ok-push.ensures.items ∙ ap (λ l. l ++ w.kind.result ∷ []) c.loop.invariant.kinds
            ∙ ap (λ k. significant_kinds (take n items) ++ k ∷ []) w.kind.ensures
            ∙ sym (kinds_taken items n token c.next.new.self here (sym c.is_skipped.ensures ∙ w.if-not-is_skipped.true))
        | else-not-is_skipped w ↦
            ap (λ v. v.items) w.kinds-is ∙ c.loop.invariant.kinds
            ∙ sym (kinds_skipped items n token c.next.new.self here (sym c.is_skipped.ensures ∙ w.if-not-is_skipped.false))
      ];
    }
