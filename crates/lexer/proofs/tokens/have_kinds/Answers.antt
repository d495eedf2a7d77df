use Rattle.lexer.proofs.Std.{arith, sym, ap, ◌≡◌, ◌∙◌, ◌-◌, ◌+◌, take, length, length-drop}
use Rattle.lexer.proofs.Common.{same_kinds, significant_kinds}
use Rattle.lexer.proofs.Walks.{tail_of_drop, take_one_more}
use Rattle.lexer.proofs.SignificantKinds.{none_left}
use Rattle.lexer.proofs.tokens.have_kinds.Goals as goal

pub loop-init : goal.loop-init
loop-init c = record { ahead = c.iter_from-ahead.ensures; left = ap (λ ts. same_kinds (significant_kinds (take (c.args.to - c.args.from) ts)) c.args.kinds.now) c.iter_from-ahead.ensures }

pub unreachable-requires : goal.unreachable-requires
unreachable-requires c =
    let none = sym c.loop.invariant.ahead ∙ c.in_default.ensures.steps.0 in
    omega (arith, c.requires.within, c.loop-test.true, ap length none, length-drop c.loop.counter c.args.items.now)

pub returns-in_default-without_kind : goal.returns-in_default-without_kind
returns-in_default-without_kind c =
    let n = c.args.to - (c.loop.counter + 1) in
    let ahead = ap (take (c.args.to - c.loop.counter)) c.in-Some.ensures.steps ∙ take_one_more c.next.new.self c.in-Some.token.now c.loop.counter c.args.to c.loop-test.true in
    sym (c.in_default-without_kind.ensures (take n c.next.new.self)) ∙ ap (λ ts. same_kinds (significant_kinds ts) c.loop.left.now) (sym ahead) ∙ c.loop.invariant.left

pub loop-preserved : goal.loop-preserved
loop-preserved c =
    let n = c.args.to - (c.loop.counter + 1) in
    let x = c.in-Some.token.now in
    let ahead = ap (take (c.args.to - c.loop.counter)) c.in-Some.ensures.steps ∙ take_one_more c.next.new.self x c.loop.counter c.args.to c.loop-test.true in
    record {
      ahead = tail_of_drop c.args.items.now c.next.new.self x c.loop.counter (sym c.in-Some.ensures.steps ∙ c.loop.invariant.ahead);
      left = sym (c.in-Some-without_kind.ensures (take n c.next.new.self)) ∙ ap (λ ts. same_kinds (significant_kinds ts) c.loop.left.now) (sym ahead) ∙ c.loop.invariant.left;
    }

pub returns : goal.returns
returns c =
    let none : c.args.to - c.loop.counter ≡ 0 = omega (arith, c.loop-test.false) in
    sym (none_left c.loop.left.now) ∙ ap (λ n. same_kinds (significant_kinds (take n c.loop.ahead)) c.loop.left.now) (sym none) ∙ c.loop.invariant.left
