use Rattle.lexer.proofs.Std.{◌≡◌, ◌++◌, ◌∙◌, List, ap, arith, length, subst}
use Rattle.lexer.proofs.Common.{lexicon_of, AreNext, Token}
use Rattle.lexer.proofs.Scans.{next_all, next_few, next_join}
use Rattle.lexer.proofs.tokens.Tokens.scan.Goals as goal

pub append-requires : goal.append-requires
append-requires g c =
    let few = next_few _ _ _ _ _ c.loop-at.invariant in
    let more = next_few _ _ _ _ _ c.in_ok-batch.ensures.next in
    omega (arith, few, more, c.in_ok-batch.ensures.next.inside, c.requires.small)

pub loop-at-preserved : goal.loop-at-preserved
loop-at-preserved g c =
    let items = c.loop-at.items in
    let batch = c.in_ok-batch.batch.items in
    rw (c.in_ok-append.ensures ∙ ap (λ (xs : List Token). items ++ xs) c.deref.ensures.value) (next_join _ _ _ _ _ items batch c.loop-at.invariant c.in_ok-batch.ensures.next)

pub returns-clause-tokens : goal.returns-clause-tokens
returns-clause-tokens g c =
    let t = g.S.Source.text c.args.source.now in
    let next = subst (λ f. AreNext f t 0 c.loop-at.items c.loop-at.at) c.new-scan.ensures c.loop-at.invariant in
    let end : c.loop-at.at ≡ length t = omega (arith, next.inside, c.loop-at-test.false, c.len.ensures) in
    record { tokens = next_all _ _ _ (subst (λ n. AreNext (lexicon_of c.args.grammar.now) t 0 c.loop-at.items n) end next); marked = next.made.marked }
