use Rattle.std.proofs.Common.{arith}
use Rattle.lexer.proofs.Scans.{made_more, next_few, next_one}
use Rattle.lexer.proofs.scan.Scan.scan_batch.Goals as goal
use Rattle.lexer.proofs.scan.Scan.scan_batch.Goals.{then-loop-at-test+else-len-lt-BATCH_LEN, else-loop-at-test}

pub loop-at-preserved : goal.loop-at-preserved
loop-at-preserved g c =
    let x = c.token_at-token.result in
    let h = c.loop-at.invariant in
    rw (c.in_ok-push.ensures.items, c.length.ensures)
    (next_one _ _ _ _ _ x h c.token_at-token.ensures.token
    (made_more _ _ _ x h.made c.token_at-token.ensures.marked c.token_at-token.ensures.born c.token_at-token.ensures.nonempty c.token_at-token.ensures.near) c.token_at-token.ensures.inside)

pub returns-clause-some : goal.returns-clause-some
returns-clause-some g c =
    let few = next_few _ _ _ _ _ c.loop-at.invariant in
    elim c.loop-at-test.branch [
      | then-loop-at-test+else-len-lt-BATCH_LEN w ↦ omega (arith, few, w.if-len-lt-BATCH_LEN, w.len-in-loop-at.ensures)
      | else-loop-at-test w ↦ omega (arith, w.loop-at-test, c.len.ensures, c.requires.within)
    ]
