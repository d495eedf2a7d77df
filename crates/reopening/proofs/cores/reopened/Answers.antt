use Rattle.reopening.proofs.cores.reopened.Goals as goal

pub loop-uri-preserved : goal.loop-uri-preserved
loop-uri-preserved c = record { opened = c.in_ok-open_again.ensures c.args.unit c.args.language.file c.loop-uri.invariant.opened }
