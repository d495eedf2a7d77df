use Rattle.views.proofs.Common.{shared_bytes}
use Rattle.views.proofs.RowsOfTokens.{IsReported}
use Rattle.views.proofs.rows.shared_rows.Given as goal

abbrev pub invariant-loop-token : goal.invariant-loop-token
invariant-loop-token l = IsReported shared_bytes l.fn.unit l.grammar l.text l.tokens.items l.rows.items l.places l.token-iterator
