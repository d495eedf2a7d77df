use Rattle.std.proofs.Common.{◌≤◌, All}
use Rattle.token_rows.specs.Rows.{IsRowOf}
use Rattle.token_rows.proofs.rows.token_rows.Given as goal

abbrev pub invariant-loop-token : goal.invariant-loop-token
invariant-loop-token l = record {
  rows : All (IsRowOf l.doc.unit l.doc.text l.fn.to) l.rows.items;
  at : l.at ≤ 18_446_744_073_709_551_615;
}
