use Rattle.std.proofs.Common.{arith, subst, sym, All}
use Rattle.std.proofs.lemmas.List.Elements.{All-push}
use Rattle.token_rows.specs.Rows.{IsRowOf}
use Rattle.token_rows.proofs.rows.token_rows.Goals as goal

pub loop-token-preserved : goal.loop-token-preserved
loop-token-preserved c =
    let Is = IsRowOf c.args.doc.now.unit c.args.doc.now.text c.args.to in
    let is : Is _ = record {
      from = c.loop-token.at;
      to = _;
      ordered = omega arith;
      range = c.range_of-range.ensures;
      before = omega arith;
    } in
    record {
      rows = subst (All Is) (sym c.in_ok-push.ensures.items) (All-push Is c.loop-token.rows.items _ c.loop-token.invariant.rows is);
      at = omega arith;
    }
