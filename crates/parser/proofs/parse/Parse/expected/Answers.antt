use Rattle.std.proofs.Common.{◌≡◌, refl, ap, subst}
use Rattle.parser.proofs.Expecting.{IsFault, ShowsExpected, expected}
use Rattle.parser.proofs.parse.Parse.expected.Goals as goal

pub returns-in-FaultAt : goal.returns-in-FaultAt
returns-in-FaultAt c kinds cells h =
    let parse = c.args.self.now in
    let t = c.args.tables.now in
    let f : IsFault parse.verdict = subst IsFault c.verdict.ensures c.in-FaultAt.is in
    let state : c.self.inside.state ≡ parse.state = ap (λ p. p.state) c.self.view_is in
    expected t kinds cells parse c.expects.result h parse.verdict refl f (subst (λ s. ShowsExpected t s c.expects.result) state c.expects.ensures)
