use Rattle.colours.proofs.Std.{◌≡◌, arith, on_ok_weaker}
use Rattle.colours.proofs.Encodings.{pushed_all, pushed_more}
use Rattle.colours.proofs.encoder.Encoder.push_between.Goals as goal

pub loop-line-preserved : goal.loop-line-preserved
loop-line-preserved c =
    pushed_more c.args.steps.now.unit c.args.steps.now.text c.args.colour c.args.from c.args.to c.args.self.now.numbers.items c.args.self.now.last c.loop-line.self.numbers.items
    c.loop-line.self.last c.loop-line.line c.loop-line.start c.end_of.result c.push_on.new.self.numbers.items c.push_on.new.self.last c.loop-line.invariant
    c.loop-line.auto.line c.loop-line-test.true c.end_of.ensures c.in_ok-push_on.ensures.encoded c.in_ok-push_on.ensures.last

pub returns-clause-encoded : goal.returns-clause-encoded
returns-clause-encoded c =
    let here : c.loop-line.line ≡ c.args.to.line = omega (arith, c.requires.ordered.lines) in
    on_ok_weaker c.push_on-2.result
    (pushed_all c.args.steps.now.unit c.args.steps.now.text c.args.colour c.args.from c.args.to c.args.self.now.numbers.items c.args.self.now.last c.loop-line.self.numbers.items
    c.loop-line.self.last c.loop-line.line c.loop-line.start c.push_on-2.new.self.numbers.items c.push_on-2.new.self.last c.loop-line.invariant
    c.loop-line.auto.line here) c.push_on-2.ensures.encoded
