use Rattle.colours.proofs.Std.{◌++◌, ◌≡◌, [], List, OnOk, append-nil, subst, sym}
use Rattle.colours.proofs.Common.{parts_in, within, AreEncoded, Part}
use Rattle.colours.proofs.Windows.{nearest, nothing_near}
use Rattle.colours.proofs.ranges.Window.push.Goals as goal

pub returns-then-start-end-clause-encoded : goal.returns-then-start-end-clause-encoded
returns-then-start-end-clause-encoded c parts is =
    let none : within c.args.self.from c.args.self.to (parts_in c.args.steps.now.unit c.args.steps.now.text c.args.from c.args.to c.args.colour) ≡ [] =
    nothing_near c.args.steps.now.unit c.args.steps.now.text c.args.from c.args.to c.not_above-start.result c.not_below-end.result c.args.self.from c.args.self.to
    c.requires.ordered c.requires.begins c.not_above-start.ensures c.not_below-end.ensures c.args.colour c.if-start-end.true in
    subst (λ (ps : List Part). AreEncoded (parts ++ ps) c.args.encoder.now.numbers.items c.args.encoder.now.last) (sym none)
    (subst (λ (ps : List Part). AreEncoded ps c.args.encoder.now.numbers.items c.args.encoder.now.last) (sym (append-nil parts)) is)

pub returns-clause-encoded : goal.returns-clause-encoded
returns-clause-encoded c =
    let same = nearest c.args.steps.now.unit c.args.steps.now.text c.args.from c.args.to c.not_above-start.result c.not_below-end.result c.args.self.from c.args.self.to
    c.requires.ordered c.requires.begins c.not_above-start.ensures c.not_below-end.ensures c.args.colour c.if-start-end.false in
    subst (λ (ps : List Part). OnOk c.push_token.result ((parts : List Part) → AreEncoded parts c.args.encoder.now.numbers.items c.args.encoder.now.last
    → AreEncoded (parts ++ ps) c.push_token.new.self.numbers.items c.push_token.new.self.last)) (sym same) c.push_token.ensures.encoded
