use Rattle.completion.proofs.Mendings.{leave_out, none_left, put_in}
use Rattle.completion.proofs.before.make_one.Goals as goal

pub returns-then-made-kinds-clause-made : goal.returns-then-made-kinds-clause-made
returns-then-made-kinds-clause-made c rest = none_left c.args.made.now.kinds.items c.args.change rest c.args.kinds.now c.args.made.now.passed c.if-made-kinds.true

pub returns-in_ok-push-in-PutIn-clause-made : goal.returns-in_ok-push-in-PutIn-clause-made
returns-in_ok-push-in-PutIn-clause-made c rest =
    put_in c.args.made.now.kinds.items c.push.new.self.items c.args.change rest c.args.kinds.now c.args.made.now.passed c.in-PutIn.rule c.if-made-kinds.false c.in-PutIn.is
    c.in_ok-push-in-PutIn.ensures.items

pub returns-in-LeaveOut-clause-made : goal.returns-in-LeaveOut-clause-made
returns-in-LeaveOut-clause-made c rest = leave_out c.args.made.now.kinds.items c.args.change rest c.args.kinds.now c.args.made.now.passed c.if-made-kinds.false c.in-LeaveOut.is
