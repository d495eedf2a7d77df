use Rattle.pieces.proofs.KnownPrefix.{position-next_line, position-same_line}
use Rattle.pieces.proofs.look_up.Prefix.position.Goals as goal

pub returns-then-not-before_feed : goal.returns-then-not-before_feed
returns-then-not-before_feed c = λ unit s r few is begins. position-next_line unit s r c.args.self c.args.before_feed c.saturating_add.result
    c.if-self.true c.if-not-before_feed.true c.saturating_add.ensures few is begins

pub returns : goal.returns
returns c = λ unit s r few is begins. position-same_line unit s r c.args.self c.args.before_feed c.else-self.either is begins
