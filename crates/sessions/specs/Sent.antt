-- What the code answers to a message, as plain data.
use Rattle.std.specs.Prelude.{List, map}
use Rattle.rpc.specs.Replies.{Answer, reply_view}
use Rattle.sessions.specs.declared.out.Out.{Out}

-- the answers that the code gives to a message, in the order in which they are sent
abbrev pub sent : Out → List Answer
sent out = map reply_view out.replies.items
