use Rattle.session_rows.proofs.Uses.{ends_as_fresh, leaves_the_other, left_out_alike, mixed_alike, opens_silently, opens_small, opens_unicode, replies_alike, replies_in_order}
use Rattle.session_rows.proofs.any_session.promised.Goals as goal

pub returns-clause-mixed : goal.returns-clause-mixed
returns-clause-mixed c = mixed_alike c.args.language.file c.over.ensures.promises

pub returns-clause-leaves : goal.returns-clause-leaves
returns-clause-leaves c = leaves_the_other c.args.language.file c.over.ensures.promises

pub returns-clause-replies : goal.returns-clause-replies
returns-clause-replies c = replies_alike c.args.language.file c.over.ensures.promises

pub returns-clause-fresh : goal.returns-clause-fresh
returns-clause-fresh c = ends_as_fresh c.args.language.file c.over.ensures.promises

pub returns-clause-unicode : goal.returns-clause-unicode
returns-clause-unicode c = opens_unicode c.args.language.file c.over.ensures.promises

pub returns-clause-left_out : goal.returns-clause-left_out
returns-clause-left_out c = left_out_alike c.args.language.file c.over.ensures.promises

pub returns-clause-in_order : goal.returns-clause-in_order
returns-clause-in_order c = replies_in_order c.args.language.file c.over.ensures.promises

pub returns-clause-silent : goal.returns-clause-silent
returns-clause-silent c = opens_silently c.args.language.file c.over.ensures.promises

pub returns-clause-small : goal.returns-clause-small
returns-clause-small c = opens_small c.args.language.file c.over.ensures.promises
