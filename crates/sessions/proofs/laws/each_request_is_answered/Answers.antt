use Rattle.sessions.proofs.Replied.{each_request_is_answered, no_notification_is_answered, nothing_is_sent_after_exit}
use Rattle.sessions.proofs.laws.each_request_is_answered.Goals as goal

pub returns-clause-replies : goal.returns-clause-replies
returns-clause-replies c = each_request_is_answered

pub returns-clause-notifications : goal.returns-clause-notifications
returns-clause-notifications c = no_notification_is_answered

pub returns-clause-exit : goal.returns-clause-exit
returns-clause-exit c = nothing_is_sent_after_exit
