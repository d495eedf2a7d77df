use Rattle.server.proofs.session.run.Goals as goal

pub returns-clause-fresh : goal.returns-clause-fresh
returns-clause-fresh g c =
    let is = c.always_answers.ensures in
    c.every_answer_is_fresh.ensures c.args.language.file is.always is.once

pub returns-clause-alone : goal.returns-clause-alone
returns-clause-alone g c =
    let is = c.always_answers.ensures in
    c.each_document_is_alone.ensures.alone c.args.language.file is.once is.counts

pub returns-clause-by_history : goal.returns-clause-by_history
returns-clause-by_history g c =
    let is = c.always_answers.ensures in
    c.each_document_is_alone.ensures.by_history c.args.language.file is.once is.counts

pub returns-clause-left_out : goal.returns-clause-left_out
returns-clause-left_out g c =
    let is = c.always_answers.ensures in
    c.each_document_is_alone.ensures.left_out c.args.language.file is.once is.counts

pub returns-clause-too_large : goal.returns-clause-too_large
returns-clause-too_large g c = c.too_large_is_exact.ensures c.args.language.file

pub returns-clause-replies : goal.returns-clause-replies
returns-clause-replies g c = c.each_request_is_answered.ensures.replies

pub returns-clause-notifications : goal.returns-clause-notifications
returns-clause-notifications g c = c.each_request_is_answered.ensures.notifications

pub returns-clause-exit : goal.returns-clause-exit
returns-clause-exit g c = c.each_request_is_answered.ensures.exit
