use Rattle.server.proofs.Std.{subst, refl}
use Rattle.server.proofs.Common.{reply_view, IsPublished, state_view, if_ok_both, open_document}
use Rattle.server.proofs.Holding.{holds_open}
use Rattle.server.proofs.state.Server.announce.Goals as goal

pub returns-in_ok-publish-in-Open : goal.returns-in_ok-publish-in-Open
returns-in_ok-publish-in-Open c =
    let old = state_view c.args.self.now in
    let uri = c.args.uri.now in
    let d = c.in-Open.doc in
    let published = reply_view c.in_ok-publish-in-Open.field-0 in
    let is : IsPublished old.file uri (open_document d) published = subst (λ l. IsPublished (l.file) uri (open_document d) published) c.language-language.ensures c.in_ok-publish-in-Open.ensures in
    if_ok_both c.one_reply.result
    (λ out replies stop. holds_open old uri c.args.entry.now d c.in-Open.is published _ _ _ is replies stop refl)
    c.one_reply.ensures.replies
    c.one_reply.ensures.stop
