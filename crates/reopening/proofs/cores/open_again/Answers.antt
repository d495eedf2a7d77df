use Rattle.std.proofs.Common.{◌≡◌, map, ◌++◌, ap, sym, subst, ◌∙◌, rules}
use Rattle.std.proofs.lemmas.List.{map-append}
use Rattle.replies.specs.Replies.{reply_view}
use Rattle.rpc.specs.Messages.{accepted, message_view}
use Rattle.server.specs.States.{state_view}
use Rattle.reopening.specs.Reopening.{Reopens}
use Rattle.reopening.proofs.Reopening.{opened_more}
use Rattle.reopening.proofs.cores.open_again.Goals as goal

pub returns : goal.returns
returns c = λ unit file before.
    let old = state_view c.args.old.now in
    let xs = map reply_view c.args.replies.now.items in
    let ys = map reply_view c.in_ok-answered.answered.replies.items in
    let r = accepted (message_view c.in-Some.message) in
    let mid = state_view c.args.server.now in
    let new = state_view c.handle.new.self in
    let more : Reopens old unit file (xs ++ ys) new =
    opened_more old mid new unit file xs ys r c.in_ok-answered.answered.stop before (search rules) c.in_ok-answered.ensures.step in
    let items : c.append.new.self.items ≡ c.args.replies.now.items ++ c.in_ok-answered.answered.replies.items = search rules in
    let all : map reply_view c.append.new.self.items ≡ xs ++ ys = ap (map reply_view) items ∙ map-append reply_view c.args.replies.now.items _ in
    subst (λ replies. Reopens old unit file replies new) (sym all) more
