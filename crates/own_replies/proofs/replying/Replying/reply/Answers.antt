use Rattle.std.proofs.Common.{rules, ◌≡◌, string_bytes, refl, subst, sym}
use Rattle.rpc.specs.Ids.{id_view}
use Rattle.editor_replies.specs.Sent.{message_view}
use Rattle.questions.specs.Asked.{a_grammar, asked_view}
use Rattle.own_replies.specs.Replies.{IsReply, IsTold}
use Rattle.own_replies.specs.Servers.{replying_state}
use Rattle.own_replies.proofs.replying.Replying.reply.Goals as goal

pub returns-in_ok-grammar_reply-in-Grammar : goal.returns-in_ok-grammar_reply-in-Grammar
returns-in_ok-grammar_reply-in-Grammar c =
    let old = replying_state c.args.self.now in
    let id = id_view c.args.id in
    let text = string_bytes c.in-Grammar.text in
    let message = message_view c.in_ok-grammar_reply-in-Grammar.field-0 in
    let read : c.as_str-in-Grammar.result.now ≡ text = search rules in
    let asked : asked_view c.args.asked ≡ a_grammar text = search rules in
    let told : IsTold id text message = subst (λ t. IsTold id t message) read c.in_ok-grammar_reply-in-Grammar.ensures in
    subst (λ a. IsReply old id a message old) (sym asked) (told, refl)
