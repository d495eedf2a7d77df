use Rattle.std.proofs.Common.{◌≡◌, ◌∙◌, rules, true, length}
use Rattle.std.specs.Prelude.{nat_le}
use Rattle.std.proofs.lemmas.Result.{IfOk-weaker}
use Rattle.questions.proofs.Asking.{cancelled_unread, cancelled_value}
use Rattle.questions.specs.Cancels.{longest_cancel}
use Rattle.serde_json.specs.View.{view}
use Rattle.questions.proofs.cancelling.cancelled_by.Goals as goal

pub returns-in-Ok : goal.returns-in-Ok
returns-in-Ok c =
    let is = c.in-Ok.ensures.ok in
    let short : nat_le (length c.args.content.now) longest_cancel ≡ true = search rules in
    IfOk-weaker c.cancelled_of.result _ _ (λ id e. e ∙ cancelled_value c.args.content.now (view c.in-Ok.value) short is.0 is.1) c.cancelled_of.ensures

pub returns-in-Err-2 : goal.returns-in-Err-2
returns-in-Err-2 c =
    let short : nat_le (length c.args.content.now) longest_cancel ≡ true = search rules in
    cancelled_unread c.args.content.now short (c.in-Err-2.ensures.err (search rules))
