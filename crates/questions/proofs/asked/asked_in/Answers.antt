use Rattle.std.proofs.Common.{◌∙◌, rules}
use Rattle.std.proofs.lemmas.Result.{IfOk-weaker}
use Rattle.questions.proofs.Asking.{asked_unread, asked_value}
use Rattle.serde_json.specs.View.{view}
use Rattle.questions.proofs.asked.asked_in.Goals as goal

pub returns-in-Ok : goal.returns-in-Ok
returns-in-Ok c =
    let is = c.in-Ok.ensures.ok in
    IfOk-weaker c.asked_by.result _ _ (λ asked e. e ∙ asked_value c.args.content.now (view c.in-Ok.value) is.0 is.1) c.asked_by.ensures

pub returns-in-Err-2 : goal.returns-in-Err-2
returns-in-Err-2 c = asked_unread c.args.content.now (c.in-Err-2.ensures.err (search rules))
