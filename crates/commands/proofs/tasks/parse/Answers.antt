use Rattle.commands.proofs.Std.{◌≡◌, ℕ, List, true, inr, subst, ap, ◌∙◌, rules, chars, IfOk-weaker}
use Rattle.commands.proofs.Common.{Encoding, Utf16, Outcome, IsOutcome, OpenDocument, fits}
use Rattle.commands.proofs.tasks.parse.Goals as goal

pub returns-in-Ok-open : goal.returns-in-Ok-open
returns-in-Ok-open c =
    let file = c.args.language.now.file in
    let same = c.in-Ok.ensures.cases.0 in
    let fit : fits (chars c.args.bytes.now) ≡ true = subst (λ (bytes : List ℕ). fits (chars bytes) ≡ true) same c.in-Ok-open.ensures.fits in
    let text = ap (λ (d : OpenDocument). d.text) c.in-Ok-open.ensures.is ∙ ap chars same in
    let unit = ap (λ (d : OpenDocument). d.unit) c.in-Ok-open.ensures.is in
    let is : (come : Outcome) → IsOutcome c.in-Ok-open.doc.unit file c.in-Ok-open.doc.text come → IsOutcome Utf16 file (chars c.args.bytes.now) come =
    λ come here. subst (λ (t : List ℕ). IsOutcome Utf16 file t come) text (subst (λ (e : Encoding). IsOutcome e file c.in-Ok-open.doc.text come) unit here) in
    IfOk-weaker c.document_report.result _ _ (λ printed p. inr (inr (c.in-Ok.ensures.cases.1, fit, (p.0, is p.0 p.1, p.2)))) c.document_report.ensures

pub returns-in-Err-TooLarge : goal.returns-in-Err-TooLarge
returns-in-Err-TooLarge c = search rules
