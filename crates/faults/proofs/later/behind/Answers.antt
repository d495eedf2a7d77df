use Rattle.std.proofs.Common.{◌∙◌, List, ap, drop, map, sym, take}
use Rattle.std.proofs.lemmas.Result.{IfOk-weaker}
use Rattle.definitions.specs.Answers.{range_of}
use Rattle.lexer.specs.Tokens.{plain}
use Rattle.mending.specs.declared.repair.Repair.{Repair}
use Rattle.readings.specs.Contents.{placed_parts}
use Rattle.faults.specs.Places.{span_of_fault}
use Rattle.faults.proofs.Placed.{first_of}
use Rattle.faults.proofs.later.behind.Goals as goal

pub returns-in-Some-clause-ranges : goal.returns-in-Some-clause-ranges
returns-in-Some-clause-ranges c language current =
    let unit = c.args.doc.now.unit in
    let text = c.args.doc.now.text in
    let later = c.in-Some.later.now in
    let range = λ (r : Repair). range_of unit text (span_of_fault text (placed_parts language.file (map plain c.args.doc.now.tokens.items)) r) in
    let repairs = sym c.repairs.ensures ∙ c.in-Some.ensures.cases.0 in
    let told = first_of later c.min-told.result 19 c.min-told.ensures ∙ sym (ap (λ (l : List Repair). take 19 (drop 1 l)) repairs) in
    IfOk-weaker c.faults_of.result _ _ (λ faults is. is ∙ ap (map range) told) (c.faults_of.ensures.ranges language current)
