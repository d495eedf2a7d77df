use Rattle.std.proofs.Common.{◌∙◌, ◌∷◌, ◌++◌, [], ap, arith, length, length-append, map, subst, sym}
use Rattle.std.proofs.lemmas.List.{map-append, map_more}
use Rattle.std.proofs.lemmas.List.Elements.{All-push}
use Rattle.definitions.specs.Answers.{range_of}
use Rattle.lexer.specs.Tokens.{plain}
use Rattle.mending.specs.declared.repair.Repair.{Repair}
use Rattle.readings.specs.Contents.{placed_parts}
use Rattle.faults.specs.Places.{AreInText, IsInText, span_of_fault}
use Rattle.faults.specs.declared.later.FaultBehind.{FaultBehind}
use Rattle.faults.proofs.later.faults_of.Goals as goal

pub loop-repair-preserved : goal.loop-repair-preserved
loop-repair-preserved c =
    let unit = c.args.doc.now.unit in
    let text = c.args.doc.now.text in
    let old = c.loop-repair.faults.items in
    let fault = c.in_ok-fault_behind.field-0 in
    let item = c.repair-item.result in
    let pushed = c.in_ok-push.ensures.items in
    record {
      ranges = λ language current.
          let range = λ (r : Repair). range_of unit text (span_of_fault text (placed_parts language.file (map plain c.args.doc.now.tokens.items)) r) in
          let told = c.loop-repair.invariant.ranges language current in
          let here = c.in_ok-fault_behind.ensures.range language current ∙ ap range c.repair-item.is in
          ap (map (λ (f : FaultBehind). f.range)) pushed ∙ map-append (λ (f : FaultBehind). f.range) old (fault ∷ [])
          ∙ (λ i. told i ++ here i ∷ []) ∙ sym (map_more range c.args.later.now c.loop-repair.repair-index item c.loop-repair-test.true);
      places = subst (AreInText unit text) (sym pushed)
          (All-push (λ f. IsInText unit text f.range × IsInText unit text f.condition.range) old fault c.loop-repair.invariant.places c.in_ok-fault_behind.ensures.places);
      count = let longer = ap length pushed ∙ length-append old (fault ∷ []) in omega (arith, longer, c.loop-repair.invariant.count);
    }
