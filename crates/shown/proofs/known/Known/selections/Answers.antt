use Rattle.std.proofs.Common.{◌≡◌, ◌∙◌, Vec, Global, inl, inr, length, map, refl, rules, sym}
use Rattle.std.proofs.lemmas.List.{length-map}
use Rattle.std.proofs.lemmas.Result.{IfOk-weaker}
use Rattle.definitions.specs.declared.Range.{Range}
use Rattle.shown.proofs.known.Known.selections.Goals as goal

pub returns-in_default : goal.returns-in_default
returns-in_default c = (map (λ (r : Vec Range Global). r.items) c.args.selections.items, refl, inl refl)

pub returns-in-Some-others : goal.returns-in-Some-others
returns-in-Some-others c =
    let items = λ (r : Vec Range Global). r.items in
    let old = c.args.selections.items in
    let new = c.in-Some-others.others.items in
    let same : length new ≡ length old = search rules in
    IfOk-weaker c.grown_selections.result _ _ (λ s e. (map items new, length-map new items ∙ same ∙ sym (length-map old items), inr e)) c.grown_selections.ensures
