use Rattle.grammar_file.proofs.Std.{◌∙◌, ap, sym, map, unwrap_or, length-map, bytes_eq}
use Rattle.grammar_file.proofs.Common.{number_of}
use Rattle.grammar_file.proofs.TestedItems.{place-map}
use Rattle.grammar_file.proofs.rules.Rules.number.Goals as goal

pub returns : goal.returns
returns c =
    let w = c.args.name.now in
    let rs = c.self.inside.rules.items in
    let lines = map (λ x. record { skip = x.skip; name = x.name.now; pattern = x.pattern.now }) rs in
    c.unwrap_or.ensures
    ∙ (λ i. unwrap_or ((c.copied.ensures ∙ c.get.ensures.value ∙ c.self.invariant w) i) ((c.len.ensures ∙ c.self.inside.rules.ok.0 ∙ sym (length-map rs (λ x. x.name.now))) i))
    ∙ place-map (λ v. bytes_eq v w) (λ x. x.name.now) rs
    ∙ sym (place-map (λ r. bytes_eq r.name w) (λ x. record { skip = x.skip; name = x.name.now; pattern = x.pattern.now }) rs)
    ∙ sym (place-map (λ v. bytes_eq v w) (λ r. r.name) lines)
    ∙ ap (λ ls. number_of w (map (λ r. r.name) ls)) c.self.view_is
