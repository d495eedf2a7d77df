use Rattle.grammar_file.proofs.Std.{◌∙◌, ap, sym, map, is_some, list_any, bytes_eq}
use Rattle.grammar_file.proofs.NameLookUps.{is_some-position}
use Rattle.grammar_file.proofs.TestedItems.{list_any-map}
use Rattle.grammar_file.proofs.rules.Rules.contains.Goals as goal

pub returns : goal.returns
returns c =
    let rs = c.self.inside.rules.items in
    c.contains_key.ensures ∙ ap is_some (c.self.invariant c.args.name.now) ∙ is_some-position (λ v. bytes_eq v c.args.name.now) (map (λ x. x.name.now) rs)
    ∙ list_any-map (λ v. bytes_eq v c.args.name.now) (λ x. x.name.now) rs
    ∙ sym (list_any-map (λ r. bytes_eq r.name c.args.name.now) (λ x. record { skip = x.skip; name = x.name.now; pattern = x.pattern.now }) rs)
    ∙ ap (list_any (λ r. bytes_eq r.name c.args.name.now)) c.self.view_is
