use Rattle.grammar.proofs.Std.{◌∙◌, sym, subst}
use Rattle.grammar.proofs.Common.{IsUsed}
use Rattle.grammar.proofs.NotesOfUses.{rule_used}
use Rattle.grammar.proofs.notes.is_used.Goals as goal

pub returns-in-Rule : goal.returns-in-Rule
returns-in-Rule c = λ g same all.
    let r = rule_used g c.args.productions.now c.args.marks.now c.in-Rule.rule same all in
    ((λ h. subst (λ s. IsUsed g s) (sym c.in-Rule.is) (r.0 (sym c.uses_rule.ensures ∙ h))), (λ u. c.uses_rule.ensures ∙ r.1 (subst (λ s. IsUsed g s) c.in-Rule.is u)))
