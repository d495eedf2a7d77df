use Rattle.std.proofs.Common.{◌≡◌, Some, rules, subst, sym}
use Rattle.definitions.specs.declared.Kind.TheVariants.{Invalid, Rule}
use Rattle.mending.proofs.Looks.{invalid_refused, rule_refused}
use Rattle.mending.specs.Seams.{DoesNotFollow}
use Rattle.mending.proofs.check.is_fault.Goals as goal

pub returns-in-Some-Rule : goal.returns-in-Some-Rule
returns-in-Some-Rule c g x are e =
    let is : c.args.kind ≡ Some (Rule c.in-Some-Rule.rule) = search rules in
    subst (DoesNotFollow g x) (sym is) (rule_refused g x c.args.looks.now c.in-Some-Rule.rule are (c.is_none_of.ensures e))

pub returns-in-Some-Invalid : goal.returns-in-Some-Invalid
returns-in-Some-Invalid c g x are _ =
    let is : c.args.kind ≡ Some Invalid = search rules in
    subst (DoesNotFollow g x) (sym is) (invalid_refused g x)
