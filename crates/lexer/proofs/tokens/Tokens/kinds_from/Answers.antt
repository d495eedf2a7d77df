use Rattle.lexer.proofs.Std.{arith, ap, sym, ◌∙◌, ◌≡◌, inl, inr, drop, count_by, cases_lt, drop_all}
use Rattle.lexer.proofs.Common.{significant_kinds, is_significant}
use Rattle.lexer.proofs.SignificantKinds.{kinds_after, length-kinds}
use Rattle.lexer.proofs.Totals.{significant_before, none_past}
use Rattle.lexer.proofs.tokens.Tokens.kinds_from.Goals as goal

pub returns : goal.returns
returns c =
    let xs = c.self.inside.items in
    let p = c.locate-place.result.0 in
    let found = c.locate-place.ensures in
    let is : significant_kinds (drop p xs) ≡ drop c.args.k (significant_kinds xs) = elim (cases_lt c.args.k (count_by is_significant xs)) [
      | inl lt ↦ kinds_after xs c.args.k p (significant_before xs c.args.k p c.self.invariant lt found.within found.not_before found.reached)
      | inr ge ↦
          let past = none_past xs c.args.k p c.self.invariant ge found.within found.reached in
          ap significant_kinds (drop_all p xs past) ∙ sym (drop_all c.args.k (significant_kinds xs) (omega (arith, ge, length-kinds xs)))
    ] in
    c.new.ensures ∙ ap significant_kinds c.iter_from.ensures ∙ is ∙ ap (λ d. drop c.args.k (significant_kinds d.items)) c.self.view_is
