use Rattle.std.proofs.Common.{◌∙◌, ap, arith}
use Rattle.std.specs.Prelude.{count_by}
use Rattle.lexer.specs.Tokens.{is_significant}
use Rattle.faults.proofs.later.number_of.Goals as goal

pub returns : goal.returns
returns c =
    let counted = c.significant.ensures ∙ ap (λ l. count_by is_significant l.items) c.tokens.ensures.is in
    omega (arith, c.min.ensures, c.saturating_add-number.ensures, c.saturating_sub-passed.ensures, c.significant.type_inv, counted)
