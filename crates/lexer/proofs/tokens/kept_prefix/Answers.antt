use Rattle.std.proofs.Common.{◌∙◌, ap}
use Rattle.lexer.proofs.Totals.{take_characters, take_significant}
use Rattle.lexer.proofs.Ends.{past_place, tokens_reach}
use Rattle.lexer.proofs.tokens.kept_prefix.Goals as goal

pub returns-clause-kept_before : goal.returns-clause-kept_before
returns-clause-kept_before c = λ rules t tokens.
    let xs = c.args.items.now in
    past_place c.args.edit.at xs c.locate-count.result.0 (tokens_reach rules t xs tokens c.requires.near) c.requires.short
    c.locate-count.ensures.not_before c.locate-count.ensures.within c.locate-count.ensures.reached

pub returns-clause-significant : goal.returns-clause-significant
returns-clause-significant c = ap (λ s. s.significant) c.locate-count.ensures.before ∙ take_significant c.locate-count.result.0 c.args.items.now c.requires

pub returns-clause-end : goal.returns-clause-end
returns-clause-end c = ap (λ s. s.characters) c.locate-count.ensures.before ∙ take_characters c.locate-count.result.0 c.args.items.now c.requires
