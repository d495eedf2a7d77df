use Rattle.lexer.proofs.Std.{◌≡◌, ◌+◌, suc, List, drop, ap, subst, ◌∙◌, arith, YieldsFirst}
use Rattle.lexer.proofs.Common.{Kind, significant_kinds}
use Rattle.lexer.proofs.SignificantKinds.{next_of}
use Rattle.lexer.proofs.tokens.Tokens.next_kind.Goals as goal

pub returns-clause-is : goal.returns-clause-is
returns-clause-is c =
    let kinds = significant_kinds c.args.self.now.items in
    (next_of kinds c.args.k c.next.new.self c.next.result (subst (λ (l : List Kind). YieldsFirst (λ s. s) l c.next.result c.next.new.self) c.requires c.next.ensures.steps)).0

pub returns-clause-moved : goal.returns-clause-moved
returns-clause-moved c =
    let kinds = significant_kinds c.args.self.now.items in
    let next : suc c.args.k ≡ c.args.k + 1 = omega arith in
    (next_of kinds c.args.k c.next.new.self c.next.result (subst (λ (l : List Kind). YieldsFirst (λ s. s) l c.next.result c.next.new.self) c.requires c.next.ensures.steps)).1
    ∙ ap (λ n. drop n kinds) next
