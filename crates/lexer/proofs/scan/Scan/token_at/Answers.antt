use Rattle.lexer.proofs.Std.{drop, subst, sym}
use Rattle.lexer.proofs.Common.{IsPiece, IsToken, IsAutomaton, Lexicon, Token, plain}
use Rattle.lexer.proofs.Scans.{rule_fits}
use Rattle.lexer.proofs.scan.Scan.token_at.Goals as goal

pub of_rule-short_kind-requires : goal.of_rule-short_kind-requires
of_rule-short_kind-requires g c =
    let rules = c.self.inside.grammar.now.patterns in
    let t = drop c.args.at (g.S.Source.text c.args.source.now) in
    let found = c.longest-found.result in
    rule_fits rules t found.rule found.length c.self.invariant.1 (c.longest-found.ensures.piece rules c.self.invariant.0 c.requires.within)

pub returns-clause-token : goal.returns-clause-token
returns-clause-token g c =
    let rules = c.args.self.now.patterns in
    let t = drop c.args.at (g.S.Source.text c.args.source.now) in
    let sound = subst (λ (f : Lexicon). IsAutomaton f.patterns c.self.inside.automaton.now) c.self.view_is c.self.invariant.0 in
    subst (λ (x : Token). IsToken rules t (plain x)) (sym c.new.ensures) (record {
      piece = subst (λ k. IsPiece rules t k c.longest-found.result.length) (sym c.of_rule-short_kind.ensures) (c.longest-found.ensures.piece rules sound c.requires.within);
      reach = c.longest-found.ensures.reach rules sound;
    })
