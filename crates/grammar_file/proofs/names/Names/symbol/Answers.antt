use Rattle.grammar_file.proofs.Std.{◌∙◌, ap, sym, map, unwrap_or, length-map}
use Rattle.grammar_file.proofs.Common.{Terminal}
use Rattle.grammar_file.proofs.NameMeanings.{nonterminal_is, rule_is}
use Rattle.grammar_file.proofs.names.Names.symbol.Goals as goal

pub returns-in-Some : goal.returns-in-Some
returns-in-Some c =
    let names = c.args.self.now in
    let means = c.of-meaning.ensures ∙ c.requires c.args.name.now in
    nonterminal_is names.nonterminals (map (λ r. r.name) names.rules) c.args.name.now c.in-Some.nonterminal (sym (ap (λ m. m.nonterminal) means) ∙ c.in-Some.is)

pub returns-in-None : goal.returns-in-None
returns-in-None c =
    let names = c.args.self.now in
    let means = c.of-meaning.ensures ∙ c.requires c.args.name.now in
    ap Terminal (c.unwrap_or.ensures ∙ (λ i. unwrap_or (means i).rule ((c.len.ensures ∙ sym (length-map names.rules (λ r. r.name))) i)))
    ∙ rule_is names.nonterminals (map (λ r. r.name) names.rules) c.args.name.now (sym (ap (λ m. m.nonterminal) means) ∙ c.in-None.is)
