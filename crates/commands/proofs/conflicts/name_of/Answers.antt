use Rattle.commands.proofs.Std.{sym, ap, ◌∙◌, encode_utf8_all, encodes-chars}
use Rattle.commands.proofs.Common.{Symbol, name_bytes}
use Rattle.commands.proofs.conflicts.name_of.Goals as goal

pub returns-in-Rule : goal.returns-in-Rule
returns-in-Rule c =
    sym (encodes-chars c.kind_name.result.now c.kind_name.utf8) ∙ (ap encode_utf8_all c.kind_name.ensures ∙ ap (λ (s : Symbol). name_bytes c.args.grammar.now s) (sym c.in-Rule.is))

pub returns-in-Nonterminal : goal.returns-in-Nonterminal
returns-in-Nonterminal c =
    sym (encodes-chars c.nonterminal_name.result.now c.nonterminal_name.utf8)
    ∙ (ap encode_utf8_all c.nonterminal_name.ensures ∙ ap (λ (s : Symbol). name_bytes c.args.grammar.now s) (sym c.in-Nonterminal.is))
