use Rattle.grammar_file.proofs.Std.{◌≡◌, ◌∙◌, ◌||◌, ap, sym, hash_map_updates_str}
use Rattle.grammar_file.proofs.Common.{rule_line}
use Rattle.grammar_file.proofs.NameMeanings.{rule_added}
use Rattle.grammar_file.proofs.meanings.Meanings.add_rule.Goals as goal
use Rattle.grammar_file.proofs.meanings.Meanings.add_rule.Goals.{then-meaning, else-meaning}

pub returns : goal.returns
returns c ns rs long are =
    let m = c.of-meaning.result in
    let skips : c.if-meaning.meaning ≡ (m.skip || c.args.rule.skip) = elim c.if-meaning.branch [
      | then-meaning w ↦ w.meaning-is ∙ w.if-meaning.true ∙ sym (ap (λ b. b || c.args.rule.skip) w.if-meaning.true)
      | else-meaning w ↦ w.meaning-is ∙ sym (ap (λ b. b || c.args.rule.skip) w.if-meaning.false)
    ] in
    rule_added c.args.self.now.by_name.entries c.insert.new.self.entries (rule_line c.args.rule) c.args.number m
    (record { nonterminal = m.nonterminal; rule = c.or.result; skip = c.if-meaning.meaning }) c.of-meaning.ensures (λ i. record { nonterminal = m.nonterminal; rule = c.or.ensures i; skip = skips i })
    (hash_map_updates_str c.args.rule.name.now c.args.self.now.by_name c.insert.new.self _ c.in_ok-insert.ensures.updates) ns rs long are
