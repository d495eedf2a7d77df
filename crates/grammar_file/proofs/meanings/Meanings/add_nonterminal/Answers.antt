use Rattle.grammar_file.proofs.Std.{hash_map_updates_str}
use Rattle.grammar_file.proofs.NameMeanings.{left_added}
use Rattle.grammar_file.proofs.meanings.Meanings.add_nonterminal.Goals as goal

pub returns : goal.returns
returns c ns rs long are =
    let m = c.of-meaning.result in
    left_added c.args.self.now.by_name.entries c.insert.new.self.entries c.args.name.now c.args.number m (record { nonterminal = c.or.result; rule = m.rule; skip = m.skip }) c.of-meaning.ensures
    (λ i. record { nonterminal = c.or.ensures i; rule = m.rule; skip = m.skip })
    (hash_map_updates_str c.args.name.now c.args.self.now.by_name c.insert.new.self _ c.in_ok-insert.ensures.updates) ns rs long are
