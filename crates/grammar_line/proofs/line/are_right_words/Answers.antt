use Rattle.grammar_line.proofs.Std.{rules, tests, ◌∙◌, sym, YieldsList-from_slice, all_from_yields_List, list_all-map}
use Rattle.grammar_line.proofs.Common.{is_right_word}
use Rattle.grammar_line.proofs.line.are_right_words.Goals as goal

pub returns : goal.returns
returns c =
    all_from_yields_List _ _ _ c.all.result c.all.ensures.ran (YieldsList-from_slice c.args.words.now (cc)) (λ x q k. search (rules, tests))
    ∙ sym (list_all-map (is_right_word c.args.version) (λ w. w.now) c.args.words.now)
