use Rattle.docs.proofs.Std.{[], subst, refl, ◌∙◌, ap}
use Rattle.docs.proofs.Common.{IsViable, Grammar, yield, AreMovesDecided, IsAccepted, Sets, placed_parts, LayersAnswer}
use Rattle.docs.proofs.laws.always_answers.Goals as goal

pub returns-clause-always : goal.returns-clause-always
returns-clause-always c =
    let file = c.args.language.now.file in
    let same = ap (λ (t : Sets). t.grammar) c.tables-2.ensures.is ∙ c.tables-2.ensures.grammar in
    let accepted : IsAccepted file.grammar = subst (λ (g : Grammar). IsAccepted g) same c.start-start.ensures.accepted in
    let decided : AreMovesDecided file.grammar = subst (λ (g : Grammar). AreMovesDecided g)
    (ap (λ (t : Sets). t.grammar) c.tables.ensures.is ∙ c.tables.ensures.grammar) c.moves_are_decided.ensures in
    let first = accepted.productive.start in
    let begins : IsViable file.grammar [] = (yield first.0, (first.0, record { root = first.1; kinds = refl })) in
    let always : LayersAnswer file = record {
      tokens = λ t text. c.each_text_has_tokens.ensures file.patterns c.automaton-automaton.result.now t c.automaton-automaton.ensures text;
      verdicts = λ kinds. c.each_list_has_a_verdict.ensures file.grammar accepted decided kinds;
      begins = begins;
      settled = λ x viable. c.settled_unique.ensures.exists file.grammar x viable;
      expected = λ x viable. c.each_viable_list_has_expected.ensures file.grammar accepted decided x viable;
      folds = λ t tokens trees. c.trees_have_folds.ensures file.grammar trees t (placed_parts file tokens) file.folds;
      selections = λ encoding t tokens trees symbols is roots few. c.each_offset_has_a_selection.ensures encoding file t tokens trees symbols is roots few;
    } in
    c.answers_exist.ensures file always

pub returns-clause-once : goal.returns-clause-once
returns-clause-once c =
    let file = c.args.language.now.file in
    let same = ap (λ (t : Sets). t.grammar) c.tables-2.ensures.is ∙ c.tables-2.ensures.grammar in
    let accepted : IsAccepted file.grammar = subst (λ (g : Grammar). IsAccepted g) same c.start-start.ensures.accepted in
    c.answers_are_unique.ensures file accepted.free

pub returns-clause-counts : goal.returns-clause-counts
returns-clause-counts c = c.edits_are_counted_once.ensures c.args.language.now.file (returns-clause-once c)

pub returns-clause-counted : goal.returns-clause-counted
returns-clause-counted c = c.edits_are_counted.ensures c.args.language.now.file (returns-clause-always c)
