use Rattle.readings.proofs.EachReadingIsUnique.{answers_once}
use Rattle.readings.proofs.laws.answers_are_unique.Goals as goal

pub returns : goal.returns
returns c file free = answers_once (record {
  tokens = c.tokens_unique.ensures;
  verdicts = c.verdict_unique.ensures;
  trees = c.document_trees_unique.ensures;
  rules = c.expected_unique.ensures.rules;
  ends = c.expected_unique.ensures.ends;
  folds = c.folds_unique.ensures;
  selections = c.selection_unique.ensures;
}) file free
