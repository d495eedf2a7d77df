use Rattle.grammar_file.proofs.statements.File.test_early.Goals as goal

pub returns-in-Rule : goal.returns-in-Rule
returns-in-Rule c = rw c.in-Rule.is (c.test_rule.ensures c.in-Rule.skip c.in-Rule.pattern.now)
