-- What can be asked about a document.
use Rattle.rpc.specs.Messages.{Question, its_text, its_tokens, its_tree, its_folds, its_selections}
use Rattle.server.specs.declared.question.Question.{Question as Put}
use Rattle.server.specs.declared.question.Question.TheVariants as put

-- `question_view question`: a question of the code as a `Question`
abbrev pub question_view : Put → Question
question_view put.Text = its_text
question_view put.Tokens = its_tokens
question_view put.Tree = its_tree
question_view put.Folds = its_folds
question_view (put.Selections positions) = its_selections positions.items
