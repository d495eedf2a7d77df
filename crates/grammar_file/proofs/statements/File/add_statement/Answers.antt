use Rattle.grammar_file.proofs.Std.{refl, sym, ap, ◌∙◌, ◌++◌, ◌∷◌, [], subst, IfSome_then, MatchResult-weaker}
use Rattle.grammar_file.proofs.Common.{at, defines, limit_fault, line_view, lines_view, AreNames}
use Rattle.grammar_file.proofs.Lines.{read-step, limit_line_fault}
use Rattle.grammar_file.proofs.statements.File.add_statement.Goals as goal

pub test_limits-requires-clause-names : goal.test_limits-requires-clause-names
test_limits-requires-clause-names c =
    subst (AreNames c.note.new.self.names) (sym (c.in_ok-add_line.ensures ∙ ap (λ ns. lines_view ns ++ at c.args.number (line_view c.args.line) ∷ []) c.in_ok-note.ensures.statements))
    (c.in_ok-note.ensures.names c.args.number)

pub returns-clause-read : goal.returns-clause-read
returns-clause-read c =
    let ss = lines_view c.args.self.now.statements.items in
    let said_is = c.in_ok-add_line.ensures ∙ ap (λ ns. lines_view ns ++ at c.args.number (line_view c.args.line) ∷ []) c.in_ok-note.ensures.statements in
    MatchResult-weaker c.test_limits.result c.test_limits.ensures
    (λ _ none.
    read-step c.args.self.now (record { statements = c.add_line.new.statements; names = c.note.new.self.names; patterns = c.note.new.self.patterns; defined = c.note.new.self.defined })
    ss c.args.number (line_view c.args.line) c.in_ok-pattern.pattern (defines ss (line_view c.args.line))
    c.requires c.in_ok-pattern.ensures.early c.in_ok-pattern.ensures.pattern c.in_ok-pattern.ensures.limit (ap limit_fault (sym said_is) ∙ none) said_is
    (c.in_ok-note.ensures.names c.args.number) c.in_ok-note.ensures.patterns refl c.in_ok-note.ensures.defined)
    (λ _ _. tt)

pub returns-clause-fault : goal.returns-clause-fault
returns-clause-fault c =
    let said_is = c.in_ok-add_line.ensures ∙ ap (λ ns. lines_view ns ++ at c.args.number (line_view c.args.line) ∷ []) c.in_ok-note.ensures.statements in
    MatchResult-weaker c.test_limits.result c.test_limits.ensures (λ _ _. tt)
    (λ _ shown. IfSome_then _ shown (λ cause is. limit_line_fault (lines_view c.args.self.now.statements.items) (lines_view c.add_line.new.statements.items) c.args.number
    (line_view c.args.line) c.in_ok-pattern.pattern cause said_is c.in_ok-pattern.ensures.early c.in_ok-pattern.ensures.pattern c.in_ok-pattern.ensures.limit is))
