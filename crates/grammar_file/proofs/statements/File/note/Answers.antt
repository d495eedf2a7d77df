use Rattle.grammar_file.proofs.Common.{line_view, lines_view}
use Rattle.grammar_file.proofs.Lines.{names-step}
use Rattle.grammar_file.proofs.statements.File.note.Goals as goal

pub returns-clause-names : goal.returns-clause-names
returns-clause-names c n = names-step c.args.self.now.names c.note.new.self (lines_view c.args.self.now.statements.items) n
    (line_view c.args.line.now) c.requires.names c.in_ok-note.ensures.rules c.in_ok-note.ensures.nonterminals c.in_ok-note.ensures.marked
    c.in_ok-note.ensures.sides c.in_ok-note.ensures.productions c.in_ok-note.ensures.started c.in_ok-note.ensures.meanings
