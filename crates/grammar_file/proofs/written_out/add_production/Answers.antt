use Rattle.grammar_file.proofs.Std.{sym, subst, on_ok_weaker}
use Rattle.grammar_file.proofs.Common.{Production, texts, lines_view, AreNames}
use Rattle.grammar_file.proofs.Lines.{names-step}
use Rattle.grammar_file.proofs.written_out.add_production.Goals as goal

pub returns-clause-names : goal.returns-clause-names
returns-clause-names c =
    on_ok_weaker c.add_line.result
    (λ same.
    subst (AreNames c.note.new.self) (sym same)
    (names-step c.args.names.now c.note.new.self (lines_view c.args.statements.now.items) 0 (Production c.args.left.now (texts c.in_ok-to_vec.field-0.items))
    c.requires.names c.in_ok-note.ensures.rules c.in_ok-note.ensures.nonterminals c.in_ok-note.ensures.marked
    c.in_ok-note.ensures.sides c.in_ok-note.ensures.productions c.in_ok-note.ensures.started c.in_ok-note.ensures.meanings))
    c.add_line.ensures
