use Rattle.std.proofs.Common.{rules}
use Rattle.grammar.proofs.FaultlessFile.{shown_of_file, is_sound, is_meant, is_fault}
use Rattle.grammar.proofs.read.read.Goals as goal

pub returns-in_err-statements-clause-fault : goal.returns-in_err-statements-clause-fault
returns-in_err-statements-clause-fault c = let h = shown_of_file c.args.text.now c.in_err-statements.field-0.0 c.in_err-statements.ensures.fault in search rules

pub grammar_of-requires-clause-grammar : goal.grammar_of-requires-clause-grammar
grammar_of-requires-clause-grammar c =
    let read = c.in_ok-statements.ensures in
    is_sound c.args.text.now c.in_ok-statements.field-0 read.whole read.written read.referents c.deref.result.now c.deref.ensures.value

pub returns-clause-grammar : goal.returns-clause-grammar
returns-clause-grammar c =
    let read = c.in_ok-statements.ensures in
    is_meant c.args.text.now c.in_ok-statements.field-0 read.whole read.written read.referents c.deref.result.now c.deref.ensures.value
    c.grammar_of.result c.grammar_of.ensures.productive c.grammar_of.ensures.grammar

pub returns-clause-fault : goal.returns-clause-fault
returns-clause-fault c =
    let read = c.in_ok-statements.ensures in
    is_fault c.args.text.now c.in_ok-statements.field-0 read.whole read.written read.referents c.deref.result.now c.deref.ensures.value c.grammar_of.result c.grammar_of.ensures.fault
