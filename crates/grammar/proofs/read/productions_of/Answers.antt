use Rattle.grammar.proofs.Std.{IfSome_then, err_from_is_err_and, ◌∙◌}
use Rattle.grammar.proofs.Common.{IsUnproductive, Reports, lines_view}
use Rattle.grammar.proofs.FaultlessFile.{productions_are, below, productive, unproductive_is}
use Rattle.grammar.proofs.read.productions_of.Goals as goal

pub test_productive-requires-clause-below : goal.test_productive-requires-clause-below
test_productive-requires-clause-below c =
    let ss = lines_view c.args.statements.now in
    let are = c.deref.ensures.value ∙ productions_are c.args.names.now ss c.in_ok-productions.productions.items c.requires c.in_ok-productions.ensures in
    below ss c.as_slice.result.now c.deref.result.now (c.as_slice.ensures ∙ c.requires.nonterminals) are

pub returns-in_err-test_productive-clause-fault : goal.returns-in_err-test_productive-clause-fault
returns-in_err-test_productive-clause-fault c =
    let ss = lines_view c.args.statements.now in
    let are = c.deref.ensures.value ∙ productions_are c.args.names.now ss c.in_ok-productions.productions.items c.requires c.in_ok-productions.ensures in
    let fault = c.in_err-test_productive.field-0.0 in
    let h : Reports fault (IsUnproductive ss) = IfSome_then _ c.in_err-test_productive.ensures.fault
    (unproductive_is ss c.as_slice.result.now c.deref.result.now (c.as_slice.ensures ∙ c.requires.nonterminals) are fault.line) in
    let p = err_from_is_err_and c.from_residual-in_err-test_productive.result c.from_residual-in_err-test_productive.ensures.1 in
    rw (p.1, p.2) h

pub returns-clause-productive : goal.returns-clause-productive
returns-clause-productive c =
    let ss = lines_view c.args.statements.now in
    let are = c.deref.ensures.value ∙ productions_are c.args.names.now ss c.in_ok-productions.productions.items c.requires c.in_ok-productions.ensures in
    productive ss c.as_slice.result.now c.deref.result.now (c.as_slice.ensures ∙ c.requires.nonterminals) are c.in_ok-test_productive.ensures.fine
