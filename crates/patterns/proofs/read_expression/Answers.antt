use Rattle.patterns.proofs.Std.{sym, ◌∙◌, rules, arith, chars}
use Rattle.patterns.proofs.Common.{writing}
use Rattle.patterns.proofs.Readings.{is_writing, first_of, shown, shown_empty, is_pattern}
use Rattle.patterns.proofs.read_expression.Goals as goal

pub returns-in_err-expression-clause-fault : goal.returns-in_err-expression-clause-fault
returns-in_err-expression-clause-fault c =
    let w = is_writing (chars c.args.text.now) c.in_ok-characters.characters.items c.deref.result.now c.in_ok-words.words.items c.deref-2.result.now c.len.result
    c.in_ok-characters.ensures c.deref.ensures.value c.in_ok-words.ensures c.deref-2.ensures.value (omega (arith, c.in_ok-characters.characters.ok.0, c.len.ensures)) in
    let h = shown c.in_err-expression.field-0.0 (chars c.args.text.now) c.len.result (writing c.deref-2.result.now) w c.in_err-expression.ensures.fault in
    search rules

pub returns-then-matches_empty-clause-fault : goal.returns-then-matches_empty-clause-fault
returns-then-matches_empty-clause-fault c =
    let w = is_writing (chars c.args.text.now) c.in_ok-characters.characters.items c.deref.result.now c.in_ok-words.words.items c.deref-2.result.now c.len.result
    c.in_ok-characters.ensures c.deref.ensures.value c.in_ok-words.ensures c.deref-2.ensures.value (omega (arith, c.in_ok-characters.characters.ok.0, c.len.ensures)) in
    let h = c.in_ok-expression.ensures in
    shown_empty c.fault.result c.in_ok-expression.expression (chars c.args.text.now) c.len.result
    (writing c.deref-2.result.now) w h.no_fault h.spelled (sym c.if-matches_empty.ensures) c.fault.ensures

pub returns-clause-pattern : goal.returns-clause-pattern
returns-clause-pattern c =
    let w = is_writing (chars c.args.text.now) c.in_ok-characters.characters.items c.deref.result.now c.in_ok-words.words.items c.deref-2.result.now c.len.result
    c.in_ok-characters.ensures c.deref.ensures.value c.in_ok-words.ensures c.deref-2.ensures.value (omega (arith, c.in_ok-characters.characters.ok.0, c.len.ensures)) in
    let h = c.in_ok-expression.ensures in
    is_pattern c.in_ok-expression.expression (chars c.args.text.now) c.len.result (writing c.deref-2.result.now) w h.spelled h.sound (sym c.if-matches_empty.ensures)

pub returns-clause-no_fault : goal.returns-clause-no_fault
returns-clause-no_fault c =
    let w = is_writing (chars c.args.text.now) c.in_ok-characters.characters.items c.deref.result.now c.in_ok-words.words.items c.deref-2.result.now c.len.result
    c.in_ok-characters.ensures c.deref.ensures.value c.in_ok-words.ensures c.deref-2.ensures.value (omega (arith, c.in_ok-characters.characters.ok.0, c.len.ensures)) in
    first_of (chars c.args.text.now) c.len.result (writing c.deref-2.result.now) w ∙ c.in_ok-expression.ensures.no_fault

pub returns-clause-not_empty : goal.returns-clause-not_empty
returns-clause-not_empty c = search rules
