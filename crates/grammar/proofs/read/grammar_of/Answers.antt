use Rattle.grammar.proofs.Std.{◌∙◌, sym}
use Rattle.grammar.proofs.Common.{lines_view, grammar_with}
use Rattle.grammar.proofs.FaultlessFile.{same_parts, made, start_within, all_within, are_notes}
use Rattle.grammar.proofs.read.grammar_of.Goals as goal

pub notes_of-requires-clause-start : goal.notes_of-requires-clause-start
notes_of-requires-clause-start c =
    let f = grammar_with (lines_view c.args.statements.now) c.args.patterns.items c.args.defined.items in
    start_within f c.in_ok-parts.parts c.in_ok-productions.productions.items (c.requires.grammar c.in_ok-productions.ensures.productive)
    (c.in_ok-parts.ensures c.args.patterns.items c.args.defined.items) c.in_ok-productions.ensures.productions

pub notes_of-requires-clause-within : goal.notes_of-requires-clause-within
notes_of-requires-clause-within c =
    let f = grammar_with (lines_view c.args.statements.now) c.args.patterns.items c.args.defined.items in
    all_within f c.in_ok-parts.parts c.deref.result.now (c.requires.grammar c.in_ok-productions.ensures.productive) (c.in_ok-parts.ensures c.args.patterns.items c.args.defined.items)
    (c.deref.ensures.value ∙ c.in_ok-productions.ensures.productions)

pub invariant_of-result : goal.invariant_of-result
invariant_of-result c =
    let f = grammar_with (lines_view c.args.statements.now) c.args.patterns.items c.args.defined.items in
    let sound = c.requires.grammar c.in_ok-productions.ensures.productive in
    let has = c.in_ok-parts.ensures c.args.patterns.items c.args.defined.items in
    let same = c.in_ok-productions.ensures.productions in (
      made f c.in_ok-parts.parts c.in_ok-productions.productions.items sound has same,
      are_notes f c.in_ok-parts.parts c.in_ok-productions.productions.items sound has same c.deref-2.result.now c.args.defined.items c.in_ok-notes.notes.items c.deref-2.ensures.value
          (c.in_ok-notes.ensures f has (sym same ∙ sym c.deref.ensures.value)),
    )

pub returns-clause-grammar : goal.returns-clause-grammar
returns-clause-grammar c =
    let f = grammar_with (lines_view c.args.statements.now) c.args.patterns.items c.args.defined.items in
    same_parts f c.in_ok-parts.parts c.in_ok-productions.productions.items (c.requires.grammar c.in_ok-productions.ensures.productive)
    (c.in_ok-parts.ensures c.args.patterns.items c.args.defined.items) c.in_ok-productions.ensures.productions
