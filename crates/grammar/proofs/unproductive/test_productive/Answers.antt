use Rattle.grammar.proofs.Std.{◌<◌, Bool, List, length, ap, subst, arith}
use Rattle.grammar.proofs.Common.{IsFirstUnmarked, Unproductive, lines_view}
use Rattle.grammar.proofs.Lefts.{named_has_production, text_at}
use Rattle.grammar.proofs.NonterminalMarks.{first_unproductive}
use Rattle.grammar.proofs.unproductive.test_productive.Goals as goal

pub first_line_of-line-requires : goal.first_line_of-line-requires
first_line_of-line-requires c =
    let first = subst (λ (m : List Bool). IsFirstUnmarked m c.in-Some.nonterminal) c.deref.ensures.value c.in-Some.ensures in
    let within : c.in-Some.nonterminal < length c.args.names.now = omega (arith, first.within, c.in_ok-marks.ensures.len) in
    named_has_production c.args.names.now (lines_view c.args.statements.now) c.in-Some.nonterminal _ c.requires.names within

pub returns-clause-fault : goal.returns-clause-fault
returns-clause-fault c =
    let first = subst (λ (m : List Bool). IsFirstUnmarked m c.in-Some.nonterminal) c.deref.ensures.value c.in-Some.ensures in
    let within : c.in-Some.nonterminal < length c.args.names.now = omega (arith, first.within, c.in_ok-marks.ensures.len) in (
      c.in-Some.nonterminal,
      (
        _,
        text_at c.args.names.now c.in-Some.nonterminal _ within,
        ap Unproductive c.in_ok-name-in-Some.ensures.ok,
        first_unproductive c.args.productions.now c.in_ok-marks.marks.items c.in-Some.nonterminal c.in_ok-marks.ensures.sound c.in_ok-marks.ensures.complete first,
        c.first_line_of-line.ensures,
      ),
    )
