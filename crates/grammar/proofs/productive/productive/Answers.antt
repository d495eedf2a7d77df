use Rattle.grammar.proofs.Std.{◌<◌, ◌∙◌, Bool, true, List, length, subst, arith, length-set, common_steps}
use Rattle.grammar.proofs.Common.{IsClosed, IsNext}
use Rattle.grammar.proofs.NonterminalMarks.{complete, sound_more, next_within}
use Rattle.grammar.proofs.productive.productive.Goals as goal

pub returns-clause-complete : goal.returns-clause-complete
returns-clause-complete c =
    complete c.args.productions.now c.loop-nonterminal.marks.items
    (subst (λ (marks : List Bool). IsClosed c.args.productions.now marks) c.deref.ensures.value c.in_default.ensures)

pub loop-nonterminal-preserved : goal.loop-nonterminal-preserved
loop-nonterminal-preserved c =
    let marks = c.loop-nonterminal.marks.items in
    let next = subst (λ (m : List Bool). IsNext c.args.productions.now m c.in-Some.nonterminal) c.deref.ensures.value c.in-Some.ensures in
    let below = next_within c.args.productions.now marks c.in-Some.nonterminal c.args.nonterminals c.requires next in
    let within : c.in-Some.nonterminal < length marks = omega arith in
    (length-set marks c.in-Some.nonterminal true ∙ c.loop-nonterminal.invariant.0, sound_more c.args.productions.now marks c.in-Some.nonterminal within c.loop-nonterminal.invariant.1 next)

pub loop-nonterminal-smaller : goal.loop-nonterminal-smaller
loop-nonterminal-smaller c = grind (arith, common_steps)

pub loop-nonterminal-init : goal.loop-nonterminal-init
loop-nonterminal-init c = grind (arith, common_steps)
