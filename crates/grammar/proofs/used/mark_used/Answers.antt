use Rattle.grammar.proofs.Std.{◌≡◌, ◌∙◌, arith, ◌<◌, Bool, true, false, List, sym, ap, length, set, subst, replicate, length-set, length-replicate, get_or-set_same}
use Rattle.grammar.proofs.Common.{IsSpread, IsReached, AreOnlyUsed}
use Rattle.grammar.proofs.NonterminalMarks.{fewer_unmarked}
use Rattle.grammar.proofs.UsedMarks.{used_more, all_used, reached_within, start_used, still_marked}
use Rattle.grammar.proofs.used.mark_used.Goals as goal

pub loop-nonterminal-init : goal.loop-nonterminal-init
loop-nonterminal-init c =
    let marks = c.in_ok-marks.marks.items in
    let blank : marks ≡ replicate c.args.nonterminals false = c.in_ok-marks.ensures.items_if_clones_equal (λ y e. e) in
    let long : length marks ≡ c.args.nonterminals = ap length blank ∙ length-replicate c.args.nonterminals false in (
      length-set marks c.args.start true ∙ long,
      get_or-set_same marks c.args.start true false (omega (arith, long, c.requires.start)),
      subst (λ (m : List Bool). AreOnlyUsed c.args.start c.args.productions.now (set m c.args.start true)) (sym blank)
          (start_used c.args.start c.args.nonterminals c.args.productions.now c.requires.start),
    )

pub loop-nonterminal-smaller : goal.loop-nonterminal-smaller
loop-nonterminal-smaller c =
    let marks = c.loop-nonterminal.marks.items in
    let next = subst (λ (m : List Bool). IsReached c.args.productions.now m c.in-Some.nonterminal) c.deref.ensures.value c.in-Some.ensures in
    let below : c.in-Some.nonterminal < c.args.nonterminals = reached_within c.args.productions.now marks c.in-Some.nonterminal c.args.nonterminals c.requires.within next in
    let within : c.in-Some.nonterminal < length marks = omega (arith, below, c.loop-nonterminal.invariant.0) in
    fewer_unmarked marks c.in-Some.nonterminal within next.on_right.unmarked

pub loop-nonterminal-preserved : goal.loop-nonterminal-preserved
loop-nonterminal-preserved c =
    let marks = c.loop-nonterminal.marks.items in
    let next = subst (λ (m : List Bool). IsReached c.args.productions.now m c.in-Some.nonterminal) c.deref.ensures.value c.in-Some.ensures in
    let below : c.in-Some.nonterminal < c.args.nonterminals = reached_within c.args.productions.now marks c.in-Some.nonterminal c.args.nonterminals c.requires.within next in
    let within : c.in-Some.nonterminal < length marks = omega (arith, below, c.loop-nonterminal.invariant.0) in (
      length-set marks c.in-Some.nonterminal true ∙ c.loop-nonterminal.invariant.0,
      still_marked marks c.in-Some.nonterminal c.args.start within c.loop-nonterminal.invariant.1,
      used_more c.args.start c.args.productions.now marks c.in-Some.nonterminal within c.loop-nonterminal.invariant.2 next,
    )

pub returns : goal.returns
returns c =
    let marks = c.loop-nonterminal.marks.items in
    let spread = subst (λ (m : List Bool). IsSpread c.args.productions.now m) c.deref.ensures.value c.in_default.ensures in
    record { only = c.loop-nonterminal.invariant.2; all = all_used c.args.start c.args.productions.now marks c.loop-nonterminal.invariant.1 spread }
