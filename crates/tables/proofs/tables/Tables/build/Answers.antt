use Rattle.tables.proofs.Std.{ap, subst, sym, ◌∙◌, IfOk-weaker, IfErr-weaker}
use Rattle.tables.proofs.Common.{IsSound, Shape, HasNoConflict, IsLr1, HasOneTreeEach, no_conflict_lr1, one_tree_of_used, IsRight, RefutesLr1}
use Rattle.tables.proofs.Finishing.{refutes}
use Rattle.tables.proofs.tables.Tables.build.Goals as goal

pub returns : goal.returns
returns c =
    let copied = c.in_ok-productions.ensures in
    let g = c.in_ok-augmented.augmented.grammar in
    let same = ap (λ (a : Shape). a.grammar) c.in_ok-augmented.ensures ∙ copied.grammar in
    let sound = subst IsSound (sym c.in_ok-augmented.ensures) copied.sound in
    let t = c.tables_of.ensures in
    let r = c.tables_of.result in
    rw (← same) (record {
      grammar = t.grammar;
      free = t.free;
      lr1 = IfOk-weaker r (λ x. HasNoConflict g) (λ x. IsLr1 g) (λ x free. no_conflict_lr1 g free) t.free;
      one_tree = IfOk-weaker r (λ x. HasNoConflict g) (λ x. HasOneTreeEach g) (λ x free. one_tree_of_used g sound.productive free) t.free;
      few = t.few;
      refused = t.refused;
      refuted = IfErr-weaker r (IsRight g 8192) (RefutesLr1 g) (λ f h. refutes g 8192 sound.productive sound.distinct f h) t.refused;
    })
