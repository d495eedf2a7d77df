use Rattle.std.proofs.Common.{◌≡◌, arith, subst}
use Rattle.std.specs.Prelude.{All}
use Rattle.std.proofs.lemmas.List.{take_all}
use Rattle.mending.proofs.Looks.{none_more}
use Rattle.mending.proofs.check.is_none_of.Goals as goal

pub loop-other-preserved : goal.loop-other-preserved
loop-other-preserved c =
    none_more c.args.looks.now c.args.look c.loop-other.other-index _ c.loop-other-test.true c.loop-other.invariant (c.is_look.ensures c.if-is_look.false)

pub returns : goal.returns
returns c _ =
    let looks = c.args.looks.now in
    subst (All (λ o. o ≡ c.args.look → ⊥)) (take_all c.loop-other.other-index looks (omega (arith, c.loop-other-test.false))) c.loop-other.invariant
