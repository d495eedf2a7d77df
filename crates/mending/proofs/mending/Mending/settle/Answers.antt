use Rattle.std.proofs.Common.{arith, refl, subst, sym}
use Rattle.mending.specs.Mendings.{IsMended, With_none}
use Rattle.mending.proofs.mending.Mending.settle.Goals as goal

pub loop-repair-init : goal.loop-repair-init
loop-repair-init c =
    let kinds = c.args.self.now.origin.items in
    record {
      same = (refl, refl, refl, refl);
      within = (omega arith, omega arith);
      mended = subst (λ repairs. IsMended c.args.tables.now.grammar kinds repairs kinds) (sym c.new.ensures.items) With_none;
    }
