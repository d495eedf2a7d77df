use Rattle.std.proofs.Common.{◌+◌, ◌++◌, ◌-◌, ◌≡◌, ◌≤◌, arith, drop, subst, sym, take}
use Rattle.std.specs.Prelude.{IfSome}
use Rattle.remedies.specs.Changes.{changed, passed}
use Rattle.mending.proofs.Checks.{next_repair}
use Rattle.mending.specs.Mendings.{IsMended}
use Rattle.mending.specs.Seams.{IsFaultAt, IsWithin, staged}
use Rattle.mending.specs.declared.repair.Repair.{Repair}
use Rattle.mending.proofs.mending.Mending.add.Goals as goal

pub returns-clause-mended : goal.returns-clause-mended
returns-clause-mended c =
    let g = c.args.tables.now.grammar in
    let copy = c.args.self.now.copy.items in
    let kinds = c.args.self.now.origin.items in
    let here = c.along-here.result in
    let to = c.in-Some-behind_changes.to in
    let given = c.args.repair in
    let r : Repair = record { fault = given.fault; expected = c.in-Some-2.expected; at = given.at; from = given.from; changes = given.changes; others = given.others } in
    let within : IsWithin copy kinds here = subst (λ l. IsWithin l kinds here) c.deref.ensures.value
    (subst (λ l. IsWithin c.deref.result.now l here) c.deref-2.ensures.value c.along-here.ensures.within) in
    let same : staged copy kinds here ≡ staged copy kinds c.args.seam = subst (λ l. staged l kinds here ≡ staged l kinds c.args.seam) c.deref.ensures.value
    (subst (λ l. staged c.deref.result.now l here ≡ staged c.deref.result.now l c.args.seam) c.deref-2.ensures.value c.along-here.ensures.same) in
    let made : staged copy kinds to ≡ take here.copy copy ++ changed given.changes.items (drop here.kind kinds) =
    subst (λ l. staged l kinds to ≡ take here.copy l ++ changed given.changes.items (drop here.kind kinds)) c.deref-3.ensures.value
    (subst (λ l. staged c.deref-3.result.now l to ≡ take here.copy c.deref-3.result.now ++ changed given.changes.items (drop here.kind l)) c.deref-4.ensures.value
    (subst (λ l. staged c.deref-3.result.now c.deref-4.result.now to ≡ take here.copy c.deref-3.result.now ++ changed l (drop here.kind c.deref-4.result.now))
    c.deref-5.ensures.value c.in-Some-behind_changes.ensures.made)) in
    let counted : to.kind ≡ here.kind + passed given.changes.items =
    subst (λ l. to.kind ≡ here.kind + passed l) c.deref-5.ensures.value c.in-Some-behind_changes.ensures.passed in
    let fault : IsFaultAt g copy kinds here c.in-Some.fault r.expected.items =
    subst (λ o. IfSome o (λ looks. IsFaultAt g copy kinds here c.in-Some.fault looks.items)) c.in-Some-2.is c.in_ok-expected.ensures in
    let on : given.at ≤ given.fault = omega (arith, c.if-repair.false) in
    let same_copy : here.copy ≡ given.at = omega (arith, c.if-here-repair.false) in
    let same_kind : here.kind ≡ given.from = omega (arith, c.if-here-repair-2.false) in
    let place : c.in-Some.fault ≡ given.from + (given.fault - given.at) = omega (arith, c.in-Some.ensures) in
    subst (λ l. IsMended g kinds l (staged copy kinds to)) (sym c.in_ok-push.ensures.items)
    (next_repair g copy kinds here within c.in-Some.fault r on same_copy same_kind place fault c.args.self.now.repairs.items c.args.seam to same c.requires.mended made counted
    (omega (arith, c.if-to-fault.false)))
