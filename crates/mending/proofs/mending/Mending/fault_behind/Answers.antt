use Rattle.std.proofs.Common.{◌≡◌, ◌<◌, ◌++◌, ◌∙◌, length, rules, slice_get, slice_range, subst, sym, take}
use Rattle.std.specs.Prelude.{IfSome}
use Rattle.states.specs.Piles.{AreStatesAfter}
use Rattle.tables.specs.Expected.{AreExpected}
use Rattle.mending.proofs.Looks.{viable_of}
use Rattle.mending.specs.Seams.{DoesNotFollow, before_fault}
use Rattle.mending.proofs.mending.Mending.fault_behind.Goals as goal

pub returns : goal.returns
returns c =
    let t = c.args.tables.now in
    let g = t.grammar in
    let copy = c.args.self.now.copy.items in
    let kinds = c.args.self.now.origin.items in
    let seam = c.args.seam in
    let x = before_fault copy kinds seam c.args.fault in
    let looks = c.in_ok-looks.looks.items in
    let part : c.in-Some.kinds.now ≡ slice_range kinds seam.kind c.args.fault = search rules in
    let tables : c.in-Some-2.pile.tables ≡ t = subst (λ o. IfSome o (λ p. p.tables ≡ t)) c.in-Some-2.is c.in_ok-pile.ensures.tables in
    let at : AreStatesAfter t (take seam.copy copy) c.in-Some-2.pile.states =
    subst (λ o. IfSome o (λ p. AreStatesAfter t (take seam.copy copy) p.states)) c.in-Some-2.is (c.in_ok-pile.ensures.after copy c.requires) in
    let read = c.in_ok-read_all.ensures.after (take seam.copy copy) (subst (λ u. AreStatesAfter u (take seam.copy copy) c.in-Some-2.pile.states) (sym tables) at) c.if-not-branch.false in
    let after : AreStatesAfter t x c.read_all.new.self.states =
    subst (λ u. AreStatesAfter u x c.read_all.new.self.states) tables
    (subst (λ l. AreStatesAfter c.in-Some-2.pile.tables (take seam.copy copy ++ l) c.read_all.new.self.states) part read) in
    let on = c.in_ok-read_all.ensures.tables ∙ tables in
    let given : AreExpected g x c.expected.result =
    subst (λ u. AreExpected u.grammar x c.expected.result) on (c.expected.ensures x (subst (λ u. AreStatesAfter u x c.read_all.new.self.states) (sym on) after)) in
    let are : AreExpected g x looks = subst (AreExpected g x) (sym c.in_ok-looks.ensures) given in
    let some : 0 < length looks = search rules in
    let kind : c.kind.result ≡ slice_get kinds c.args.fault = search rules in
    record {
      ordered = search rules;
      inside = search rules;
      expected = are;
      viable = viable_of g x looks are some;
      refused = subst (DoesNotFollow g x) kind
          (c.is_fault.ensures g x (subst (AreExpected g x) (sym c.deref-else-is_empty.ensures.value) are) c.if-not-is_fault.false);
    }
