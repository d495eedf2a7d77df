use Rattle.frames.proofs.Std.{subst, sym, ap, ◌∙◌, ◌≡◌, rules}
use Rattle.frames.proofs.Common.{Faulty, IsCut, tail_of}
use Rattle.frames.proofs.PrefixDecides.{fault_is}
use Rattle.frames.proofs.decoder.Decoder.finish.Goals as goal

pub returns-in-Some-clause-truncated : goal.returns-in-Some-clause-truncated
returns-in-Some-clause-truncated c =
    let kind = fault_is c.self.inside.rest.items c.self.inside.met c.in-Some.fault c.self.invariant.tail c.in-Some.is in
    let faulty : Faulty c.in-Some.fault ≡ c.args.self.now = ap (tail_of c.self.inside.rest.items) (sym c.in-Some.is) ∙ c.self.view_is in
    ((λ e. absurd (kind.0 (cc))), (λ h. absurd (subst IsCut (sym faulty) h)))

pub returns-in-Some-clause-kind : goal.returns-in-Some-clause-kind
returns-in-Some-clause-kind c = (fault_is c.self.inside.rest.items c.self.inside.met c.in-Some.fault c.self.invariant.tail c.in-Some.is).1

pub returns-in-None-2-clause-value : goal.returns-in-None-2-clause-value
returns-in-None-2-clause-value c = search rules

pub returns-in-None-2-clause-truncated : goal.returns-in-None-2-clause-truncated
returns-in-None-2-clause-truncated c = search rules
