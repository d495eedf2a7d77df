use Rattle.runs.proofs.Std.{arith, sym, ap, ◌∙◌, ◌≡◌, ◌+◌, length, Some, None, slice_get, option_copied}
use Rattle.runs.proofs.Common.{past_chunk, within_chunks}
use Rattle.runs.proofs.FirstReached.{IsFound, located_none, located_in}
use Rattle.runs.proofs.list.Runs.locate.Goals as goal

nowhere : (g : _) (c : goal.In_default g) → IsFound g.T.Sum.Monoid.empty g.T.Sum.Monoid.op g.T.Measured.measure
    (g.G.Goal.reaches c.args.goal.now) c.args.self.now c.find-found.result.before.items c.find-found.result.before.sum
nowhere g c =
    let runs = c.seq-runs.result.now in
    let place = c.find-found.result.place in
    let none : slice_get runs place ≡ None = sym c.find-found.ensures.item ∙ ap option_copied c.in_default.is in
    located_none g.T.Measured.measure g.met.T.Sum.Monoid.laws (g.G.Goal.reaches c.args.goal.now) (λ x y h. g.met.G.Goal.stays c.args.goal.now x y h) runs
    c.args.self.now c.seq-runs.ensures.items (omega (arith, c.seq-runs.ensures.counted, ap length c.seq-runs.ensures.items)) place c.find-found.result.before
    c.find-found.ensures.before c.find-found.ensures.not_before (omega (arith, past_chunk runs place none, c.find-found.ensures.within))

pub returns-in_default-clause-within : goal.returns-in_default-clause-within
returns-in_default-clause-within g c = (nowhere g c).within

pub returns-in_default-clause-before : goal.returns-in_default-clause-before
returns-in_default-clause-before g c = (nowhere g c).before

pub returns-in_default-clause-not_before : goal.returns-in_default-clause-not_before
returns-in_default-clause-not_before g c = (nowhere g c).not_before

pub returns-in_default-clause-reached : goal.returns-in_default-clause-reached
returns-in_default-clause-reached g c = (nowhere g c).reached_at

somewhere : (g : _) (c : goal.After-locate_in-within g) → IsFound g.T.Sum.Monoid.empty g.T.Sum.Monoid.op g.T.Measured.measure (g.G.Goal.reaches c.args.goal.now) c.args.self.now
    (c.find-found.result.before.items + c.locate_in-within.result.0) c.locate_in-within.result.1
somewhere g c =
    let runs = c.seq-runs.result.now in
    let place = c.find-found.result.place in
    let run = c.in-Some.run'.now in
    let at : Some run ≡ slice_get runs place = ap option_copied (sym c.in-Some.is) ∙ c.find-found.ensures.item in
    located_in g.T.Measured.measure g.met.T.Sum.Monoid.laws (g.G.Goal.reaches c.args.goal.now) (λ x y h. g.met.G.Goal.stays c.args.goal.now x y h) runs c.args.self.now
    c.seq-runs.ensures.items (omega (arith, c.seq-runs.ensures.counted, ap length c.seq-runs.ensures.items)) place c.find-found.result.before c.find-found.ensures.before
    c.find-found.ensures.not_before run at (c.find-found.ensures.reached (within_chunks runs place run at)) c.items.result.now c.items.ensures.same
    c.items.ensures.some c.locate_in-within.result.0 c.locate_in-within.result.1 c.locate_in-within.ensures

pub overflow_add-result : goal.overflow_add-result
overflow_add-result g c = omega (arith, (somewhere g c).within, c.seq-runs.ensures.counted, ap length c.seq-runs.ensures.items)

pub returns-clause-within : goal.returns-clause-within
returns-clause-within g c = (somewhere g c).within

pub returns-clause-before : goal.returns-clause-before
returns-clause-before g c = (somewhere g c).before

pub returns-clause-not_before : goal.returns-clause-not_before
returns-clause-not_before g c = (somewhere g c).not_before

pub returns-clause-reached : goal.returns-clause-reached
returns-clause-reached g c = (somewhere g c).reached_at
