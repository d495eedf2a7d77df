use Rattle.ide.proofs.Std.{◌++◌, ℕ, List, [], ◌∷◌, subst, sym, ap, ◌∙◌, append_assoc, Option, Some, None, err_from_is_err_and, into_iter_items}
use Rattle.ide.proofs.Common.{contents, cancels, later_view, RunFault, Served, ServedInPart, IsCutShort, state_of}
use Rattle.server.proofs.Bytes.{contents_more, contents_all}
use Rattle.ide.proofs.InTurn.{later_more, one_more, part_more}
use Rattle.ide.proofs.CutSessions.{cut_off, part_nothing}
use Rattle.ide.proofs.Runs.{served_stops}
use Rattle.ide.proofs.stream.serve_all.Goals as goal

pub returns-in-Some-2 : goal.returns-in-Some-2
returns-in-Some-2 g c =
    let out_bytes = g.W.Output.contents in
    let first = state_of c.args.server.now in
    let mid = state_of c.loop-frame.server in
    let after = state_of c.serve_content.new.server in
    let old = out_bytes c.args.output.now in
    let between = out_bytes c.loop-frame.output in
    let new = out_bytes c.serve_content.new.output in
    let done = c.loop-frame.yielded in
    let frame = c.in-Some.frame in
    let rest = into_iter_items c.next.new.self in
    let all = into_iter_items c.loop-frame.frame-iterator in
    let later = later_view c.loop-frame.later.now in
    let here = subst (λ (o : Option ℕ). Served between new mid (frame.content.items ∷ []) later o after) c.in-Some-2.is c.in_ok-status.ensures.written in
    let upto = one_more old between new first mid after (contents done) frame rest all later (Some c.in-Some-2.status)
    c.in-Some.ensures.steps.0 c.loop-frame.invariant.later c.loop-frame.invariant.served here in
    record {
      written = subst (λ (cs : List (List ℕ)). Served old new first cs [] (Some c.in-Some-2.status) after)
          (contents_all c.args.frames.items done rest frame (ap (λ l. done ++ l) (sym c.in-Some.ensures.steps.0) ∙ c.loop-frame.invariant.all))
          (served_stops old new first after _ (contents rest) [] c.in-Some-2.status upto);
      part = tt;
      device = c.in_ok-status.ensures.device;
    }

pub returns-in_err-status : goal.returns-in_err-status
returns-in_err-status g c =
    let out_bytes = g.W.Output.contents in
    let frames = c.args.frames.items in
    let first = state_of c.args.server.now in
    let mid = state_of c.loop-frame.server in
    let old = out_bytes c.args.output.now in
    let between = out_bytes c.loop-frame.output in
    let new = out_bytes c.serve_content.new.output in
    let done = c.loop-frame.yielded in
    let frame = c.in-Some.frame in
    let rest = into_iter_items c.next.new.self in
    let all = into_iter_items c.loop-frame.frame-iterator in
    let later = later_view c.loop-frame.later.now in
    let failures = g.W.Output.failures c.serve_content.new.output in
    let p = err_from_is_err_and c.from_residual-in_err-status.result c.from_residual-in_err-status.ensures.1 in
    let cut : IsCutShort p.0 failures = subst (λ (e : RunFault). IsCutShort e failures) (sym p.2) c.in_err-status.ensures.device in
    let upto = part_more old between new first mid (contents done) frame rest all later c.in-Some.ensures.steps.0 c.loop-frame.invariant.later
    c.loop-frame.invariant.served c.in_err-status.ensures.part in
    let same = contents_all frames done rest frame (ap (λ l. done ++ l) (sym c.in-Some.ensures.steps.0) ∙ c.loop-frame.invariant.all) in
    let part = subst (λ (cs : List (List ℕ)). ServedInPart old new first cs []) same upto in
    cut_off old new failures first (contents frames) [] _ _ p.0 p.1 cut part

pub returns-in_err-cancels : goal.returns-in_err-cancels
returns-in_err-cancels g c =
    let out_bytes = g.W.Output.contents c.args.output.now in
    let failures = g.W.Output.failures c.args.output.now in
    let first = state_of c.args.server.now in
    let frames = c.args.frames.items in
    let p = err_from_is_err_and c.from_residual.result c.from_residual.ensures.1 in
    let cut : IsCutShort p.0 failures = subst (λ (e : RunFault). IsCutShort e failures) (sym p.2) c.requires in
    cut_off out_bytes out_bytes failures first (contents frames) [] _ _ p.0 p.1 cut (part_nothing out_bytes first (contents frames) [])

pub loop-frame-preserved : goal.loop-frame-preserved
loop-frame-preserved g c =
    let out_bytes = g.W.Output.contents in
    let first = state_of c.args.server.now in
    let mid = state_of c.loop-frame.server in
    let after = state_of c.serve_content.new.server in
    let old = out_bytes c.args.output.now in
    let between = out_bytes c.loop-frame.output in
    let new = out_bytes c.serve_content.new.output in
    let done = c.loop-frame.yielded in
    let frame = c.in-Some.frame in
    let rest = into_iter_items c.next.new.self in
    let all = into_iter_items c.loop-frame.frame-iterator in
    let steps = c.in-Some.ensures.steps.0 in
    let here = subst (λ (o : Option ℕ). Served between new mid (frame.content.items ∷ []) (later_view c.loop-frame.later.now) o after) c.in_default.is
    c.in_ok-status.ensures.written in
    let upto = one_more old between new first mid after (contents done) frame rest all (later_view c.loop-frame.later.now) None steps
    c.loop-frame.invariant.later c.loop-frame.invariant.served here in
    record {
      served = subst (λ (cs : List (List ℕ)). Served old new first cs (cancels (contents rest) ++ []) None after) (sym (contents_more done frame)) upto;
      later = later_more c.loop-frame.later.now c.others-later.result.now frame rest all steps c.loop-frame.invariant.later c.others-later.ensures;
      works = c.in_ok-status.ensures.device;
      all = append_assoc done (frame ∷ []) rest ∙ ap (λ l. done ++ l) (sym steps) ∙ c.loop-frame.invariant.all;
    }
