use Rattle.server.proofs.Std.{◌++◌, ℕ, List, [], ◌∷◌, subst, sym, ap, ◌∙◌, append_assoc, Option, Some, None, err_from_is_err_and, into_iter_items}
use Rattle.server.proofs.Common.{contents, RunFault, Served, ServedInPart, IsCutShort, state_view, run_serves}
use Rattle.server.proofs.CutSessions.{cut_off, part_on, part_then}
use Rattle.server.proofs.Bytes.{contents_more, contents_all}
use Rattle.server.proofs.Runs.{served_stops, served_then}
use Rattle.server.proofs.stream.serve_all.Goals as goal

pub serve_content-requires-clause-server : goal.serve_content-requires-clause-server
serve_content-requires-clause-server g c =
    let served = c.loop-frame.invariant.served in
    run_serves (contents c.loop-frame.yielded) (state_view c.args.server.now) served.answers None (state_view c.loop-frame.server) served.run c.requires.server

pub returns-in-Some-2 : goal.returns-in-Some-2
returns-in-Some-2 g c =
    let out_bytes = g.W.Output.contents in
    let first = state_view c.args.server.now in
    let mid = state_view c.loop-frame.server in
    let after = state_view c.serve_content.new.server in
    let old = out_bytes c.args.output.now in
    let between = out_bytes c.loop-frame.output in
    let new = out_bytes c.serve_content.new.output in
    let done = c.loop-frame.yielded in
    let frame = c.in-Some.frame in
    let rest = into_iter_items c.next.new.self in
    let here = subst (λ (o : Option ℕ). Served between new mid (frame.content.items ∷ []) o after) c.in-Some-2.is c.in_ok-status.ensures.written in
    let upto = served_then old between new first mid after (contents done) (frame.content.items ∷ []) (Some c.in-Some-2.status) c.loop-frame.invariant.served here in
    record {
      written = subst (λ (cs : List (List ℕ)). Served old new first cs (Some c.in-Some-2.status) after)
          (contents_all c.args.frames.items done rest frame (ap (λ l. done ++ l) (sym c.in-Some.ensures.steps.0) ∙ c.loop-frame.invariant.all))
          (served_stops old new first after _ (contents rest) c.in-Some-2.status upto);
      part = tt;
      device = c.in_ok-status.ensures.device;
    }

pub loop-frame-preserved : goal.loop-frame-preserved
loop-frame-preserved g c =
    let out_bytes = g.W.Output.contents in
    let first = state_view c.args.server.now in
    let mid = state_view c.loop-frame.server in
    let after = state_view c.serve_content.new.server in
    let old = out_bytes c.args.output.now in
    let between = out_bytes c.loop-frame.output in
    let new = out_bytes c.serve_content.new.output in
    let done = c.loop-frame.yielded in
    let frame = c.in-Some.frame in
    let rest = into_iter_items c.next.new.self in
    let here = subst (λ (o : Option ℕ). Served between new mid (frame.content.items ∷ []) o after) c.in_default.is c.in_ok-status.ensures.written in
    record {
      served = subst (λ (cs : List (List ℕ)). Served old new first cs None after) (sym (contents_more done frame))
          (served_then old between new first mid after (contents done) (frame.content.items ∷ []) None c.loop-frame.invariant.served here);
      works = c.in_ok-status.ensures.device;
      all = append_assoc done (frame ∷ []) rest ∙ ap (λ l. done ++ l) (sym c.in-Some.ensures.steps.0) ∙ c.loop-frame.invariant.all;
    }

pub returns-in_err-status : goal.returns-in_err-status
returns-in_err-status g c =
    let out_bytes = g.W.Output.contents in
    let frames = c.args.frames.items in
    let first = state_view c.args.server.now in
    let mid = state_view c.loop-frame.server in
    let old = out_bytes c.args.output.now in
    let between = out_bytes c.loop-frame.output in
    let new = out_bytes c.serve_content.new.output in
    let done = c.loop-frame.yielded in
    let frame = c.in-Some.frame in
    let rest = into_iter_items c.next.new.self in
    let failures = g.W.Output.failures c.serve_content.new.output in
    let p = err_from_is_err_and c.from_residual.result c.from_residual.ensures.1 in
    let cut : IsCutShort p.0 failures = subst (λ (e : RunFault). IsCutShort e failures) (sym p.2) c.in_err-status.ensures.device in
    let upto = part_then old between new first mid (contents done) (frame.content.items ∷ []) c.loop-frame.invariant.served c.in_err-status.ensures.part in
    let same = contents_all frames done rest frame (ap (λ l. done ++ l) (sym c.in-Some.ensures.steps.0) ∙ c.loop-frame.invariant.all) in
    let part = subst (λ (cs : List (List ℕ)). ServedInPart old new first cs) same (part_on old new first c.requires.server _ (contents rest) upto) in
    cut_off old new failures first (contents frames) _ _ p.0 p.1 cut part
