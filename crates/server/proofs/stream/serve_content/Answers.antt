use Rattle.server.proofs.Std.{[], ◌∷◌, map, subst, sym, err_from_is_err_and}
use Rattle.server.proofs.Common.{received_of, received_in, reply_view, RunFault, ServedInPart, IsCutShort, state_view}
use Rattle.server.proofs.Runs.{step_of_received, one_run}
use Rattle.server.proofs.CutSessions.{cut_off, part_nothing}
use Rattle.server.proofs.stream.serve_content.Goals as goal

pub returns : goal.returns
returns g c =
    let answers = map reply_view c.in_ok-out.out.replies.items in
    let before = state_view c.args.server.now in
    let after = state_view c.handle.new.self in
    let step = step_of_received (received_of c.message_of-message.result) (received_in c.args.content.items) before answers
    c.in_ok-out.out.stop after c.message_of-message.ensures c.in_ok-out.ensures.step in
    record {
      written = record {
        answers = answers;
        run = one_run c.args.content.items before answers c.in_ok-out.out.stop after step;
        written = rw c.deref.ensures.value at c.in_ok-write_replies.ensures.written;
      };
      part = tt;
      device = c.in_ok-write_replies.ensures.works;
    }

pub returns-in_err-out : goal.returns-in_err-out
returns-in_err-out g c =
    let out_bytes = g.W.Output.contents c.args.output.now in
    let failures = g.W.Output.failures c.args.output.now in
    let before = state_view c.args.server.now in
    let p = err_from_is_err_and c.from_residual.result c.from_residual.ensures.1 in
    let cut : IsCutShort p.0 failures = subst (λ (e : RunFault). IsCutShort e failures) (sym p.2) c.requires.output in
    cut_off out_bytes out_bytes failures before (c.args.content.items ∷ []) _ _ p.0 p.1 cut (part_nothing out_bytes before c.requires.server (c.args.content.items ∷ []))

pub returns-in_err-write_replies : goal.returns-in_err-write_replies
returns-in_err-write_replies g c =
    let old = g.W.Output.contents c.args.output.now in
    let new = g.W.Output.contents c.write_replies.new.output in
    let failures = g.W.Output.failures c.write_replies.new.output in
    let answers = map reply_view c.in_ok-out.out.replies.items in
    let before = state_view c.args.server.now in
    let after = state_view c.handle.new.self in
    let p = err_from_is_err_and c.from_residual-in_err-write_replies.result c.from_residual-in_err-write_replies.ensures.1 in
    let cut : IsCutShort p.0 failures = subst (λ (e : RunFault). IsCutShort e failures) (sym p.2) c.in_err-write_replies.ensures.fault in
    let step = step_of_received (received_of c.message_of-message.result) (received_in c.args.content.items) before answers
    c.in_ok-out.out.stop after c.message_of-message.ensures c.in_ok-out.ensures.step in
    let part : ServedInPart old new before (c.args.content.items ∷ []) = record {
      answers = answers;
      stop = c.in_ok-out.out.stop;
      after = after;
      run = one_run c.args.content.items before answers c.in_ok-out.out.stop after step;
      written = rw c.deref.ensures.value at c.in_err-write_replies.ensures.prefix;
    } in
    cut_off old new failures before (c.args.content.items ∷ []) _ _ p.0 p.1 cut part
