use Rattle.ide.proofs.Std.{[], ◌∷◌, map, subst, sym, err_from_is_err_and, refl}
use Rattle.ide.proofs.Common.{later_view, message_view, RunFault, ServedInPart, IsCutShort, comes, state_of}
use Rattle.ide.proofs.Runs.{one_run}
use Rattle.ide.proofs.CutSessions.{cut_off, part_nothing}
use Rattle.ide.proofs.stream.serve_content.Goals as goal

pub returns : goal.returns
returns g c =
    let messages = map message_view c.in_ok-sending.sending.messages.items in
    let before = state_of c.args.server.now in
    let after = state_of c.handle.new.self in
    let later = later_view c.args.later.now in
    record {
      written = record {
        events = comes c.args.content.items ∷ [];
        messages = messages;
        parts = refl;
        run = one_run c.args.content.items before later messages c.in_ok-sending.sending.stop after c.in_ok-sending.ensures;
        written = rw c.deref.ensures.value at c.in_ok-write_messages.ensures.written;
      };
      part = tt;
      device = c.in_ok-write_messages.ensures.works;
    }

pub returns-in_err-sending : goal.returns-in_err-sending
returns-in_err-sending g c =
    let out_bytes = g.W.Output.contents c.args.output.now in
    let failures = g.W.Output.failures c.args.output.now in
    let before = state_of c.args.server.now in
    let later = later_view c.args.later.now in
    let p = err_from_is_err_and c.from_residual.result c.from_residual.ensures.1 in
    let cut : IsCutShort p.0 failures = subst (λ (e : RunFault). IsCutShort e failures) (sym p.2) c.requires in
    cut_off out_bytes out_bytes failures before (c.args.content.items ∷ []) later _ _ p.0 p.1 cut (part_nothing out_bytes before (c.args.content.items ∷ []) later)

pub returns-in_err-write_messages : goal.returns-in_err-write_messages
returns-in_err-write_messages g c =
    let old = g.W.Output.contents c.args.output.now in
    let new = g.W.Output.contents c.write_messages.new.output in
    let failures = g.W.Output.failures c.write_messages.new.output in
    let messages = map message_view c.in_ok-sending.sending.messages.items in
    let before = state_of c.args.server.now in
    let after = state_of c.handle.new.self in
    let later = later_view c.args.later.now in
    let p = err_from_is_err_and c.from_residual-in_err-write_messages.result c.from_residual-in_err-write_messages.ensures.1 in
    let cut : IsCutShort p.0 failures = subst (λ (e : RunFault). IsCutShort e failures) (sym p.2) c.in_err-write_messages.ensures.fault in
    let part : ServedInPart old new before (c.args.content.items ∷ []) later = record {
      events = comes c.args.content.items ∷ [];
      left = [];
      messages = messages;
      stop = c.in_ok-sending.sending.stop;
      after = after;
      parts = refl;
      run = one_run c.args.content.items before later messages c.in_ok-sending.sending.stop after c.in_ok-sending.ensures;
      written = rw c.deref.ensures.value at c.in_err-write_messages.ensures.prefix;
    } in
    cut_off old new failures before (c.args.content.items ∷ []) later _ _ p.0 p.1 cut part
