use Rattle.ide.proofs.Std.{[], ◌∷◌, map, refl, option_map, None}
use Rattle.ide.proofs.Common.{message_view, looks, state_of}
use Rattle.std.proofs.lemmas.Result.{on_err_weaker, on_ok_weaker}
use Rattle.server.proofs.Bytes.{on_err}
use Rattle.ide.specs.Servers.{written_view}
use Rattle.ide.proofs.Runs.{one_look}
use Rattle.ide.proofs.CutSessions.{part_nothing}
use Rattle.ide.proofs.stream.serve_look.Goals as goal

pub returns-clause-written : goal.returns-clause-written
returns-clause-written g c =
    let messages = map message_view c.in_ok-messages.messages.items in
    let old = state_of c.args.server.now in
    let new = state_of c.look-2.new.self in
    let files = option_map written_view c.in_ok-looked.looked.written in
    on_ok_weaker c.write_messages.result (λ w. record {
      events = looks files ∷ [];
      messages = messages;
      parts = refl;
      run = one_look files old new [] messages c.in_ok-messages.ensures;
      written = rw c.deref.ensures.value at w;
    }) c.write_messages.ensures.written

pub returns-clause-part : goal.returns-clause-part
returns-clause-part g c =
    let messages = map message_view c.in_ok-messages.messages.items in
    let old = state_of c.args.server.now in
    let new = state_of c.look-2.new.self in
    let files = option_map written_view c.in_ok-looked.looked.written in
    on_err_weaker c.write_messages.result (λ w. record {
      events = looks files ∷ [];
      left = [];
      messages = messages;
      stop = None;
      after = new;
      parts = refl;
      run = one_look files old new [] messages c.in_ok-messages.ensures;
      written = rw c.deref.ensures.value at w;
    }) c.write_messages.ensures.prefix

pub returns-in_err-looked-clause-part : goal.returns-in_err-looked-clause-part
returns-in_err-looked-clause-part g c = on_err _ _ (part_nothing (g.W.Output.contents c.args.output.now) (state_of c.args.server.now) [] [])

pub returns-in_err-messages-clause-part : goal.returns-in_err-messages-clause-part
returns-in_err-messages-clause-part g c = on_err _ _ (part_nothing (g.W.Output.contents c.args.output.now) (state_of c.args.server.now) [] [])
