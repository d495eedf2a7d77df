use Rattle.server.proofs.Std.{◌≡◌, arith, ℕ, List, [], take, subst, sym, Option, Err, Result, Consumes, Keeps, err_from_is_err_and}
use Rattle.server.proofs.Common.{Tail, GoesOn, RunFault, FileGrammar, State, Session, Served, ServedInPart, IsCutShort, state_view}
use Rattle.server.proofs.Bytes.{is_open}
use Rattle.server.proofs.Loop.{IsReady, Fed, at_start, can_serve, fed, read_fails, input_ends, exits, stream_fails, answering_fails, feeding_fails}
use Rattle.server.proofs.CutSessions.{part_kept, served_kept}
use Rattle.server.proofs.stream.serve.Goals as goal

-- a piece is fed whose answers were written and passed on, where the stop is this one
flushed : {file : FileGrammar} {ri rm oo om mid : Option (List ℕ)} {fi fo : ℕ} {tail : Tail} {a b : State} {cs : List (List ℕ)} {answered stop : Option ℕ}
    (rn on : Option (List ℕ)) (new : Tail) (piece : List ℕ) → IsReady file ri rm fi oo om fo tail a → Consumes rm rn piece → GoesOn tail piece cs new
    → Served om mid a cs answered b → Keeps mid on → answered ≡ stop → Fed file ri rn oo on new b stop
flushed {file} {ri} {rm} {oo} {om} {mid} {fi} {fo} {tail} {a} {b} {cs} {answered} {stop} rn on new piece ready read goes served kept is =
    fed file ri rm rn oo om on fi fo tail new a b stop piece cs ready read goes (subst (λ o. Served om on a cs o b) is (served_kept om mid on a b cs answered served kept))

-- the session ends with the fault that cut the answers to a piece short
cut_off_by : {file : FileGrammar} {ri rm oo om : Option (List ℕ)} {fi fo : ℕ} {tail : Tail} {a : State} {cs : List (List ℕ)} {fault given : RunFault}
    {result : Result ℕ RunFault} (rn on : Option (List ℕ)) (failures : ℕ) (new : Tail) (piece : List ℕ) → IsReady file ri rm fi oo om fo tail a → Consumes rm rn piece
    → GoesOn tail piece cs new → ServedInPart om on a cs → given ≡ fault → IsCutShort fault failures → result ≡ Err given → Session file ri rn oo on result
cut_off_by {file} {ri} {rm} {oo} {om} {fi} {fo} {tail} {a} {cs} {fault} {given} {result} rn on failures new piece ready read goes part is cut passed =
    subst (Session file ri rn oo on) (sym passed)
    (answering_fails file given failures ri rm rn oo om on fi fo tail new a piece cs (subst (λ e. IsCutShort e failures) (sym is) cut) ready read goes part)

pub loop-count-init : goal.loop-count-init
loop-count-init g c = at_start (state_view c.args.server.now).file _ _ _ _ _ _ c.requires.input c.requires.output c.new-decoder.ensures c.requires.server

pub returns-in-Err-clause-session : goal.returns-in-Err-clause-session
returns-in-Err-clause-session g c = read_fails (state_view c.args.server.now).file _ _ _ _ _ _ _ _ _ c.loop-count.invariant c.in-Err.ensures.bytes

pub returns-then-count-eq0-clause-session : goal.returns-then-count-eq0-clause-session
returns-then-count-eq0-clause-session g c =
    let rm = g.R.Input.remaining c.loop-count.input in
    let rn = g.R.Input.remaining c.read.new.self in
    let none : Consumes rm rn [] = subst (λ n. Consumes rm rn (take n c.read.new.buf)) c.if-count-eq0.true c.in-Ok.ensures.bytes.0 in
    input_ends (state_view c.args.server.now).file c.end_of.result _ rm rn _ _ _ _ _ _ c.loop-count.invariant none (c.in-Ok.ensures.bytes.1 c.if-count-eq0.true (omega arith)) c.end_of.ensures

pub returns-in-Err-feed-clause-session : goal.returns-in-Err-feed-clause-session
returns-in-Err-feed-clause-session g c =
    let ri = g.R.Input.remaining c.args.input.now in
    let rn = g.R.Input.remaining c.read.new.self in
    let oo = g.W.Output.contents c.args.output.now in
    let om = g.W.Output.contents c.loop-count.output in
    let S : RunFault → Type 0 = λ e. Session (state_view c.args.server.now).file ri rn oo om (Err e) in
    let goes = c.in-Err-feed.ensures.goes_on in
    subst S (sym c.run_fault.ensures) (feeding_fails (state_view c.args.server.now).file c.requires.always c.in-Err-feed.fault _ _ rn _ om _ _ c.loop-count.decoder c.feed.new.self
    (state_view c.loop-count.server) _ c.loop-count.invariant c.in-Ok.ensures.bytes.0 c.in-Err-feed.ensures.fault goes.0 goes.1 goes.2)

pub serve_all-requires-clause-server : goal.serve_all-requires-clause-server
serve_all-requires-clause-server g c = can_serve (state_view c.args.server.now).file c.requires.always _ _ _ _ _ _ _ _ c.loop-count.invariant

pub returns-in_err-stop-in-Ok-feed-clause-session : goal.returns-in_err-stop-in-Ok-feed-clause-session
returns-in_err-stop-in-Ok-feed-clause-session g c =
    let p = err_from_is_err_and c.from_residual.result c.from_residual.ensures.1 in
    let stopped = c.in_err-stop-in-Ok-feed.ensures in
    cut_off_by (g.R.Input.remaining c.read.new.self) (g.W.Output.contents c.serve_all.new.output) (g.W.Output.failures c.serve_all.new.output) _ _
    c.loop-count.invariant c.in-Ok.ensures.bytes.0 c.in-Ok-feed.ensures.ok stopped.part p.2 stopped.device p.1

pub returns-in_err-flush-in-Ok-feed-clause-session :
    goal.returns-in_err-flush-in-Ok-feed-clause-session
returns-in_err-flush-in-Ok-feed-clause-session g c =
    let p = err_from_is_err_and c.from_residual-in_err-flush-in-Ok-feed.result c.from_residual-in_err-flush-in-Ok-feed.ensures.1 in
    let flushed = c.in_err-flush-in-Ok-feed.ensures in
    let part = part_kept _ _ (g.W.Output.contents c.flush.new.output) _ _ _ _ c.in_ok-stop-in-Ok-feed.ensures.written flushed.kept in
    cut_off_by (g.R.Input.remaining c.read.new.self) _ (g.W.Output.failures c.flush.new.output) _ _ c.loop-count.invariant c.in-Ok.ensures.bytes.0 c.in-Ok-feed.ensures.ok part p.2 flushed.fault p.1

pub returns-in-Some-clause-session : goal.returns-in-Some-clause-session
returns-in-Some-clause-session g c =
    exits _ _ _ _ _ c.feed.new.self _ c.in-Some.status
    (flushed (g.R.Input.remaining c.read.new.self) (g.W.Output.contents c.flush.new.output) c.feed.new.self _ c.loop-count.invariant c.in-Ok.ensures.bytes.0
    c.in-Ok-feed.ensures.ok c.in_ok-stop-in-Ok-feed.ensures.written c.in_ok-flush-in-Ok-feed.ensures.kept c.in-Some.is)

pub returns-in-Some-fault-clause-session : goal.returns-in-Some-fault-clause-session
returns-in-Some-fault-clause-session g c =
    stream_fails _ _ _ _ _ c.feed.new.self _ c.in-Some-fault.fault c.in-Some-fault.ensures
    (flushed (g.R.Input.remaining c.read.new.self) (g.W.Output.contents c.flush.new.output) c.feed.new.self _ c.loop-count.invariant c.in-Ok.ensures.bytes.0
    c.in-Ok-feed.ensures.ok c.in_ok-stop-in-Ok-feed.ensures.written c.in_ok-flush-in-Ok-feed.ensures.kept c.in_default.is)

pub loop-count-preserved : goal.loop-count-preserved
loop-count-preserved g c =
    let f = flushed (g.R.Input.remaining c.read.new.self) (g.W.Output.contents c.flush.new.output) c.feed.new.self _ c.loop-count.invariant c.in-Ok.ensures.bytes.0
    c.in-Ok-feed.ensures.ok c.in_ok-stop-in-Ok-feed.ensures.written c.in_ok-flush-in-Ok-feed.ensures.kept c.in_default.is in
    record {
      bytes = f.bytes;
      contents = f.contents;
      was_read = f.was_read;
      split = f.split;
      served = f.served;
      reads = c.in-Ok.ensures.cause;
      writes = c.in_ok-flush-in-Ok-feed.ensures.works;
      goes_on = is_open c.feed.new.self c.in_default-fault.ensures;
    }
