-- What the loop of a session keeps, and what it leaves.
use Rattle.server.proofs.Std.{◌≡◌, ◌≢◌, ℕ, List, [], ◌++◌, refl, ap, sym, subst, inl, inr, ◌∙◌, append_assoc, Option, Some, None, Result, Ok, Err, Consumes, Keeps, IsAtEnd}
use Rattle.server.proofs.Common.{FrameFault, Tail, Open, Faulty, Splits, IsOpen, GoesOn, fault_of, finish_of, FileGrammar, AlwaysAnswers, RunFault, Frame, Read, Write, State, first_state, Session, Ends, CanServe, IsWritten, bytes_of, run_serves, first_serves}
use Rattle.server.proofs.Common.{Served, ServedInPart, IsCutShort, EndsAt, run_fault}
use Rattle.std.proofs.Common.{append-nil}
use Rattle.frames.specs.declared.fault.FrameFault.TheVariants as frame
use Rattle.sessions.specs.declared.fault.RunFault.TheVariants.{Memory}
use Rattle.server.proofs.Bytes.{Refuses, consumes_then, consumes_nothing, consumes_no_more, finish_faulty, reads_nothing}
use Rattle.server.proofs.Runs.{served_then, served_nothing}
use Rattle.server.proofs.CutSessions.{part_nothing, part_then}

-- the answers to the whole frames read so far are written
pub record IsReady (file : FileGrammar) (input_old input_new : Option (List ℕ)) (input_failures : ℕ) (output_old output_new : Option (List ℕ))
    (output_failures : ℕ) (tail : Tail) (state : State) : Type 0 where
  pub bytes : List ℕ
  pub contents : List (List ℕ)
  pub was_read : Consumes input_old input_new bytes
  pub split : Splits bytes contents tail
  pub served : Served output_old output_new (first_state file) contents None state
  pub reads : input_failures ≡ 0
  pub writes : output_failures ≡ 0
  pub goes_on : IsOpen tail

-- a piece is read, and the answers to it are written
pub record Fed (file : FileGrammar) (input_old input_new output_old output_new : Option (List ℕ)) (tail : Tail) (state : State) (stop : Option ℕ) : Type 0 where
  pub bytes : List ℕ
  pub contents : List (List ℕ)
  pub was_read : Consumes input_old input_new bytes
  pub split : Splits bytes contents tail
  pub served : Served output_old output_new (first_state file) contents stop state

pub fed : (file : FileGrammar) (ri rm rn oo om on : Option (List ℕ)) (fi fo : ℕ) (tail new : Tail) (a b : State) (stop : Option ℕ) (piece : List ℕ) (more : List (List ℕ))
    → IsReady file ri rm fi oo om fo tail a → Consumes rm rn piece → GoesOn tail piece more new → Served om on a more stop b → Fed file ri rn oo on new b stop
fed file ri rm rn oo om on fi fo tail new a b stop piece more ready read goes served = record {
  bytes = ready.bytes ++ piece;
  contents = ready.contents ++ more;
  was_read = consumes_then ri rm rn ready.bytes piece ready.was_read read;
  split = goes ready.bytes ready.contents ready.split;
  served = served_then oo om on (first_state file) a b ready.contents more stop ready.served served;
}

-- what was read so far has been answered, so what comes can be
pub can_serve : (file : FileGrammar) → AlwaysAnswers file → (ri rm oo om : Option (List ℕ)) (fi fo : ℕ) (tail : Tail) (a : State) → IsReady file ri rm fi oo om fo tail a → CanServe a
can_serve file total ri rm oo om fi fo tail a ready = run_serves ready.contents (first_state file) ready.served.answers None a ready.served.run (first_serves file total)

-- ---- the ends of a session

-- a session whose answers are all written
whole : (file : FileGrammar) (ri rn oo on : Option (List ℕ)) (tail : Tail) (state : State) (stop : Option ℕ) (f : Fed file ri rn oo on tail state stop)
    → (outcome : Result ℕ RunFault) → IsWritten outcome oo on (bytes_of f.served.answers) → Ends outcome rn tail stop → Session file ri rn oo on outcome
whole file ri rn oo on tail state stop f outcome written ends =
    record {
      bytes = f.bytes;
      contents = f.contents;
      tail = tail;
      answers = f.served.answers;
      stop = stop;
      after = state;
      was_read = f.was_read;
      split = f.split;
      run = f.served.run;
      written = written;
      ends = ends;
    }

-- a session of which a prefix of the answers is written
cut_short : (file : FileGrammar) (e : RunFault) (failures : ℕ) (ri rn oo on : Option (List ℕ)) (tail : Tail) (bytes : List ℕ) (contents : List (List ℕ))
    → IsCutShort e failures → Consumes ri rn bytes → Splits bytes contents tail → ServedInPart oo on (first_state file) contents → Session file ri rn oo on (Err e)
cut_short file Write failures ri rn oo on tail bytes contents cut read split p =
    record { bytes = bytes; contents = contents; tail = tail; answers = p.answers; stop = p.stop; after = p.after; was_read = read; split = split; run = p.run; written = p.written; ends = tt }
cut_short file Memory failures ri rn oo on tail bytes contents cut read split p =
    record { bytes = bytes; contents = contents; tail = tail; answers = p.answers; stop = p.stop; after = p.after; was_read = read; split = split; run = p.run; written = p.written; ends = tt }
cut_short file d failures ri rn oo on tail bytes contents cut read split p = absurd cut

-- nothing more is read
fed_nothing : (file : FileGrammar) (ri rm rn oo om : Option (List ℕ)) (fi fo : ℕ) (tail : Tail) (a : State)
    → IsReady file ri rm fi oo om fo tail a → Consumes rm rn [] → Fed file ri rn oo om tail a None
fed_nothing file ri rm rn oo om fi fo tail a ready read =
    record { bytes = ready.bytes; contents = ready.contents; was_read = consumes_no_more ri rm rn ready.bytes ready.was_read read; split = ready.split; served = ready.served }

-- the input fails
pub read_fails : (file : FileGrammar) (ri rm rn oo om : Option (List ℕ)) (fi fo : ℕ) (tail : Tail) (a : State)
    → IsReady file ri rm fi oo om fo tail a → Keeps rm rn → Session file ri rn oo om (Err Read)
read_fails file ri rm rn oo om fi fo tail a ready kept =
    let f = fed_nothing file ri rm rn oo om fi fo tail a ready (reads_nothing rm rn kept) in
    whole file ri rn oo om tail a None f (Err Read) f.served.written (refl, ready.goes_on)

-- the input ends
pub input_ends : (file : FileGrammar) (outcome : Result ℕ RunFault) (ri rm rn oo om : Option (List ℕ)) (fi fo : ℕ) (tail : Tail) (a : State)
    → IsReady file ri rm fi oo om fo tail a → Consumes rm rn [] → IsAtEnd rn → EndsAt outcome tail → Session file ri rn oo om outcome
input_ends file (Ok status) ri rm rn oo om fi fo tail a ready read at_end ends =
    let f = fed_nothing file ri rm rn oo om fi fo tail a ready read in
    whole file ri rn oo om tail a None f (Ok status) f.served.written (inr (refl, at_end, ends.0, ends.1))
input_ends file (Err (Frame fault)) ri rm rn oo om fi fo tail a ready read at_end ends =
    let f = fed_nothing file ri rm rn oo om fi fo tail a ready read in
    whole file ri rn oo om tail a None f (Err (Frame fault)) f.served.written (refl, ends, λ o. at_end)
input_ends file d ri rm rn oo om fi fo tail a ready read at_end ends = absurd ends

-- `exit` came
pub exits : (file : FileGrammar) (ri rn oo on : Option (List ℕ)) (tail : Tail) (b : State) (status : ℕ) → Fed file ri rn oo on tail b (Some status) → Session file ri rn oo on (Ok status)
exits file ri rn oo on tail b status f = whole file ri rn oo on tail b (Some status) f (Ok status) f.served.written (inl refl)

-- the stream is faulty after the frames that were answered
pub stream_fails : (file : FileGrammar) (ri rn oo on : Option (List ℕ)) (tail : Tail) (b : State) (fault : FrameFault) → Some fault ≡ fault_of tail
    → Fed file ri rn oo on tail b None → Session file ri rn oo on (Err (Frame fault))
stream_fails file ri rn oo on tail b fault is f = let ends = finish_faulty tail fault is in
    whole file ri rn oo on tail b None f (Err (Frame fault)) f.served.written (refl, ends.0, λ o. absurd (ends.1 o))

-- the output fails, or memory is refused, while a piece is answered
pub answering_fails : (file : FileGrammar) (e : RunFault) (failures : ℕ) (ri rm rn oo om on : Option (List ℕ)) (fi fo : ℕ) (tail new : Tail) (a : State)
    (piece : List ℕ) (more : List (List ℕ)) → IsCutShort e failures → IsReady file ri rm fi oo om fo tail a → Consumes rm rn piece
    → GoesOn tail piece more new → ServedInPart om on a more → Session file ri rn oo on (Err e)
answering_fails file e failures ri rm rn oo om on fi fo tail new a piece more cut ready read goes p =
    cut_short file e failures ri rn oo on new (ready.bytes ++ piece) (ready.contents ++ more) cut
    (consumes_then ri rm rn ready.bytes piece ready.was_read read) (goes ready.bytes ready.contents ready.split)
    (part_then oo om on (first_state file) a ready.contents more ready.served p)

-- a piece is refused
pub feeding_fails : (file : FileGrammar) → AlwaysAnswers file → (fault : FrameFault) (ri rm rn oo om : Option (List ℕ)) (fi fo : ℕ) (tail new : Tail) (a : State) (piece : List ℕ)
    → IsReady file ri rm fi oo om fo tail a → Consumes rm rn piece → Refuses fault tail piece new → (contents : List (List ℕ)) (other : Tail)
    → GoesOn tail piece contents other → Session file ri rn oo om (Err (run_fault fault))
feeding_fails file total fault ri rm rn oo om fi fo tail new a piece ready read refuses contents other goes = by fault refuses
  where
    on_fault : (f : FrameFault) → GoesOn tail piece [] new × (new ≡ Faulty f) → Session file ri rn oo om (Err (Frame f))
    on_fault f h = stream_fails file ri rn oo om new a f (sym (ap fault_of h.1)) (fed file ri rm rn oo om om fi fo tail new a a None piece [] ready read h.0 (served_nothing om a))

    by : (f : FrameFault) → Refuses f tail piece new → Session file ri rn oo om (Err (run_fault f))
    by frame.BadField r = on_fault frame.BadField (r (λ e. cc))
    by frame.NoLength r = on_fault frame.NoLength (r (λ e. cc))
    by frame.SecondLength r = on_fault frame.SecondLength (r (λ e. cc))
    by frame.BadLength r = on_fault frame.BadLength (r (λ e. cc))
    by frame.BadCharset r = on_fault frame.BadCharset (r (λ e. cc))
    by frame.Truncated r = on_fault frame.Truncated (r (λ e. cc))
    by frame.Memory r = answering_fails file Memory 0 ri rm rn oo om om fi fo tail other a piece contents refl ready read goes
        (part_nothing om a (can_serve file total ri rm oo om fi fo tail a ready) contents)
    by frame.LongHeader r = on_fault frame.LongHeader (r (λ e. cc))

-- before the first read
pub at_start : (file : FileGrammar) (input output : Option (List ℕ)) (input_failures output_failures : ℕ) (tail : Tail) (state : State) → input_failures ≡ 0
    → output_failures ≡ 0 → tail ≡ Open [] → state ≡ (first_state file) → IsReady file input input input_failures output output output_failures tail state
at_start file input output input_failures output_failures tail state reads writes new first = record {
  bytes = [];
  contents = [];
  was_read = consumes_nothing input;
  split = subst (λ (t : Tail). Splits [] [] t) (sym new) (refl, tt);
  served = subst (λ (s : State). Served output output (first_state file) [] None s) (sym first) (served_nothing output (first_state file));
  reads = reads;
  writes = writes;
  goes_on = subst (λ (t : Tail). IsOpen t) (sym new) tt;
}
