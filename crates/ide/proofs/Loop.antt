-- What the loop of a session keeps, and what it leaves.
use Rattle.ide.proofs.Std.{◌≡◌, ℕ, List, [], ◌++◌, refl, ap, sym, subst, ◌∙◌, inl, inr, append-nil, Option, Some, None, Result, Ok, Err, Consumes, Keeps, IsAtEnd}
use Rattle.ide.proofs.Common.{FrameFault, Tail, Open, Faulty, Splits, IsOpen, GoesOn, fault_of, FileGrammar, RunFault, Frame, Memory, Read, Write, IdeState, first_of, Ends, IsCutShort, EndsAt, IsWritten, bytes_of, run_fault, ShownData, cancels}
use Rattle.ide.proofs.Common.{Session, Served, ServedInPart, IsTaken, Serves, contents_of}
use Rattle.frames.specs.declared.fault.FrameFault.TheVariants as frame
use Rattle.server.proofs.Bytes.{Refuses, consumes_then, consumes_nothing, consumes_no_more, finish_faulty, reads_nothing}
use Rattle.ide.proofs.Runs.{served_more, served_nothing, served_then}
use Rattle.ide.proofs.CutSessions.{part_nothing, part_then}

-- the messages on the whole frames read so far are written
pub record IsReady (shown : ShownData) (file : FileGrammar) (input_old input_new : Option (List ℕ)) (input_failures : ℕ)
    (output_old output_new : Option (List ℕ)) (output_failures : ℕ) (tail : Tail) (state : IdeState) : Type 0 where
  pub bytes : List ℕ
  pub contents : List (List ℕ)
  pub was_read : Consumes input_old input_new bytes
  pub split : Splits bytes contents tail
  pub served : Served output_old output_new (first_of file shown) contents [] None state
  pub reads : input_failures ≡ 0
  pub writes : output_failures ≡ 0
  pub goes_on : IsOpen tail

-- a piece is read, and the messages on it are written
pub record Fed (shown : ShownData) (file : FileGrammar) (input_old input_new output_old output_new : Option (List ℕ)) (tail : Tail) (state : IdeState)
    (stop : Option ℕ) : Type 0 where
  pub bytes : List ℕ
  pub contents : List (List ℕ)
  pub was_read : Consumes input_old input_new bytes
  pub split : Splits bytes contents tail
  pub served : Served output_old output_new (first_of file shown) contents [] stop state

-- for one shown and one grammar file
module _ (shown : ShownData) (file : FileGrammar) where
  -- what was served, before more that was read
  waiting : (oo om : Option (List ℕ)) (a : IdeState) (cs more : List (List ℕ)) → Served oo om (first_of file shown) cs [] None a
      → Served oo om (first_of file shown) cs (cancels more ++ []) None a
  waiting oo om a cs more s = served_more oo om (first_of file shown) a cs [] (cancels more ++ []) None s

  pub fed : (ri rm rn oo om on : Option (List ℕ)) (fi fo : ℕ) (tail new : Tail) (a b : IdeState) (stop : Option ℕ) (piece : List ℕ) (more : List (List ℕ))
      → IsReady shown file ri rm fi oo om fo tail a → Consumes rm rn piece → GoesOn tail piece more new → Served om on a more [] stop b
      → Fed shown file ri rn oo on new b stop
  fed ri rm rn oo om on fi fo tail new a b stop piece more ready read goes served = record {
    bytes = ready.bytes ++ piece;
    contents = ready.contents ++ more;
    was_read = consumes_then ri rm rn ready.bytes piece ready.was_read read;
    split = goes ready.bytes ready.contents ready.split;
    served = served_then oo om on (first_of file shown) a b ready.contents more [] stop (waiting oo om a ready.contents more ready.served) served;
  }

  -- ---- the ends of a session

  -- a session whose messages are all written
  whole : (ri rn oo on : Option (List ℕ)) (tail : Tail) (state : IdeState) (stop : Option ℕ) (f : Fed shown file ri rn oo on tail state stop)
      → (outcome : Result ℕ RunFault) → IsTaken outcome [] → IsWritten outcome oo on (bytes_of f.served.messages) → Ends outcome rn tail stop
      → Session shown file ri rn oo on outcome
  whole ri rn oo on tail state stop f outcome all written ends =
      record {
        bytes = f.bytes;
        events = f.served.events;
        left = [];
        tail = tail;
        messages = f.served.messages;
        stop = stop;
        after = state;
        was_read = f.was_read;
        split = subst (λ cs. Splits f.bytes cs tail) (sym (append-nil (contents_of f.served.events) ∙ f.served.parts)) f.split;
        run = f.served.run;
        all = all;
        written = written;
        ends = ends;
      }

  -- a session of which a prefix of the messages is written
  cut_short : (e : RunFault) (failures : ℕ) (ri rn oo on : Option (List ℕ)) (tail : Tail) (bytes : List ℕ) (contents : List (List ℕ))
      → IsCutShort e failures → Consumes ri rn bytes → Splits bytes contents tail → ServedInPart oo on (first_of file shown) contents []
      → Session shown file ri rn oo on (Err e)
  cut_short Write failures ri rn oo on tail bytes contents cut read split p =
      record {
        bytes = bytes;
        events = p.events;
        left = p.left;
        tail = tail;
        messages = p.messages;
        stop = p.stop;
        after = p.after;
        was_read = read;
        split = subst (λ cs. Splits bytes cs tail) p.parts split;
        run = subst (λ l. Serves (first_of file shown) p.events l p.messages p.stop p.after) (append-nil (cancels p.left)) p.run;
        all = tt;
        written = p.written;
        ends = tt;
      }
  cut_short Memory failures ri rn oo on tail bytes contents cut read split p =
      record {
        bytes = bytes;
        events = p.events;
        left = p.left;
        tail = tail;
        messages = p.messages;
        stop = p.stop;
        after = p.after;
        was_read = read;
        split = subst (λ cs. Splits bytes cs tail) p.parts split;
        run = subst (λ l. Serves (first_of file shown) p.events l p.messages p.stop p.after) (append-nil (cancels p.left)) p.run;
        all = tt;
        written = p.written;
        ends = tt;
      }
  cut_short d failures ri rn oo on tail bytes contents cut read split p = absurd cut

  -- nothing more is read
  fed_nothing : (ri rm rn oo om : Option (List ℕ)) (fi fo : ℕ) (tail : Tail) (a : IdeState)
      → IsReady shown file ri rm fi oo om fo tail a → Consumes rm rn [] → Fed shown file ri rn oo om tail a None
  fed_nothing ri rm rn oo om fi fo tail a ready read =
      record { bytes = ready.bytes; contents = ready.contents; was_read = consumes_no_more ri rm rn ready.bytes ready.was_read read; split = ready.split; served = ready.served }

  -- the input fails
  pub read_fails : (ri rm rn oo om : Option (List ℕ)) (fi fo : ℕ) (tail : Tail) (a : IdeState)
      → IsReady shown file ri rm fi oo om fo tail a → Keeps rm rn → Session shown file ri rn oo om (Err Read)
  read_fails ri rm rn oo om fi fo tail a ready kept =
      let f = fed_nothing ri rm rn oo om fi fo tail a ready (reads_nothing rm rn kept) in
      whole ri rn oo om tail a None f (Err Read) refl f.served.written (refl, ready.goes_on)

  -- the input ends
  pub input_ends : (outcome : Result ℕ RunFault) (ri rm rn oo om : Option (List ℕ)) (fi fo : ℕ) (tail : Tail) (a : IdeState)
      → IsReady shown file ri rm fi oo om fo tail a → Consumes rm rn [] → IsAtEnd rn → EndsAt outcome tail → Session shown file ri rn oo om outcome
  input_ends (Ok status) ri rm rn oo om fi fo tail a ready read at_end ends =
      let f = fed_nothing ri rm rn oo om fi fo tail a ready read in
      whole ri rn oo om tail a None f (Ok status) refl f.served.written (inr (refl, at_end, ends.0, ends.1))
  input_ends (Err (Frame fault)) ri rm rn oo om fi fo tail a ready read at_end ends =
      let f = fed_nothing ri rm rn oo om fi fo tail a ready read in
      whole ri rn oo om tail a None f (Err (Frame fault)) refl f.served.written (refl, ends, λ o. at_end)
  input_ends d ri rm rn oo om fi fo tail a ready read at_end ends = absurd ends

  -- `exit` came
  pub exits : (ri rn oo on : Option (List ℕ)) (tail : Tail) (b : IdeState) (status : ℕ) → Fed shown file ri rn oo on tail b (Some status)
      → Session shown file ri rn oo on (Ok status)
  exits ri rn oo on tail b status f = whole ri rn oo on tail b (Some status) f (Ok status) refl f.served.written (inl refl)

  -- the stream is faulty after the frames that were answered
  pub stream_fails : (ri rn oo on : Option (List ℕ)) (tail : Tail) (b : IdeState) (fault : FrameFault) → Some fault ≡ fault_of tail
      → Fed shown file ri rn oo on tail b None → Session shown file ri rn oo on (Err (Frame fault))
  stream_fails ri rn oo on tail b fault is f = let ends = finish_faulty tail fault is in
      whole ri rn oo on tail b None f (Err (Frame fault)) refl f.served.written (refl, ends.0, λ o. absurd (ends.1 o))

  -- the output fails, or memory is refused, while a piece is answered
  pub answering_fails : (e : RunFault) (failures : ℕ) (ri rm rn oo om on : Option (List ℕ)) (fi fo : ℕ) (tail new : Tail) (a : IdeState)
      (piece : List ℕ) (more : List (List ℕ)) → IsCutShort e failures → IsReady shown file ri rm fi oo om fo tail a → Consumes rm rn piece
      → GoesOn tail piece more new → ServedInPart om on a more [] → Session shown file ri rn oo on (Err e)
  answering_fails e failures ri rm rn oo om on fi fo tail new a piece more cut ready read goes p =
      cut_short e failures ri rn oo on new (ready.bytes ++ piece) (ready.contents ++ more) cut
      (consumes_then ri rm rn ready.bytes piece ready.was_read read) (goes ready.bytes ready.contents ready.split)
      (part_then oo om on (first_of file shown) a ready.contents more [] (waiting oo om a ready.contents more ready.served) p)

  -- a piece is refused
  pub feeding_fails : (fault : FrameFault) (ri rm rn oo om : Option (List ℕ)) (fi fo : ℕ) (tail new : Tail) (a : IdeState) (piece : List ℕ)
      → IsReady shown file ri rm fi oo om fo tail a → Consumes rm rn piece → Refuses fault tail piece new → (contents : List (List ℕ)) (other : Tail)
      → GoesOn tail piece contents other → Session shown file ri rn oo om (Err (run_fault fault))
  feeding_fails fault ri rm rn oo om fi fo tail new a piece ready read refuses contents other goes = by fault refuses
    where
      on_fault : (f : FrameFault) → GoesOn tail piece [] new × (new ≡ Faulty f) → Session shown file ri rn oo om (Err (Frame f))
      on_fault f h = stream_fails ri rn oo om new a f (sym (ap fault_of h.1)) (fed ri rm rn oo om om fi fo tail new a a None piece [] ready read h.0 (served_nothing om a []))

      by : (f : FrameFault) → Refuses f tail piece new → Session shown file ri rn oo om (Err (run_fault f))
      by frame.BadField r = on_fault frame.BadField (r (λ e. cc))
      by frame.NoLength r = on_fault frame.NoLength (r (λ e. cc))
      by frame.SecondLength r = on_fault frame.SecondLength (r (λ e. cc))
      by frame.BadLength r = on_fault frame.BadLength (r (λ e. cc))
      by frame.BadCharset r = on_fault frame.BadCharset (r (λ e. cc))
      by frame.Truncated r = on_fault frame.Truncated (r (λ e. cc))
      by frame.Memory r = answering_fails Memory 0 ri rm rn oo om om fi fo tail other a piece contents refl ready read goes (part_nothing om a contents [])
      by frame.LongHeader r = on_fault frame.LongHeader (r (λ e. cc))

  -- before the first read
  pub at_start : (input output : Option (List ℕ)) (input_failures output_failures : ℕ) (tail : Tail) (state : IdeState) → input_failures ≡ 0
      → output_failures ≡ 0 → tail ≡ Open [] → state ≡ first_of file shown → IsReady shown file input input input_failures output output output_failures tail state
  at_start input output input_failures output_failures tail state reads writes new first = record {
    bytes = [];
    contents = [];
    was_read = consumes_nothing input;
    split = subst (λ (t : Tail). Splits [] [] t) (sym new) (refl, tt);
    served = subst (λ (s : IdeState). Served output output (first_of file shown) [] [] None s) (sym first) (served_nothing output (first_of file shown) []);
    reads = reads;
    writes = writes;
    goes_on = subst (λ (t : Tail). IsOpen t) (sym new) tt;
  }
