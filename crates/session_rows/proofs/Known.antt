-- A session over bytes that are all known comes to what its frames and its tail say.
use Rattle.std.specs.Prelude.{◌≡◌, ℕ, List, [], ◌∷◌, ◌++◌, Option, Some, None, Result, Ok, Err, refl}
use Rattle.std.proofs.Common.{ap, sym, subst, ◌∙◌, append-nil, inl, inr}
use Rattle.frames.specs.Frames.{Tail, Open, Faulty, Splits, HasSplit, Continues, GoesOn, finish_of}
use Rattle.frames.specs.declared.fault.FrameFault.{FrameFault}
use Rattle.sessions.specs.declared.fault.RunFault.{RunFault}
use Rattle.sessions.specs.declared.fault.RunFault.TheVariants.{Frame, Read, Write, Memory}
use Rattle.readings.specs.Grammars.{FileGrammar}
use Rattle.rpc.specs.Replies.{Answer}
use Rattle.sessions.specs.Runs.{Run, bytes_of}
use Rattle.sessions.specs.Sessions.{AppendsPrefix, Session, IsWritten, Ends}
use Rattle.sessions.specs.Steps.{State, first_state}
use Rattle.session_rows.specs.Known.{ComesTo, WroteInPart}

-- each stream is whole frames and a tail in one way, and goes on
pub record Streams : Type 0 where
  pub some : (bytes : List ℕ) → HasSplit bytes
  pub one : (bytes : List ℕ) (cs ds : List (List ℕ)) (t u : Tail) → Splits bytes cs t → Splits bytes ds u → (cs ≡ ds) × (t ≡ u)
  pub go_on : (old : Tail) (piece : List ℕ) (contents : List (List ℕ)) (new : Tail) → Continues old piece contents new → GoesOn old piece contents new

-- a run that has stopped looks at nothing after that
stays : (old : State) (cs ds : List (List ℕ)) (answers : List Answer) (status : ℕ) (new : State) → Run old cs answers (Some status) new → Run old (cs ++ ds) answers (Some status) new
stays old [] ds answers status new r = absurd (cc r.1)
stays old (c ∷ cs) ds answers status new (first, None, mid, step, (rest, e, later)) = (first, None, mid, step, (rest, e, stays mid cs ds rest status new later))
stays old (c ∷ cs) ds answers status new (first, Some halt, mid, step, last) = (first, Some halt, mid, step, last)

-- a part of a stream, with what is left of it
module _ (s : Streams) (bytes left : List ℕ) (cs : List (List ℕ)) (tail : Tail) (whole : Splits (bytes ++ left) cs tail) where
  -- what is left makes more whole frames, and the tail
  goes_on : (part : List (List ℕ)) (t : Tail) → Splits bytes part t → (more : List (List ℕ)) × (part ++ more ≡ cs)
  goes_on part (Open rest) split =
      let after = s.some (rest ++ left) in
      let joined = s.go_on (Open rest) left after.0 after.1 after.2 bytes part split in
      (after.0, (s.one (bytes ++ left) (part ++ after.0) cs after.1 tail joined whole).0)
  goes_on part (Faulty fault) split =
      let joined = s.go_on (Faulty fault) left [] (Faulty fault) (refl, refl) bytes part split in
      ([], (s.one (bytes ++ left) (part ++ []) cs (Faulty fault) tail joined whole).0)

  -- a fault is the tail's
  fault_is : (part : List (List ℕ)) (t : Tail) → Splits bytes part t → (fault : _) → t ≡ Faulty fault → (part ≡ cs) × (t ≡ tail)
  fault_is part t split fault is =
      let joined = s.go_on (Faulty fault) left [] (Faulty fault) (refl, refl) bytes part (subst (λ u. Splits bytes part u) is split) in
      let same = s.one (bytes ++ left) (part ++ []) cs (Faulty fault) tail joined whole in
      (sym (append-nil part) ∙ same.0, is ∙ same.1)

  -- where nothing is left, the part is the whole
  is_whole : (part : List (List ℕ)) (t : Tail) → Splits bytes part t → left ≡ [] → (part ≡ cs) × (t ≡ tail)
  is_whole part t split none = s.one bytes part cs t tail split (subst (λ bs. Splits bs cs tail) (ap (λ l. bytes ++ l) none ∙ append-nil bytes) whole)

-- ---- what a session comes to

module _ (s : Streams) (file : FileGrammar) (bytes left written : List ℕ) (cs : List (List ℕ)) (tail : Tail) (whole : Splits (bytes ++ left) cs tail) where
  ends_so : (part : List (List ℕ)) (t : Tail) (answers : List Answer) (stop : Option ℕ) (after : State) (status : ℕ) → Run (first_state file) part answers stop after
      → written ≡ bytes_of answers → (part ≡ cs) × (t ≡ tail) → (stop ≡ None) × (finish_of t ≡ Ok tt) × (status ≡ 1) → ComesTo file cs tail written (Ok status)
  ends_so part t answers stop after status run is same (none, finish, one) =
      (answers, stop, after, subst (λ ds. Run (first_state file) ds answers stop after) same.0 run, is, inr (none, subst (λ u. finish_of u ≡ Ok tt) same.1 finish, one))

  fails_so : (part : List (List ℕ)) (t : Tail) (answers : List Answer) (stop : Option ℕ) (after : State) (fault : FrameFault) → Run (first_state file) part answers stop after
      → written ≡ bytes_of answers → (part ≡ cs) × (t ≡ tail) → stop ≡ None → finish_of t ≡ Err fault → ComesTo file cs tail written (Err (Frame fault))
  fails_so part t answers stop after fault run is same none finish =
      (answers, stop, after, subst (λ ds. Run (first_state file) ds answers stop after) same.0 run, is, (none, subst (λ u. finish_of u ≡ Err fault) same.1 finish))

  stops_so : (part : List (List ℕ)) (t : Tail) (answers : List Answer) (stop : Option ℕ) (after : State) (status : ℕ) → Splits bytes part t
      → Run (first_state file) part answers stop after → written ≡ bytes_of answers → stop ≡ Some status → ComesTo file cs tail written (Ok status)
  stops_so part t answers stop after status split run is some =
      let more = goes_on s bytes left cs tail whole part t split in
      let on = stays (first_state file) part more.0 answers status after (subst (λ o. Run (first_state file) part answers o after) some run) in
      (answers, Some status, after, subst (λ ds. Run (first_state file) ds answers (Some status) after) more.1 on, is, inl refl)

  wrote_in_part : (part : List (List ℕ)) (t : Tail) (answers : List Answer) (stop : Option ℕ) (after : State) → Splits bytes part t
      → Run (first_state file) part answers stop after → AppendsPrefix (Some []) (Some written) (bytes_of answers) → WroteInPart file cs written
  wrote_in_part part t answers stop after split run (prefix, rest, joined, is) =
      let more = goes_on s bytes left cs tail whole part t split in
      (part, more.0, answers, stop, after, rest, more.1, run, joined ∙ ap (λ p. p ++ rest) (sym is))

  comes : (outcome : Result ℕ RunFault) (part : List (List ℕ)) (t : Tail) (answers : List Answer) (stop : Option ℕ) (after : State) → Splits bytes part t
      → Run (first_state file) part answers stop after → IsWritten outcome (Some []) (Some written) (bytes_of answers) → Ends outcome (Some left) t stop
      → ComesTo file cs tail written outcome
  comes (Ok status) part t answers stop after split run is (inl some) = stops_so part t answers stop after status split run is some
  comes (Ok status) part t answers stop after split run is (inr (none, end, finish, one)) =
      ends_so part t answers stop after status run is (is_whole s bytes left cs tail whole part t split end) (none, finish, one)
  comes (Err (Frame fault)) part (Open rest) answers stop after split run is (none, finish, end) =
      fails_so part (Open rest) answers stop after fault run is (is_whole s bytes left cs tail whole part (Open rest) split (end tt)) none finish
  comes (Err (Frame fault)) part (Faulty f) answers stop after split run is (none, finish, end) =
      fails_so part (Faulty f) answers stop after fault run is (fault_is s bytes left cs tail whole part (Faulty f) split f refl) none finish
  comes (Err Read) part t answers stop after split run is (none, ongoing) =
      let more = goes_on s bytes left cs tail whole part t split in (part, more.0, more.1, (answers, stop, after, run, is, none))
  comes (Err Write) part t answers stop after split run is e = wrote_in_part part t answers stop after split run is
  comes (Err Memory) part t answers stop after split run is e = wrote_in_part part t answers stop after split run is

-- a session over these bytes, all of them known, from nothing written
pub comes_to : Streams → (file : FileGrammar) (bytes written : List ℕ) (input_old input_new output_old output_new : Option (List ℕ)) (outcome : Result ℕ RunFault)
    → input_old ≡ Some bytes → output_old ≡ Some [] → output_new ≡ Some written
    → Session file input_old input_new output_old output_new outcome → (cs : List (List ℕ)) (tail : Tail) → Splits bytes cs tail → ComesTo file cs tail written outcome
comes_to s file bytes written input_old input_new output_old output_new outcome i o n session cs tail whole =
    by input_new (subst (λ x. Session file x input_new (Some []) (Some written) outcome) i
    (subst (λ x. Session file input_old input_new x (Some written) outcome) o
    (subst (λ x. Session file input_old input_new output_old x outcome) n session)))
  where
    by : (left : Option (List ℕ)) → Session file (Some bytes) left (Some []) (Some written) outcome → ComesTo file cs tail written outcome
    by None read = absurd read.was_read
    by (Some left) read =
        comes s file read.bytes left written cs tail (subst (λ bs. Splits bs cs tail) read.was_read whole)
        outcome read.contents read.tail read.answers read.stop read.after read.split read.run read.written read.ends
