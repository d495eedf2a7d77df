-- What sessions come to whose contents leave the server running.
use Rattle.std.specs.Prelude.{◌≡◌, ℕ, List, [], ◌∷◌, ◌++◌, codes, Option, Some, None, Result, Ok, Err, refl}
use Rattle.std.proofs.Common.{ap, sym, subst, ◌∙◌, append_assoc, append-nil, inl, inr, arith}
use Rattle.std.proofs.lemmas.List.Concat.{flat_map-append}
use Rattle.std.specs.Char.{encode_utf8}
use Rattle.std.specs.Fmt.{digits}
use Rattle.std.specs.Str.{chars, is_utf8}
use Rattle.json.specs.Print.{escape_byte}
use Rattle.serde_json.proofs.OnLiterals.{serde_json_on_literals}
use Rattle.frames.specs.Frames.{Tail, Open, Faulty, Splits, finish_of}
use Rattle.frames.specs.declared.fault.FrameFault.{FrameFault}
use Rattle.frames.specs.declared.fault.FrameFault.TheVariants.{BadField, SecondLength, Truncated}
use Rattle.sessions.specs.declared.fault.RunFault.{RunFault}
use Rattle.sessions.specs.declared.fault.RunFault.TheVariants.{Frame, Read, Write, Memory}
use Rattle.readings.specs.Grammars.{FileGrammar}
use Rattle.rpc.specs.Messages.{Received, unread}
use Rattle.rpc.specs.Reading.{received_in}
use Rattle.rpc.specs.Refusal.TheVariants as refusal
use Rattle.rpc.specs.Replies.{Answer, error_reply, reply_data}
use Rattle.rpc.specs.Written.{compact_text}
use Rattle.frames.specs.Write.{frame}
use Rattle.sessions.specs.Runs.{Run, bytes_of}
use Rattle.sessions.specs.Steps.{State, Step, first_state}
use Rattle.session_rows.specs.Known.{ComesTo, Came, IsPrefixOf}
use Rattle.session_rows.specs.Written.{parse_error}

-- what a step on a content leaves that is read as this and is decided, in a run that goes on
pub next : (old mid : State) (c : List ℕ) (cs : List (List ℕ)) (received : Received) → received_in c ≡ received → (answers first : List Answer) (stop : Option ℕ) (new : State)
    → ((sent : List Answer) (halt : Option ℕ) (m : State) → Step old received sent halt m → (sent ≡ first) × (halt ≡ None) × (m ≡ mid))
    → Run old (c ∷ cs) answers stop new → (rest : List Answer) × (answers ≡ first ++ rest) × Run mid cs rest stop new
next old mid c cs received read answers first stop new only (sent, None, m, step, (rest, e, later)) =
    let is = only sent None m (subst (λ r. Step old r sent None m) read step) in
    (rest, e ∙ ap (λ l. l ++ rest) is.0, subst (λ x. Run x cs rest stop new) is.2 later)
next old mid c cs received read answers first stop new only (sent, Some status, m, step, end) =
    absurd (cc (only sent (Some status) m (subst (λ r. Step old r sent (Some status) m) read step)).1)

-- what a step on a content leaves that is read as this and stops the server
pub last : (old : State) (c : List ℕ) (cs : List (List ℕ)) (received : Received) → received_in c ≡ received → (answers : List Answer) (stop : Option ℕ) (new : State) (status : ℕ)
    → ((sent : List Answer) (halt : Option ℕ) (m : State) → Step old received sent halt m → (sent ≡ []) × (halt ≡ Some status))
    → Run old (c ∷ cs) answers stop new → (answers ≡ []) × (stop ≡ Some status)
last old c cs received read answers stop new status only (sent, None, m, step, later) =
    absurd (cc (only sent None m (subst (λ r. Step old r sent None m) read step)).1)
last old c cs received read answers stop new status only (sent, Some halt, m, step, (is, stops, state)) =
    let o = only sent (Some halt) m (subst (λ r. Step old r sent (Some halt) m) read step) in
    (is ∙ o.0, stops ∙ o.1)

-- ---- what a run over a part of contents has answered

-- `AreFirst Is answers`: these are the first answers of some of which `Is` holds
abbrev pub AreFirst : (List Answer → Type 0) → List Answer → Type 0
AreFirst Is answers = (others : List Answer) × Is (answers ++ others)

-- none has been answered
pub none_yet : (Is : List Answer → Type 0) (all answers : List Answer) → Is all → answers ≡ [] → AreFirst Is answers
none_yet Is all answers is none = (all, subst Is (sym (ap (λ l. l ++ all) none)) is)

-- more have been answered before them
pub longer : (Is : List Answer → Type 0) (first answers rest : List Answer) → answers ≡ first ++ rest → AreFirst (λ l. Is (first ++ l)) rest → AreFirst Is answers
longer Is first answers rest e (others, is) = (others, subst Is (sym (append_assoc first rest others) ∙ ap (λ l. l ++ others) (sym e)) is)

-- where the step on the first content is decided, and what is answered from there on; with no content these would follow
pub first_step : (Is : List Answer → Type 0) (all : List Answer) → Is all → (old mid : State) (c : List ℕ) (cs part more : List (List ℕ)) (received : Received)
    → received_in c ≡ received → (first answers : List Answer) (stop : Option ℕ) (new : State)
    → ((sent : List Answer) (halt : Option ℕ) (m : State) → Step old received sent halt m → (sent ≡ first) × (halt ≡ None) × (m ≡ mid))
    → ((later : List (List ℕ)) (rest : List Answer) → later ++ more ≡ cs → Run mid later rest stop new → AreFirst (λ l. Is (first ++ l)) rest)
    → part ++ more ≡ c ∷ cs → Run old part answers stop new → AreFirst Is answers
first_step Is all is old mid c cs [] more received read first answers stop new only go joined run = none_yet Is all answers is run.0
first_step Is all is old mid c cs (d ∷ ds) more received read first answers stop new only go joined run =
    let same : d ≡ c = cc joined in
    let rests : ds ++ more ≡ cs = cc joined in
    let n = next old mid c ds received read answers first stop new only (subst (λ x. Run old (x ∷ ds) answers stop new) same run) in
    longer Is first answers n.0 n.1 (go ds n.0 rests n.2)

-- where the step on the first content stops the server
pub last_step : (Is : List Answer → Type 0) → Is [] → (old : State) (c : List ℕ) (cs part more : List (List ℕ)) (received : Received) → received_in c ≡ received
    → (answers : List Answer) (stop : Option ℕ) (new : State) (status : ℕ)
    → ((sent : List Answer) (halt : Option ℕ) (m : State) → Step old received sent halt m → (sent ≡ []) × (halt ≡ Some status))
    → part ++ more ≡ c ∷ cs → Run old part answers stop new → AreFirst Is answers
last_step Is is old c cs [] more received read answers stop new status only joined run = none_yet Is [] answers is run.0
last_step Is is old c cs (d ∷ ds) more received read answers stop new status only joined run =
    let same : d ≡ c = cc joined in
    none_yet Is [] answers is (last old c ds received read answers stop new status only (subst (λ x. Run old (x ∷ ds) answers stop new) same run)).0

-- where no content is left
no_step : (Is : List Answer → Type 0) → Is [] → (old : State) (part more : List (List ℕ)) (answers : List Answer) (stop : Option ℕ) (new : State) → part ++ more ≡ []
    → Run old part answers stop new → AreFirst Is answers
no_step Is is old [] more answers stop new joined run = none_yet Is [] answers is run.0
no_step Is is old (c ∷ cs) more answers stop new joined run = absurd (cc joined)

-- what was written of the first answers is a prefix of all bytes
pub prefix_of : (all answers others : List Answer) (written rest : List ℕ) → answers ++ others ≡ all → bytes_of answers ≡ written ++ rest
    → IsPrefixOf (bytes_of all) written
prefix_of all answers others written rest e is =
    let both = flat_map-append (λ a. frame (compact_text (reply_data a))) answers others in
    (rest ++ bytes_of others, sym (ap bytes_of e) ∙ both ∙ ap (λ b. b ++ bytes_of others) is ∙ append_assoc written rest (bytes_of others))

-- ---- what comes of contents that leave the server running

-- how such a session ends
ended : Result (Unit {0}) FrameFault → Result ℕ RunFault
ended (Ok u) = Ok 1
ended (Err fault) = Err (Frame fault)

-- the answers to the contents, and those to a part of them
record Answered (file : FileGrammar) (contents : List (List ℕ)) (all : List Answer) : Type 0 where
  pub whole : (answers : List Answer) (stop : Option ℕ) (after : State) → Run (first_state file) contents answers stop after → (answers ≡ all) × (stop ≡ None)
  pub first : (part more : List (List ℕ)) (answers : List Answer) (stop : Option ℕ) (after : State) → part ++ more ≡ contents
      → Run (first_state file) part answers stop after → AreFirst (λ l. l ≡ all) answers

came : (file : FileGrammar) (contents : List (List ℕ)) (tail : Tail) (all : List Answer) → Answered file contents all
    → (written : List ℕ) (outcome : Result ℕ RunFault) → ComesTo file contents tail written outcome → Came (ended (finish_of tail)) (bytes_of all) outcome written
unfolding ended
came file contents tail all only written (Ok status) (answers, stop, after, run, is, inl some) =
    absurd (cc (sym (only.whole answers stop after run).1 ∙ some))
came file contents tail all only written (Ok status) (answers, stop, after, run, is, inr (none, finish, one)) =
    inl (ap (λ n. Ok n) one ∙ sym (ap ended finish), is ∙ ap bytes_of (only.whole answers stop after run).0)
came file contents tail all only written (Err (Frame fault)) (answers, stop, after, run, is, (none, finish)) =
    inl (sym (ap ended finish), is ∙ ap bytes_of (only.whole answers stop after run).0)
came file contents tail all only written (Err Read) (part, more, joined, (answers, stop, after, run, is, none)) =
    let first = only.first part more answers stop after joined run in
    inr (tt, prefix_of all answers first.0 written [] first.1 (sym is ∙ sym (append-nil written)))
came file contents tail all only written (Err Write) (part, more, answers, stop, after, rest, joined, run, is) =
    let first = only.first part more answers stop after joined run in inr (tt, prefix_of all answers first.0 written rest first.1 is)
came file contents tail all only written (Err Memory) (part, more, answers, stop, after, rest, joined, run, is) =
    let first = only.first part more answers stop after joined run in inr (tt, prefix_of all answers first.0 written rest first.1 is)

no_json_is : received_in (codes "{") ≡ unread
unfolding chars encode_utf8 is_utf8 serde_json_on_literals
no_json_is = refl

abbrev parse_reply : List Answer
parse_reply = error_reply None refusal.ParseError ∷ []

module _ (file : FileGrammar) where
  nothing : Answered file [] []
  nothing = record {
    whole = λ answers stop after run. (run.0, run.1);
    first = λ part more answers stop after joined run. no_step (λ l. l ≡ []) refl (first_state file) part more answers stop after joined run;
  }

  -- one content that is no JSON
  one_error : Answered file (codes "{" ∷ []) parse_reply
  one_error = record {
    whole = λ answers stop after run.
        let n = next (first_state file) (first_state file) (codes "{") [] unread no_json_is answers parse_reply stop after (λ sent halt m s. s) run in
        (n.1 ∙ ap (λ l. error_reply None refusal.ParseError ∷ l) n.2.0, n.2.1);
    first = λ part more answers stop after joined run.
        first_step (λ l. l ≡ parse_reply) parse_reply refl (first_state file) (first_state file) (codes "{") [] part more unread no_json_is parse_reply answers stop after
        (λ sent halt m s. s) (λ later rest j r. no_step (λ l. parse_reply ++ l ≡ parse_reply) refl (first_state file) later more rest stop after j r) joined run;
  }

one_frame : bytes_of parse_reply ≡ parse_error
unfolding digits escape_byte
one_frame = refl

-- what comes of bytes that are all known
abbrev pub Known : FileGrammar → List ℕ → List ℕ → Result ℕ RunFault → Type 0
Known file bytes written outcome = (contents : List (List ℕ)) (tail : Tail) → Splits bytes contents tail → ComesTo file contents tail written outcome

module _ (file : FileGrammar) (written : List ℕ) (outcome : Result ℕ RunFault) where
  pub no_json : Known file (codes "Content-Length: 1\r\n\r\n{") written outcome
      → Came (Ok 1) parse_error outcome written
  unfolding ended
  no_json k = subst (λ bs. Came (Ok 1) bs outcome written) one_frame
      (came file (codes "{" ∷ []) (Open []) parse_reply (one_error file) written outcome
      (k (codes "{" ∷ []) (Open []) (21, record { header = refl; follows = refl }, (refl, tt))))

  pub then_no_frame : Known file (codes "Content-Length: 1\r\n\r\n{X\r\n\r\n") written outcome
      → Came (Err (Frame BadField)) parse_error outcome written
  unfolding ended
  then_no_frame k = subst (λ bs. Came (Err (Frame BadField)) bs outcome written) one_frame
      (came file (codes "{" ∷ []) (Faulty BadField) parse_reply (one_error file) written outcome
      (k (codes "{" ∷ []) (Faulty BadField) (21, record { header = refl; follows = refl }, refl)))

  pub two_lengths : Known file (codes "Content-Length: 2\r\nContent-Length: 2\r\n\r\n{}") written outcome → Came (Err (Frame SecondLength)) [] outcome written
  unfolding ended
  two_lengths k = came file [] (Faulty SecondLength) [] (nothing file) written outcome (k [] (Faulty SecondLength) refl)

  pub cut_short : Known file (codes "Content-Length: 5\r\n\r\n{}") written outcome → Came (Err (Frame Truncated)) [] outcome written
  unfolding ended
  cut_short k = came file [] (Open (codes "Content-Length: 5\r\n\r\n{}")) [] (nothing file) written outcome (k [] (Open (codes "Content-Length: 5\r\n\r\n{}")) (refl, omega arith))
