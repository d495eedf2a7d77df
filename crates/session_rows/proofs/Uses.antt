-- What follows from the clauses of `run` for the contents of worked sessions.
use Rattle.std.specs.Prelude.{◌≡◌, ◌≢◌, ◌⊎◌, ℕ, ℤ, pos, Bool, true, false, ◌||◌, if◌then◌else◌, nat_lt, List, [], ◌∷◌, ◌++◌, map, codes, All, Option, Some, None, refl}
use Rattle.std.proofs.Common.{arith, ap, sym, subst, ◌∙◌, inl, inr, ⊎_elim}
use Rattle.std.specs.Char.{encode_utf8}
use Rattle.std.specs.FinMap.{empty, get, insert, len, contains_key, get-insert, len-empty}
use Rattle.std.specs.Str.{chars, is_utf8}
use Rattle.std.proofs.lemmas.Cmp.{nat_list_cmp_total}
use Rattle.std.proofs.lemmas.List.Elements.{All-from_recursion, All-head, All-tail}
use Rattle.serde_json.proofs.OnLiterals.{serde_json_on_literals}
use Rattle.rpc.specs.Texts.{IsSpelled}
use Rattle.definitions.specs.Text.{changed, offset, line_start, line_from, break_ends, units, greatest}
use Rattle.readings.specs.Grammars.{FileGrammar}
use Rattle.readings.specs.Texts.{OpenDocument}
use Rattle.rpc.specs.Messages.{Received, accepted, request, notification, about, its_text, open_text, change_text}
use Rattle.rpc.specs.Reading.{received_in}
use Rattle.rpc.specs.Replies.{Answer, capabilities_reply}
use Rattle.rpc.specs.Unit.{Unit as Encoding}
use Rattle.rpc.specs.Unit.TheVariants.{Utf16}
use Rattle.sessions.specs.Alone.{Event, History, SendTheSame, concerning, event_in, loses, named, loses_memory}
use Rattle.sessions.specs.Documents.{DocumentState, is_open, is_lost, Held, edited, has_room}
use Rattle.sessions.specs.Replies.{all_due, before_exit, has_exit}
use Rattle.sessions.specs.Runs.{Run}
use Rattle.sessions.specs.Steps.{State, Step, exit_status, first_state, new_document, Opens, Holds, Changes, OnRequest, OnNotification}
use Rattle.sessions.specs.declared.phase.Phase.{Phase}
use Rattle.sessions.specs.declared.phase.Phase.TheVariants.{New, Ready, Down}
use Rattle.session_rows.specs.Contents.{uri, other_uri, of, initializes, opens, opens_other, types, asks, both_changes}
use Rattle.session_rows.specs.Uses.{Promises, first_mix, second_mix, without_other, until_exit, MixedAlike, LeftOutAlike, LeavesTheOther, RepliesAlike, RepliesInOrder, OpensSilently, OpensSmall, EndsAsFresh, OpensUnicode}
use Rattle.session_rows.proofs.Received.{initializes_is, opens_is, opens_other_is, types_is, asks_is}

-- ---- contents

-- what concerns the one document
concerning_is : concerning uri first_mix ≡ without_other
unfolding chars encode_utf8 is_utf8 serde_json_on_literals
concerning_is = refl

due_is : all_due (before_exit until_exit) ≡ Some (of 1) ∷ Some (of 2) ∷ []
unfolding chars encode_utf8 is_utf8 serde_json_on_literals
due_is = refl

ends_is : has_exit until_exit ≡ true
unfolding chars encode_utf8 is_utf8 serde_json_on_literals
ends_is = refl

-- ---- steps

or_true : (b : Bool) → (b || true) ≡ true
or_true true = refl
or_true false = refl

-- there is room where nothing is held
room : (documents : Held) → len documents ≡ 0 → has_room uri documents ≡ true
room documents none = ap (λ n. contains_key documents uri || nat_lt n 64) none ∙ or_true (contains_key documents uri)

loses_same : (held : Option DocumentState) → loses held held ≡ false
loses_same None = refl
loses_same (Some (is_open d)) = refl
loses_same (Some (is_lost l)) = refl

abbrev no_text : OpenDocument
no_text = record { unit = Utf16; version = pos 1; text = []; last = None }

fits_is : new_document Utf16 (pos 1) (chars []) ≡ is_open no_text
unfolding chars encode_utf8
fits_is = refl

abbrev opening : Received
opening = accepted (notification (open_text uri (pos 1) []))

abbrev opening_other : Received
opening_other = accepted (notification (open_text other_uri (pos 1) []))

abbrev changing : Received
changing = accepted (notification (change_text uri (pos 2) both_changes))

edited_is : edited Utf16 [] both_changes ≡ Some (codes "2")
unfolding chars encode_utf8 changed offset line_start line_from break_ends units greatest
edited_is = refl

abbrev asking : Received
asking = accepted (request (of 2) (about uri its_text))

-- an opening in the ready phase leaves the server running, in this phase
goes_on : (old : State) (encoding : Encoding) → old.phase ≡ Ready encoding → (name text : List ℕ) (version : ℤ) (first : List Answer) (halt : Option ℕ) (mid : State)
    → Step old (accepted (notification (open_text name version text))) first halt mid → (halt ≡ None) × (mid.phase ≡ old.phase)
goes_on old encoding phase name text version first halt mid step =
    by (has_room name old.documents) (new_document encoding version (chars text)) (subst (λ p. OnNotification p old (open_text name version text) first halt mid) phase step)
  where
    by : (b : Bool) (state : DocumentState) → Opens b old name state first halt mid → (halt ≡ None) × (mid.phase ≡ old.phase)
    by true (is_open d) (published, is, e, (none, new)) = (none, ap (λ (s : State). s.phase) new)
    by true (is_lost l) (e, (none, new)) = (none, ap (λ (s : State). s.phase) new)
    by false state (e, none, new) = (none, ap (λ (s : State). s.phase) new)

-- a question in the ready phase has one reply, and nothing changes
replied : (old : State) (encoding : Encoding) → old.phase ≡ Ready encoding → (first : List Answer) (halt : Option ℕ) (mid : State) → Step old asking first halt mid
    → (reply : Answer) × (first ≡ reply ∷ []) × (halt ≡ None) × (mid ≡ old)
replied old encoding phase first halt mid step =
    let s = subst (λ p. OnRequest p old (of 2) (about uri its_text) first halt mid) phase step in
    (s.0, s.2.0, s.2.1, s.2.2)

module _ (file : FileGrammar) where
  abbrev ready : Held → State
  ready documents = record { file = file; phase = Ready Utf16; documents = documents }

  abbrev held : Held
  held = insert empty uri (is_open no_text)

  found : get held uri ≡ Some (is_open no_text)
  found = get-insert nat_list_cmp_total empty uri (is_open no_text) uri

  -- what opening the empty text leaves
  opened : (first : List Answer) (halt : Option ℕ) (mid : State) → Step (ready empty) opening first halt mid
      → (published : Answer) × (first ≡ published ∷ []) × (halt ≡ None) × (mid ≡ ready held)
  opened first halt mid step =
      let h = subst (λ (d : DocumentState). Opens true (ready empty) uri d first halt mid) fits_is
      (subst (λ b. Opens b (ready empty) uri (new_document Utf16 (pos 1) (chars [])) first halt mid) (room empty (len-empty _ _)) step) in
      (h.0, h.2, h.3.0, h.3.1)

-- ---- histories

module _ (old : State) (c : List ℕ) (cs : List (List ℕ)) (received : Received) (read : received_in c ≡ received) (answers : List Answer) (stop : Option ℕ) (new : State)
    (goes : (first : List Answer) (halt : Option ℕ) (mid : State) → Step old received first halt mid → halt ≡ None) where
  -- a message that names the document is noted
  noted : (events : List Event) (sent : List Answer) → named received ≡ Some uri → History uri old (c ∷ cs) answers stop new events sent
      → (first : List Answer) × (mid : State) × (later : List Answer) × (more : List Event) × (rest : List Answer) × Step old received first None mid
      × (answers ≡ first ++ later) × (events ≡ event_in uri old received mid ∷ more) × (sent ≡ first ++ rest) × History uri mid cs later stop new more rest
  noted events sent name (first, None, mid, more, rest, step, inl (n, e, s), (later, is, history)) =
      (first, mid, later, more, rest, subst (λ r. Step old r first None mid) read step, is, e ∙ ap (λ r. event_in uri old r mid ∷ more) read, s, history)
  noted events sent name (first, None, mid, more, rest, step, inr (n, e, s), history) = absurd (n (ap named read ∙ name))
  noted events sent name (first, Some status, mid, more, rest, step, notes, end) =
      absurd (cc (goes first (Some status) mid (subst (λ r. Step old r first (Some status) mid) read step)))

  -- any other isn't
  passed : (events : List Event) (sent : List Answer) → named received ≢ Some uri → History uri old (c ∷ cs) answers stop new events sent
      → (first : List Answer) × (mid : State) × (later : List Answer) × Step old received first None mid × (answers ≡ first ++ later)
      × History uri mid cs later stop new events sent
  passed events sent other (first, None, mid, more, rest, step, inl (n, e, s), history) = absurd (other (ap named (sym read) ∙ n))
  passed events sent other (first, None, mid, more, rest, step, inr (n, e, s), (later, is, history)) = (
    first,
    mid,
    later,
    subst (λ r. Step old r first None mid) read step,
    is,
    subst (λ l. History uri mid cs later stop new l sent) (sym e) (subst (λ l. History uri mid cs later stop new more l) (sym s) history),
  )
  passed events sent other (first, Some status, mid, more, rest, step, notes, end) =
      absurd (cc (goes first (Some status) mid (subst (λ r. Step old r first (Some status) mid) read step)))

  -- the same of a run
  goes_by : Run old (c ∷ cs) answers stop new
      → (first : List Answer) × (mid : State) × (later : List Answer) × Step old received first None mid × (answers ≡ first ++ later) × Run mid cs later stop new
  goes_by (first, None, mid, step, (later, is, run)) = (first, mid, later, subst (λ r. Step old r first None mid) read step, is, run)
  goes_by (first, Some status, mid, step, end) = absurd (cc (goes first (Some status) mid (subst (λ r. Step old r first (Some status) mid) read step)))

third : Option (List ℕ) → ℕ
third (Some (a ∷ b ∷ c ∷ rest)) = c
third _ = 0

apart : Some other_uri ≢ Some uri
unfolding third
apart e = let f : 121 ≡ 120 = ap third e in absurd (omega (arith, f))

unnamed : None ≢ Some uri
unnamed e = absurd (cc e)

abbrev asked_event : Event
asked_event = record { phase = Ready Utf16; room = true; received = asking; refused = false }

-- what is noted of the question
asked_so : (old mid : State) → old.phase ≡ Ready Utf16 → mid ≡ old → event_in uri old asking mid ≡ asked_event
asked_so old mid phase same =
    ap (λ (s : State). event_in uri old asking s) same
    ∙ (ap (λ b. record { phase = old.phase; room = true; received = asking; refused = b }) (loses_same (get old.documents uri))
    ∙ ap (λ p. record { phase = p; room = true; received = asking; refused = false }) phase)

module _ (file : FileGrammar) where
  abbrev opened_event : Event
  opened_event = event_in uri (ready file empty) opening (ready file (held file))

  -- both mixtures begin alike
  begun : (cs : List (List ℕ)) (answers : List Answer) (stop : Option ℕ) (new : State) (events : List Event) (sent : List Answer)
      → History uri (first_state file) (initializes ∷ opens ∷ cs) answers stop new events sent
      → (published : Answer) × (later : List Answer) × (more : List Event) × (rest : List Answer) × (answers ≡ capabilities_reply (of 1) Utf16 ∷ published ∷ later)
      × (events ≡ opened_event ∷ more) × (sent ≡ published ∷ rest) × History uri (ready file (held file)) cs later stop new more rest
  begun cs answers stop new events sent history =
      let a = passed (first_state file) initializes (opens ∷ cs) _ initializes_is answers stop new (λ first halt mid s. s.1) events sent unnamed history in
      let ha = subst (λ (m : State). History uri m (opens ∷ cs) a.2 stop new events sent) a.3.2 a.5 in
      let b = noted (ready file empty) opens cs opening opens_is a.2 stop new (λ first halt mid s. (opened file first halt mid s).2) events sent refl ha in
      let o = opened file b.0 None b.1 b.5 in (
        o.0,
        b.2,
        b.3,
        b.4,
        a.4 ∙ (ap (λ l. l ++ a.2) a.3.0 ∙ ap (λ l. capabilities_reply (of 1) Utf16 ∷ l) (b.6 ∙ ap (λ l. l ++ b.2) o.1)),
        b.7 ∙ ap (λ (m : State). event_in uri (ready file empty) opening m ∷ b.3) o.3,
        b.8 ∙ ap (λ l. l ++ b.4) o.1,
        subst (λ (m : State). History uri m cs b.2 stop new b.3 b.4) o.3 b.9,
      )

  first_of : (answers : List Answer) (stop : Option ℕ) (new : State) (events : List Event) (sent : List Answer)
      → History uri (first_state file) first_mix answers stop new events sent
      → (published reply : Answer) × (between : List Answer) × (answers ≡ capabilities_reply (of 1) Utf16 ∷ published ∷ (between ++ reply ∷ []))
      × (events ≡ opened_event ∷ asked_event ∷ []) × (sent ≡ published ∷ reply ∷ [])
  first_of answers stop new events sent history =
      let a = begun (opens_other ∷ asks ∷ []) answers stop new events sent history in
      let s = ready file (held file) in
      let b = passed s opens_other (asks ∷ []) opening_other opens_other_is a.1 stop new (λ first halt mid x. (goes_on s Utf16 refl other_uri [] (pos 1) first halt mid x).0) a.2 a.3 apart a.7 in
      let phase = (goes_on s Utf16 refl other_uri [] (pos 1) b.0 None b.1 b.3).1 in
      let c = noted b.1 asks [] asking asks_is b.2 stop new (λ first halt mid x. (replied b.1 Utf16 phase first halt mid x).2) a.2 a.3 refl b.5 in
      let r = replied b.1 Utf16 phase c.0 None c.1 c.5 in
      let end = c.9 in (
        a.0,
        r.0,
        b.0,
        a.4 ∙ ap (λ l. capabilities_reply (of 1) Utf16 ∷ a.0 ∷ l) (b.4 ∙ ap (λ l. b.0 ++ l) (c.6 ∙ (ap (λ l. l ++ c.2) r.1 ∙ ap (λ l. r.0 ∷ l) end.0.0))),
        a.5 ∙ ap (λ l. opened_event ∷ l) (c.7 ∙ (ap (λ e. e ∷ c.3) (asked_so b.1 c.1 phase r.3) ∙ ap (λ l. asked_event ∷ l) end.1)),
        a.6 ∙ ap (λ l. a.0 ∷ l) (c.8 ∙ (ap (λ l. l ++ c.4) r.1 ∙ ap (λ l. r.0 ∷ l) end.2)),
      )

  second_of : (answers : List Answer) (stop : Option ℕ) (new : State) (events : List Event) (sent : List Answer)
      → History uri (first_state file) second_mix answers stop new events sent
      → (published reply : Answer) × (after : List Answer) × (answers ≡ capabilities_reply (of 1) Utf16 ∷ published ∷ reply ∷ after)
      × (events ≡ opened_event ∷ asked_event ∷ []) × (sent ≡ published ∷ reply ∷ [])
  second_of answers stop new events sent history =
      let a = begun (asks ∷ opens_other ∷ []) answers stop new events sent history in
      let s = ready file (held file) in
      let c = noted s asks (opens_other ∷ []) asking asks_is a.1 stop new (λ first halt mid x. (replied s Utf16 refl first halt mid x).2) a.2 a.3 refl a.7 in
      let r = replied s Utf16 refl c.0 None c.1 c.5 in
      let phase : c.1.phase ≡ Ready Utf16 = ap (λ (m : State). m.phase) r.3 in
      let b = passed c.1 opens_other [] opening_other opens_other_is c.2 stop new (λ first halt mid x. (goes_on c.1 Utf16 phase other_uri [] (pos 1) first halt mid x).0) c.3 c.4 apart c.9 in
      let end = b.5 in (
        a.0,
        r.0,
        c.2,
        a.4 ∙ ap (λ l. capabilities_reply (of 1) Utf16 ∷ a.0 ∷ l) (c.6 ∙ ap (λ l. l ++ c.2) r.1),
        a.5 ∙ ap (λ l. opened_event ∷ l) (c.7 ∙ (ap (λ e. e ∷ c.3) (asked_so s c.1 refl r.3) ∙ ap (λ l. asked_event ∷ l) end.1)),
        a.6 ∙ ap (λ l. a.0 ∷ l) (c.8 ∙ (ap (λ l. l ++ c.4) r.1 ∙ ap (λ l. r.0 ∷ l) end.2)),
      )

  third_of : (answers : List Answer) (stop : Option ℕ) (new : State) (events : List Event) (sent : List Answer)
      → History uri (first_state file) without_other answers stop new events sent
      → (published reply : Answer) × (answers ≡ capabilities_reply (of 1) Utf16 ∷ published ∷ reply ∷ [])
      × (events ≡ opened_event ∷ asked_event ∷ []) × (sent ≡ published ∷ reply ∷ [])
  third_of answers stop new events sent history =
      let a = begun (asks ∷ []) answers stop new events sent history in
      let s = ready file (held file) in
      let c = noted s asks [] asking asks_is a.1 stop new (λ first halt mid x. (replied s Utf16 refl first halt mid x).2) a.2 a.3 refl a.7 in
      let r = replied s Utf16 refl c.0 None c.1 c.5 in
      let end = c.9 in (
        a.0,
        r.0,
        a.4 ∙ ap (λ l. capabilities_reply (of 1) Utf16 ∷ a.0 ∷ l) (c.6 ∙ (ap (λ l. l ++ c.2) r.1 ∙ ap (λ l. r.0 ∷ l) end.0.0)),
        a.5 ∙ ap (λ l. opened_event ∷ l) (c.7 ∙ (ap (λ e. e ∷ c.3) (asked_so s c.1 refl r.3) ∙ ap (λ l. asked_event ∷ l) end.1)),
        a.6 ∙ ap (λ l. a.0 ∷ l) (c.8 ∙ (ap (λ l. l ++ c.4) r.1 ∙ ap (λ l. r.0 ∷ l) end.2)),
      )

  -- the change leaves the server running, in the same phase
  changed_so : (first : List Answer) (halt : Option ℕ) (mid : State) → Step (ready file (held file)) changing first halt mid
      → (halt ≡ None) × (mid.phase ≡ Ready Utf16)
  changed_so first halt mid step =
      let c = subst (λ o. Changes o (ready file (held file)) uri (pos 2) both_changes first halt mid) (found file) step in by c.0 c.2
    where
      by : (state : DocumentState) → Holds (ready file (held file)) uri state first halt mid → (halt ≡ None) × (mid.phase ≡ Ready Utf16)
      by (is_open d) (published, is, e, (none, new)) = (none, ap (λ (s : State). s.phase) new)
      by (is_lost l) (e, (none, new)) = (none, ap (λ (s : State). s.phase) new)

  module _ (promises : Promises file) where
    pub mixed_alike : MixedAlike file
    mixed_alike answers others stop other_stop new other run other_run =
        let h = promises.histories uri (first_state file) first_mix answers stop new run in
        let k = promises.histories uri (first_state file) second_mix others other_stop other other_run in
        let a = first_of answers stop new h.0 h.1 h.2 in
        let b = second_of others other_stop other k.0 k.1 k.2 in
        let same = promises.by_history uri first_mix second_mix answers others stop other_stop new other h.0 h.1 k.1 h.2
        (subst (λ l. History uri (first_state file) second_mix others other_stop other l k.1) (b.4 ∙ sym a.4) k.2) in (
          a.0,
          a.1,
          b.0,
          b.1,
          a.2,
          b.2,
          a.3,
          b.3,
          subst (λ l. SendTheSame l (b.0 ∷ b.1 ∷ [])) a.5 (subst (λ l. SendTheSame h.1 l) b.5 same),
        )

    pub left_out_alike : LeftOutAlike file
    left_out_alike answers others stop other_stop new other run other_run =
        let h = promises.histories uri (first_state file) first_mix answers stop new run in
        let k = promises.histories uri (first_state file) without_other others other_stop other other_run in
        let a = first_of answers stop new h.0 h.1 h.2 in
        let b = third_of others other_stop other k.0 k.1 k.2 in
        let same = promises.left_out uri first_mix answers others stop other_stop new other h.0 k.0 h.1 k.1 h.2
        (subst (λ cs. History uri (first_state file) cs others other_stop other k.0 k.1) (sym concerning_is) k.2)
        (subst (λ (es : List Event). All (λ (e : Event). e.room ≡ true) es) (sym a.4)
        (All-from_recursion (λ (e : Event). e.room ≡ true) (opened_event ∷ asked_event ∷ []) (room empty (len-empty _ _), (refl, tt))))
        (ap (map (λ (e : Event). e.refused)) (b.3 ∙ sym a.4)) in (
          a.0,
          a.1,
          b.0,
          b.1,
          a.2,
          a.3,
          b.2,
          subst (λ l. SendTheSame l (b.0 ∷ b.1 ∷ [])) a.5 (subst (λ l. SendTheSame h.1 l) b.4 same.0),
          same.1,
        )

    pub replies_in_order : RepliesInOrder file
    replies_in_order answers stop new run = (
      promises.replies (first_state file) until_exit answers stop new run ∙ due_is,
      (promises.exit (first_state file) until_exit answers stop new run).1 ∙ ap (λ b. if b then Some (exit_status new.phase) else None) ends_is,
    )

    pub opens_silently : OpensSilently
    opens_silently old new answers stop step = promises.notifications old (open_text uri (pos 1) []) answers stop new (subst (λ r. Step old r answers stop new) opens_is step)

    pub opens_small : OpensSmall file
    opens_small answers stop new run lost =
        let a = goes_by (first_state file) initializes (opens ∷ []) _ initializes_is answers stop new (λ first halt mid s. s.1) run in
        let phase : a.1.phase ≡ Ready Utf16 = ap (λ (m : State). m.phase) a.3.2 in
        let b = goes_by a.1 opens [] opening opens_is a.2 stop new (λ first halt mid s. (goes_on a.1 Utf16 phase uri [] (pos 1) first halt mid s).0) a.5 in
        let begun : Run (first_state file) (initializes ∷ []) (a.0 ++ []) None a.1 =
        (a.0, None, a.1, subst (λ r. Step (first_state file) r a.0 None a.1) (sym initializes_is) a.3, ([], refl, (refl, refl, refl))) in
        let exact = (promises.too_large (initializes ∷ []) (a.0 ++ []) a.1 Utf16 opens uri (pos 1) b.0 None b.1 begun phase
        (subst (λ r. Step a.1 r b.0 None b.1) (sym opens_is) b.3)).0 [] opens_is (ap (λ (m : State). has_room uri m.documents) a.3.2 ∙ room empty (len-empty _ _)) in
        let many = exact.0 (sym (ap (λ (m : State). get m.documents uri) b.5.2) ∙ lost) in
        absurd (omega (arith, many))

    pub leaves_the_other : LeavesTheOther file
    leaves_the_other old new answers stop is step =
        (promises.alone uri opening_other old answers stop new is (subst (λ r. Step old r answers stop new) opens_other_is step)).0 apart

    pub replies_alike : RepliesAlike file
    replies_alike one two new other answers others stop other_stop is file_is phase held step other_step =
        let a = subst (λ r. Step one r answers stop new) asks_is step in
        let b = subst (λ r. Step two r others other_stop other) asks_is other_step in
        ((promises.alone uri asking one answers stop new is a).1 refl two others other_stop other
        (record { file = file_is; phase = phase; held = held; room = refl }) b (unlost two others other_stop other b ∙ sym (unlost one answers stop new a))).sent
      where
        unlost : (old : State) (first : List Answer) (halt : Option ℕ) (mid : State) → Step old asking first halt mid → loses_memory uri old mid ≡ false
        unlost old first halt mid step = by old.phase step
          where
            same : mid ≡ old → loses_memory uri old mid ≡ false
            same is = ap (λ (m : State). loses_memory uri old m) is ∙ loses_same (get old.documents uri)

            by : (phase : Phase) → OnRequest phase old (of 2) (about uri its_text) first halt mid → loses_memory uri old mid ≡ false
            by New s = same s.2
            by (Ready unit) s = same s.2.2
            by Down s = same s.2

    pub opens_unicode : OpensUnicode
    opens_unicode content name text version is =
        let all = promises.unicode content (accepted (notification (open_text name version text))) is in
        (All-head IsSpelled name (text ∷ []) all, All-head IsSpelled text [] (All-tail IsSpelled name (text ∷ []) all))

    -- the run, and the states on its way
    pub ends_as_fresh : EndsAsFresh file
    ends_as_fresh answers stop new run =
        let a = goes_by (first_state file) initializes (opens ∷ types ∷ []) _ initializes_is answers stop new (λ first halt mid s. s.1) run in
        let ra = subst (λ (m : State). Run m (opens ∷ types ∷ []) a.2 stop new) a.3.2 a.5 in
        let b = goes_by (ready file empty) opens (types ∷ []) opening opens_is a.2 stop new (λ first halt mid s. (opened file first halt mid s).2) ra in
        let rb = subst (λ (m : State). Run m (types ∷ []) b.2 stop new) (opened file b.0 None b.1 b.3).3 b.5 in
        let c = goes_by (ready file (held file)) types [] changing types_is b.2 stop new (λ first halt mid s. (changed_so first halt mid s).0) rb in
        let phase : new.phase ≡ Ready Utf16 = ap (λ (m : State). m.phase) c.5.2 ∙ (changed_so c.0 None c.1 c.3).1 in
        let whole = subst (λ s. Run (first_state file) (initializes ∷ opens ∷ types ∷ []) answers s new) c.5.1 run in
        ⊎_elim
        (λ text. inr (promises.fresh (initializes ∷ opens ∷ types ∷ []) answers new Utf16 uri
        (record { unit = Utf16; version = pos 2; text = codes "2"; last = text.0 }) whole phase (ap (λ (m : State). get m.documents uri) c.5.2 ∙ text.1)))
        (λ lost. inl (ap (λ (m : State). get m.documents uri) c.5.2 ∙ lost))
        (promises.edits (ready file (held file)) c.1 Utf16 uri (pos 2) both_changes no_text (codes "2") c.0 None refl (found file) edited_is c.3).0
