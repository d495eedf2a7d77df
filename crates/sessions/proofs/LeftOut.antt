-- What is sent about a document stays the same where the messages about other documents are left out.
use Rattle.sessions.proofs.Std.{All, Bool, Decides, List, MatchOption, None, Option, Some, cond, false, if◌then◌else◌, map, nat_lt, true, ℕ, ap, refl, subst, sym, contains_key, empty, get, get-empty, len-empty, nat_cmp-IsAntisymmetric, same_map, slice_cmp-IsAntisymmetric, inl, inr, ⊎_elim, nat_cmp}
use Rattle.sessions.proofs.Std.{slice_cmp}
use Rattle.sessions.proofs.Std.{[], ◌++◌, ◌||◌, ◌∙◌, ◌∷◌, ◌≡◌, ◌≢◌}
use Rattle.sessions.proofs.Std.{All-head, All-tail, bytes_eq-Decides, nat_list_cmp_total}
use Rattle.sessions.proofs.Common.{Answer, FileGrammar, Received, about, accepted, change_text, close, exit, ignored, initialize, initialized, is_text, malformed, notification, open_text, received_in, refused, request, shutdown, stats, unread}
use Rattle.sessions.proofs.Common.{DocumentState, Event, HistoriesDecide, History, Notes, OthersCanBeLeftOut, Phase, State, Step, concerning, concerns, due, event_in, exit_status, finds_room, first_state, has_room, is_exit, is_lifecycle, loses_memory, named}
use Rattle.sessions.proofs.Alone.{step_leaves}
use Rattle.sessions.proofs.LookUps.{same_or_not}
use Rattle.sessions.proofs.Replied.{Goes, halts, next_phase, step_goes}

-- ---- which messages are kept

-- a message that decides no phase leaves it, and doesn't stop the session
calm : (received : Received) (phase : Phase) → is_lifecycle received ≡ false → (next_phase received phase ≡ phase) × (is_exit received ≡ false)
calm unread phase e = (refl, refl)
calm (refused r) phase e = (refl, refl)
calm (accepted ignored) phase e = (refl, refl)
calm (accepted (request id (initialize unit))) phase e = absurd (let f : ⊥ = cc in f)
calm (accepted (request id shutdown)) phase e = absurd (let f : ⊥ = cc in f)
calm (accepted (request id (about uri question))) phase e = (refl, refl)
calm (accepted (request id (stats uri))) phase e = (refl, refl)
calm (accepted (notification initialized)) phase e = (refl, refl)
calm (accepted (notification exit)) phase e = absurd (let f : ⊥ = cc in f)
calm (accepted (notification (open_text uri version text))) phase e = (refl, refl)
calm (accepted (notification (change_text uri version changes))) phase e = (refl, refl)
calm (accepted (notification (close uri))) phase e = (refl, refl)
calm (accepted (notification (malformed unfit))) phase e = (refl, refl)

-- one that does names no document
nameless : (received : Received) → is_lifecycle received ≡ true → named received ≡ None
nameless (accepted (request id (initialize unit))) e = refl
nameless (accepted (request id shutdown)) e = refl
nameless (accepted (notification exit)) e = refl
nameless (accepted (request id (about uri question))) e = absurd (let f : ⊥ = cc in f)
nameless (accepted (request id (stats uri))) e = absurd (let f : ⊥ = cc in f)
nameless (accepted (notification initialized)) e = absurd (let f : ⊥ = cc in f)
nameless (accepted (notification (open_text uri version text))) e = absurd (let f : ⊥ = cc in f)
nameless (accepted (notification (change_text uri version changes))) e = absurd (let f : ⊥ = cc in f)
nameless (accepted (notification (close uri))) e = absurd (let f : ⊥ = cc in f)
nameless (accepted (notification (malformed unfit))) e = absurd (let f : ⊥ = cc in f)
nameless (accepted ignored) e = absurd (let f : ⊥ = cc in f)
nameless (refused r) e = absurd (let f : ⊥ = cc in f)
nameless unread e = absurd (let f : ⊥ = cc in f)

-- `is_text` says whether this is the name
names : (uri : List ℕ) (name : Option (List ℕ)) → Decides (is_text uri name) (name ≡ Some uri)
names uri None = ((λ e. absurd (let f : ⊥ = cc in f)), (λ e. absurd (let f : ⊥ = cc in f)))
names uri (Some other) = let d = bytes_eq-Decides other uri in ((λ e. ap Some (d.0 e)), (λ e. d.1 (let same : other ≡ uri = cc e in same)))

-- what is left out names another document, or none, and decides no phase
left_out : (uri : List ℕ) (received : Received) → concerns uri received ≡ false → (is_lifecycle received ≡ false) × (named received ≢ Some uri)
left_out uri received e = by (is_lifecycle received) (is_text uri (named received)) refl refl e
  where
    by : (a b : Bool) → is_lifecycle received ≡ a → is_text uri (named received) ≡ b → a || b ≡ false → (is_lifecycle received ≡ false) × (named received ≢ Some uri)
    by true b ea eb e = absurd (let f : ⊥ = cc in f)
    by false true ea eb e = absurd (let f : ⊥ = cc in f)
    by false false ea eb e = (ea, λ is. let yes = (names uri (named received)).1 is in let f : ⊥ = cc in f)

-- what is kept names no other document
kept : (uri other : List ℕ) (received : Received) → concerns uri received ≡ true → other ≢ uri → named received ≢ Some other
kept uri other received e apart is = by (is_lifecycle received) (is_text uri (named received)) refl refl e
  where
    by : (a b : Bool) → is_lifecycle received ≡ a → is_text uri (named received) ≡ b → a || b ≡ true → ⊥
    by true b ea eb e = let none = nameless received ea in let f : ⊥ = cc in f
    by false true ea eb e = let here = (names uri (named received)).0 eb in apart (let same : other ≡ uri = cc in same)
    by false false ea eb e = let f : ⊥ = cc in f

-- ---- what is held

-- no other document is held
abbrev HoldsNoOther : List ℕ → State → Type 0
HoldsNoOther uri state = (other : List ℕ) → other ≢ uri → get state.documents other ≡ None

still_no_other : (uri : List ℕ) (old : State) (received : Received) (answers : List Answer) (stop : Option ℕ) (new : State)
    → Step old received answers stop new → concerns uri received ≡ true → HoldsNoOther uri old → HoldsNoOther uri new
still_no_other uri old received answers stop new step e all other apart =
    step_leaves old received answers stop new step other (kept uri other received e apart) ∙ all other apart

or_true : (b : Bool) → b || true ≡ true
or_true true = refl
or_true false = refl

has_room_alone : (uri : List ℕ) (state : State) → HoldsNoOther uri state → has_room uri state.documents ≡ true
has_room_alone uri state all = by (get state.documents uri) refl
  where
    none_held : get state.documents uri ≡ None → state.documents ≡ empty
    none_held e = same_map nat_list_cmp_total (slice_cmp-IsAntisymmetric nat_cmp-IsAntisymmetric) state.documents empty
        (λ q. ⊎_elim (λ same. ap (get state.documents) same ∙ e) (λ apart. all q apart) (same_or_not uri q) ∙ sym (get-empty (slice_cmp nat_cmp) q))

    by : (o : Option DocumentState) → get state.documents uri ≡ o → has_room uri state.documents ≡ true
    by (Some d) e = rw e refl
    by None e =
        ap (has_room uri) (none_held e)
        ∙ ap (λ n. contains_key (empty {K = List ℕ} {X = DocumentState} {R = slice_cmp nat_cmp}) uri || nat_lt n 64) (len-empty (slice_cmp nat_cmp) DocumentState)
        ∙ or_true (contains_key (empty {K = List ℕ} {X = DocumentState} {R = slice_cmp nat_cmp}) uri)

finds_room_alone : (uri : List ℕ) (state : State) (received : Received) → HoldsNoOther uri state → finds_room uri state received ≡ true
finds_room_alone uri state (accepted (notification (open_text other version text))) all = has_room_alone uri state all
finds_room_alone uri state (accepted (notification initialized)) all = refl
finds_room_alone uri state (accepted (notification exit)) all = refl
finds_room_alone uri state (accepted (notification (change_text other version changes))) all = refl
finds_room_alone uri state (accepted (notification (close other))) all = refl
finds_room_alone uri state (accepted (notification (malformed unfit))) all = refl
finds_room_alone uri state (accepted (request id call)) all = refl
finds_room_alone uri state (accepted ignored) all = refl
finds_room_alone uri state (refused r) all = refl
finds_room_alone uri state unread all = refl

-- ---- the same is received

abbrev AllRooms : List Event → Type 0
AllRooms events = All (λ (e : Event). e.room ≡ true) events

abbrev refusals : List Event → List Bool
refusals events = map (λ (e : Event). e.refused) events

-- what two histories have in common, the second over the contents that concern the document, from states of one phase
abbrev Alike : List ℕ → List (List ℕ) → Type 0
Alike uri contents =
    (one two : State) (answers other_answers : List Answer) (stop other_stop : Option ℕ) (new other : State) (events other_events : List Event) (sent other_sent : List Answer)
    → two.phase ≡ one.phase → HoldsNoOther uri two → History uri one contents answers stop new events sent
    → History uri two (concerning uri contents) other_answers other_stop other other_events other_sent
    → AllRooms events → refusals other_events ≡ refusals events → (other_events ≡ events) × (other_stop ≡ stop)

-- how a history goes on after one message
abbrev GoesOn : List ℕ → List (List ℕ) → List Answer → List Answer → Option ℕ → State → State → List Event → List Answer → Option ℕ → Type 0
GoesOn uri contents answers first stop new mid more rest halt =
    MatchOption halt
    ((later : List Answer) × (answers ≡ first ++ later) × History uri mid contents later stop new more rest)
    (λ status. (answers ≡ first) × (stop ≡ Some status) × (new ≡ mid) × (more ≡ []) × (rest ≡ []))

same_event : (uri : List ℕ) (received : Received) (one two mid other : State) → two.phase ≡ one.phase → finds_room uri two received ≡ finds_room uri one received
    → loses_memory uri two other ≡ loses_memory uri one mid → event_in uri two received other ≡ event_in uri one received mid
same_event uri received one two mid other phase room lost =
    ap (λ (p : Phase). record { phase = p; room = finds_room uri two received; received = received; refused = loses_memory uri two other }) phase
    ∙ ap (λ (b : Bool). record { phase = one.phase; room = b; received = received; refused = loses_memory uri two other }) room
    ∙ ap (λ (b : Bool). record { phase = one.phase; room = finds_room uri one received; received = received; refused = b }) lost

module _ (uri : List ℕ) (content : List ℕ) (contents : List (List ℕ)) (go : Alike uri contents) (one two : State) (answers other_answers : List Answer) (stop other_stop : Option ℕ)
    (new other : State) (phase : two.phase ≡ one.phase) (alone : HoldsNoOther uri two) where
  -- the message is left out
  passed : (events other_events : List Event) (sent other_sent first : List Answer) (halt : Option ℕ) (mid : State) (more : List Event) (rest : List Answer)
      → concerns uri (received_in content) ≡ false → Step one (received_in content) first halt mid
      → Notes uri one (received_in content) first mid events sent more rest → GoesOn uri contents answers first stop new mid more rest halt
      → History uri two (concerning uri contents) other_answers other_stop other other_events other_sent → AllRooms events → refusals other_events ≡ refusals events
      → (other_events ≡ events) × (other_stop ≡ stop)
  passed events other_events sent other_sent first halt mid more rest e step (inl n) later u rooms lost = absurd ((left_out uri (received_in content) e).1 n.0)
  passed events other_events sent other_sent first halt mid more rest e step (inr n) later u rooms lost =
      by (left_out uri (received_in content) e).0 halt (step_goes one first halt mid (received_in content) step) later
    where
      by : is_lifecycle (received_in content) ≡ false → (halt : Option ℕ)
          → Goes (next_phase (received_in content) one.phase) (halts (received_in content) one.phase) (due (received_in content)) first halt mid
          → GoesOn uri contents answers first stop new mid more rest halt → (other_events ≡ events) × (other_stop ≡ stop)
      by apart None g (later, is, h) =
          let now : two.phase ≡ mid.phase = phase ∙ sym (g.phase_is ∙ (calm (received_in content) one.phase apart).0) in
          let t = go mid two later other_answers stop other_stop new other more other_events rest other_sent now alone h u (subst AllRooms n.1 rooms) (lost ∙ ap refusals n.1) in
          (t.0 ∙ sym n.1, t.1)
      by apart (Some status) g later =
          let none : Some status ≡ None = g.stop_is ∙ ap (λ b. if b then Some (exit_status one.phase) else None) (calm (received_in content) one.phase apart).1 in
          let f : ⊥ = cc in absurd f

  -- both receive it
  module _ (first other_first : List Answer) (halt other_halt : Option ℕ) (mid other_mid : State) (more other_more : List Event) (rest other_rest : List Answer)
      (e : concerns uri (received_in content) ≡ true) (step : Step one (received_in content) first halt mid) (other_step : Step two (received_in content) other_first other_halt other_mid) where
    both_go : GoesOn uri contents answers first stop new mid more rest halt
        → GoesOn uri (concerning uri contents) other_answers other_first other_stop other other_mid other_more other_rest other_halt
        → AllRooms more → refusals other_more ≡ refusals more → (other_more ≡ more) × (other_stop ≡ stop)
    both_go later other_later rooms lost =
        let a = step_goes one first halt mid (received_in content) step in
        let b = step_goes two other_first other_halt other_mid (received_in content) other_step in
        by halt other_halt (b.stop_is ∙ ap (halts (received_in content)) phase ∙ sym a.stop_is)
        (b.phase_is ∙ ap (next_phase (received_in content)) phase ∙ sym a.phase_is)
        (still_no_other uri two (received_in content) other_first other_halt other_mid other_step e alone) later other_later
      where
        by : (halt other_halt : Option ℕ) → other_halt ≡ halt → other_mid.phase ≡ mid.phase → HoldsNoOther uri other_mid → GoesOn uri contents answers first stop new mid more rest halt
            → GoesOn uri (concerning uri contents) other_answers other_first other_stop other other_mid other_more other_rest other_halt → (other_more ≡ more) × (other_stop ≡ stop)
        by None None same now none (later, is, h) (other_later, other_is, k) =
            go mid other_mid later other_later stop other_stop new other more other_more rest other_rest now none h k rooms lost
        by (Some x) (Some y) same now none h k = (k.3 ∙ sym h.3, k.1 ∙ same ∙ sym h.1)
        by None (Some y) same now none h k = let f : ⊥ = cc same in absurd f
        by (Some x) None same now none h k = let f : ⊥ = cc same in absurd f

    received_both : (events other_events : List Event) (sent other_sent : List Answer) → Notes uri one (received_in content) first mid events sent more rest
        → Notes uri two (received_in content) other_first other_mid other_events other_sent other_more other_rest
        → GoesOn uri contents answers first stop new mid more rest halt → GoesOn uri (concerning uri contents) other_answers other_first other_stop other other_mid other_more other_rest other_halt
        → AllRooms events → refusals other_events ≡ refusals events → (other_events ≡ events) × (other_stop ≡ stop)
    received_both events other_events sent other_sent (inl n) (inl m) later other_later rooms lost =
        let rooms_now = subst AllRooms n.1 rooms in
        let here = event_in uri one (received_in content) mid in
        let there = event_in uri two (received_in content) other_mid in
        let lists : there.refused ∷ refusals other_more ≡ here.refused ∷ refusals more = sym (ap refusals m.1) ∙ lost ∙ ap refusals n.1 in
        let heads : there.refused ≡ here.refused = cc lists in
        let tails : refusals other_more ≡ refusals more = cc lists in
        let t = both_go later other_later (All-tail (λ (x : Event). x.room ≡ true) here more rooms_now) tails in
        let room = finds_room_alone uri two (received_in content) alone ∙ sym (All-head (λ (x : Event). x.room ≡ true) here more rooms_now) in
        let same = same_event uri (received_in content) one two mid other_mid phase room heads in
        (m.1 ∙ ap (λ es. there ∷ es) t.0 ∙ ap (λ (x : Event). x ∷ more) same ∙ sym n.1, t.1)
    received_both events other_events sent other_sent (inr n) (inr m) later other_later rooms lost =
        let t = both_go later other_later (subst AllRooms n.1 rooms) (sym (ap refusals m.1) ∙ lost ∙ ap refusals n.1) in
        (m.1 ∙ t.0 ∙ sym n.1, t.1)
    received_both events other_events sent other_sent (inl n) (inr m) later other_later rooms lost = absurd (m.0 n.0)
    received_both events other_events sent other_sent (inr n) (inl m) later other_later rooms lost = absurd (n.0 m.0)

  next_alike : (events other_events : List Event) (sent other_sent : List Answer) → History uri one (content ∷ contents) answers stop new events sent
      → History uri two (concerning uri (content ∷ contents)) other_answers other_stop other other_events other_sent
      → AllRooms events → refusals other_events ≡ refusals events → (other_events ≡ events) × (other_stop ≡ stop)
  next_alike events other_events sent other_sent (first, halt, mid, more, rest, step, notes, later) u rooms lost = by (concerns uri (received_in content)) refl u
    where
      by : (b : Bool) → concerns uri (received_in content) ≡ b
          → History uri two (cond b (content ∷ concerning uri contents) (concerning uri contents)) other_answers other_stop other other_events other_sent
          → (other_events ≡ events) × (other_stop ≡ stop)
      by false e u = passed events other_events sent other_sent first halt mid more rest e step notes later u rooms lost
      by true e (other_first, other_halt, other_mid, other_more, other_rest, other_step, other_notes, other_later) =
          received_both first other_first halt other_halt mid other_mid more other_more rest other_rest e step other_step events other_events sent other_sent
          notes other_notes later other_later rooms lost

alike : (uri : List ℕ) (contents : List (List ℕ)) → Alike uri contents
alike uri [] one two answers other_answers stop other_stop new other events other_events sent other_sent phase alone t u rooms lost = (u.1 ∙ sym t.1, u.0.1 ∙ sym t.0.1)
alike uri (content ∷ contents) one two answers other_answers stop other_stop new other events other_events sent other_sent phase alone t u rooms lost =
    next_alike uri content contents (alike uri contents) one two answers other_answers stop other_stop new other phase alone events other_events sent other_sent t u rooms lost

pub others_can_be_left_out : (file : FileGrammar) → HistoriesDecide file → OthersCanBeLeftOut file
others_can_be_left_out file decide uri contents answers other_answers stop other_stop new other events other_events sent other_sent t u rooms lost =
    let first = first_state file in
    let same = alike uri contents first first answers other_answers stop other_stop new other events other_events sent other_sent refl
    (λ q apart. get-empty (slice_cmp nat_cmp) q) t u rooms lost in (
      decide uri contents (concerning uri contents) answers other_answers stop other_stop new other events sent other_sent t
          (subst (λ (es : List Event). History uri first (concerning uri contents) other_answers other_stop other es other_sent) same.0 u),
      same.1,
    )
