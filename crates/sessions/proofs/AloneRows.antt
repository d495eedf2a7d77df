-- What is noted of a message about a document and of one about another, states that look alike for a document, and uses of the laws of
-- isolation on sessions of two messages.
use Rattle.std.specs.Char.{encode_utf8}
use Rattle.std.specs.FinMap.{empty, get, insert, get-empty, get-insert}
use Rattle.std.specs.Prelude.{◌≡◌, ◌≢◌, ℕ, pos, true, false, List, [], ◌∷◌, ◌++◌, map, All, codes, refl, Option, Some, None, MatchOption, slice_index}
use Rattle.std.specs.Str.{chars, is_utf8}
use Rattle.std.proofs.Common.{ap, arith, inl, inr, sym, subst, ◌∙◌}
use Rattle.std.proofs.lemmas.Cmp.{nat_list_cmp_total}
use Rattle.std.proofs.lemmas.List.Elements.{All-from_recursion}
use Rattle.readings.specs.Grammars.{FileGrammar}
use Rattle.readings.specs.Texts.{OpenDocument}
use Rattle.rpc.specs.Ids.{Ident, numbered}
use Rattle.rpc.specs.Loss.TheVariants as loss
use Rattle.rpc.specs.Messages.{Received, about, its_text, open_text, change_text, request, notification, accepted, initialize, shutdown, initialized, exit, ignored, unread}
use Rattle.rpc.specs.Reading.{received_in}
use Rattle.rpc.specs.Refusal.TheVariants as refusal
use Rattle.rpc.specs.Replies.{Answer, error_reply}
use Rattle.rpc.specs.Unit.TheVariants.{Utf16}
use Rattle.serde_json.proofs.OnLiterals.{serde_json_on_literals}
use Rattle.sessions.specs.Alone.{loses, loses_memory, AreAlikeFor, SameFor, EachDocumentIsAlone, EachRunHasAHistory, HistoriesDecide, Event, event_in, Notes, History}
use Rattle.sessions.specs.Alone.{is_lifecycle, concerns, concerning, OthersCanBeLeftOut}
use Rattle.sessions.specs.Answers.{but_nodes}
use Rattle.sessions.specs.Documents.{is_open, is_lost, Held, has_room}
use Rattle.sessions.specs.Fresh.{Publishes}
use Rattle.sessions.specs.Runs.{Run}
use Rattle.sessions.specs.Steps.{State, first_state, Step}
use Rattle.sessions.specs.declared.phase.Phase.TheVariants.{New, Ready}

abbrev uri : List ℕ
uri = codes "a:x"

abbrev other : List ℕ
other = codes "a:y"

abbrev id : ℕ → Ident
id n = numbered (pos n)

abbrev document : OpenDocument
document = record { unit = Utf16; version = pos 2; text = codes "2"; last = None }

different : other ≢ uri
different e = omega (arith, ap (λ l. slice_index l 2) e)

-- ---- two messages before `initialize`: a question about each of two documents

abbrev asks : List ℕ
asks = codes "{\"jsonrpc\":\"2.0\",\"id\":1,\"method\":\"lr/text\",\"params\":{\"textDocument\":{\"uri\":\"a:x\"}}}"

abbrev asks_other : List ℕ
asks_other = codes "{\"jsonrpc\":\"2.0\",\"id\":2,\"method\":\"lr/text\",\"params\":{\"textDocument\":{\"uri\":\"a:y\"}}}"

abbrev asked : Received
asked = accepted (request (id 1) (about uri its_text))

abbrev asked_other : Received
asked_other = accepted (request (id 2) (about other its_text))

asks_is : received_in asks ≡ asked
unfolding chars encode_utf8 is_utf8 serde_json_on_literals
asks_is = refl

asks_other_is : received_in asks_other ≡ asked_other
unfolding chars encode_utf8 is_utf8 serde_json_on_literals
asks_other_is = refl

abbrev too_early : ℕ → Answer
too_early n = error_reply (Some (id n)) refusal.NotInitialized

abbrev event : Event
event = record { phase = New; room = true; received = asked; refused = false }

module _ (file : FileGrammar) where
  abbrev new : State
  new = first_state file

  nothing_held : get new.documents uri ≡ None
  nothing_held = get-empty _ uri

  nothing_lost : loses_memory uri new new ≡ false
  nothing_lost = ap (λ o. loses o o) nothing_held

  event_is : event_in uri new asked new ≡ event
  event_is = ap (λ b. record { phase = New; room = true; received = asked; refused = b }) nothing_lost

  -- of a message that names the document its event and all answers are noted
  noted : Notes uri new asked (too_early 1 ∷ []) new (event ∷ []) (too_early 1 ∷ []) [] []
  noted = inl (refl, ap (λ e. e ∷ []) (sym event_is), refl)

  -- of one that names another nothing
  not_noted : Notes other new asked (too_early 1 ∷ []) new [] [] [] []
  not_noted = inr ((λ e. different (sym (cc e))), refl, refl)

  not_sent : Notes uri new asked (too_early 1 ∷ []) new (event ∷ []) [] [] [] → ⊥
  not_sent (inl n) = absurd (cc n.2)
  not_sent (inr n) = n.0 refl

  no_event : Notes uri new asked (too_early 1 ∷ []) new [] (too_early 1 ∷ []) [] [] → ⊥
  no_event (inl n) = absurd (cc n.1)
  no_event (inr n) = n.0 refl

  sent_of_another : Notes other new asked (too_early 1 ∷ []) new [] (too_early 1 ∷ []) [] [] → ⊥
  sent_of_another (inl n) = different (sym (cc n.0))
  sent_of_another (inr n) = absurd (cc n.2)

  event_of_another : (e : Event) → Notes other new asked (too_early 1 ∷ []) new (e ∷ []) [] [] [] → ⊥
  event_of_another e (inl n) = different (sym (cc n.0))
  event_of_another e (inr n) = absurd (cc n.1)

  noted_before : Notes uri new asked (too_early 1 ∷ []) new (event ∷ event ∷ []) (too_early 1 ∷ too_early 2 ∷ []) (event ∷ []) (too_early 2 ∷ [])
  noted_before = inl (refl, ap (λ e. e ∷ event ∷ []) (sym event_is), refl)

  -- ---- runs and histories of two contents

  step_one : Step new (received_in asks) (too_early 1 ∷ []) None new
  step_one = subst (λ r. Step new r (too_early 1 ∷ []) None new) (sym asks_is) (refl, refl, refl)

  step_two : Step new (received_in asks_other) (too_early 2 ∷ []) None new
  step_two = subst (λ r. Step new r (too_early 2 ∷ []) None new) (sym asks_other_is) (refl, refl, refl)

  run_of_two : Run new (asks ∷ asks_other ∷ []) (too_early 1 ∷ too_early 2 ∷ []) None new
  run_of_two = (too_early 1 ∷ [], None, new, step_one, (too_early 2 ∷ [], refl, (too_early 2 ∷ [], None, new, step_two, ([], refl, (refl, refl, refl)))))

  answered_so : (answers : List Answer) (stop : Option ℕ) (after : State) → Run new (asks ∷ asks_other ∷ []) answers stop after
      → answers ≡ too_early 1 ∷ too_early 2 ∷ []
  answered_so answers stop after (first, halt, mid, step, more) = begun first halt mid (subst (λ r. Step new r first halt mid) asks_is step) more
    where
      second : (later : List Answer) → Run new (asks_other ∷ []) later stop after → later ≡ too_early 2 ∷ []
      second later (first, None, mid, step, (rest, is, run)) =
          let s = subst (λ r. Step new r first None mid) asks_other_is step in
          is ∙ ap (λ l. l ++ rest) s.0 ∙ ap (λ l. too_early 2 ∷ l) run.0
      second later (first, Some status, mid, step, end) =
          let s = subst (λ r. Step new r first (Some status) mid) asks_other_is step in absurd (cc s.1)

      begun : (first : List Answer) (halt : Option ℕ) (mid : State) → Step new asked first halt mid
          → MatchOption halt ((rest : List Answer) × (answers ≡ first ++ rest) × Run mid (asks_other ∷ []) rest stop after)
          (λ status. (answers ≡ first) × (stop ≡ Some status) × (after ≡ mid)) → answers ≡ too_early 1 ∷ too_early 2 ∷ []
      begun first None mid s (rest, is, run) =
          is ∙ ap (λ l. l ++ rest) s.0 ∙ ap (λ l. too_early 1 ∷ l) (second rest (subst (λ x. Run x (asks_other ∷ []) rest stop after) s.2 run))
      begun first (Some status) mid s end = absurd (cc s.1)

  exchanged : Run new (asks ∷ asks_other ∷ []) (too_early 2 ∷ too_early 1 ∷ []) None new → ⊥
  exchanged r = absurd (cc (answered_so (too_early 2 ∷ too_early 1 ∷ []) None new r))

  -- what is received about the first document, whichever message comes first
  history : History uri new (asks ∷ asks_other ∷ []) (too_early 1 ∷ too_early 2 ∷ []) None new (event ∷ []) (too_early 1 ∷ [])
  history = (
    too_early 1 ∷ [],
    None,
    new,
    [],
    [],
    step_one,
    subst (λ r. Notes uri new r (too_early 1 ∷ []) new (event ∷ []) (too_early 1 ∷ []) [] []) (sym asks_is) noted,
    (
      too_early 2 ∷ [],
      refl,
      (
        too_early 2 ∷ [],
        None,
        new,
        [],
        [],
        step_two,
        subst (λ r. Notes uri new r (too_early 2 ∷ []) new [] [] [] []) (sym asks_other_is) (inr ((λ e. different (cc e)), refl, refl)),
        ([], refl, ((refl, refl, refl), refl, refl)),
      ),
    ),
  )

  other_first : History uri new (asks_other ∷ asks ∷ []) (too_early 2 ∷ too_early 1 ∷ []) None new (event ∷ []) (too_early 1 ∷ [])
  other_first = (
    too_early 2 ∷ [],
    None,
    new,
    event ∷ [],
    too_early 1 ∷ [],
    step_two,
    subst (λ r. Notes uri new r (too_early 2 ∷ []) new (event ∷ []) (too_early 1 ∷ []) (event ∷ []) (too_early 1 ∷ [])) (sym asks_other_is) (inr ((λ e. different (cc e)), refl, refl)),
    (
      too_early 1 ∷ [],
      refl,
      (
        too_early 1 ∷ [],
        None,
        new,
        [],
        [],
        step_one,
        subst (λ r. Notes uri new r (too_early 1 ∷ []) new (event ∷ []) (too_early 1 ∷ []) [] []) (sym asks_is) noted,
        ([], refl, ((refl, refl, refl), refl, refl)),
      ),
    ),
  )

  -- a history that leaves out the document's message, or sends nothing on it
  begins : (first : List Answer) (mid : State) (events more : List Event) (sent rest : List Answer)
      → Step new (received_in asks) first None mid → Notes uri new (received_in asks) first mid events sent more rest
      → (events ≡ event_in uri new asked mid ∷ more) × (sent ≡ too_early 1 ∷ rest)
  begins first mid events more sent rest step notes =
      go (subst (λ r. Step new r first None mid) asks_is step) (subst (λ r. Notes uri new r first mid events sent more rest) asks_is notes)
    where
      go : Step new asked first None mid → Notes uri new asked first mid events sent more rest
          → (events ≡ event_in uri new asked mid ∷ more) × (sent ≡ too_early 1 ∷ rest)
      go s (inl n) = (n.1, n.2 ∙ ap (λ l. l ++ rest) s.0)
      go s (inr n) = absurd (n.0 refl)

  no_history : (answers : List Answer) (after : State) (sent : List Answer) → History uri new (asks ∷ []) answers None after [] sent → ⊥
  no_history answers after sent (first, None, mid, more, rest, step, notes, later) = absurd (cc ((begins first mid [] more sent rest step notes).0))
  no_history answers after sent (first, Some status, mid, more, rest, step, notes, later) = absurd (cc later.1)

  nothing_sent : (answers : List Answer) (after : State) (events : List Event) → History uri new (asks ∷ []) answers None after events [] → ⊥
  nothing_sent answers after events (first, None, mid, more, rest, step, notes, later) = absurd (cc ((begins first mid events more [] rest step notes).1))
  nothing_sent answers after events (first, Some status, mid, more, rest, step, notes, later) = absurd (cc later.1)

  -- ---- states that look alike for a document

  abbrev holding : List ℕ → State
  holding u = record { file = file; phase = New; documents = insert empty u (is_lost loss.Memory) }

  -- whatever they hold under other URIs
  alike : AreAlikeFor uri asked new (holding other)
  alike = record { file = refl; phase = refl; held = get-insert nat_list_cmp_total empty other (is_lost loss.Memory) uri; room = refl }

  -- and not where they hold different documents under this one
  not_alike : AreAlikeFor uri asked new (holding uri) → ⊥
  not_alike a = absurd (cc (sym (get-insert nat_list_cmp_total empty uri (is_lost loss.Memory) uri) ∙ a.held ∙ nothing_held))

  -- where it is opened there is room in both or in neither
  with_room : (one two : Held) → get two uri ≡ get one uri → has_room uri one ≡ true → has_room uri two ≡ false
      → AreAlikeFor uri (accepted (notification (open_text uri (pos 1) []))) (record { file = file; phase = Ready Utf16; documents = one })
      (record { file = file; phase = Ready Utf16; documents = two }) → ⊥
  with_room one two held some none a = absurd (cc (sym none ∙ a.room ∙ some))

  another_file : (more : FileGrammar) → (more ≡ file → ⊥) → AreAlikeFor uri asked new (first_state more) → ⊥
  another_file more differ a = differ a.file

  same_for : SameFor uri (too_early 1 ∷ []) (too_early 1 ∷ []) None None new (holding other)
  same_for = record { sent = refl; stops = refl; held = alike.held }

  other_answers : SameFor uri (too_early 1 ∷ []) (too_early 2 ∷ []) None None new new → ⊥
  other_answers s = absurd (cc s.sent)

  other_documents : SameFor uri [] [] None None new (holding uri) → ⊥
  other_documents s = absurd (cc (sym (get-insert nat_list_cmp_total empty uri (is_lost loss.Memory) uri) ∙ s.held ∙ nothing_held))

  -- ---- events of an opening with room and without, and of a loss

  abbrev ready : Held → State
  ready documents = record { file = file; phase = Ready Utf16; documents = documents }

  abbrev opens : Received
  opens = accepted (notification (open_text uri (pos 1) []))

  abbrev changes : Received
  changes = accepted (notification (change_text uri (pos 1) []))

  opened_with_room : (old after : Held) → has_room uri old ≡ true → (event_in uri (ready old) opens (ready after)).room ≡ true
  opened_with_room old after room = room

  opened_without_room : (old after : Held) → has_room uri old ≡ false → (event_in uri (ready old) opens (ready after)).room ≡ false
  opened_without_room old after room = room

  changed_without_room : (old : Held) → (event_in uri (ready old) changes (ready old)).room ≡ true
  changed_without_room old = refl

  event_of : (old : Held) → ((event_in uri (ready old) changes (ready old)).phase ≡ Ready Utf16) × ((event_in uri (ready old) changes (ready old)).received ≡ changes)
  event_of old = (refl, refl)

  lost_for_memory : (old after : Held) → get old uri ≡ Some (is_open document) → get after uri ≡ Some (is_lost loss.Memory)
      → (event_in uri (ready old) changes (ready after)).refused ≡ true
  lost_for_memory old after was is = ap (λ o. loses o (get after uri)) was ∙ ap (λ o. loses (Some (is_open document)) o) is

  lost_for_size : (old after : Held) → get old uri ≡ Some (is_open document) → get after uri ≡ Some (is_lost loss.TooLarge)
      → (event_in uri (ready old) changes (ready after)).refused ≡ false
  lost_for_size old after was is = ap (λ o. loses o (get after uri)) was ∙ ap (λ o. loses (Some (is_open document)) o) is

  lost_before : (old after : Held) → get old uri ≡ Some (is_lost loss.Memory) → (event_in uri (ready old) changes (ready after)).refused ≡ false
  lost_before old after was = ap (λ o. loses o (get after uri)) was

  -- ---- what the laws say

  -- sent about the first document is the same, in whichever order the messages come
  decided : HistoriesDecide file → (answers : List Answer) (stop : Option ℕ) (after : State) (sent : List Answer)
      → History uri new (asks_other ∷ asks ∷ []) answers stop after (event ∷ []) sent → map but_nodes sent ≡ too_early 1 ∷ []
  decided law answers stop after sent h =
      law uri (asks ∷ asks_other ∷ []) (asks_other ∷ asks ∷ []) (too_early 1 ∷ too_early 2 ∷ []) answers None stop new after (event ∷ []) (too_early 1 ∷ []) sent history h

  -- a question about another document leaves this one as it was, and publishes nothing of it
  left_alone : EachDocumentIsAlone file → (old after : State) (answers : List Answer) (stop : Option ℕ) → old.file ≡ file
      → Step old asked_other answers stop after → (get after.documents uri ≡ get old.documents uri) × All (λ a. ¬ Publishes uri a) answers
  left_alone law old after answers stop is step = (law uri asked_other old answers stop after is step).0 (λ e. different (cc e))

  -- whatever else is held, the same is sent on a question, and the same is held
  sent_alike : EachDocumentIsAlone file → (answers : List Answer) (stop : Option ℕ) (after : State) → Step (holding other) asked answers stop after
      → loses_memory uri (holding other) after ≡ false → (map but_nodes answers ≡ too_early 1 ∷ []) × (stop ≡ None) × (get after.documents uri ≡ None)
  sent_alike law answers stop after step kept =
      let s = (law uri asked new (too_early 1 ∷ []) None new refl (refl, refl, refl)).1 refl (holding other) answers stop after alike step (kept ∙ sym nothing_lost) in
      (s.sent, s.stops, s.held ∙ nothing_held)

  -- each run has a history
  has_history : EachRunHasAHistory → (events : List Event) × (sent : List Answer) × History uri new (asks ∷ asks_other ∷ []) (too_early 1 ∷ too_early 2 ∷ []) None new events sent
  has_history law = law uri new (asks ∷ asks_other ∷ []) (too_early 1 ∷ too_early 2 ∷ []) None new run_of_two

-- ---- what concerns a document

-- the messages of the phase concern every document
decides : (is_lifecycle (accepted (request (id 1) (initialize Utf16))) ≡ true) × (is_lifecycle (accepted (request (id 1) shutdown)) ≡ true)
    × (is_lifecycle (accepted (notification exit)) ≡ true)
decides = (refl, refl, refl)

decides_nothing : (is_lifecycle asked ≡ false) × (is_lifecycle (accepted (notification initialized)) ≡ false) × (is_lifecycle (accepted ignored) ≡ false)
decides_nothing = (refl, refl, refl)

concerned : (concerns uri asked ≡ true) × (concerns uri (accepted (notification exit)) ≡ true) × (concerns uri (accepted (notification (open_text uri (pos 1) []))) ≡ true)
concerned = (refl, refl, refl)

unconcerned : (concerns uri asked_other ≡ false) × (concerns uri (accepted (notification initialized)) ≡ false) × (concerns uri unread ≡ false)
unconcerned = (refl, refl, refl)

kept : concerning uri (asks_other ∷ asks ∷ asks_other ∷ []) ≡ asks ∷ []
unfolding chars encode_utf8 is_utf8 serde_json_on_literals
kept = refl

-- the question about the other document can be left out
left_out : (file : FileGrammar) → OthersCanBeLeftOut file → (answers : List Answer) (stop : Option ℕ) (after : State) (e : Event) (sent : List Answer)
    → History uri (first_state file) (asks ∷ []) answers stop after (e ∷ []) sent → e.refused ≡ false → (map but_nodes sent ≡ too_early 1 ∷ []) × (stop ≡ None)
unfolding chars encode_utf8 is_utf8 serde_json_on_literals
left_out file law answers stop after e sent h kept =
    law uri (asks_other ∷ asks ∷ []) (too_early 2 ∷ too_early 1 ∷ []) answers None stop (new file) after (event ∷ []) (e ∷ []) (too_early 1 ∷ []) sent
    (other_first file) h (All-from_recursion (λ (x : Event). x.room ≡ true) (event ∷ []) (refl, tt)) (ap (λ b. b ∷ []) kept)
