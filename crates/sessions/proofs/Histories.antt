-- Each run has a history of each document, and two sessions that receive the same about a document send the same of it.
use Rattle.sessions.proofs.Std.{◌≡◌, ◌≢◌, ◌⊎◌, inl, inr, ⊎_elim, ℕ, List, [], ◌∷◌, ◌++◌, map, refl, sym, ap, subst, ◌∙◌, Option, Some, None, MatchOption, cases_eq, map-append, get}
use Rattle.sessions.proofs.Common.{FileGrammar, Received, received_in, Answer, but_nodes, named, AreAlikeFor, SameFor, SendTheSame, EachDocumentIsAlone, EachRunHasAHistory, Event, event_in, Notes, History, HistoriesDecide, Run, State, first_state, Step}
use Rattle.sessions.proofs.Fits.{step_keeps}

-- ---- each run has a history

same_or_not : (one two : List ℕ) → (one ≡ two) ⊎ (one ≢ two)
same_or_not [] [] = inl refl
same_or_not (a ∷ one) (b ∷ two) =
    ⊎_elim
    (λ e. ⊎_elim (λ es. inl (ap (λ x. x ∷ one) e ∙ ap (λ xs. b ∷ xs) es)) (λ apart. inr (λ all. apart (let same : one ≡ two = cc in same))) (same_or_not one two))
    (λ apart. inr (λ all. apart (let same : a ≡ b = cc in same)))
    (cases_eq a b)
same_or_not one two = inr (λ e. let f : ⊥ = cc in f)

named_or_not : (name : Option (List ℕ)) (uri : List ℕ) → (name ≡ Some uri) ⊎ (name ≢ Some uri)
named_or_not None uri = inr (λ e. let f : ⊥ = cc in f)
named_or_not (Some other) uri = ⊎_elim (λ e. inl (ap (λ u. Some u) e)) (λ apart. inr (λ all. apart (let same : other ≡ uri = cc in same))) (same_or_not other uri)

noted : (uri : List ℕ) (old : State) (received : Received) (first : List Answer) (mid : State) (more : List Event) (rest : List Answer)
    → (events : List Event) × (sent : List Answer) × Notes uri old received first mid events sent more rest
noted uri old received first mid more rest =
    ⊎_elim
    (λ name. (event_in uri old received mid ∷ more, first ++ rest, inl (name, refl, refl)))
    (λ apart. (more, rest, inr (apart, refl, refl)))
    (named_or_not (named received) uri)

-- how a history goes on after one message
abbrev GoesOnAs : List ℕ → List (List ℕ) → List Answer → List Answer → Option ℕ → State → State → List Event → List Answer → Option ℕ → Type 0
GoesOnAs uri contents answers first stop new mid more rest halt =
    MatchOption halt
    ((later : List Answer) × (answers ≡ first ++ later) × History uri mid contents later stop new more rest)
    (λ status. (answers ≡ first) × (stop ≡ Some status) × (new ≡ mid) × (more ≡ []) × (rest ≡ []))

pub each_run_has_a_history : EachRunHasAHistory
each_run_has_a_history uri old [] answers stop new run = ([], [], (run, refl, refl))
each_run_has_a_history uri old (content ∷ contents) answers stop new run = recorded (on run.1 run.4 (λ later r. each_run_has_a_history uri run.2 contents later stop new r))
  where
    on : (halt : Option ℕ) → MatchOption halt ((rest : List Answer) × (answers ≡ run.0 ++ rest) × Run run.2 contents rest stop new)
        (λ status. (answers ≡ run.0) × (stop ≡ Some status) × (new ≡ run.2))
        → ((later : List Answer) → Run run.2 contents later stop new → (events : List Event) × (sent : List Answer) × History uri run.2 contents later stop new events sent)
        → (more : List Event) × (rest : List Answer) × GoesOnAs uri contents answers run.0 stop new run.2 more rest halt
    on None m go = let t = go m.0 m.2 in (t.0, t.1, (m.0, m.1, t.2))
    on (Some status) m go = ([], [], (m.0, m.1, m.2, refl, refl))

    recorded : (more : List Event) × (rest : List Answer) × GoesOnAs uri contents answers run.0 stop new run.2 more rest run.1 → (events : List Event)
        × (sent : List Answer) × History uri old (content ∷ contents) answers stop new events sent
    recorded t = let n = noted uri old (received_in content) run.0 run.2 t.0 t.1 in (n.0, n.1, (run.0, run.1, run.2, t.0, t.1, run.3, n.2, t.2))

-- ---- the same is received, and the same is sent

no_event : (e : Event) (events : List Event) → [] ≡ e ∷ events → ⊥
no_event e events same = let f : ⊥ = cc in f

first_event : (e f : Event) (events more : List Event) → e ∷ events ≡ f ∷ more → e ≡ f
first_event e f events more same = let is : e ≡ f = cc in is

other_events : (e f : Event) (events more : List Event) → e ∷ events ≡ f ∷ more → events ≡ more
other_events e f events more same = let is : events ≡ more = cc in is

-- a history, whatever the whole run answers and leaves
abbrev HasHistory : List ℕ → State → List (List ℕ) → List Event → List Answer → Type 0
HasHistory uri old contents events sent = (answers : List Answer) × (stop : Option ℕ) × (new : State) × History uri old contents answers stop new events sent

-- what of it comes after one message
abbrev Follows : List ℕ → State → List (List ℕ) → List Event → List Answer → Option ℕ → Type 0
Follows uri mid contents more rest halt = MatchOption halt (HasHistory uri mid contents more rest) (λ status. (more ≡ []) × (rest ≡ []))

follows : (uri : List ℕ) (contents : List (List ℕ)) (answers first : List Answer) (stop : Option ℕ) (new mid : State) (more : List Event) (rest : List Answer) (halt : Option ℕ)
    → GoesOnAs uri contents answers first stop new mid more rest halt → Follows uri mid contents more rest halt
follows uri contents answers first stop new mid more rest None m = (m.0, stop, new, m.2)
follows uri contents answers first stop new mid more rest (Some status) m = (m.3, m.4)

-- where nothing is received, nothing is sent
silent_history : (uri : List ℕ) (contents : List (List ℕ)) (old : State) (answers : List Answer) (stop : Option ℕ) (new : State) (events : List Event) (sent : List Answer)
    → events ≡ [] → History uri old contents answers stop new events sent → sent ≡ []
silent_history uri [] old answers stop new events sent none t = t.2
silent_history uri (content ∷ contents) old answers stop new events sent none t = by t.6 (λ es later m. silent_history uri contents t.2 later stop new t.3 t.4 es m)
  where
    on : (halt : Option ℕ) → GoesOnAs uri contents answers t.0 stop new t.2 t.3 t.4 halt → ((later : List Answer) → History uri t.2 contents later stop new t.3 t.4 → t.4 ≡ []) → t.4 ≡ []
    on None m go = go m.0 m.2
    on (Some status) m go = m.4

    by : Notes uri old (received_in content) t.0 t.2 events sent t.3 t.4 → (t.3 ≡ [] → (later : List Answer) → History uri t.2 contents later stop new t.3 t.4 → t.4 ≡ []) → sent ≡ []
    by (inl n) go = absurd (no_event _ _ (sym none ∙ n.1))
    by (inr n) go = n.2 ∙ on t.1 t.7 (λ later m. go (sym n.1 ∙ none) later m)

-- answers, and those after them
say_both : (first one others two : List Answer) → SendTheSame first others → SendTheSame one two → SendTheSame (first ++ one) (others ++ two)
say_both first one others two e f =
    map-append but_nodes others two ∙ (ap (λ xs. xs ++ map but_nodes two) e ∙ (ap (λ ys. map but_nodes first ++ ys) f ∙ sym (map-append but_nodes first one)))

module _ (file : FileGrammar) (alone : EachDocumentIsAlone file) (uri : List ℕ) where
  -- two states of one file that hold the same of the document
  record HoldAlike (one two : State) : Type 0 where
    one_file : one.file ≡ file
    two_file : two.file ≡ file
    held : get two.documents uri ≡ get one.documents uri

  still_file : (old new : State) (received : Received) (answers : List Answer) (stop : Option ℕ) → old.file ≡ file → Step old received answers stop new → new.file ≡ file
  still_file old new received answers stop is s = (step_keeps old received answers stop new s).file ∙ is

  -- a message that names another document, or none, is passed over
  passed_first : (one two mid : State) (received : Received) (answers : List Answer) (stop : Option ℕ) → HoldAlike one two
      → Step one received answers stop mid → named received ≢ Some uri → HoldAlike mid two
  passed_first one two mid received answers stop both s apart = record {
    one_file = still_file one mid received answers stop both.one_file s;
    two_file = both.two_file;
    held = both.held ∙ sym ((alone uri received one answers stop mid both.one_file s).0 apart).0;
  }

  passed_second : (one two mid : State) (received : Received) (answers : List Answer) (stop : Option ℕ) → HoldAlike one two
      → Step two received answers stop mid → named received ≢ Some uri → HoldAlike one mid
  passed_second one two mid received answers stop both s apart = record {
    one_file = both.one_file;
    two_file = still_file two mid received answers stop both.two_file s;
    held = ((alone uri received two answers stop mid both.two_file s).0 apart).0 ∙ both.held;
  }

  -- what comes after one message that both receive
  abbrev GoesOn : List (List ℕ) → List Event → List Answer → State → Type 0
  GoesOn contents more rest mid = (others : List (List ℕ)) (two : State) (other_rest : List Answer) → HoldAlike mid two → HasHistory uri two others more other_rest → SendTheSame rest other_rest

  record Step1 (one mid : State) (received : Received) (first : List Answer) (halt : Option ℕ) : Type 0 where
    name : named received ≡ Some uri
    step : Step one received first halt mid

  -- both receive one message, each in its state
  both_hear : (one two mid other : State) (received yours : Received) (first other_first : List Answer) (halt other_halt : Option ℕ) → HoldAlike one two
      → Step1 one mid received first halt → event_in uri one received mid ≡ event_in uri two yours other → Step two yours other_first other_halt other
      → SameFor uri first other_first halt other_halt mid other
  both_hear one two mid other received yours first other_first halt other_halt both mine same s =
      let message : yours ≡ received = sym (ap (λ (e : Event). e.received) same) in
      let here : Step two received other_first other_halt other = subst (λ (h : Received). Step two h other_first other_halt other) message s in
      let alike : event_in uri one received mid ≡ event_in uri two received other = same ∙ ap (λ h. event_in uri two h other) message in
      let look : AreAlikeFor uri received one two = record {
        file = both.two_file ∙ sym both.one_file;
        phase = sym (ap (λ (e : Event). e.phase) alike);
        held = both.held;
        room = sym (ap (λ (e : Event). e.room) alike);
      } in
      (alone uri received one first halt mid both.one_file mine.step).1 mine.name two other_first other_halt other look here (sym (ap (λ (e : Event). e.refused) alike))

  -- the second session comes to the message that the first one receives
  next_received : (one mid : State) (received : Received) (first : List Answer) (halt : Option ℕ) (contents : List (List ℕ)) (more : List Event) (rest : List Answer)
      → Step1 one mid received first halt → MatchOption halt (GoesOn contents more rest mid) (λ status. (more ≡ []) × (rest ≡ []))
      → (others : List (List ℕ)) (two : State) (answers : List Answer) (stop : Option ℕ) (new : State) (events : List Event) (sent : List Answer) → HoldAlike one two
      → events ≡ event_in uri one received mid ∷ more → History uri two others answers stop new events sent → SendTheSame (first ++ rest) sent
  next_received one mid received first halt contents more rest mine go [] two answers stop new events sent both is t = absurd (no_event _ _ (sym t.1 ∙ is))
  next_received one mid received first halt contents more rest mine go (content ∷ others) two answers stop new events sent both is t =
      by t.6 (λ now same later m. next_received one mid received first halt contents more rest mine go others t.2 later stop new t.3 t.4 now same m)
    where
      passed : (yours : Option ℕ) → named (received_in content) ≢ Some uri → t.3 ≡ event_in uri one received mid ∷ more → GoesOnAs uri others answers t.0 stop new t.2 t.3 t.4 yours
          → (HoldAlike one t.2 → (later : List Answer) → History uri t.2 others later stop new t.3 t.4 → SendTheSame (first ++ rest) t.4) → SendTheSame (first ++ rest) t.4
      passed None apart same m again = again (passed_second one two t.2 (received_in content) t.0 t.1 both t.5 apart) m.0 m.2
      passed (Some status) apart same m again = absurd (no_event _ _ (sym m.3 ∙ same))

      after : (halt yours : Option ℕ) → yours ≡ halt → get t.2.documents uri ≡ get mid.documents uri → t.3 ≡ more → MatchOption halt (GoesOn contents more rest mid)
          (λ status. (more ≡ []) × (rest ≡ [])) → Follows uri t.2 others t.3 t.4 yours → SendTheSame rest t.4
      after None None e held same on m = on others t.2 t.4 (record {
        one_file = still_file one mid received first _ both.one_file mine.step;
        two_file = still_file two t.2 (received_in content) t.0 t.1 both.two_file t.5;
        held = held;
      }) (subst (λ (es : List Event). HasHistory uri t.2 others es t.4) same m)
      after (Some a) (Some b) e held same on m = ap (map but_nodes) (m.1 ∙ sym on.1)
      after None (Some b) e held same on m = absurd (let f : ⊥ = cc in f)
      after (Some a) None e held same on m = absurd (let f : ⊥ = cc in f)

      received_both : named (received_in content) ≡ Some uri → events ≡ event_in uri two (received_in content) t.2 ∷ t.3 → sent ≡ t.0 ++ t.4 → SendTheSame (first ++ rest) sent
      received_both name noted_so so_alike =
          let lists = sym is ∙ noted_so in
          let same : SameFor uri first t.0 halt t.1 mid t.2 = both_hear one two mid t.2 received (received_in content) first t.0 halt t.1 both mine (first_event _ _ _ _ lists) t.5 in
          let last : SendTheSame rest t.4 = after halt t.1 same.stops same.held (sym (other_events _ _ _ _ lists)) go (follows uri others answers t.0 stop new t.2 t.3 t.4 t.1 t.7) in
          ap (map but_nodes) so_alike ∙ say_both first rest t.0 t.4 same.sent last

      by : Notes uri two (received_in content) t.0 t.2 events sent t.3 t.4 → (HoldAlike one t.2 → t.3 ≡ event_in uri one received mid ∷ more → (later : List Answer)
          → History uri t.2 others later stop new t.3 t.4 → SendTheSame (first ++ rest) t.4) → SendTheSame (first ++ rest) sent
      by (inl n) again = received_both n.0 n.1 n.2
      by (inr n) again = ap (map but_nodes) n.2 ∙ passed t.1 n.0 (sym n.1 ∙ is) t.7 (λ now later m. again now (sym n.1 ∙ is) later m)

  histories_alike : (contents : List (List ℕ)) (one : State) (answers : List Answer) (stop : Option ℕ) (new : State) (events : List Event) (sent : List Answer)
      → History uri one contents answers stop new events sent → (others : List (List ℕ)) (two : State) (other_sent : List Answer)
      → HoldAlike one two → HasHistory uri two others events other_sent → SendTheSame sent other_sent
  histories_alike [] one answers stop new events sent t others two other_sent both u = ap (map but_nodes) (silent_history uri others two u.0 u.1 u.2 events other_sent t.1 u.3 ∙ sym t.2)
  histories_alike (content ∷ contents) one answers stop new events sent t others two other_sent both u = by t.6 (λ later m. histories_alike contents t.2 later stop new t.3 t.4 m)
    where
      on : (halt : Option ℕ) → GoesOnAs uri contents answers t.0 stop new t.2 t.3 t.4 halt → ((later : List Answer) → History uri t.2 contents later stop new t.3 t.4
          → GoesOn contents t.3 t.4 t.2) → MatchOption halt (GoesOn contents t.3 t.4 t.2) (λ status. (t.3 ≡ []) × (t.4 ≡ []))
      on None m go = go m.0 m.2
      on (Some status) m go = (m.3, m.4)

      skipped : (halt : Option ℕ) → named (received_in content) ≢ Some uri → MatchOption halt (GoesOn contents t.3 t.4 t.2)
          (λ status. (t.3 ≡ []) × (t.4 ≡ [])) → events ≡ t.3 → SendTheSame t.4 other_sent
      skipped None apart go same = go others two other_sent (passed_first one two t.2 (received_in content) t.0 t.1 both t.5 apart)
          (subst (λ (es : List Event). HasHistory uri two others es other_sent) same u)
      skipped (Some status) apart go same = ap (map but_nodes) (silent_history uri others two u.0 u.1 u.2 events other_sent (same ∙ go.0) u.3 ∙ sym go.1)

      by : Notes uri one (received_in content) t.0 t.2 events sent t.3 t.4
          → ((later : List Answer) → History uri t.2 contents later stop new t.3 t.4 → GoesOn contents t.3 t.4 t.2) → SendTheSame sent other_sent
      by (inl n) go = next_received one t.2 (received_in content) t.0 t.1 contents t.3 t.4 (record { name = n.0; step = t.5 })
          (on t.1 t.7 go) others two u.0 u.1 u.2 events other_sent both n.1 u.3 ∙ ap (map but_nodes) (sym n.2)
      by (inr n) go = skipped t.1 n.0 (on t.1 t.7 go) n.1 ∙ ap (map but_nodes) (sym n.2)

pub histories_decide : (file : FileGrammar) → EachDocumentIsAlone file → HistoriesDecide file
histories_decide file alone uri contents others answers other_answers stop other_stop new other events sent other_sent t u =
    histories_alike file alone uri contents (first_state file) answers stop new events sent t others (first_state file) other_sent
    (record { one_file = refl; two_file = refl; held = refl }) (other_answers, other_stop, other, u)
