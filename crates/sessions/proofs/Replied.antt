-- What a step leaves of replies, of the phase, and of whether the session stops, and what a run then leaves.
use Rattle.sessions.proofs.Std.{Bool, List, MatchOption, None, Option, Some, [], ap, chars, false, flat_map-append, get, if◌then◌else◌, refl, subst, sym, true, ℕ, ℤ, ◌++◌, ◌||◌, ◌∙◌, ◌∷◌, ◌≡◌}
use Rattle.sessions.proofs.Common.{Answer, Encoding, Ident, MalformedChange, Notification, Question, Received, Request, TextChange, Unfit}
use Rattle.sessions.proofs.Common.{about, accepted, change_text, close, exit, ignored, initialize, initialized, invalid, its_folds, its_selections, its_text, its_tokens, its_tree, malformed, notification, open_text, params, refused, request, shutdown, stats, unfit_change, unfit_close, unfit_open}
use Rattle.sessions.proofs.Common.{unknown, unread, received_in}
use Rattle.sessions.proofs.Common.{FileGrammar}
use Rattle.sessions.proofs.Common.{Changes, Closes, Enters, Forgets, Holds, Ignores, OnMalformed, OnNotification, OnRequest, Opens, Replies, Spoils, State, Step, exit_status, new_document, DocumentState, has_room, is_lost, is_open, Down, New, Ready}
use Rattle.sessions.proofs.Common.{EachRequestIsAnswered, NoNotificationIsAnswered, NothingIsSentAfterExit, all_due, all_replied, before_exit, due, has_exit, is_exit, replied, IsAnswer, IsCount, tree_answer, Phase, Run}

-- the phase after `initialize` and after `shutdown`
abbrev initialized_in : Encoding → Phase → Phase
initialized_in unit New = Ready unit
initialized_in unit (Ready other) = Ready other
initialized_in unit Down = Down

abbrev shut_down_in : Phase → Phase
shut_down_in New = New
shut_down_in (Ready unit) = Down
shut_down_in Down = Down

-- the phase after what is received
abbrev pub next_phase : Received → Phase → Phase
next_phase (accepted (request id (initialize unit))) phase = initialized_in unit phase
next_phase (accepted (request id shutdown)) phase = shut_down_in phase
next_phase _ phase = phase

-- the status with which the session stops on it, if it does
abbrev pub halts : Received → Phase → Option ℕ
halts received phase = if is_exit received then Some (exit_status phase) else None

-- what a step leaves of replies, of the phase, and of whether the session stops
pub record Goes (phase : Phase) (halt : Option ℕ) (ids : List (Option Ident)) (answers : List Answer) (stop : Option ℕ) (new : State) : Type 0 where
  pub phase_is : new.phase ≡ phase
  pub stop_is : stop ≡ halt
  pub ids_are : all_replied answers ≡ ids

tree_replied : (id : Ident) (o : Option (List ℕ)) → replied (tree_answer id o) ≡ Some id ∷ []
tree_replied id None = refl
tree_replied id (Some text) = refl

answer_replied : (file : FileGrammar) (id : Ident) (o : Option DocumentState) (question : Question) (answer : Answer) → IsAnswer file id o question answer → replied answer ≡ Some id ∷ []
answer_replied file id (Some (is_open d)) its_text answer is = ap replied is
answer_replied file id (Some (is_open d)) its_tokens answer is = ap replied is.2
answer_replied file id (Some (is_open d)) its_tree answer is = ap replied is.2 ∙ tree_replied id _
answer_replied file id (Some (is_open d)) its_folds answer is = ap replied is.2.2
answer_replied file id (Some (is_open d)) (its_selections positions) answer is = ap replied is.2.2
answer_replied file id (Some (is_lost loss)) question answer is = ap replied is
answer_replied file id None question answer is = ap replied is

count_replied : (file : FileGrammar) (id : Ident) (o : Option DocumentState) (answer : Answer) → IsCount file id o answer → replied answer ≡ Some id ∷ []
count_replied file id (Some (is_open d)) answer is = ap replied is.2
count_replied file id (Some (is_lost loss)) answer is = ap replied is
count_replied file id None answer is = ap replied is

module _ (old : State) (answers : List Answer) (stop : Option ℕ) (new : State) (phase : Phase) (at : old.phase ≡ phase) where
  one_reply : (answer : Answer) (ids : List (Option Ident)) → replied answer ++ [] ≡ ids → Replies old answer answers stop new → Goes phase None ids answers stop new
  one_reply answer ids is s = record { phase_is = ap (λ (x : State). x.phase) s.2 ∙ at; stop_is = s.1; ids_are = ap all_replied s.0 ∙ is }

  replied_so : (id : Ident) (answer : Answer) → replied answer ≡ Some id ∷ [] → Replies old answer answers stop new → Goes phase None (Some id ∷ []) answers stop new
  replied_so id answer is s = one_reply answer _ (ap (λ ids. ids ++ []) is) s

  silent : Ignores old answers stop new → Goes phase None [] answers stop new
  silent s = record { phase_is = ap (λ (x : State). x.phase) s.2 ∙ at; stop_is = s.1; ids_are = ap all_replied s.0 }

  entered : (next : Phase) (id : Ident) (answer : Answer) → replied answer ≡ Some id ∷ [] → Enters old next answer answers stop new → Goes next None (Some id ∷ []) answers stop new
  entered next id answer is s = record { phase_is = ap (λ (x : State). x.phase) s.2; stop_is = s.1; ids_are = ap all_replied s.0 ∙ ap (λ ids. ids ++ []) is }

  held : (uri : List ℕ) (state : DocumentState) → Holds old uri state answers stop new → Goes phase None [] answers stop new
  held uri (is_open d) s = record {
    phase_is = ap (λ (x : State). x.phase) s.3.1 ∙ at;
    stop_is = s.3.0;
    ids_are = ap all_replied s.2 ∙ ap (λ a. replied a ++ []) s.1.2.2;
  }
  held uri (is_lost loss) s = record { phase_is = ap (λ (x : State). x.phase) s.1.1 ∙ at; stop_is = s.1.0; ids_are = ap all_replied s.0 }

  forgotten : (uri : List ℕ) → Forgets old uri answers stop new → Goes phase None [] answers stop new
  forgotten uri s = record { phase_is = ap (λ (x : State). x.phase) s.1.1 ∙ at; stop_is = s.1.0; ids_are = ap all_replied s.0 }

  opens : (room : Bool) (uri : List ℕ) (state : DocumentState) → Opens room old uri state answers stop new → Goes phase None [] answers stop new
  opens true uri state s = held uri state s
  opens false uri state s = one_reply _ _ refl s

  changes : (o : Option DocumentState) (uri : List ℕ) (version : ℤ) (cs : List TextChange) → Changes o old uri version cs answers stop new → Goes phase None [] answers stop new
  changes None uri version cs s = one_reply _ _ refl s
  changes (Some (is_lost loss)) uri version cs s = silent s
  changes (Some (is_open d)) uri version cs s = held uri s.0 s.2

  spoils : (o : Option DocumentState) (uri : List ℕ) → Spoils o old uri answers stop new → Goes phase None [] answers stop new
  spoils None uri s = one_reply _ _ refl s
  spoils (Some (is_lost loss)) uri s = silent s
  spoils (Some (is_open d)) uri s = held uri (is_lost MalformedChange) s

  closes : (o : Option DocumentState) (uri : List ℕ) → Closes o old uri answers stop new → Goes phase None [] answers stop new
  closes None uri s = one_reply _ _ refl s
  closes (Some state) uri s = forgotten uri s

  misses : (unfit : Unfit) → OnMalformed old unfit answers stop new → Goes phase None [] answers stop new
  misses unfit_open s = one_reply _ _ refl s
  misses (unfit_change None) s = one_reply _ _ refl s
  misses (unfit_change (Some uri)) s = spoils (get old.documents uri) uri s
  misses unfit_close s = one_reply _ _ refl s

asks : (old : State) (answers : List Answer) (stop : Option ℕ) (new : State) (phase : Phase) → old.phase ≡ phase → (id : Ident) (call : Request)
    → OnRequest phase old id call answers stop new → Goes (next_phase (accepted (request id call)) phase) None (Some id ∷ []) answers stop new
asks old answers stop new New at id (initialize unit) s = entered old answers stop new New at (Ready unit) id _ refl s
asks old answers stop new New at id shutdown s = one_reply old answers stop new New at _ _ refl s
asks old answers stop new New at id (about uri question) s = one_reply old answers stop new New at _ _ refl s
asks old answers stop new New at id (stats uri) s = one_reply old answers stop new New at _ _ refl s
asks old answers stop new (Ready unit) at id (initialize other) s = one_reply old answers stop new (Ready unit) at _ _ refl s
asks old answers stop new (Ready unit) at id shutdown s = entered old answers stop new (Ready unit) at Down id _ refl s
asks old answers stop new (Ready unit) at id (about uri question) s =
    replied_so old answers stop new (Ready unit) at id s.0 (answer_replied old.file id (get old.documents uri) question s.0 s.1) s.2
asks old answers stop new (Ready unit) at id (stats uri) s =
    replied_so old answers stop new (Ready unit) at id s.0 (count_replied old.file id (get old.documents uri) s.0 s.1) s.2
asks old answers stop new Down at id (initialize unit) s = one_reply old answers stop new Down at _ _ refl s
asks old answers stop new Down at id shutdown s = one_reply old answers stop new Down at _ _ refl s
asks old answers stop new Down at id (about uri question) s = one_reply old answers stop new Down at _ _ refl s
asks old answers stop new Down at id (stats uri) s = one_reply old answers stop new Down at _ _ refl s

tells : (old : State) (answers : List Answer) (stop : Option ℕ) (new : State) (phase : Phase) → old.phase ≡ phase → (note : Notification)
    → OnNotification phase old note answers stop new → Goes phase (halts (accepted (notification note)) phase) [] answers stop new
tells old answers stop new phase at exit s = record { phase_is = ap (λ (x : State). x.phase) s.2 ∙ at; stop_is = s.1; ids_are = ap all_replied s.0 }
tells old answers stop new (Ready unit) at (open_text uri version text) s =
    opens old answers stop new (Ready unit) at (has_room uri old.documents) uri (new_document unit version (chars text)) s
tells old answers stop new (Ready unit) at (change_text uri version cs) s = changes old answers stop new (Ready unit) at (get old.documents uri) uri version cs s
tells old answers stop new (Ready unit) at (close uri) s = closes old answers stop new (Ready unit) at (get old.documents uri) uri s
tells old answers stop new (Ready unit) at (malformed unfit) s = misses old answers stop new (Ready unit) at unfit s
tells old answers stop new (Ready unit) at initialized s = silent old answers stop new (Ready unit) at s
tells old answers stop new New at initialized s = silent old answers stop new New at s
tells old answers stop new New at (open_text uri version text) s = silent old answers stop new New at s
tells old answers stop new New at (change_text uri version cs) s = silent old answers stop new New at s
tells old answers stop new New at (close uri) s = silent old answers stop new New at s
tells old answers stop new New at (malformed unfit) s = silent old answers stop new New at s
tells old answers stop new Down at initialized s = silent old answers stop new Down at s
tells old answers stop new Down at (open_text uri version text) s = silent old answers stop new Down at s
tells old answers stop new Down at (change_text uri version cs) s = silent old answers stop new Down at s
tells old answers stop new Down at (close uri) s = silent old answers stop new Down at s
tells old answers stop new Down at (malformed unfit) s = silent old answers stop new Down at s

pub step_goes : (old : State) (answers : List Answer) (stop : Option ℕ) (new : State) (received : Received) → Step old received answers stop new
    → Goes (next_phase received old.phase) (halts received old.phase) (due received) answers stop new
step_goes old answers stop new unread s = one_reply old answers stop new old.phase refl _ _ refl s
step_goes old answers stop new (refused (invalid id)) s = one_reply old answers stop new old.phase refl _ _ refl s
step_goes old answers stop new (refused (unknown id)) s = one_reply old answers stop new old.phase refl _ _ refl s
step_goes old answers stop new (refused (params id first)) s = one_reply old answers stop new old.phase refl _ _ refl s
step_goes old answers stop new (accepted (request id call)) s = asks old answers stop new old.phase refl id call s
step_goes old answers stop new (accepted (notification note)) s = tells old answers stop new old.phase refl note s
step_goes old answers stop new (accepted ignored) s = silent old answers stop new old.phase refl s

-- ---- runs

exit_is : (received : Received) → is_exit received ≡ true → received ≡ accepted (notification exit)
exit_is (accepted (notification exit)) e = refl
exit_is (accepted (notification initialized)) e = absurd (let f : ⊥ = cc in f)
exit_is (accepted (notification (open_text uri version text))) e = absurd (let f : ⊥ = cc in f)
exit_is (accepted (notification (change_text uri version cs))) e = absurd (let f : ⊥ = cc in f)
exit_is (accepted (notification (close uri))) e = absurd (let f : ⊥ = cc in f)
exit_is (accepted (notification (malformed unfit))) e = absurd (let f : ⊥ = cc in f)
exit_is (accepted ignored) e = absurd (let f : ⊥ = cc in f)
exit_is (accepted (request id call)) e = absurd (let f : ⊥ = cc in f)
exit_is (refused r) e = absurd (let f : ⊥ = cc in f)
exit_is unread e = absurd (let f : ⊥ = cc in f)

-- what the laws say of one run
record IsAnswered (old : State) (contents : List (List ℕ)) (answers : List Answer) (stop : Option ℕ) (new : State) : Type 0 where
  ids : all_replied answers ≡ all_due (before_exit contents)
  run : Run old (before_exit contents) answers None new
  stops : stop ≡ (if has_exit contents then Some (exit_status new.phase) else None)

-- the same, by whether the first content is `exit`
abbrev AnsweredBy : Bool → State → List ℕ → List (List ℕ) → List Answer → Option ℕ → State → Type 0
AnsweredBy b old content contents answers stop new =
    (all_replied answers ≡ all_due (if b then [] else content ∷ before_exit contents))
    × Run old (if b then [] else content ∷ before_exit contents) answers None new
    × (stop ≡ (if b || has_exit contents then Some (exit_status new.phase) else None))

is_answered : (contents : List (List ℕ)) (old : State) (answers : List Answer) (stop : Option ℕ) (new : State) → Run old contents answers stop new → IsAnswered old contents answers stop new
is_answered [] old answers stop new r = record { ids = ap all_replied r.0; run = (r.0, refl, r.2); stops = r.1 }
is_answered (content ∷ contents) old answers stop new (first, halt, mid, step, more) =
    let t = by (is_exit (received_in content)) refl halt (step_goes old first halt mid (received_in content) step) step more (λ rest m. is_answered contents mid rest stop new m) in
    record { ids = t.0; run = t.1; stops = t.2 }
  where
    by : (b : Bool) → is_exit (received_in content) ≡ b → (halt : Option ℕ)
        → Goes (next_phase (received_in content) old.phase) (halts (received_in content) old.phase) (due (received_in content)) first halt mid
        → Step old (received_in content) first halt mid
        → MatchOption halt ((rest : List Answer) × (answers ≡ first ++ rest) × Run mid contents rest stop new) (λ status. (answers ≡ first) × (stop ≡ Some status) × (new ≡ mid))
        → ((rest : List Answer) → Run mid contents rest stop new → IsAnswered mid contents rest stop new) → AnsweredBy b old content contents answers stop new
    by true e None g step more go =
        let s = subst (λ (r : Received). Step old r first None mid) (exit_is (received_in content) e) step in
        let f : ⊥ = cc s.1 in absurd f
    by true e (Some status) g step more go =
        let s = subst (λ (r : Received). Step old r first (Some status) mid) (exit_is (received_in content) e) step in
        let none : answers ≡ [] = more.0 ∙ s.0 in
        let same : new ≡ old = more.2 ∙ s.2 in
        (ap all_replied none, (none, refl, same), more.1 ∙ s.1 ∙ ap (λ (x : State). Some (exit_status x.phase)) (sym same))
    by false e None g step (rest, is, run) go =
        let after = go rest run in (
          ap all_replied is ∙ flat_map-append replied first rest ∙ ap (λ ids. ids ++ all_replied rest) g.ids_are ∙ ap (λ ids. due (received_in content) ++ ids) after.ids,
          (first, None, mid, step, (rest, is, after.run)),
          after.stops,
        )
    by false e (Some status) g step more go =
        let none : Some status ≡ None = g.stop_is ∙ ap (λ b. if b then Some (exit_status old.phase) else None) e in
        let f : ⊥ = cc none in absurd f

pub each_request_is_answered : EachRequestIsAnswered
each_request_is_answered old contents answers stop new r = (is_answered contents old answers stop new r).ids

pub no_notification_is_answered : NoNotificationIsAnswered
no_notification_is_answered old note answers stop new s = (step_goes old answers stop new (accepted (notification note)) s).ids_are

pub nothing_is_sent_after_exit : NothingIsSentAfterExit
nothing_is_sent_after_exit old contents answers stop new r = let a = is_answered contents old answers stop new r in (a.run, a.stops)
