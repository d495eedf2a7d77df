-- Each message makes some step, and each list of contents some run.
use Rattle.sessions.proofs.Std.{◌≡◌, ℕ, ℤ, true, false, Bool, List, [], ◌∷◌, ◌++◌, length, refl, sym, subst, arith, Option, Some, None, option_map, chars, get}
use Rattle.sessions.proofs.Common.{Stats, Ident, Request, Question, its_text, its_folds, its_selections, shutdown, about, stats, Notification, initialized, open_text, change_text, close, malformed, Unfit, unfit_change, request, notification, Received, accepted, TextChange, refused, invalid}
use Rattle.sessions.proofs.Common.{received_in, Answer, folds_reply, selections_reply, published_diagnostics, MalformedChange}
use Rattle.sessions.proofs.Common.{all_branches, AlwaysAnswers, Reading, IsReading, AreStats, ReportsLast, LastEdit, OpenDocument, fits, FileGrammar}
use Rattle.sessions.proofs.Common.{IsAnswer, IsAnswerOf, IsCount, IsPublished, shown, Phase, Ready, DocumentState, is_open, is_lost, has_room, State, OnRequest, Changes, Closes, Holds, OnMalformed, Opens, Spoils, OnNotification, Step, new_document, Run, CanServe}
use Rattle.sessions.proofs.Edits.{IsFit, becomes_fit, some_becomes}
use Rattle.sessions.proofs.Effects.{opened_fit}
use Rattle.sessions.proofs.Fits.{step_serves}

-- ---- answers about an open document

pub some_answer_of : (file : FileGrammar) → AlwaysAnswers file → (id : Ident) (d : OpenDocument) → fits d.text ≡ true
    → (question : Question) → (answer : Answer) × IsAnswerOf file id d question answer
some_answer_of file always id d fit its_text = (_, refl)
some_answer_of file always id d fit its_folds =
    let r = always.readings d.text fit in
    let pairs = always.folds d.text r.0 r.1 in
    (folds_reply id pairs.0, (r.0, r.1, (pairs.0, pairs.1, refl)))
some_answer_of file always id d fit (its_selections positions) =
    let r = always.readings d.text fit in
    let selections = always.selections d.unit d.text r.0 r.1 positions in
    (selections_reply id selections.0, (r.0, r.1, (selections.0, selections.1, refl)))
some_answer_of file always id d fit e = let r = always.readings d.text fit in (_, (r.0, r.1, refl))

some_answer : (file : FileGrammar) → AlwaysAnswers file → (id : Ident) (o : Option DocumentState) → ((d : OpenDocument) → o ≡ Some (is_open d) → fits d.text ≡ true)
    → (question : Question) → (answer : Answer) × IsAnswer file id o question answer
some_answer file always id (Some (is_open d)) fit question = some_answer_of file always id d (fit d refl) question
some_answer file always id d fit question = (_, refl)

-- the counts that a reading has, beside the last edit
abbrev counted : (edit scanned built : ℕ) → Reading → Stats
counted edit scanned built r = record { edit = edit; scanned = scanned; tokens = length r.tokens; branches = all_branches r.trees; built = built; nodes = 0 }

are_counted : (file : FileGrammar) (d : OpenDocument) (r : Reading) → IsReading file d.text r → (edit scanned built : ℕ) (last : Option LastEdit) → d.last ≡ last
    → ReportsLast last (counted edit scanned built r) → (stats : Stats) × AreStats file d stats
are_counted file d r is edit scanned built last same reports = (
  counted edit scanned built r,
  record {
    reading = r;
    is = is;
    tokens = refl;
    branches = refl;
    last = subst (λ (l : Option LastEdit). ReportsLast l (counted edit scanned built r)) (sym same) reports;
    nodes = omega arith;
  },
)

some_stats : (file : FileGrammar) (d : OpenDocument) (last : Option LastEdit) → d.last ≡ last → (r : Reading) → IsReading file d.text r → (stats : Stats) × AreStats file d stats
some_stats file d None same r is = are_counted file d r is 0 (length r.tokens) (all_branches r.trees) None same (refl, refl, refl)
some_stats file d (Some last) same r is = are_counted file d r is last.number last.scanned last.built (Some last) same (refl, refl, refl)

some_count : (file : FileGrammar) → AlwaysAnswers file → (id : Ident) (o : Option DocumentState)
    → ((d : OpenDocument) → o ≡ Some (is_open d) → fits d.text ≡ true) → (answer : Answer) × IsCount file id o answer
some_count file always id (Some (is_open d)) fit =
    let r = always.readings d.text (fit d refl) in
    let stats = some_stats file d d.last refl r.0 r.1 in
    (_, (stats.0, stats.1, refl))
some_count file always id d fit = (_, refl)

some_published : (file : FileGrammar) → AlwaysAnswers file → (uri : List ℕ) (d : OpenDocument) → fits d.text ≡ true → (answer : Answer) × IsPublished file uri d answer
some_published file always uri d fit =
    let r = always.readings d.text fit in
    let fault = always.faults d.unit d.text r.0 r.1 in
    (published_diagnostics uri (Some d.version) (option_map shown fault.0), (r.0, r.1, (fault.0, fault.1, refl)))

-- ---- steps

abbrev SomeStep : (List Answer → Option ℕ → State → Type 0) → Type 0
SomeStep P = (answers : List Answer) × (stop : Option ℕ) × (new : State) × P answers stop new

module _ (old : State) (can : CanServe old) where
  some_holds : (uri : List ℕ) (state : DocumentState) → IsFit state → SomeStep (Holds old uri state)
  some_holds uri (is_open d) fit =
      let published = some_published old.file can.always uri d fit in
      (published.0 ∷ [], None, _, (published.0, published.1, refl, (refl, refl)))
  some_holds uri (is_lost loss) fit = (_, _, _, (refl, (refl, refl)))

  some_opens : (room : Bool) (uri : List ℕ) (state : DocumentState) → IsFit state → SomeStep (Opens room old uri state)
  some_opens true uri state fit = some_holds uri state fit
  some_opens false uri state fit = (_, _, _, (refl, refl, refl))

  some_changes : (o : Option DocumentState) (uri : List ℕ) (version : ℤ) (changes : List TextChange) → get old.documents uri ≡ o → SomeStep (Changes o old uri version changes)
  some_changes (Some (is_open d)) uri version changes e =
      let next = some_becomes old.file version d changes in
      let held = some_holds uri next.0 (becomes_fit old.file version d changes next.0 (can.fit uri d e) next.1) in
      (held.0, held.1, held.2, (next.0, next.1, held.3))
  some_changes d uri version changes e = (_, _, _, (refl, refl, refl))

  some_spoils : (o : Option DocumentState) (uri : List ℕ) → SomeStep (Spoils o old uri)
  some_spoils (Some (is_open d)) uri = some_holds uri (is_lost MalformedChange) tt
  some_spoils d uri = (_, _, _, (refl, refl, refl))

  some_closes : (o : Option DocumentState) (uri : List ℕ) → SomeStep (Closes o old uri)
  some_closes None uri = (_, _, _, (refl, refl, refl))
  some_closes (Some state) uri = (_, _, _, (refl, (refl, refl)))

  some_misses : (unfit : Unfit) → SomeStep (OnMalformed old unfit)
  some_misses (unfit_change (Some uri)) = some_spoils (get old.documents uri) uri
  some_misses d = (_, _, _, (refl, refl, refl))

  some_asks : (phase : Phase) (id : Ident) (call : Request) → SomeStep (OnRequest phase old id call)
  some_asks (Ready unit) id (about uri question) =
      let some = some_answer old.file can.always id (get old.documents uri) (λ d e. can.fit uri d e) question in
      (some.0 ∷ [], None, old, (some.0, some.1, (refl, refl, refl)))
  some_asks (Ready unit) id (stats uri) =
      let some = some_count old.file can.always id (get old.documents uri) (λ d e. can.fit uri d e) in
      (some.0 ∷ [], None, old, (some.0, some.1, (refl, refl, refl)))
  some_asks phase id shutdown = (_, _, _, (refl, refl, refl))
  some_asks phase id d = (_, _, _, (refl, refl, refl))

  some_shows : (phase : Phase) (note : Notification) → SomeStep (OnNotification phase old note)
  some_shows (Ready unit) (open_text uri version text) = some_opens (has_room uri old.documents) uri (new_document unit version (chars text)) (opened_fit unit version (chars text))
  some_shows (Ready unit) (change_text uri version changes) = some_changes (get old.documents uri) uri version changes refl
  some_shows (Ready unit) (close uri) = some_closes (get old.documents uri) uri
  some_shows (Ready unit) (malformed unfit) = some_misses unfit
  some_shows phase initialized = (_, _, _, (refl, refl, refl))
  some_shows phase d = (_, _, _, (refl, refl, refl))

  some_step : (received : Received) → SomeStep (Step old received)
  some_step (refused (invalid id)) = (_, _, _, (refl, refl, refl))
  some_step (accepted (request id call)) = some_asks old.phase id call
  some_step (accepted (notification note)) = some_shows old.phase note
  some_step received = (_, _, _, (refl, refl, refl))

pub some_run : (old : State) → CanServe old → (contents : List (List ℕ)) → (answers : List Answer) × (stop : Option ℕ) × (new : State) × Run old contents answers stop new
some_run old can [] = ([], None, old, (refl, refl, refl))
some_run old can (content ∷ contents) = let s = some_step old can (received_in content) in after s.0 s.1 s.2 s.3 (λ mid serves. some_run mid serves contents)
  where
    after : (first : List Answer) (halt : Option ℕ) (mid : State) → Step old (received_in content) first halt mid
        → ((state : State) → CanServe state → (answers : List Answer) × (stop : Option ℕ) × (new : State) × Run state contents answers stop new)
        → (answers : List Answer) × (stop : Option ℕ) × (new : State) × Run old (content ∷ contents) answers stop new
    after first None mid step go_on =
        let rest = go_on mid (step_serves old (received_in content) first None mid step can) in
        (first ++ rest.0, rest.1, rest.2, (first, None, mid, step, (rest.0, refl, rest.3)))
    after first (Some status) mid step go_on = (first, Some status, mid, (first, Some status, mid, step, (refl, refl, refl)))
