-- Every answer is a fresh server's, and so are the diagnostics that were published last.
use Rattle.sessions.proofs.Std.{◌≡◌, ◌≢◌, ◌⊎◌, [], ◌∷◌, ◌++◌, ◌∙◌, ◌||◌}
use Rattle.sessions.proofs.Std.{inl, inr, ⊎_elim, ℕ, ℤ, true, cond, List, refl, sym, ap, subst, Option, Some, None, All, nat_lt, is_some, option_map, pos, encode_utf8_all, MatchOption, chars, nat_cmp, slice_cmp, empty, get, insert, remove, len, get-empty, len-empty}
use Rattle.sessions.proofs.Std.{append_assoc, All-append, All-from_recursion}
use Rattle.sessions.proofs.Common.{Encoding, Ident, numbered, Question, its_text, its_tokens, its_tree, its_folds, its_selections, about, open_text, change_text, request, notification, Received, accepted, TextChange, received_in}
use Rattle.sessions.proofs.Common.{Answer, tokens_reply, folds_reply, selections_reply, published_diagnostics, log_message, Lost, TooLarge, MalformedChange, Memory}
use Rattle.sessions.proofs.Common.{Reading, AlwaysAnswers, AnswersOnce, AreSelections, rows, written_tree, LastEdit, OpenDocument, fits, spelled_again, FileGrammar, AreFoldsOf, IsDiagnosis}
use Rattle.sessions.proofs.Common.{Phase, Ready, DocumentState, is_open, is_lost, Held, Becomes, edited, has_room, IsAnswer, IsAnswerOf, IsPublished, shown, tree_answer, State, first_state, OnRequest, Changes, Holds, Opens, Step, OnNotification, new_document, Run}
use Rattle.sessions.proofs.Common.{IsFresh, RepliesOnly, AnswerAlike, Publishes, IsLastPublished, EveryAnswerIsFresh, EachTextIsItsEdits}
use Rattle.sessions.proofs.Effects.{AreQuiet, none_quiet, IsOfPhase, Effect, stays, stands, goes, step_effect}
use Rattle.sessions.proofs.Fits.{Keeps, step_keeps, run_keeps, run_serves, first_serves, none_stand}
use Rattle.sessions.proofs.LookUps.{get_inserted, get_other, get_removed, get_other_removed, same_or_not}
use Rattle.sessions.proofs.Totals.{some_answer_of}

-- ---- there is one answer

module _ (file : FileGrammar) (once : AnswersOnce file) where
  pub one_answer : (d : OpenDocument) (id : Ident) (question : Question) (one other : Answer) → IsAnswerOf file id d question one → IsAnswerOf file id d question other → other ≡ one
  one_answer d id its_text one other a b = b ∙ sym a
  one_answer d id its_tokens one other a b = b.2 ∙ (ap (λ (r : Reading). tokens_reply id (rows d.unit file d.text r.tokens)) (once.readings d.text a.0 b.0 a.1 b.1) ∙ sym a.2)
  one_answer d id its_tree one other a b = b.2 ∙ (ap (λ (r : Reading). tree_answer id (written_tree file r.verdict)) (once.readings d.text a.0 b.0 a.1 b.1) ∙ sym a.2)
  one_answer d id its_folds one other a b =
      let same : AreFoldsOf file d.text a.0.tokens a.0.trees b.2.0 = subst (λ (r : Reading). AreFoldsOf file d.text r.tokens r.trees b.2.0) (once.readings d.text a.0 b.0 a.1 b.1) b.2.1 in
      b.2.2 ∙ (ap (folds_reply id) (once.folds d.text a.0 a.2.0 b.2.0 a.2.1 same) ∙ sym a.2.2)
  one_answer d id (its_selections positions) one other a b =
      let same : AreSelections d.unit file d.text a.0 positions b.2.0 = subst (λ (r : Reading). AreSelections d.unit file d.text r positions b.2.0) (once.readings d.text a.0 b.0 a.1 b.1) b.2.1 in
      b.2.2 ∙ (ap (selections_reply id) (once.selections d.unit d.text a.0 positions a.2.0 b.2.0 a.2.1 same) ∙ sym a.2.2)

  pub one_published : (uri : List ℕ) (d : OpenDocument) (one other : Answer) → IsPublished file uri d one → IsPublished file uri d other → other ≡ one
  one_published uri d one other a b =
      let fault : IsDiagnosis d.unit file d.text a.0.tokens a.0.verdict b.2.0 =
      subst (λ (r : Reading). IsDiagnosis d.unit file d.text r.tokens r.verdict b.2.0) (once.readings d.text a.0 b.0 a.1 b.1) b.2.1 in
      b.2.2 ∙ (ap (λ f. published_diagnostics uri (Some d.version) (option_map shown f)) (once.faults d.unit d.text a.0 a.2.0 b.2.0 a.2.1 fault) ∙ sym a.2.2)

-- ---- the last diagnostics

-- of each document that is open, the last diagnostics among these answers are its own
abbrev pub AllPublished : FileGrammar → List Answer → Held → Type 0
AllPublished file prior documents = (uri : List ℕ) (d : OpenDocument) → get documents uri ≡ Some (is_open d) → (a : Answer) × IsPublished file uri d a × IsLastPublished uri prior a

last_stays : (uri : List ℕ) (prior more : List Answer) (a : Answer) → All (λ x. ¬ Publishes uri x) more → IsLastPublished uri prior a → IsLastPublished uri (prior ++ more) a
last_stays uri prior more a quiet last = (
  last.0,
  last.1 ++ more,
  ap (λ xs. xs ++ more) last.2 ∙ append_assoc last.0 (a ∷ last.1) more,
  last.3,
  All-append (λ x. ¬ Publishes uri x) last.1 more last.4 quiet,
)

publishes_own : (file : FileGrammar) (uri : List ℕ) (d : OpenDocument) (a : Answer) → IsPublished file uri d a → Publishes uri a
publishes_own file uri d a is = subst (Publishes uri) (sym is.2.2) refl

publishes_no_other : (file : FileGrammar) (uri other : List ℕ) (d : OpenDocument) (a : Answer) → IsPublished file uri d a → other ≢ uri → ¬ Publishes other a
publishes_no_other file uri other d a is apart p = apart (sym (subst (Publishes other) is.2.2 p))

published_last : (file : FileGrammar) (uri : List ℕ) (d : OpenDocument) (prior : List Answer) (a : Answer) → IsPublished file uri d a → IsLastPublished uri (prior ++ (a ∷ [])) a
published_last file uri d prior a is = (prior, [], refl, publishes_own file uri d a is, none_quiet uri)

-- where nothing changes and nothing is published
quiet_step : (file : FileGrammar) (prior answers : List Answer) (old new : Held) → AreQuiet answers → new ≡ old → AllPublished file prior old → AllPublished file (prior ++ answers) new
quiet_step file prior answers old new quiet same all uri d found =
    let was = all uri d (ap (λ h. get h uri) (sym same) ∙ found) in
    (was.0, was.1, last_stays uri prior answers was.0 (quiet uri) was.2)

-- where these answers are about one document, and what is held of the others stays
one_step : (file : FileGrammar) (prior answers : List Answer) (uri : List ℕ) (old new : Held) → ((other : List ℕ) → other ≢ uri → All (λ a. ¬ Publishes other a) answers)
    → ((other : List ℕ) → other ≢ uri → get new other ≡ get old other)
    → ((d : OpenDocument) → get new uri ≡ Some (is_open d) → (a : Answer) × IsPublished file uri d a × IsLastPublished uri (prior ++ answers) a)
    → AllPublished file prior old → AllPublished file (prior ++ answers) new
one_step file prior answers uri old new quiet stays_so here all other d found = ⊎_elim
    (λ (same : other ≡ uri).
    let own = here d (ap (get new) (sym same) ∙ found) in
    (own.0, subst (λ (u : List ℕ). IsPublished file u d own.0) (sym same) own.1, subst (λ (u : List ℕ). IsLastPublished u (prior ++ answers) own.0) (sym same) own.2))
    (λ (apart : other ≢ uri).
    let was = all other d (sym (stays_so other apart) ∙ found) in
    (was.0, was.1, last_stays other prior answers was.0 (quiet other apart) was.2))
    (same_or_not uri other)

holds_published : (file : FileGrammar) (prior : List Answer) (old : State) (uri : List ℕ) (state : DocumentState) (answers : List Answer) (stop : Option ℕ) (new : State)
    → old.file ≡ file → Holds old uri state answers stop new → AllPublished file prior old.documents → AllPublished file (prior ++ answers) new.documents
holds_published file prior old uri (is_open d) answers stop new by_file s all =
    let is : IsPublished file uri d s.0 = subst (λ (f : FileGrammar). IsPublished f uri d s.0) by_file s.1 in
    let next : AllPublished file (prior ++ (s.0 ∷ [])) (insert old.documents uri (is_open d)) =
    one_step file prior (s.0 ∷ []) uri old.documents (insert old.documents uri (is_open d))
    (λ other apart. All-from_recursion (λ x. ¬ Publishes other x) (s.0 ∷ []) (publishes_no_other file uri other d s.0 is apart, tt))
    (λ other apart. get_other old.documents uri other (is_open d) apart)
    (λ e found.
    let here : Some (is_open d) ≡ Some (is_open e) = sym (get_inserted old.documents uri (is_open d)) ∙ found in
    let document : d ≡ e = cc in
    (s.0, subst (λ (x : OpenDocument). IsPublished file uri x s.0) document is, published_last file uri d prior s.0 is))
    all in
    subst (λ (given : List Answer). AllPublished file (prior ++ given) new.documents) (sym s.2)
    (subst (λ (h : Held). AllPublished file (prior ++ (s.0 ∷ [])) h) (sym (ap (λ (x : State). x.documents) s.3.1)) next)
holds_published file prior old uri (is_lost loss) answers stop new by_file s all =
    let given : List Answer = published_diagnostics uri None None ∷ log_message (Lost loss) ∷ [] in
    let next : AllPublished file (prior ++ given) (insert old.documents uri (is_lost loss)) =
    one_step file prior given uri old.documents (insert old.documents uri (is_lost loss))
    (λ other apart. All-from_recursion (λ x. ¬ Publishes other x) given (λ p. apart (sym p), ((λ p. p), tt)))
    (λ other apart. get_other old.documents uri other (is_lost loss) apart)
    (λ e found. absurd (
    let here : Some (is_lost loss) ≡ Some (is_open e) = sym (get_inserted old.documents uri (is_lost loss)) ∙ found in
    let f : ⊥ = cc in
    f))
    all in
    subst (λ (given : List Answer). AllPublished file (prior ++ given) new.documents) (sym s.0)
    (subst (λ (h : Held). AllPublished file (prior ++ given) h) (sym (ap (λ (x : State). x.documents) s.1.1)) next)

effect_published : (file : FileGrammar) (prior : List Answer) (name : Option (List ℕ)) (old : State) (answers : List Answer) (stop : Option ℕ) (new : State)
    → old.file ≡ file → Effect name old answers stop new → AllPublished file prior old.documents → AllPublished file (prior ++ answers) new.documents
effect_published file prior name old answers stop new by_file (stays quiet same_file documents units) all = quiet_step file prior answers old.documents new.documents quiet documents all
effect_published file prior name old answers stop new by_file (stands uri state is fit unit s) all = holds_published file prior old uri state answers stop new by_file s all
effect_published file prior name old answers stop new by_file (goes uri is s) all =
    let given : List Answer = published_diagnostics uri None None ∷ [] in
    let next : AllPublished file (prior ++ given) (remove old.documents uri) =
    one_step file prior given uri old.documents (remove old.documents uri)
    (λ other apart. All-from_recursion (λ x. ¬ Publishes other x) given (λ p. apart (sym p), tt))
    (λ other apart. get_other_removed old.documents uri other apart)
    (λ e found. absurd (
    let here : None ≡ Some (is_open e) = sym (get_removed old.documents uri) ∙ found in
    let f : ⊥ = cc in
    f))
    all in
    subst (λ (given : List Answer). AllPublished file (prior ++ given) new.documents) (sym s.0)
    (subst (λ (h : Held). AllPublished file (prior ++ given) h) (sym (ap (λ (x : State). x.documents) s.1.1)) next)

step_published : (file : FileGrammar) (prior : List Answer) (old : State) (received : Received) (answers : List Answer) (stop : Option ℕ) (new : State)
    → old.file ≡ file → Step old received answers stop new → AllPublished file prior old.documents → AllPublished file (prior ++ answers) new.documents
step_published file prior old received answers stop new by_file s = effect_published file prior _ old answers stop new by_file (step_effect old answers stop new received s)

run_published : (file : FileGrammar) (contents : List (List ℕ)) (prior : List Answer) (old : State) (answers : List Answer) (stop : Option ℕ) (new : State)
    → old.file ≡ file → Run old contents answers stop new → AllPublished file prior old.documents → AllPublished file (prior ++ answers) new.documents
run_published file [] prior old answers stop new by_file r all = quiet_step file prior answers old.documents new.documents
    (subst AreQuiet (sym r.0) none_quiet) (ap (λ (x : State). x.documents) r.2) all
run_published file (content ∷ contents) prior old answers stop new by_file r all =
    let mid_file : r.2.file ≡ file = (step_keeps old (received_in content) r.0 r.1 r.2 r.3).file ∙ by_file in
    let next : AllPublished file (prior ++ r.0) r.2.documents = step_published file prior old (received_in content) r.0 r.1 r.2 by_file r.3 all in
    by r.1 r.0 r.2 r.4 next (λ rest more. run_published file contents (prior ++ r.0) r.2 rest stop new mid_file more next)
  where
    by : (halt : Option ℕ) (first : List Answer) (mid : State) → MatchOption halt ((rest : List Answer) × (answers ≡ first ++ rest) × Run mid contents rest stop new)
        (λ status. (answers ≡ first) × (stop ≡ Some status) × (new ≡ mid)) → AllPublished file (prior ++ first) mid.documents
        → ((rest : List Answer) → Run mid contents rest stop new → AllPublished file ((prior ++ first) ++ rest) new.documents) → AllPublished file (prior ++ answers) new.documents
    by None first mid h now more =
        let same : (prior ++ first) ++ h.0 ≡ prior ++ answers = append_assoc prior first h.0 ∙ ap (λ given. prior ++ given) (sym h.1) in
        subst (λ (given : List Answer). AllPublished file given new.documents) same (more h.0 h.2)
    by (Some status) first mid h now more =
        subst (λ (given : List Answer). AllPublished file (prior ++ given) new.documents) (sym h.0) (subst (λ (s : State). AllPublished file (prior ++ first) s.documents) (sym h.2) now)

none_published : (file : FileGrammar) → AllPublished file [] empty
none_published file uri d found = absurd (let e : Some (is_open d) ≡ None = sym found ∙ get-empty (slice_cmp nat_cmp) uri in let f : ⊥ = cc in f)

-- ---- a fresh server

abbrev document_of : Encoding → ℤ → List ℕ → OpenDocument
document_of unit version text = record { unit = unit; version = version; text = text; last = None }

-- what was just initialized has room
room_first : (uri : List ℕ) → has_room uri empty ≡ true
room_first uri =
    let none : Held = empty in
    ap (λ o. is_some o || nat_lt (len none) 64) (get-empty (slice_cmp nat_cmp) uri) ∙ ap (λ n. nat_lt n 64) (len-empty (slice_cmp nat_cmp) DocumentState)

-- and a text that fits is open then
opened_so : (unit : Encoding) (version : ℤ) (text : List ℕ) → fits text ≡ true → new_document unit version text ≡ is_open (document_of unit version text)
opened_so unit version text fit = ap (λ b. cond b (is_open (document_of unit version text)) (is_lost TooLarge)) fit

abbrev ready_state : FileGrammar → Encoding → State
ready_state file unit = record { file = file; phase = Ready unit; documents = empty }

abbrev open_state : FileGrammar → List ℕ → OpenDocument → State
open_state file uri d = record { file = file; phase = Ready d.unit; documents = insert empty uri (is_open d) }

-- this document is open, by this file
record HasOpen (file : FileGrammar) (uri : List ℕ) (document : OpenDocument) (state : State) : Type 0 where
  by_file : state.file ≡ file
  ready : state.phase ≡ Ready document.unit
  held : get state.documents uri ≡ Some (is_open document)

-- opening a text in the ready state is to hold it
opens_is : (file : FileGrammar) (unit : Encoding) (uri : List ℕ) (version : ℤ) (bytes text : List ℕ) (answers : List Answer) (stop : Option ℕ) (state : State) → chars bytes ≡ text → fits text ≡ true
    → Step (ready_state file unit) (accepted (notification (open_text uri version bytes))) answers stop state ≡ Holds
    (ready_state file unit) uri (is_open (document_of unit version text)) answers stop state
opens_is file unit uri version bytes text answers stop state spelled fit =
    let old = ready_state file unit in
    ap (λ b. Opens b old uri (new_document unit version (chars bytes)) answers stop state) (room_first uri)
    ∙ ap (λ s. Holds old uri s answers stop state) (ap (new_document unit version) spelled ∙ opened_so unit version text fit)

fresh_holds : (file : FileGrammar) (unit : Encoding) (uri : List ℕ) (version : ℤ) (text : List ℕ) (published : Answer) (state : State) → fits text ≡ true
    → IsFresh file unit uri version text published state → Holds (ready_state file unit) uri (is_open (document_of unit version text)) (published ∷ []) None state
fresh_holds file unit uri version text published state fit f =
    let opens : Step (ready_state file unit) (accepted (notification (open_text uri version f.bytes))) (published ∷ []) None state =
    subst (λ (s : State). Step s (accepted (notification (open_text uri version f.bytes))) (published ∷ []) None state) f.initializes.2 f.opens in
    subst (λ (T : Type 0). T) (opens_is file unit uri version f.bytes text (published ∷ []) None state f.spelled fit) opens

fresh_has : (file : FileGrammar) (unit : Encoding) (uri : List ℕ) (version : ℤ) (text : List ℕ) (published : Answer) (state : State)
    → Holds (ready_state file unit) uri (is_open (document_of unit version text)) (published ∷ []) None state → HasOpen file uri (document_of unit version text) state
fresh_has file unit uri version text published state h = record {
  by_file = ap (λ (s : State). s.file) h.3.1;
  ready = ap (λ (s : State). s.phase) h.3.1;
  held = ap (λ (s : State). get s.documents uri) h.3.1 ∙ get_inserted empty uri (is_open (document_of unit version text));
}

fresh_published : (file : FileGrammar) (unit : Encoding) (uri : List ℕ) (version : ℤ) (text : List ℕ) (published : Answer) (state : State)
    → Holds (ready_state file unit) uri (is_open (document_of unit version text)) (published ∷ []) None state → IsPublished file uri (document_of unit version text) published
fresh_published file unit uri version text published state h =
    let lists : published ∷ [] ≡ h.0 ∷ [] = h.2 in
    let same : h.0 ≡ published = cc in
    subst (λ (a : Answer). IsPublished file uri (document_of unit version text) a) same h.1

some_fresh : (file : FileGrammar) (unit : Encoding) (uri : List ℕ) (version : ℤ) (text : List ℕ) (published : Answer) → fits text ≡ true
    → IsPublished file uri (document_of unit version text) published → (state : State) × (given : Answer) × IsFresh file unit uri version text given state
some_fresh file unit uri version text published fit is =
    let spelled : chars (encode_utf8_all text) ≡ text = spelled_again text fit in
    let state = open_state file uri (document_of unit version text) in
    let holds : Holds (ready_state file unit) uri (is_open (document_of unit version text)) (published ∷ []) None state = (published, is, refl, (refl, refl)) in
    let opens = subst (λ (T : Type 0). T) (sym (opens_is file unit uri version (encode_utf8_all text) text (published ∷ []) None state spelled fit)) holds in
    (state, published, record { id = numbered (pos 0); bytes = encode_utf8_all text; mid = ready_state file unit; spelled = spelled; initializes = (refl, refl, refl); opens = opens })

-- ---- the answers of both

-- the only answer about a document is the only reply of a server that has it open
replies_only : (file : FileGrammar) (uri : List ℕ) (d : OpenDocument) (state : State) → HasOpen file uri d state → (id : Ident) (question : Question) (answer : Answer)
    → IsAnswerOf file id d question answer → ((other : Answer) → IsAnswerOf file id d question other → other ≡ answer) → RepliesOnly state (accepted (request id (about uri question))) answer
replies_only file uri d state has id question answer is only =
    let here : (a : Answer) → IsAnswer state.file id (get state.documents uri) question a ≡ IsAnswerOf file id d question a =
    λ a. ap (λ (f : FileGrammar). IsAnswer f id (get state.documents uri) question a) has.by_file ∙ ap (λ (o : Option DocumentState). IsAnswer file id o question a) has.held in
    record {
      replies = subst (λ (p : Phase). OnRequest p state id (about uri question) (answer ∷ []) None state) (sym has.ready)
          (answer, subst (λ (T : Type 0). T) (sym (here answer)) is, (refl, refl, refl));
      only = λ answers stop new step.
          let s : OnRequest (Ready d.unit) state id (about uri question) answers stop new = subst (λ (p : Phase). OnRequest p state id (about uri question) answers stop new) has.ready step in
          let same : s.0 ≡ answer = only s.0 (subst (λ (T : Type 0). T) (here s.0) s.1) in
          (s.2.0 ∙ ap (λ a. a ∷ []) same, s.2.1, s.2.2);
    }

-- what is answered doesn't depend on the last edit
answers_opened : (file : FileGrammar) (id : Ident) (d : OpenDocument) (question : Question) (answer : Answer) → IsAnswerOf file id d question answer
    → IsAnswerOf file id (document_of d.unit d.version d.text) question answer
answers_opened file id d its_text answer is = is
answers_opened file id d its_tokens answer is = is
answers_opened file id d its_tree answer is = is
answers_opened file id d its_folds answer is = is
answers_opened file id d (its_selections positions) answer is = is

alike : (file : FileGrammar) → AlwaysAnswers file → AnswersOnce file → (uri : List ℕ) (d : OpenDocument) → fits d.text ≡ true → (state fresh : State)
    → HasOpen file uri d state → HasOpen file uri (document_of d.unit d.version d.text) fresh → AnswerAlike uri state fresh
alike file always once uri d fit state fresh has fresh_has id question =
    let e = document_of d.unit d.version d.text in
    let some = some_answer_of file always id d fit question in
    let here = answers_opened file id d question some.0 some.1 in
    let only = λ (other : Answer) (is : IsAnswerOf file id d question other). one_answer file once d id question some.0 other some.1 is in
    let only_fresh = λ (other : Answer) (is : IsAnswerOf file id e question other). one_answer file once e id question some.0 other here is in
    (some.0, replies_only file uri d state has id question some.0 some.1 only, replies_only file uri e fresh fresh_has id question some.0 here only_fresh)

-- there is a fresh server with this unit, and each such one answers alike
abbrev IsAsFresh : FileGrammar → List Answer → State → List ℕ → OpenDocument → Encoding → Type 0
IsAsFresh file answers state uri document unit =
    ((fresh : State) × (published : Answer) × IsFresh file unit uri document.version document.text published fresh)
    × ((fresh : State) (published : Answer) → IsFresh file unit uri document.version document.text published fresh
    → AnswerAlike uri state fresh × IsLastPublished uri answers published)

pub every_answer_is_fresh : (file : FileGrammar) → AlwaysAnswers file → AnswersOnce file → EveryAnswerIsFresh file
every_answer_is_fresh file always once contents answers state unit uri document run ready held = subst (IsAsFresh file answers state uri document) of_phase own
  where
    keeps : Keeps (first_state file) state
    keeps = run_keeps contents (first_state file) answers None state run

    -- the document has the unit of the session
    of_phase : document.unit ≡ unit
    of_phase = subst (λ (p : Phase). IsOfPhase p document) ready (keeps.units none_stand uri document held)

    fit : fits document.text ≡ true
    fit = (run_serves contents (first_state file) answers None state run (first_serves file always)).fit uri document held

    has : HasOpen file uri document state
    has = record { by_file = keeps.file; ready = ready ∙ ap (λ u. Ready u) (sym of_phase); held = held }

    last : (a : Answer) × IsPublished file uri document a × IsLastPublished uri answers a
    last = run_published file contents [] (first_state file) answers None state refl run (none_published file) uri document held

    own : IsAsFresh file answers state uri document document.unit
    own = (
      some_fresh file document.unit uri document.version document.text last.0 fit last.1,
      λ fresh published is.
          let holds = fresh_holds file document.unit uri document.version document.text published fresh fit is in
          let same : last.0 ≡ published = one_published file once uri document published last.0
          (fresh_published file document.unit uri document.version document.text published fresh holds) last.1 in (
            alike file always once uri document fit state fresh has (fresh_has file document.unit uri document.version document.text published fresh holds),
            subst (λ (a : Answer). IsLastPublished uri answers a) same last.2,
          ),
    )

-- ---- edits

-- the document has the text, or is lost because memory was refused
edits_or_lost : (file : FileGrammar) (version : ℤ) (old : OpenDocument) (text : List ℕ) (changes : List TextChange) (state : DocumentState)
    → edited old.unit old.text changes ≡ Some text → Becomes file version old changes state
    → ((last : Option LastEdit) × (state ≡ is_open (record { unit = old.unit; version = version; text = text; last = last }))) ⊎ (state ≡ is_lost Memory)
edits_or_lost file version old text changes (is_open d) edits b =
    let here : Some d.text ≡ Some text = sym b.0 ∙ edits in
    let same : d.text ≡ text = cc in
    inl (
      d.last,
      ap (λ u. is_open (record { unit = u; version = d.version; text = d.text; last = d.last })) b.1
          ∙ (ap (λ v. is_open (record { unit = old.unit; version = v; text = d.text; last = d.last })) b.2
          ∙ ap (λ t. is_open (record { unit = old.unit; version = version; text = t; last = d.last })) same),
    )
edits_or_lost file version old text changes (is_lost TooLarge) edits b = absurd (let here : Some text ≡ None = sym edits ∙ b in let f : ⊥ = cc in f)
edits_or_lost file version old text changes (is_lost MalformedChange) edits b = absurd b
edits_or_lost file version old text changes (is_lost Memory) edits b = inr refl

-- what is held after a document came to stand so
holds_documents : (old : State) (uri : List ℕ) (state : DocumentState) (answers : List Answer) (stop : Option ℕ) (new : State)
    → Holds old uri state answers stop new → new.documents ≡ insert old.documents uri state
holds_documents old uri (is_open d) answers stop new s = ap (λ (x : State). x.documents) s.3.1
holds_documents old uri (is_lost loss) answers stop new s = ap (λ (x : State). x.documents) s.1.1

pub each_text_is_its_edits : EachTextIsItsEdits
each_text_is_its_edits old new unit uri version changes document text answers stop ready held edits step =
    let change : Changes (get old.documents uri) old uri version changes answers stop new =
    subst (λ (p : Phase). OnNotification p old (change_text uri version changes) answers stop new) ready step in
    let s : Changes (Some (is_open document)) old uri version changes answers stop new = subst (λ (o : Option DocumentState). Changes o old uri version changes answers stop new) held change in
    let documents : new.documents ≡ insert old.documents uri s.0 = holds_documents old uri s.0 answers stop new s.2 in
    let here : get new.documents uri ≡ Some s.0 = ap (λ d. get d uri) documents ∙ get_inserted old.documents uri s.0 in (
      ⊎_elim (λ same. inl (same.0, here ∙ ap (λ x. Some x) same.1)) (λ same. inr (here ∙ ap (λ x. Some x) same)) (edits_or_lost old.file version document text changes s.0 edits s.1),
      λ other apart. ap (λ d. get d other) documents ∙ get_other old.documents uri other s.0 apart,
    )
