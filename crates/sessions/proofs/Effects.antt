-- What a step does to the documents: nothing, or one of them stands otherwise, or is forgotten.
use Rattle.sessions.proofs.Std.{◌≡◌, ℕ, ℤ, Bool, true, false, cond, List, [], ◌∷◌, refl, sym, ap, subst, ◌∙◌, Option, Some, None, All, chars, get, All-from_recursion}
use Rattle.sessions.proofs.Common.{Encoding, Ident}
use Rattle.sessions.proofs.Common.{Request, initialize, shutdown, about, stats, Question, its_tokens, its_tree, Notification, initialized, open_text, change_text, close, malformed, Unfit, unfit_change, request, notification, ignored, Received, accepted, TextChange, its_text, refused, invalid}
use Rattle.sessions.proofs.Common.{Answer, TooLarge, MalformedChange}
use Rattle.sessions.proofs.Common.{OpenDocument, fits, FileGrammar}
use Rattle.sessions.proofs.Common.{Phase, New, Ready, Down, named, IsAnswer, IsCount, tree_answer, DocumentState, is_open, is_lost, Becomes, Held, has_room, Publishes, AllFit, State, OnRequest, Changes, Closes, Forgets, Holds, OnMalformed, Opens, Replies, Spoils, Step, OnNotification, new_document}
use Rattle.sessions.proofs.Edits.{IsFit, becomes_fit}

-- no answer publishes anything of any document
abbrev pub AreQuiet : List Answer → Type 0
AreQuiet answers = (uri : List ℕ) → All (λ a. ¬ Publishes uri a) answers

pub none_quiet : AreQuiet []
none_quiet uri = All-from_recursion (λ a. ¬ Publishes uri a) [] tt

one_quiet : (answer : Answer) → ((uri : List ℕ) → ¬ Publishes uri answer) → AreQuiet (answer ∷ [])
one_quiet answer quiet uri = All-from_recursion (λ a. ¬ Publishes uri a) (answer ∷ []) (quiet uri, tt)

-- an answer that is not about diagnostics
said_quiet : (answer other : Answer) → answer ≡ other → ((uri : List ℕ) → ¬ Publishes uri other) → (uri : List ℕ) → ¬ Publishes uri answer
said_quiet answer other e quiet uri p = quiet uri (subst (Publishes uri) e p)

tree_quiet : (id : Ident) (o : Option (List ℕ)) (uri : List ℕ) → ¬ Publishes uri (tree_answer id o)
tree_quiet id None uri p = p
tree_quiet id (Some text) uri p = p

answer_quiet : (file : FileGrammar) (id : Ident) (o : Option DocumentState) (question : Question) (answer : Answer) → IsAnswer file id o question answer → (uri : List ℕ) → ¬ Publishes uri answer
answer_quiet file id (Some (is_open d)) its_text answer is = said_quiet answer _ is (λ uri p. p)
answer_quiet file id (Some (is_open d)) its_tokens answer is = said_quiet answer _ is.2 (λ uri p. p)
answer_quiet file id (Some (is_open d)) its_tree answer is = said_quiet answer _ is.2 (tree_quiet id _)
answer_quiet file id (Some (is_open d)) question answer is = said_quiet answer _ is.2.2 (λ uri p. p)
answer_quiet file id o question answer is = said_quiet answer _ is (λ uri p. p)

count_quiet : (file : FileGrammar) (id : Ident) (o : Option DocumentState) (answer : Answer) → IsCount file id o answer → (uri : List ℕ) → ¬ Publishes uri answer
count_quiet file id (Some (is_open d)) answer is = said_quiet answer _ is.2 (λ uri p. p)
count_quiet file id d answer is = said_quiet answer _ is (λ uri p. p)

-- ---- the unit of open documents

-- what may be open in a phase: nothing before it is ready, and then documents of its unit
abbrev pub IsOfPhase : Phase → OpenDocument → Type 0
IsOfPhase New d = ⊥
IsOfPhase (Ready unit) d = d.unit ≡ unit
IsOfPhase Down d = Unit {0}

abbrev pub AreOfPhase : Phase → Held → Type 0
AreOfPhase phase documents = (uri : List ℕ) (d : OpenDocument) → get documents uri ≡ Some (is_open d) → IsOfPhase phase d

abbrev pub StandsIn : Phase → DocumentState → Type 0
StandsIn phase (is_open d) = IsOfPhase phase d
StandsIn phase (is_lost loss) = Unit {0}

-- what is opened has the unit
opened_stands : (unit : Encoding) (version : ℤ) (text : List ℕ) → StandsIn (Ready unit) (new_document unit version text)
opened_stands unit version text = by (fits text)
  where
    by : (b : Bool) → StandsIn (Ready unit) (cond b (is_open (record { unit = unit; version = version; text = text; last = None })) (is_lost TooLarge))
    by true = refl
    by false = tt

-- and what is changed keeps it
becomes_stands : (phase : Phase) (file : FileGrammar) (version : ℤ) (d : OpenDocument) (changes : List TextChange) (state : DocumentState)
    → IsOfPhase phase d → Becomes file version d changes state → StandsIn phase state
becomes_stands New file version d changes state is b = absurd is
becomes_stands (Ready unit) file version d changes (is_open e) is b = b.1 ∙ is
becomes_stands Down file version d changes (is_open e) is b = tt
becomes_stands (Ready unit) file version d changes (is_lost loss) is b = tt
becomes_stands Down file version d changes (is_lost loss) is b = tt

-- ---- what a step does

-- by a message that names the document of this URI, or none
pub data Effect (name : Option (List ℕ)) (old : State) (answers : List Answer) (stop : Option ℕ) (new : State) : Type 0 where
  stays : AreQuiet answers → new.file ≡ old.file → new.documents ≡ old.documents → (AreOfPhase old.phase old.documents → AreOfPhase new.phase old.documents) → Effect name old answers stop new
  stands : (uri : List ℕ) (state : DocumentState) → name ≡ Some uri → (AllFit old.documents → IsFit state) → (AreOfPhase old.phase old.documents → StandsIn old.phase state)
      → Holds old uri state answers stop new → Effect name old answers stop new
  goes : (uri : List ℕ) → name ≡ Some uri → Forgets old uri answers stop new → Effect name old answers stop new

-- what is opened fits, where it is open
pub opened_fit : (unit : Encoding) (version : ℤ) (text : List ℕ) → IsFit (new_document unit version text)
opened_fit unit version text = by (fits text) refl
  where
    by : (b : Bool) → fits text ≡ b → IsFit (cond b (is_open (record { unit = unit; version = version; text = text; last = None })) (is_lost TooLarge))
    by true e = e
    by false e = tt

module _ (name : Option (List ℕ)) (old : State) (answers : List Answer) (stop : Option ℕ) (new : State) where
  same_phase : new ≡ old → AreOfPhase old.phase old.documents → AreOfPhase new.phase old.documents
  same_phase same all = subst (λ (x : State). AreOfPhase x.phase old.documents) (sym same) all

  replied : (answer : Answer) → ((uri : List ℕ) → ¬ Publishes uri answer) → Replies old answer answers stop new → Effect name old answers stop new
  replied answer quiet s = stays (subst AreQuiet (sym s.0) (one_quiet answer quiet)) (ap (λ (x : State). x.file) s.2) (ap (λ (x : State). x.documents) s.2) (same_phase s.2)

  silent : answers ≡ [] → new ≡ old → Effect name old answers stop new
  silent none same = stays (subst AreQuiet (sym none) none_quiet) (ap (λ (x : State). x.file) same) (ap (λ (x : State). x.documents) same) (same_phase same)

  entered : (phase : Phase) (answer : Answer) → ((uri : List ℕ) → ¬ Publishes uri answer) → (AreOfPhase old.phase old.documents → AreOfPhase phase old.documents)
      → answers ≡ answer ∷ [] → new ≡ record { file = old.file; phase = phase; documents = old.documents } → Effect name old answers stop new
  entered phase answer quiet units one same =
      stays (subst AreQuiet (sym one) (one_quiet answer quiet)) (ap (λ (x : State). x.file) same) (ap (λ (x : State). x.documents) same)
      (λ all. subst (λ (x : State). AreOfPhase x.phase old.documents) (sym same) (units all))

  asks_effect : (phase : Phase) → old.phase ≡ phase → (id : Ident) (call : Request) → OnRequest phase old id call answers stop new → Effect name old answers stop new
  asks_effect New at id (initialize unit) s =
      entered (Ready unit) _ (λ uri p. p)
      (λ all uri d found. let none : ⊥ = subst (λ (p : Phase). AreOfPhase p old.documents) at all uri d found in absurd none) s.0 s.2
  asks_effect New at id shutdown s = replied _ (λ uri p. p) s
  asks_effect New at id (about uri question) s = replied _ (λ uri p. p) s
  asks_effect New at id (stats uri) s = replied _ (λ uri p. p) s
  asks_effect (Ready unit) at id (initialize other) s = replied _ (λ uri p. p) s
  asks_effect (Ready unit) at id shutdown s = entered Down _ (λ uri p. p) (λ all uri d found. tt) s.0 s.2
  asks_effect (Ready unit) at id (about uri question) s = replied s.0 (answer_quiet old.file id (get old.documents uri) question s.0 s.1) s.2
  asks_effect (Ready unit) at id (stats uri) s = replied s.0 (count_quiet old.file id (get old.documents uri) s.0 s.1) s.2
  asks_effect Down at id call s = replied _ (λ uri p. p) s

  opens_effect : (room : Bool) (uri : List ℕ) (state : DocumentState) → name ≡ Some uri → IsFit state → (AreOfPhase old.phase old.documents → StandsIn old.phase state)
      → Opens room old uri state answers stop new → Effect name old answers stop new
  opens_effect true uri state is fit unit s = stands uri state is (λ all. fit) unit s
  opens_effect false uri state is fit unit s = replied _ (λ uri p. p) s

  changes_effect : (o : Option DocumentState) (uri : List ℕ) (version : ℤ) (changes : List TextChange) → name ≡ Some uri → get old.documents uri ≡ o
      → Changes o old uri version changes answers stop new → Effect name old answers stop new
  changes_effect None uri version changes is e s = replied _ (λ uri p. p) s
  changes_effect (Some (is_lost loss)) uri version changes is e s = silent s.0 s.2
  changes_effect (Some (is_open d)) uri version changes is e s = stands uri s.0 is (λ all. becomes_fit old.file version d changes s.0 (all uri d e) s.1)
      (λ all. becomes_stands old.phase old.file version d changes s.0 (all uri d e) s.1) s.2

  spoils_effect : (o : Option DocumentState) (uri : List ℕ) → name ≡ Some uri → Spoils o old uri answers stop new → Effect name old answers stop new
  spoils_effect None uri is s = replied _ (λ uri p. p) s
  spoils_effect (Some (is_lost loss)) uri is s = silent s.0 s.2
  spoils_effect (Some (is_open d)) uri is s = stands uri (is_lost MalformedChange) is (λ all. tt) (λ all. tt) s

  closes_effect : (o : Option DocumentState) (uri : List ℕ) → name ≡ Some uri → Closes o old uri answers stop new → Effect name old answers stop new
  closes_effect None uri is s = replied _ (λ uri p. p) s
  closes_effect (Some state) uri is s = goes uri is s

  misses_effect : (unfit : Unfit) → name ≡ named (accepted (notification (malformed unfit))) → OnMalformed old unfit answers stop new → Effect name old answers stop new
  misses_effect (unfit_change (Some uri)) is s = spoils_effect (get old.documents uri) uri is s
  misses_effect d is s = replied _ (λ uri p. p) s

  shows_effect : (phase : Phase) → old.phase ≡ phase → (note : Notification) → name ≡ named (accepted (notification note))
      → OnNotification phase old note answers stop new → Effect name old answers stop new
  shows_effect (Ready unit) at (open_text uri version text) is s = opens_effect (has_room uri old.documents) uri (new_document unit version (chars text)) is
      (opened_fit unit version (chars text)) (λ all. subst (λ (p : Phase). StandsIn p (new_document unit version (chars text))) (sym at) (opened_stands unit version (chars text))) s
  shows_effect (Ready unit) at (change_text uri version changes) is s = changes_effect (get old.documents uri) uri version changes is refl s
  shows_effect (Ready unit) at (close uri) is s = closes_effect (get old.documents uri) uri is s
  shows_effect (Ready unit) at (malformed unfit) is s = misses_effect unfit is s
  shows_effect phase at initialized is s = silent s.0 s.2
  shows_effect phase at d is s = silent s.0 s.2

  effect_of : (received : Received) → name ≡ named received → Step old received answers stop new → Effect name old answers stop new
  effect_of (refused (invalid id)) is s = replied _ (λ uri p. p) s
  effect_of (accepted (request id call)) is s = asks_effect old.phase refl id call s
  effect_of (accepted (notification note)) is s = shows_effect old.phase refl note is s
  effect_of (accepted ignored) is s = silent s.0 s.2
  effect_of received is s = replied _ (λ uri p. p) s

pub step_effect : (old : State) (answers : List Answer) (stop : Option ℕ) (new : State) (received : Received) → Step old received answers stop new → Effect (named received) old answers stop new
step_effect old answers stop new received s = effect_of (named received) old answers stop new received refl s
