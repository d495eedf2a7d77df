-- A document that came to stand otherwise.
use Rattle.server.proofs.Std.{◌≡◌, ℕ, ℤ, Bool, true, List, [], ◌∷◌, ap, ◌∙◌, sym, subst, Option, Some, None, get, insert, remove}
use Rattle.server.proofs.Common.{FileGrammar, OpenDocument, Doc, open_document, Answer, log_message, CloseNotOpen, Entry, Phase, IsPublished, TextChange, DocumentState, Held, is_open, is_lost, Becomes, entry_view, State, Changes, Closes, Holds, Opens, inserted_again, inserted_removed}
use Rattle.server.specs.declared.entry.Entry.TheVariants as entry

abbrev pub state_of : FileGrammar → Phase → Held → State
state_of file phase documents = record { file = file; phase = phase; documents = documents }

pub state_same : (file file' : FileGrammar) (phase : Phase) (documents documents' : Held) → file' ≡ file → documents' ≡ documents → state_of file' phase documents' ≡ state_of file phase documents
state_same file file' phase documents documents' e f = ap (λ (x : FileGrammar). state_of x phase documents') e ∙ ap (λ (h : Held). state_of file phase h) f

-- an open document, whose diagnostics are published
pub holds_open : (old : State) (uri : List ℕ) (made : Entry) (d : Doc) → made ≡ entry.Open d → (published : Answer) (answers : List Answer) (stop : Option ℕ) (new : State)
    → IsPublished old.file uri (open_document d) published → answers ≡ published ∷ [] → stop ≡ None → new ≡ state_of old.file old.phase
    (insert old.documents uri (entry_view made)) → Holds old uri (entry_view made) answers stop new
holds_open old uri made d e published answers stop new is sends stays same =
    let here : new ≡ state_of old.file old.phase (insert old.documents uri (entry_view (entry.Open d))) = same
    ∙ ap (λ (x : Entry). state_of old.file old.phase (insert old.documents uri (entry_view x))) e in
    subst (λ (x : Entry). Holds old uri (entry_view x) answers stop new) (sym e) (published, is, sends, (stays, here))

-- where other documents are held in between, but the same are held then
holds_from : (old mid : State) (documents : Held) (uri : List ℕ) (state : DocumentState) (answers : List Answer) (stop : Option ℕ) (new : State)
    → mid ≡ state_of old.file old.phase documents → insert documents uri state ≡ insert old.documents uri state → Holds mid uri state answers stop new → Holds old uri state answers stop new
holds_from old mid documents uri state answers stop new same put h = by state put (subst (λ (m : State). Holds m uri state answers stop new) same h)
  where
    by : (s : DocumentState) → insert documents uri s ≡ insert old.documents uri s → Holds (state_of old.file old.phase documents) uri s answers stop new → Holds old uri s answers stop new
    by (is_open d) e g = (g.0, g.1, g.2, (g.3.0, g.3.1 ∙ ap (λ (x : Held). state_of old.file old.phase x) e))
    by (is_lost loss) e g = (g.0, (g.1.0, g.1.1 ∙ ap (λ (x : Held). state_of old.file old.phase x) e))

-- one that stood otherwise in between
pub holds_again : (old mid : State) (uri : List ℕ) (before state : DocumentState) (answers : List Answer) (stop : Option ℕ) (new : State)
    → mid ≡ state_of old.file old.phase (insert old.documents uri before) → Holds mid uri state answers stop new → Holds old uri state answers stop new
holds_again old mid uri before state answers stop new same = holds_from old mid (insert old.documents uri before) uri state answers stop new same (inserted_again old.documents uri before state)

-- one that was removed before
pub holds_removed : (old mid : State) (uri : List ℕ) (state : DocumentState) (answers : List Answer) (stop : Option ℕ) (new : State)
    → mid ≡ state_of old.file old.phase (remove old.documents uri) → Holds mid uri state answers stop new → Holds old uri state answers stop new
holds_removed old mid uri state answers stop new same = holds_from old mid (remove old.documents uri) uri state answers stop new same (inserted_removed old.documents uri state)

-- a change of an open document
pub changes_open : (old mid : State) (uri : List ℕ) (before : DocumentState) (d : OpenDocument) (version : ℤ) (changes : List TextChange) (state : DocumentState)
    (answers : List Answer) (stop : Option ℕ) (new : State) → get old.documents uri ≡ Some (is_open d) → mid ≡ state_of old.file old.phase (insert old.documents uri before)
    → Becomes old.file version d changes state → Holds mid uri state answers stop new → Changes (get old.documents uri) old uri version changes answers stop new
changes_open old mid uri before d version changes state answers stop new held same becomes holds =
    subst (λ (o : Option DocumentState). Changes o old uri version changes answers stop new) (sym held) (state, becomes, holds_again old mid uri before state answers stop new same holds)

-- nothing is held that could be closed
pub closes_none : (old : State) (uri : List ℕ) (answers : List Answer) (stop : Option ℕ) (new : State) → get old.documents uri ≡ None → answers ≡ log_message CloseNotOpen ∷ []
    → stop ≡ None → new ≡ old → Closes (get old.documents uri) old uri answers stop new
closes_none old uri answers stop new none sends stays same =
    subst (λ (o : Option DocumentState). Closes o old uri answers stop new) (sym none) (sends, stays, same)

-- a document that there is room for
pub opens_room : (room : Bool) (old : State) (uri : List ℕ) (made state : DocumentState) (answers : List Answer) (stop : Option ℕ) (new : State)
    → Holds old uri made answers stop new → made ≡ state → room ≡ true → Opens room old uri state answers stop new
opens_room room old uri made state answers stop new holds same is =
    subst (λ (b : Bool). Opens b old uri state answers stop new) (sym is) (subst (λ (s : DocumentState). Holds old uri s answers stop new) same holds)
