-- A session keeps its file, the texts of its open documents fit, and their unit is that of its phase.
use Rattle.sessions.proofs.Std.{◌≡◌, ℕ, Bool, true, false, cond, List, [], ◌∷◌, ◌++◌, sym, ap, subst, ◌∙◌, Option, Some, None, MatchOption, nat_cmp, eq_by_cmp, slice_cmp, empty, get, insert, remove, get-empty, get-insert, get-remove, nat_list_cmp_total}
use Rattle.sessions.proofs.Common.{AlwaysAnswers, OpenDocument, fits, FileGrammar, Received, received_in, Answer, DocumentState, is_open, is_lost, Held, Run, AllFit, CanServe, State, first_state, Step, New}
use Rattle.sessions.proofs.Effects.{AreOfPhase, IsOfPhase, Effect, stays, stands, goes, step_effect}

pub none_fits : AllFit empty
none_fits uri document found = absurd (let e : Some (is_open document) ≡ None = sym found ∙ get-empty (slice_cmp nat_cmp) uri in let f : ⊥ = cc in f)

pub none_stand : AreOfPhase New empty
none_stand uri document found = absurd (let e : Some (is_open document) ≡ None = sym found ∙ get-empty (slice_cmp nat_cmp) uri in let f : ⊥ = cc in f)

-- each open document has a property
abbrev AllOpen : (OpenDocument → Type 0) → Held → Type 0
AllOpen P documents = (uri : List ℕ) (d : OpenDocument) → get documents uri ≡ Some (is_open d) → P d

abbrev IfOpen : (OpenDocument → Type 0) → DocumentState → Type 0
IfOpen P (is_open d) = P d
IfOpen P (is_lost loss) = Unit {0}

inserted_all : (P : OpenDocument → Type 0) (documents : Held) (uri : List ℕ) (state : DocumentState) → AllOpen P documents → IfOpen P state → AllOpen P (insert documents uri state)
inserted_all P documents uri state all has other document found =
    by (eq_by_cmp (slice_cmp nat_cmp) other uri) (sym (get-insert nat_list_cmp_total documents uri state other) ∙ found)
  where
    by : (b : Bool) → cond b (Some state) (get documents other) ≡ Some (is_open document) → P document
    by true e = let same : state ≡ is_open document = cc in subst (IfOpen P) same has
    by false e = all other document e

removed_all : (P : OpenDocument → Type 0) (documents : Held) (uri : List ℕ) → AllOpen P documents → AllOpen P (remove documents uri)
removed_all P documents uri all other document found =
    by (eq_by_cmp (slice_cmp nat_cmp) other uri) (sym (get-remove nat_list_cmp_total documents uri other) ∙ found)
  where
    by : (b : Bool) → cond b None (get documents other) ≡ Some (is_open document) → P document
    by true e = absurd (let f : ⊥ = cc in f)
    by false e = all other document e

abbrev HasFit : OpenDocument → Type 0
HasFit d = fits d.text ≡ true

-- ---- what a step keeps

-- the file stays, texts that fit give way to such, and documents of the phase to such
pub record Keeps (old new : State) : Type 0 where
  pub file : new.file ≡ old.file
  pub fit : AllFit old.documents → AllFit new.documents
  pub units : AreOfPhase old.phase old.documents → AreOfPhase new.phase new.documents

same_state : (old new : State) → new ≡ old → Keeps old new
same_state old new e = record {
  file = ap (λ (s : State). s.file) e;
  fit = λ all. subst (λ (s : State). AllFit s.documents) (sym e) all;
  units = λ all. subst (λ (s : State). AreOfPhase s.phase s.documents) (sym e) all;
}

next_state : (old new : State) (documents : Held) → (AllFit old.documents → AllFit documents) → (AreOfPhase old.phase old.documents → AreOfPhase old.phase documents)
    → new ≡ record { file = old.file; phase = old.phase; documents = documents } → Keeps old new
next_state old new documents fit units e = record {
  file = ap (λ (s : State). s.file) e;
  fit = λ all. subst (λ (s : State). AllFit s.documents) (sym e) (fit all);
  units = λ all. subst (λ (s : State). AreOfPhase s.phase s.documents) (sym e) (units all);
}

effect_keeps : (name : Option (List ℕ)) (old : State) (answers : List Answer) (stop : Option ℕ) (new : State) → Effect name old answers stop new → Keeps old new
effect_keeps name old answers stop new (stays quiet file documents units) =
    record { file = file; fit = λ all. subst AllFit (sym documents) all; units = λ all. subst (AreOfPhase new.phase) (sym documents) (units all) }
effect_keeps name old answers stop new (stands uri (is_open d) is fit unit s) = next_state old new (insert old.documents uri (is_open d))
    (λ all. inserted_all HasFit old.documents uri (is_open d) all (fit all)) (λ all. inserted_all (IsOfPhase old.phase) old.documents uri (is_open d) all (unit all)) s.3.1
effect_keeps name old answers stop new (stands uri (is_lost loss) is fit unit s) = next_state old new (insert old.documents uri (is_lost loss))
    (λ all. inserted_all HasFit old.documents uri (is_lost loss) all tt) (λ all. inserted_all (IsOfPhase old.phase) old.documents uri (is_lost loss) all tt) s.1.1
effect_keeps name old answers stop new (goes uri is s) = next_state old new (remove old.documents uri)
    (removed_all HasFit old.documents uri) (removed_all (IsOfPhase old.phase) old.documents uri) s.1.1

pub step_keeps : (old : State) (received : Received) (answers : List Answer) (stop : Option ℕ) (new : State) → Step old received answers stop new → Keeps old new
step_keeps old received answers stop new s = effect_keeps _ old answers stop new (step_effect old answers stop new received s)

keeps_both : (old mid new : State) → Keeps old mid → Keeps mid new → Keeps old new
keeps_both old mid new a b = record { file = b.file ∙ a.file; fit = λ all. b.fit (a.fit all); units = λ all. b.units (a.units all) }

pub run_keeps : (contents : List (List ℕ)) (old : State) (answers : List Answer) (stop : Option ℕ) (new : State) → Run old contents answers stop new → Keeps old new
run_keeps [] old answers stop new r = same_state old new r.2
run_keeps (content ∷ contents) old answers stop new r = keeps_both old r.2 new (step_keeps old (received_in content) r.0 r.1 r.2 r.3)
    (by r.1 r.0 r.2 r.4 (λ rest more. run_keeps contents r.2 rest stop new more))
  where
    by : (halt : Option ℕ) (first : List Answer) (mid : State) → MatchOption halt ((rest : List Answer) × (answers ≡ first ++ rest) × Run mid contents rest stop new)
        (λ status. (answers ≡ first) × (stop ≡ Some status) × (new ≡ mid)) → ((rest : List Answer) → Run mid contents rest stop new → Keeps mid new) → Keeps mid new
    by None first mid h more = more h.0 h.2
    by (Some status) first mid h more = same_state mid new h.2

-- ---- where answers are had

still_serves : (old new : State) → Keeps old new → CanServe old → CanServe new
still_serves old new keeps can = record { always = subst (λ (f : FileGrammar). AlwaysAnswers f) (sym keeps.file) can.always; fit = keeps.fit can.fit }

pub step_serves : (old : State) (received : Received) (answers : List Answer) (stop : Option ℕ) (new : State) → Step old received answers stop new → CanServe old → CanServe new
step_serves old received answers stop new s = still_serves old new (step_keeps old received answers stop new s)

pub run_serves : (contents : List (List ℕ)) (old : State) (answers : List Answer) (stop : Option ℕ) (new : State) → Run old contents answers stop new → CanServe old → CanServe new
run_serves contents old answers stop new r = still_serves old new (run_keeps contents old answers stop new r)

pub first_serves : (file : FileGrammar) → AlwaysAnswers file → CanServe (first_state file)
first_serves file always = record { always = always; fit = none_fits }
