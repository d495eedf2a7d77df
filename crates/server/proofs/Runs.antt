-- Runs one after another.
use Rattle.server.proofs.Std.{◌≡◌, ℕ, List, [], ◌∷◌, ◌++◌, refl, ap, sym, subst, ◌∙◌, append_assoc, Option, Some, None, MatchOption, IfSome, Appends, flat_map-append, map-append}
use Rattle.server.proofs.Common.{compact_text, frame, contents, Received, received_in, Answer, reply_data, State, Step, StepOn, Run, bytes_of, Served, CanServe, run_serves, some_run}
use Rattle.std.proofs.Common.{append-nil}
use Rattle.server.proofs.Bytes.{appends_nothing, appends_then}

match_map : (halt : Option ℕ) {P P' : Type 0} {Q Q' : ℕ → Type 0} → (P → P') → ((s : ℕ) → Q s → Q' s) → MatchOption halt P Q → MatchOption halt P' Q'
match_map None f g h = f h
match_map (Some s) f g h = g s h

-- a run that didn't stop, and one more
pub run_then : (a b c : State) (cs ds : List (List ℕ)) (xs ys : List Answer) (stop : Option ℕ) → Run a cs xs None b → Run b ds ys stop c → Run a (cs ++ ds) (xs ++ ys) stop c
run_then a b c [] ds xs ys stop r s =
    subst (λ (st : State). Run st ds (xs ++ ys) stop c) r.2 (subst (λ zs. Run b ds (zs ++ ys) stop c) (sym r.0) s)
run_then a b c (content ∷ cs) ds xs ys stop r s = (
  r.0,
  r.1,
  r.2,
  r.3,
  match_map r.1 (λ h. (h.0 ++ ys, ap (λ zs. zs ++ ys) h.1 ∙ append_assoc r.0 h.0 ys, run_then r.2 b c cs ds h.0 ys stop h.2 s))
      (λ status h. absurd (let e : None ≡ Some status = h.1 in let f : ⊥ = cc in f)) r.4,
)

-- what comes after a stop isn't looked at
pub run_stops : (a c : State) (cs ds : List (List ℕ)) (xs : List Answer) (status : ℕ) → Run a cs xs (Some status) c → Run a (cs ++ ds) xs (Some status) c
run_stops a c [] ds xs status r = let e : Some status ≡ None = r.1 in let f : ⊥ = cc in absurd f
run_stops a c (content ∷ cs) ds xs status r = (r.0, r.1, r.2, r.3, match_map r.1 (λ h. (h.0, h.1, run_stops r.2 c cs ds h.0 status h.2)) (λ s h. h) r.4)

-- a run goes on over more contents
pub run_on : (a c : State) → CanServe a → (cs ds : List (List ℕ)) (xs : List Answer) (stop : Option ℕ) → Run a cs xs stop c
    → (ys : List Answer) × (halt : Option ℕ) × (d : State) × Run a (cs ++ ds) (xs ++ ys) halt d
run_on a c can cs ds xs None r =
    let more = some_run c (run_serves cs a xs None c r can) ds in
    (more.0, more.1, more.2, run_then a c more.2 cs ds xs more.0 more.1 r more.3)
run_on a c can cs ds xs (Some status) r = ([], Some status, c, subst (λ zs. Run a (cs ++ ds) zs (Some status) c) (sym (append-nil xs)) (run_stops a c cs ds xs status r))

-- a step on what a content is read as
pub step_of_received : (o : Option Received) (received : Received) (old : State) (answers : List Answer) (stop : Option ℕ) (new : State)
    → IfSome o (λ h. h ≡ received) → StepOn o old answers stop new → Step old received answers stop new
step_of_received None received old answers stop new is step = absurd step
step_of_received (Some h) received old answers stop new is step = subst (λ (x : Received). Step old x answers stop new) is step

pub one_run : (content : List ℕ) (old : State) (answers : List Answer) (stop : Option ℕ) (new : State) → Step old (received_in content) answers stop new → Run old (content ∷ []) answers stop new
one_run content old answers None new step = (answers, None, new, step, ([], sym (append-nil answers), (refl, refl, refl)))
one_run content old answers (Some s) new step = (answers, Some s, new, step, (refl, refl, refl))

pub bytes_then : (xs ys : List Answer) → bytes_of (xs ++ ys) ≡ bytes_of xs ++ bytes_of ys
bytes_then xs ys = flat_map-append (λ a. frame (compact_text (reply_data a))) xs ys

-- one part of a session after another
pub served_then : (old mid new : Option (List ℕ)) (a b c : State) (cs ds : List (List ℕ)) (stop : Option ℕ)
    → Served old mid a cs None b → Served mid new b ds stop c → Served old new a (cs ++ ds) stop c
served_then old mid new a b c cs ds stop r s = record {
  answers = r.answers ++ s.answers;
  run = run_then a b c cs ds r.answers s.answers stop r.run s.run;
  written = subst (Appends old new) (sym (bytes_then r.answers s.answers)) (appends_then old mid new _ _ r.written s.written);
}

pub served_stops : (old new : Option (List ℕ)) (a c : State) (cs ds : List (List ℕ)) (status : ℕ) → Served old new a cs (Some status) c → Served old new a (cs ++ ds) (Some status) c
served_stops old new a c cs ds status r = record { answers = r.answers; run = run_stops a c cs ds r.answers status r.run; written = r.written }

pub served_nothing : (o : Option (List ℕ)) (a : State) → Served o o a [] None a
served_nothing o a = record { answers = []; run = (refl, refl, refl); written = appends_nothing o }
