-- Runs one after another.
use Rattle.ide.proofs.Std.{◌≡◌, ℕ, List, [], ◌∷◌, ◌++◌, map, refl, ap, sym, subst, ◌∙◌, inl, inr, append-nil, append_assoc, map-append, Option, Some, None, MatchOption, Appends, Any, flat_map-append}
use Rattle.ide.proofs.Common.{compact_text, frame, Ident, Message, message_data, bytes_of, cancelled_by, IdeState, StepOnContent, Event, comes, looks, cancels, contents_of, Serves, Served}
use Rattle.std.proofs.Common.{◌<◌, arith}
use Rattle.std.proofs.Math.ListN.{get_or-append}
use Rattle.std.proofs.lemmas.List.{length-append}
use Rattle.server.proofs.Bytes.{appends_nothing, appends_then}
use Rattle.ide.specs.Written.{AfterLook, Language}

match_map : (halt : Option ℕ) {P P' : Type 0} {Q Q' : ℕ → Type 0} → (P → P') → ((s : ℕ) → Q s → Q' s) → MatchOption halt P Q → MatchOption halt P' Q'
match_map None f g h = f h
match_map (Some s) f g h = g s h

pub bytes_then : (xs ys : List Message) → bytes_of (xs ++ ys) ≡ bytes_of xs ++ bytes_of ys
bytes_then xs ys = flat_map-append (λ m. frame (compact_text (message_data m))) xs ys

-- ---- contents of events

pub contents_then : (es fs : List Event) → contents_of (es ++ fs) ≡ contents_of es ++ contents_of fs
contents_then [] fs = refl
contents_then (comes content ∷ es) fs = ap (λ l. content ∷ l) (contents_then es fs)
contents_then (looks written ∷ es) fs = contents_then es fs

-- contents that come one after another
pub all_come : (contents : List (List ℕ)) → contents_of (map comes contents) ≡ contents
all_come [] = refl
all_come (content ∷ contents) = ap (λ l. content ∷ l) (all_come contents)

-- what the contents of two parts cancel, before more that is cancelled
cancels_then : (es fs : List Event) (later : List (Option Ident))
    → cancels (contents_of es) ++ (cancels (contents_of fs) ++ later) ≡ cancels (contents_of (es ++ fs)) ++ later
cancels_then es fs later =
    sym (append_assoc (cancels (contents_of es)) (cancels (contents_of fs)) later)
    ∙ ap (λ l. l ++ later) (sym (map-append cancelled_by (contents_of es) (contents_of fs)) ∙ ap cancels (sym (contents_then es fs)))

-- ---- more that is cancelled later

any_more : {X : Type 0} {P : X → Type 0} (xs ys : List X) → Any P xs → Any P (xs ++ ys)
any_more xs ys a = (
  a.0,
  a.1,
  subst (λ n. a.0 < n) (sym (length-append xs ys)) (omega (arith, a.2)),
  get_or-append xs ys a.1 a.0 a.2 ∙ a.3,
  a.4,
)

step_more : (old : IdeState) (content : List ℕ) (later more : List (Option Ident)) (messages : List Message) (stop : Option ℕ) (new : IdeState)
    → StepOnContent old content later messages stop new → StepOnContent old content (later ++ more) messages stop new
step_more old content later more messages stop new (inl left) = inl (left.0, left.1, any_more later more left.2, left.3, left.4, left.5)
step_more old content later more messages stop new (inr answers) = inr answers

pub run_more : (a c : IdeState) (es : List Event) (later more : List (Option Ident)) (xs : List Message) (stop : Option ℕ) → Serves a es later xs stop c
    → Serves a es (later ++ more) xs stop c
run_more a c [] later more xs stop r = r
run_more a c (comes content ∷ es) later more xs stop r = (
  r.0,
  r.1,
  r.2,
  subst (λ l. StepOnContent a content l r.0 r.1 r.2) (append_assoc (cancels (contents_of es)) later more)
      (step_more a content (cancels (contents_of es) ++ later) more r.0 r.1 r.2 r.3),
  match_map r.1 (λ h. (h.0, h.1, run_more r.2 c es later more h.0 stop h.2)) (λ s h. h) r.4,
)
run_more a c (looks written ∷ es) later more xs stop r = (r.0, r.1, r.2, r.3, r.4, run_more r.2 c es later more r.1 stop r.5)

-- ---- one part after another

-- a run that didn't stop, and one more
pub run_then : (a b c : IdeState) (es fs : List Event) (later : List (Option Ident)) (xs ys : List Message) (stop : Option ℕ)
    → Serves a es (cancels (contents_of fs) ++ later) xs None b → Serves b fs later ys stop c → Serves a (es ++ fs) later (xs ++ ys) stop c
run_then a b c [] fs later xs ys stop r s =
    subst (λ (st : IdeState). Serves st fs later (xs ++ ys) stop c) r.2 (subst (λ zs. Serves b fs later (zs ++ ys) stop c) (sym r.0) s)
run_then a b c (comes content ∷ es) fs later xs ys stop r s = (
  r.0,
  r.1,
  r.2,
  subst (λ l. StepOnContent a content l r.0 r.1 r.2) (cancels_then es fs later) r.3,
  match_map r.1 (λ h. (h.0 ++ ys, ap (λ zs. zs ++ ys) h.1 ∙ append_assoc r.0 h.0 ys, run_then r.2 b c es fs later h.0 ys stop h.2 s))
      (λ status h. absurd (let e : None ≡ Some status = h.1 in let f : ⊥ = cc in f)) r.4,
)
run_then a b c (looks written ∷ es) fs later xs ys stop r s =
    (r.0, r.1 ++ ys, r.2, r.3, ap (λ zs. zs ++ ys) r.4 ∙ append_assoc r.0 r.1 ys, run_then r.2 b c es fs later r.1 ys stop r.5 s)

-- what comes after a stop isn't looked at
pub run_stops : (a c : IdeState) (es fs : List Event) (later : List (Option Ident)) (xs : List Message) (status : ℕ)
    → Serves a es (cancels (contents_of fs) ++ later) xs (Some status) c → Serves a (es ++ fs) later xs (Some status) c
run_stops a c [] fs later xs status r = let e : Some status ≡ None = r.1 in let f : ⊥ = cc in absurd f
run_stops a c (comes content ∷ es) fs later xs status r = (
  r.0,
  r.1,
  r.2,
  subst (λ l. StepOnContent a content l r.0 r.1 r.2) (cancels_then es fs later) r.3,
  match_map r.1 (λ h. (h.0, h.1, run_stops r.2 c es fs later h.0 status h.2)) (λ s h. h) r.4,
)
run_stops a c (looks written ∷ es) fs later xs status r = (r.0, r.1, r.2, r.3, r.4, run_stops r.2 c es fs later r.1 status r.5)

pub one_run : (content : List ℕ) (old : IdeState) (later : List (Option Ident)) (messages : List Message) (stop : Option ℕ) (new : IdeState)
    → StepOnContent old content later messages stop new → Serves old (comes content ∷ []) later messages stop new
one_run content old later messages None new step = (messages, None, new, step, ([], sym (append-nil messages), (refl, refl, refl)))
one_run content old later messages (Some s) new step = (messages, Some s, new, step, (refl, refl, refl))

-- what comes of one look at the files
pub one_look : (written : Option Language) (old new : IdeState) (later : List (Option Ident)) (messages : List Message)
    → AfterLook old.core.phase old written messages new → Serves old (looks written ∷ []) later messages None new
one_look written old new later messages after = (messages, [], new, after, sym (append-nil messages), (refl, refl, refl))

-- one part of a session after another
pub served_then : (old mid new : Option (List ℕ)) (a b c : IdeState) (cs ds : List (List ℕ)) (later : List (Option Ident)) (stop : Option ℕ)
    → Served old mid a cs (cancels ds ++ later) None b → Served mid new b ds later stop c → Served old new a (cs ++ ds) later stop c
served_then old mid new a b c cs ds later stop r s = record {
  events = r.events ++ s.events;
  messages = r.messages ++ s.messages;
  parts = contents_then r.events s.events ∙ ap (λ l. l ++ contents_of s.events) r.parts ∙ ap (λ l. cs ++ l) s.parts;
  run = run_then a b c r.events s.events later r.messages s.messages stop
      (subst (λ l. Serves a r.events (cancels l ++ later) r.messages None b) (sym s.parts) r.run) s.run;
  written = subst (Appends old new) (sym (bytes_then r.messages s.messages)) (appends_then old mid new _ _ r.written s.written);
}

pub served_stops : (old new : Option (List ℕ)) (a c : IdeState) (cs ds : List (List ℕ)) (later : List (Option Ident)) (status : ℕ)
    → Served old new a cs (cancels ds ++ later) (Some status) c → Served old new a (cs ++ ds) later (Some status) c
served_stops old new a c cs ds later status r = record {
  events = r.events ++ map comes ds;
  messages = r.messages;
  parts = contents_then r.events (map comes ds) ∙ ap (λ l. l ++ contents_of (map comes ds)) r.parts ∙ ap (λ l. cs ++ l) (all_come ds);
  run = run_stops a c r.events (map comes ds) later r.messages status
      (subst (λ l. Serves a r.events (cancels l ++ later) r.messages (Some status) c) (sym (all_come ds)) r.run);
  written = r.written;
}

pub served_more : (old new : Option (List ℕ)) (a c : IdeState) (cs : List (List ℕ)) (later more : List (Option Ident)) (stop : Option ℕ)
    → Served old new a cs later stop c → Served old new a cs (later ++ more) stop c
served_more old new a c cs later more stop r = record {
  events = r.events;
  messages = r.messages;
  parts = r.parts;
  run = run_more a c r.events later more r.messages stop r.run;
  written = r.written;
}

pub served_nothing : (o : Option (List ℕ)) (a : IdeState) (later : List (Option Ident)) → Served o o a [] later None a
served_nothing o a later = record { events = []; messages = []; parts = refl; run = (refl, refl, refl); written = appends_nothing o }
