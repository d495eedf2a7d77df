-- In each run of the editor's server there is one of the core.
use Rattle.ide.proofs.Std.{◌≡◌, ℕ, List, [], ◌∷◌, ◌++◌, map, refl, ap, sym, subst, ◌∙◌, inl, inr, Option, Some, None, MatchOption, IsSome, ◌⊎◌, flat_map-append}
use Rattle.ide.proofs.Common.{Ident, Message, core_answers, core_part, Run, State, Step, received_in, asked_in, own_in, own_of, question_id, AnswersItself, IsReply, StepOnContent, StepsAsShown, IsLeftOff, LeavesOut, Serves, cancels, comes, IdeState}
use Rattle.ide.proofs.Runs.{all_come}
use Rattle.shown.proofs.ShownAnswers.{the_answers}
use Rattle.own_replies.proofs.OwnAlone.{is_own}
use Rattle.rpc.specs.Messages.{Received, refused as refused_as, unknown}
use Rattle.rpc.specs.Unit.{Unit as Encoding}
use Rattle.sessions.specs.declared.phase.Phase.{Phase}
use Rattle.sessions.specs.declared.phase.Phase.TheVariants.{New, Ready, Down}
use Rattle.questions.specs.Asked.{Asked}
use Rattle.ide.specs.Runs.{EachRunIsTheCores}

-- a request that is answered here asks something
own_asks : (phase : Phase) (received : Received) (asked : Option Asked) (own : Ident × Asked) → own_of phase received asked ≡ Some own → IsSome asked
own_asks (Ready unit) (refused_as (unknown id)) (Some a) own e = search
own_asks (Ready unit) (refused_as (unknown id)) None own e = absurd (let f : ⊥ = cc in f)
own_asks phase received asked own e = absurd (let f : ⊥ = cc in f)

-- a question that is cancelled came in the ready phase
in_ready : (phase : Phase) (received : Received) (id : Ident) → question_id phase received ≡ Some id
    → (unit : Encoding) × (question_id (Ready unit) received ≡ Some id)
in_ready (Ready unit) received id e = (unit, e)
in_ready New received id e = absurd (let f : ⊥ = cc in f)
in_ready Down received id e = absurd (let f : ⊥ = cc in f)

-- nothing need be left out
all_stay : (contents : List (List ℕ)) (later : List (Option Ident)) → LeavesOut contents later contents
all_stay [] later = refl
all_stay (content ∷ contents) later = inr (contents, refl, all_stay contents later)

-- a run of the core within one of the editor's server
abbrev HasCores : State → List (List ℕ) → List (Option Ident) → List Message → Option ℕ → State → Type 0
HasCores old contents later messages stop new =
    (others : List (List ℕ)) × LeavesOut contents later others × Run old others (core_answers messages) stop new

-- what follows a step, by whether it stopped
abbrev Follows : Option ℕ → State → List Message → List (List ℕ) → List (Option Ident) → List Message → Option ℕ → State → Type 0
Follows halt mid first contents later messages stop new =
    MatchOption halt ((rest : List Message) × (messages ≡ first ++ rest) × HasCores mid contents later rest stop new)
    (λ status. (messages ≡ first) × (stop ≡ Some status) × (new ≡ mid))

-- a step of the core comes first
core_first : (halt : Option ℕ) (old mid new : State) (content : List ℕ) (contents : List (List ℕ)) (later : List (Option Ident)) (first messages : List Message)
    (stop : Option ℕ) → Step old (received_in content) (core_answers first) halt mid → Follows halt mid first contents later messages stop new
    → HasCores old (content ∷ contents) later messages stop new
core_first None old mid new content contents later first messages stop step f = (
  content ∷ f.2.0,
  inr (f.2.0, refl, f.2.1),
  (core_answers first, None, mid, step, (core_answers f.0, ap core_answers f.1 ∙ flat_map-append core_part first f.0, f.2.2)),
)
core_first (Some status) old mid new content contents later first messages stop step f =
    (content ∷ contents, inr (contents, refl, all_stay contents later), (core_answers first, Some status, mid, step, (ap core_answers f.0, f.1, f.2)))

-- a content that the core doesn't see comes first: nothing of what is sent on it is the core's, and the core stays as it was
left_out : (halt : Option ℕ) (old mid new : State) (content : List ℕ) (contents : List (List ℕ)) (later : List (Option Ident)) (first messages : List Message)
    (stop : Option ℕ) → IsSome (asked_in content) ⊎ IsLeftOff content (cancels contents ++ later) → halt ≡ None → core_answers first ≡ [] → mid ≡ old
    → Follows halt mid first contents later messages stop new → HasCores old (content ∷ contents) later messages stop new
left_out None old mid new content contents later first messages stop why e none same f =
    let all : core_answers f.0 ≡ core_answers messages = sym (ap core_answers f.1 ∙ (flat_map-append core_part first f.0 ∙ ap (λ l. l ++ core_answers f.0) none)) in
    let run : Run old f.2.0 (core_answers f.0) stop new = subst (λ (s : State). Run s f.2.0 (core_answers f.0) stop new) same f.2.2 in
    (f.2.0, inl (why, f.2.1), subst (λ l. Run old f.2.0 l stop new) all run)
left_out (Some status) old mid new content contents later first messages stop why e none same f = absurd (let g : ⊥ = cc in g)

by_owner : (o : Option (Ident × Asked)) (halt : Option ℕ) (old mid : IdeState) (new : State) (content : List ℕ) (contents : List (List ℕ)) (later : List (Option Ident))
    (first messages : List Message) (stop : Option ℕ) → own_in old.core.phase content ≡ o
    → MatchOption o (StepsAsShown old (received_in content) first halt mid) (λ own. AnswersItself old own first halt mid)
    → Follows halt mid.core first contents later messages stop new → HasCores old.core (content ∷ contents) later messages stop new
by_owner None halt old mid new content contents later first messages stop e step f =
    core_first halt old.core mid.core new content contents later first messages stop
    (subst (λ answers. Step old.core (received_in content) answers halt mid.core) (sym (the_answers old.shown step.0 first step.2)) step.1) f
by_owner (Some own) halt old mid new content contents later first messages stop e a f =
    let own_reply = is_own old own.0 own.1 a.0 mid a.1 in
    let none : core_answers first ≡ [] = ap core_answers a.2 ∙ ap (λ l. l ++ []) own_reply.0 in
    left_out halt old.core mid.core new content contents later first messages stop
    (inl (own_asks old.core.phase (received_in content) (asked_in content) own e)) a.3 none own_reply.1 f

by_step : (halt : Option ℕ) (old mid : IdeState) (new : State) (content : List ℕ) (contents : List (List ℕ)) (later : List (Option Ident)) (first messages : List Message)
    (stop : Option ℕ) → StepOnContent old content (cancels contents ++ later) first halt mid → Follows halt mid.core first contents later messages stop new
    → HasCores old.core (content ∷ contents) later messages stop new
by_step halt old mid new content contents later first messages stop (inl left) f =
    let ready = in_ready old.core.phase (received_in content) left.0 left.1 in
    left_out halt old.core mid.core new content contents later first messages stop
    (inr (ready.0, left.0, ready.1, left.2)) left.4 (ap core_answers left.3) (ap (λ (s : IdeState). s.core) left.5) f
by_step halt old mid new content contents later first messages stop (inr answers) f =
    by_owner (own_in old.core.phase content) halt old mid new content contents later first messages stop refl answers f

followed : (halt : Option ℕ) (mid new : IdeState) (first : List Message) (contents : List (List ℕ)) (later : List (Option Ident)) (messages : List Message) (stop : Option ℕ)
    → ((rest : List Message) → Serves mid (map comes contents) later rest stop new → HasCores mid.core contents later rest stop new.core)
    → MatchOption halt ((rest : List Message) × (messages ≡ first ++ rest) × Serves mid (map comes contents) later rest stop new)
    (λ status. (messages ≡ first) × (stop ≡ Some status) × (new ≡ mid)) → Follows halt mid.core first contents later messages stop new.core
followed None mid new first contents later messages stop more f = (f.0, f.1, more f.0 f.2)
followed (Some status) mid new first contents later messages stop more f = (f.0, f.1, ap (λ (s : IdeState). s.core) f.2)

the_cores : (old new : IdeState) (contents : List (List ℕ)) (later : List (Option Ident)) (messages : List Message) (stop : Option ℕ)
    → Serves old (map comes contents) later messages stop new → HasCores old.core contents later messages stop new.core
the_cores old new [] later messages stop r = ([], refl, (ap core_answers r.0, r.1, ap (λ (s : IdeState). s.core) r.2))
the_cores old new (content ∷ contents) later messages stop r =
    by_step r.1 old r.2 new.core content contents later r.0 messages stop
    (subst (λ cs. StepOnContent old content (cancels cs ++ later) r.0 r.1 r.2) (all_come contents) r.3)
    (followed r.1 r.2 new r.0 contents later messages stop (λ rest s. the_cores r.2 new contents later rest stop s) r.4)

pub each_run : EachRunIsTheCores
each_run old new contents later messages stop r = the_cores old new contents later messages stop r
