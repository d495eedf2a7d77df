-- A core in the place of another one, message by message.
use Rattle.std.proofs.Common.{◌≡◌, ℕ, List, [], ◌∷◌, ◌++◌, refl, ap, sym, subst, ◌∙◌, append-nil, append_assoc, Option}
use Rattle.std.proofs.lemmas.List.Elements.{All-append, All-cons, All-nil}
use Rattle.readings.specs.Grammars.{FileGrammar}
use Rattle.replies.specs.Replies.{Answer}
use Rattle.rpc.specs.Messages.{Received}
use Rattle.rpc.specs.Unit.{Unit as Encoding}
use Rattle.sessions.specs.Steps.{State, Step}
use Rattle.reopening.specs.Reopening.{IsOpening, Reopens, Steps, ready_state}

steps_more : (a b c : State) (received : List Received) (xs ys : List Answer) (r : Received) (stop : Option ℕ) → Steps a received xs b → Step b r ys stop c
    → Steps a (received ++ r ∷ []) (xs ++ ys) c
steps_more a b c [] xs ys r stop s step =
    (ys, [], stop, c, subst (λ (st : State). Step st r ys stop c) s.1 step, (refl, refl), ap (λ l. l ++ ys) s.0 ∙ sym (append-nil ys))
steps_more a b c (q ∷ received) xs ys r stop s step =
    (s.0, s.1 ++ ys, s.2, s.3, s.4, steps_more s.3 b c received s.1 ys r stop s.5 step, ap (λ l. l ++ ys) s.6 ∙ append_assoc s.0 s.1 ys)

-- one document more is opened
pub opened_more : (old mid new : State) (unit : Encoding) (file : FileGrammar) (xs ys : List Answer) (r : Received) (stop : Option ℕ) → Reopens old unit file xs mid
    → IsOpening old.documents r → Step mid r ys stop new → Reopens old unit file (xs ++ ys) new
opened_more old mid new unit file xs ys r stop reopens opening step = (
  reopens.0 ++ r ∷ [],
  All-append (IsOpening old.documents) reopens.0 (r ∷ []) reopens.1
      (All-cons (IsOpening old.documents) r [] opening (All-nil (IsOpening old.documents))),
  steps_more (ready_state file unit) mid new reopens.0 xs ys r stop reopens.2 step,
)
