-- What is kept of the bytes after the whole frames.
use Rattle.frames.proofs.Std.{◌≡◌, ◌≢◌, ◌<◌, ◌≤◌, ℕ, List, [], ◌++◌, length, refl, ap, sym, subst, ◌∙◌, arith, append_assoc, append-nil, Option, None, Result, IfErr, IfSome, IsErrOf, take-append-le}
use Rattle.frames.proofs.Common.{FrameFault, NeedsMore, through, blank_line, Tail, Open, Faulty, IsTail, IsBegun, IsReached, IsOpen, start_of, tail_of, fault_of, Continues, Splits, Awaits, HoldsNone, IsDecoder}

-- no frame is whole in no bytes
pub awaits_none : (rest : List ℕ) → Awaits rest 0
awaits_none rest more few = absurd (omega (arith, few))

-- what is kept of bytes that weren't searched
pub kept_anew : (rest : List ℕ) (awaited : ℕ) (fault : Option FrameFault) → IsTail rest (tail_of rest fault) → Awaits rest awaited → IsDecoder rest awaited 0 fault
kept_anew rest awaited fault tail waits = record { tail = tail; waits = waits; within = omega arith; holds = refl }

-- fewer bytes than are awaited begin a frame at most
pub few_begin : (bytes : List ℕ) (awaited : ℕ) → Awaits bytes awaited → length bytes < awaited → IsTail bytes (Open bytes)
few_begin bytes awaited waits few =
    let same = append-nil bytes in
    (refl, subst (λ (b : List ℕ). IsBegun b (start_of b)) same (waits [] (subst (λ (b : List ℕ). length b < awaited) (sym same) few)))

-- so do bytes that need more
pub more_begin : (bytes : List ℕ) → start_of bytes ≡ NeedsMore → IsTail bytes (Open bytes)
more_begin bytes h = (refl, subst (IsBegun bytes) (sym h) tt)

-- what is kept holds also with a piece after the bytes
pub awaits_more : (rest piece : List ℕ) (awaited : ℕ) → Awaits rest awaited → Awaits (rest ++ piece) awaited
awaits_more rest piece awaited waits more few =
    let same = append_assoc rest piece more in
    subst (λ (b : List ℕ). IsBegun b (start_of b)) (sym same) (waits (piece ++ more) (subst (λ (b : List ℕ). length b < awaited) same few))

pub holds_more : (rest piece : List ℕ) (searched : ℕ) → searched ≤ length rest → HoldsNone rest searched → HoldsNone (rest ++ piece) searched
holds_more rest piece searched within holds = ap (through blank_line) (take-append-le searched rest piece within) ∙ holds

-- a fault takes no piece
pub fault_goes_on : (old : Tail) (piece : List ℕ) (fault : FrameFault) → Faulty fault ≡ old → Continues old piece [] old × (old ≡ Faulty fault)
fault_goes_on old piece fault is = subst (λ t. Continues t piece [] t × (t ≡ Faulty fault)) is ((refl, refl), refl)

-- bytes that go on
pub open_goes_on : (old : Tail) (rest piece : List ℕ) (contents : List (List ℕ)) (new : Tail) → Open rest ≡ old → Splits (rest ++ piece) contents new → Continues old piece contents new
open_goes_on old rest piece contents new is h = subst (λ t. Continues t piece contents new) is h

pub open_has_no_fault : (old : Tail) (rest : List ℕ) (P : FrameFault → Type 0) → Open rest ≡ old → IfSome (fault_of old) P
open_has_no_fault old rest P is = subst (λ t. IfSome (fault_of t) P) is tt

pub no_fault_is_open : (rest : List ℕ) (fault : Option FrameFault) → fault ≡ None → IsOpen (tail_of rest fault)
no_fault_is_open rest fault is = subst (λ (o : Option FrameFault). IsOpen (tail_of rest o)) (sym is) tt

pub reached : (rest : List ℕ) (tail : Tail) (fault : Option FrameFault) → tail_of rest fault ≡ tail → IsTail rest (tail_of rest fault) → IsReached tail
reached rest tail fault is h = (rest, subst (IsTail rest) is h)

-- a result with an error that it doesn't have
pub not_err_of : {A : Type 0} (r : Result A FrameFault) (e : FrameFault) → IfErr r (λ f. f ≢ e) → IsErrOf r e → ⊥
not_err_of {A} r e h is = subst (λ (x : Result A FrameFault). IfErr x (λ f. f ≢ e)) is h refl
