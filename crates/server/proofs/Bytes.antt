-- Bytes that are read and written one after another, and the contents of frames.
use Rattle.server.proofs.Std.{◌≡◌, ◌≢◌, ℕ, List, [], ◌∷◌, ◌++◌, refl, ap, sym, ◌∙◌, subst, append_assoc, Option, Some, None, Result, Ok, Err, OnErr, Appends, Consumes, Keeps, map-append}
use Rattle.server.proofs.Common.{contents, AppendsPrefix, FrameFault, Tail, Open, Faulty, GoesOn, IsOpen, fault_of, finish_of}
use Rattle.std.proofs.Common.{append-nil}
use Rattle.frames.specs.declared.decoder.Frame.{Frame}
use Rattle.frames.specs.declared.fault.FrameFault.TheVariants as frame

pub appends_nothing : (o : Option (List ℕ)) → Appends o o []
appends_nothing None = tt
appends_nothing (Some xs) = sym (append-nil xs)

pub appends_then : (old mid new : Option (List ℕ)) (a b : List ℕ) → Appends old mid a → Appends mid new b → Appends old new (a ++ b)
appends_then None mid new a b g h = tt
appends_then (Some xs) None new a b g h = absurd g
appends_then (Some xs) (Some ys) None a b g h = absurd h
appends_then (Some xs) (Some ys) (Some zs) a b g h = h ∙ ap (λ l. l ++ b) g ∙ append_assoc xs a b

-- what holds anyway
pub on_err : {T E : Type 0} (r : Result T E) (A : Type 0) → A → OnErr r A
on_err (Ok x) A a = tt
on_err (Err e) A a = a

pub appends_kept : (old mid new : Option (List ℕ)) (xs : List ℕ) → Appends old mid xs → Keeps mid new → Appends old new xs
appends_kept None mid new xs w k = tt
appends_kept (Some bs) None new xs w k = absurd w
appends_kept (Some bs) (Some cs) None xs w k = absurd k
appends_kept (Some bs) (Some cs) (Some ds) xs w k = k ∙ w

-- the prefix of some bytes is a prefix of more
pub prefix_of_more : (old new : Option (List ℕ)) (xs ys : List ℕ) → AppendsPrefix old new xs → AppendsPrefix old new (xs ++ ys)
prefix_of_more old new xs ys f = (f.0, f.1 ++ ys, ap (λ l. l ++ ys) f.2 ∙ append_assoc f.0 f.1 ys, f.3)

-- and after bytes that were written whole
pub prefix_after : (old mid new : Option (List ℕ)) (xs ys : List ℕ) → Appends old mid xs → AppendsPrefix mid new ys → AppendsPrefix old new (xs ++ ys)
prefix_after old mid new xs ys w f = (xs ++ f.0, f.1, ap (λ l. xs ++ l) f.2 ∙ sym (append_assoc xs f.0 f.1), appends_then old mid new xs f.0 w f.3)

pub prefix_all : (old new : Option (List ℕ)) (xs : List ℕ) → Appends old new xs → AppendsPrefix old new xs
prefix_all old new xs w = (xs, [], sym (append-nil xs), w)

pub prefix_nothing : (o : Option (List ℕ)) (xs : List ℕ) → AppendsPrefix o o xs
prefix_nothing o xs = ([], xs, refl, appends_nothing o)

pub consumes_then : (a b c : Option (List ℕ)) (xs ys : List ℕ) → Consumes a b xs → Consumes b c ys → Consumes a c (xs ++ ys)
consumes_then None b c xs ys g h = tt
consumes_then (Some ls) None c xs ys g h = absurd g
consumes_then (Some ls) (Some bs) None xs ys g h = absurd h
consumes_then (Some ls) (Some bs) (Some cs) xs ys g h = g ∙ ap (λ l. xs ++ l) h ∙ sym (append_assoc xs ys cs)

pub consumes_nothing : (a : Option (List ℕ)) → Consumes a a []
consumes_nothing None = tt
consumes_nothing (Some ls) = refl

-- what is kept has nothing read of it
pub reads_nothing : (a b : Option (List ℕ)) → Keeps a b → Consumes a b []
reads_nothing None b k = tt
reads_nothing (Some bs) None k = absurd k
reads_nothing (Some bs) (Some cs) k = sym k

pub consumes_no_more : (a b c : Option (List ℕ)) (xs : List ℕ) → Consumes a b xs → Consumes b c [] → Consumes a c xs
consumes_no_more a b c xs g h = subst (Consumes a c) (append-nil xs) (consumes_then a b c xs [] g h)

pub finish_faulty : (t : Tail) (f : FrameFault) → Some f ≡ fault_of t → (finish_of t ≡ Err f) × (IsOpen t → ⊥)
finish_faulty (Open rest) f h = absurd (let e : ⊥ = cc in e)
finish_faulty (Faulty g) f h = let same : f ≡ g = cc in (ap (λ x. Err x) (sym same), λ o. o)

pub is_open : (t : Tail) → None ≡ fault_of t → IsOpen t
is_open (Open rest) h = tt
is_open (Faulty g) h = absurd (let e : ⊥ = cc in e)

pub contents_more : (done : List Frame) (d : Frame) → contents (done ++ d ∷ []) ≡ contents done ++ d.content.items ∷ []
contents_more done d = map-append (λ (f : Frame). f.content.items) done (d ∷ [])

-- the contents of the frames before one, its own, and those of the others
pub contents_all : (frames done rest : List Frame) (d : Frame) → done ++ d ∷ rest ≡ frames → (contents done ++ d.content.items ∷ []) ++ contents rest ≡ contents frames
contents_all frames done rest d e =
    append_assoc (contents done) (d.content.items ∷ []) (contents rest) ∙ sym (map-append (λ (f : Frame). f.content.items) done (d ∷ rest)) ∙ ap contents e

-- what a piece makes of the tail where it is refused for this fault
abbrev pub Refuses : FrameFault → Tail → List ℕ → Tail → Type 0
Refuses fault tail piece new = fault ≢ frame.Memory → GoesOn tail piece [] new × (new ≡ Faulty fault)
