-- What a loop over the characters t of a text has yielded, and what is left.
use Rattle.pieces.proofs.Std.{arith, sym, ap, ◌∙◌, ◌≡◌, ℕ, ◌+◌, ◌<◌, ◌≤◌, List, [], ◌∷◌, ◌++◌, length, take, drop, slice_index_or, Option, Some, None, Yields, YieldsList, YieldsList-so_far, YieldsList-turn, YieldsList-end, append_assoc, take_more, drop_more, take-append-drop, map-id}
use Rattle.pieces.proofs.Common.{Utf8, units}
use Rattle.pieces.proofs.Joins.{units-append}

-- the characters yielded are a prefix of the text, and c is the next one
pub record IsTurn (t yielded : List ℕ) (c : ℕ) : Type 0 where
  pub so_far : yielded ≡ take (length yielded) t
  pub within : length yielded < length t
  pub next : c ≡ slice_index_or t (length yielded) c

-- a turn of a `for` over the characters
pub turn-from : {S : Type 0} {steps : S → Option ℕ → S → Type 0} {s : S} {t : List ℕ} → YieldsList steps (λ x. x) s t → (yielded : List ℕ) (now : S)
    → Yields steps s yielded now → (r : Option ℕ) (next : S) (c : ℕ) → r ≡ Some c → steps now r next → IsTurn t yielded c
turn-from road yielded now so_far r next c is step =
    let here = YieldsList-turn road yielded now so_far r next c is step in
    record { so_far = sym (map-id yielded) ∙ YieldsList-so_far road yielded now so_far; within = here.0; next = here.1 }

-- at its end all characters were yielded
pub all-from : {S : Type 0} {steps : S → Option ℕ → S → Type 0} {s : S} {t : List ℕ} → YieldsList steps (λ x. x) s t → (yielded : List ℕ) (now : S)
    → Yields steps s yielded now → (r : Option ℕ) (next : S) → r ≡ None → steps now r next → yielded ≡ t
all-from road yielded now so_far r next is step = sym (map-id yielded) ∙ (YieldsList-end road yielded now so_far r next is step).0

pub turn-more : {t yielded : List ℕ} {c : ℕ} → IsTurn t yielded c → yielded ++ c ∷ [] ≡ take (length yielded + 1) t
turn-more {t} {yielded} {c} h =
    (λ i. h.so_far i ++ h.next i ∷ []) ∙ sym (take_more t (length yielded) c h.within)

pub turn-rest : {t yielded : List ℕ} {c : ℕ} → IsTurn t yielded c → c ∷ drop (length yielded + 1) t ≡ drop (length yielded) t
turn-rest {t} {yielded} {c} h = ap (λ d. d ∷ drop (length yielded + 1) t) h.next ∙ sym (drop_more t (length yielded) c h.within)

pub turn-whole : {t yielded : List ℕ} {c : ℕ} → IsTurn t yielded c → yielded ++ c ∷ drop (length yielded + 1) t ≡ t
turn-whole {t} {yielded} {c} h = (λ i. h.so_far i ++ turn-rest h i) ∙ take-append-drop (length yielded) t

-- a prefix of what is small enough is so too
pub few-take : (s t : List ℕ) (n m : ℕ) → units Utf8 (s ++ t) ≤ m → units Utf8 (s ++ take n t) ≤ m
few-take s t n m few =
    let whole : units Utf8 (s ++ t) ≡ units Utf8 s + units Utf8 t = units-append Utf8 s t in
    let part : units Utf8 t ≡ units Utf8 (take n t) + units Utf8 (drop n t) = ap (units Utf8) (sym (take-append-drop n t)) ∙ units-append Utf8 (take n t) (drop n t) in
    omega (arith, few, whole, part, units-append Utf8 s (take n t))

pub few-turn : {t yielded : List ℕ} {c : ℕ} (s : List ℕ) (m : ℕ) → IsTurn t yielded c → units Utf8 (s ++ t) ≤ m → units Utf8 ((s ++ yielded) ++ c ∷ []) ≤ m
few-turn {t} {yielded} {c} s m h few =
    omega (arith, few-take s t (length yielded + 1) m few, ap (units Utf8) (append_assoc s yielded (c ∷ []) ∙ ap (λ l. s ++ l) (turn-more h)))
