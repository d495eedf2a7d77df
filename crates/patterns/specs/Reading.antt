-- What the steps of a reader decide of a prefix of a text.
use Rattle.std.specs.Prelude.{◌≡◌, ℕ, ◌<◌, ◌≤◌, ◌==◌, ◌||◌, Bool, true, false, List, [], ◌∷◌, ◌++◌, length, Some}
use Rattle.std.specs.List.{AllByRecursion}
use Rattle.definitions.specs.declared.expression.Interval.{Interval}
use Rattle.definitions.specs.declared.expression.Expression.{Expression}
use Rattle.definitions.specs.declared.expression.Expression.TheVariants.{Sequence', Choice', Star', Plus', Optional'}
use Rattle.definitions.specs.declared.expression.PatternCause.{PatternCause}
use Rattle.definitions.specs.declared.expression.PatternFault.{PatternFault}
use Rattle.definitions.specs.PatternText.{Written, Plain, Escaped, BadEscape}
use Rattle.definitions.specs.PatternFaults.{Before, Nothing, AnAtom, ARepetition, Outside, fault_from}
use Rattle.definitions.specs.Spelling.{Level, Rep, Atom, SpellsAt, Address, IsBlank, IsSign, IsClassChar, IsLiteralChar, IsLiteralRest}
use Rattle.definitions.specs.Spelling.{IsItem, IsClassRest}
use Rattle.patterns.specs.declared.characters.Character.{Character}
use Rattle.patterns.specs.declared.characters.Character.TheVariants.{Sign, Escape, Broken}
use Rattle.patterns.specs.declared.classes.Reader.{Reader}
use Rattle.patterns.specs.declared.refusals.Refusal.{Refusal}
use Rattle.patterns.specs.declared.refusals.Refusal.TheVariants.{Fault, Memory}
use Rattle.patterns.specs.Sound.{is_sound}

abbrev pub written_as : Character → Written
written_as (Sign o c) = Plain o c
written_as (Escape o c) = Escaped o c
written_as (Broken o) = BadEscape o

abbrev pub writing : List Character → List Written
writing [] = []
writing (w ∷ ws) = written_as w ∷ writing ws

abbrev pub fault_at : ℕ → PatternCause → Refusal
fault_at o cause = Fault (record { at = o; cause = cause })

-- a fact of the fault, where there is one
abbrev pub Reports : Refusal → (PatternFault → Type 0) → Type 0
Reports (Fault f) P = P f
Reports Memory P = Unit {0}

abbrev pub place : Written → ℕ
place (Plain o c) = o
place (Escaped o c) = o
place (BadEscape o) = o

abbrev pub place_of : ℕ → List Written → ℕ
place_of end [] = end
place_of end (w ∷ ws) = place w

abbrev pub Begins : ℕ → List Written → Type 0
Begins c [] = ⊥
Begins c (w ∷ ws) = IsSign c w

abbrev pub HasNoBlank : List Written → Type 0
HasNoBlank ws = (Begins 32 ws → ⊥) × (Begins 9 ws → ⊥)

abbrev pub IsBlankAt : List Written → List Written → Type 0
IsBlankAt ws vs = (w : Written) × (ws ≡ w ∷ vs) × IsBlank w

-- ws is blanks and then vs
abbrev pub IsBlanks : List Written → List Written → Type 0
IsBlanks ws vs = (us : List Written) × (ws ≡ us ++ vs) × AllByRecursion IsBlank us

abbrev pub is_stop : Written → Bool
is_stop (Plain o c) = c == 124 || c == 41
is_stop (Escaped o c) = false
is_stop (BadEscape o) = false

abbrev pub stops : List Written → Bool
stops [] = true
stops (w ∷ ws) = is_stop w

abbrev pub IsAtEnd : List Written → Type 0
IsAtEnd [] = Unit {0}
IsAtEnd (w ∷ ws) = IsSign 41 w

-- ws begins with a part of this level inside so many parentheses, and vs is left
abbrev pub IsPart : Level → ℕ → Expression → List Written → List Written → Type 0
IsPart l d e ws vs = (us : List Written) × (ws ≡ us ++ vs) × SpellsAt l d e us

-- `IsRead level depth after n words rest e`: at the start of `words`, inside so many parentheses, stands a part of this level that spells
-- the well made `e`, and `rest` is left; in a text of `n` characters, the first fault is that of `rest` with `after` before it
pub record IsRead (level : Level) (depth : ℕ) (after : Before) (n : ℕ) (words rest : List Character) (e : Expression) : Type 0 where
  pub spelled : IsPart level depth e (writing words) (writing rest)
  pub sound : is_sound e ≡ true
  pub shorter : length rest < length words
  pub goes_on : fault_from n (Outside depth Nothing) (writing words) ≡ fault_from n (Outside depth after) (writing rest)

-- `IsRepeated a e words rest`: a sign of repetition at the start of `words`, or none, makes the atom `a` before it `e`, and `rest` is left
pub record IsRepeated (a e : Expression) (words rest : List Character) : Type 0 where
  pub spelled : (d : ℕ) (prefix : List Written) → SpellsAt Atom d a prefix → IsPart Rep d e (prefix ++ writing words) (writing rest)
  pub sound : is_sound a ≡ true → is_sound e ≡ true
  pub no_longer : length rest ≤ length words
  pub goes_on : (d n : ℕ) → fault_from n (Outside d AnAtom) (writing words) ≡ fault_from n (Outside d ARepetition) (writing rest)

-- `ReportsFirst depth n words r`: if `r` is a fault, it is the first one from the start of `words` on, inside so many parentheses
abbrev pub ReportsFirst : ℕ → ℕ → List Character → Refusal → Type 0
ReportsFirst depth n words r = Reports r (λ f. fault_from n (Outside depth Nothing) (writing words) ≡ Some f)

-- `IsRead` of what this reader reads
abbrev pub Reads : Reader → Level → Before → List Character → List Character → Expression → Type 0
Reads reader level after words rest e = IsRead level reader.depth after reader.end words rest e

-- `ReportsFirst` of what this reader reads
abbrev pub Refuses : Reader → List Character → Refusal → Type 0
Refuses reader words r = ReportsFirst reader.depth reader.end words r

abbrev pub IsSequence : Expression → Expression → Expression → Type 0
IsSequence a b e = (p q : Address) × (e ≡ Sequence' p a q b)

abbrev pub IsChoice : Expression → Expression → Expression → Type 0
IsChoice a b e = (p q : Address) × (e ≡ Choice' p a q b)

abbrev pub IsStar : Expression → Expression → Type 0
IsStar a e = (p : Address) × (e ≡ Star' p a)

abbrev pub IsPlus : Expression → Expression → Type 0
IsPlus a e = (p : Address) × (e ≡ Plus' p a)

abbrev pub IsOptional : Expression → Expression → Type 0
IsOptional a e = (p : Address) × (e ≡ Optional' p a)

abbrev pub IsLiteralPrefix : List ℕ → List Written → List Written → Type 0
IsLiteralPrefix v ws vs = (us : List Written) × (ws ≡ us ++ vs) × IsLiteralRest v us

abbrev pub IsItemPrefix : Interval → List Written → List Written → Type 0
IsItemPrefix i ws vs = (us : List Written) × (ws ≡ us ++ vs) × IsItem i us

abbrev pub IsClassPrefix : List Interval → List Written → List Written → Type 0
IsClassPrefix is ws vs = (us : List Written) × (ws ≡ us ++ vs) × IsClassRest is us

-- `IsCaret negated ws vs`: `vs` is left of `ws` after the `^` of a negated class; where it isn't negated there is none
abbrev pub IsCaret : Bool → List Written → List Written → Type 0
IsCaret false ws vs = (ws ≡ vs) × (Begins 94 ws → ⊥)
IsCaret true ws vs = (o : ℕ) × (ws ≡ Plain o 94 ∷ vs)

-- `IsClassBody negated is ws vs`: after the opening bracket, `ws` begins with the rest of a class with the intervals `is`, and `vs` is left
abbrev pub IsClassBody : Bool → List Interval → List Written → List Written → Type 0
IsClassBody false is ws vs = IsClassPrefix is ws vs
IsClassBody true is ws vs = (w : Written) × (inside : List Written) × (ws ≡ w ∷ inside) × IsSign 94 w × IsClassPrefix is inside vs

-- ws begins with this character of a class, at this place, and vs is left
abbrev pub IsClassCharAt : ℕ → ℕ → List Written → List Written → Type 0
IsClassCharAt o c ws vs = (w : Written) × (ws ≡ w ∷ vs) × (place w ≡ o) × IsClassChar c w

-- ws begins with no character of a class
abbrev pub HasNoClassChar : List Written → Type 0
HasNoClassChar [] = Unit {0}
HasNoClassChar (w ∷ ws) = (c : ℕ) → IsClassChar c w → ⊥

-- `IsLiteralCharAt c ws vs`: `ws` begins with the character `c` of a literal, and `vs` is left
abbrev pub IsLiteralCharAt : ℕ → List Written → List Written → Type 0
IsLiteralCharAt c ws vs = (w : Written) × (ws ≡ w ∷ vs) × IsLiteralChar c w

abbrev pub HasNoLiteralChar : List Written → Type 0
HasNoLiteralChar [] = Unit {0}
HasNoLiteralChar (w ∷ ws) = (c : ℕ) → IsLiteralChar c w → ⊥
