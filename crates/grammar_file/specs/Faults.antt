-- The first fault of a grammar file that its lines and names show.
use Rattle.std.specs.Prelude.{◌≡◌, ℕ, ◌+◌, ◌*◌, ◌<◌, ◌≤◌, ◌⊎◌, ◌&&◌, ◌||◌, Bool, not, nat_lt, true, false, if◌then◌else◌, List, [], ◌∷◌}
use Rattle.std.specs.Prelude.{◌++◌, length, map, take, slice_get, Option, Some, None}
use Rattle.std.specs.List.{list_any}
use Rattle.std.specs.Str.{bytes_eq, chars}
use Rattle.std.specs.Str.Lines.{lines}
use Rattle.std.specs.Cmp.Lexicographic.{pointwise}
use Rattle.definitions.specs.declared.expression.Expression.{Expression}
use Rattle.definitions.specs.declared.expression.PatternFault.{PatternFault}
use Rattle.definitions.specs.PatternFaults.{IsFault as IsPatternFault}
use Rattle.definitions.specs.Spelling.{IsPattern}
use Rattle.grammar_file.specs.declared.fault.Limit.{Limit}
use Rattle.grammar_file.specs.declared.fault.Limit.TheVariants.{File, Tokens, Nonterminals, Productions, Symbols}
use Rattle.grammar_line.specs.Words.{Word, is_reserved, plain}
use Rattle.grammar_line.specs.Statements.{Line, Nothing, Production, Rule, Start, Fold, Bad, Statement, at, statements, is_headed}
use Rattle.grammar_file.specs.Contents.{RuleLine, rules, productions, starts, nonterminals, is_among}
use Rattle.grammar_file.specs.WrittenOut.{marked}

-- why a grammar file is faulty
pub data Cause : Type 0 where
  FirstLine BadLine NoStart SecondStart : Cause
  DefinedTwice Undefined Reserved NotANonterminal Unproductive SkipInProduction : (name : Word) → Cause
  BadPattern : PatternFault → Cause
  Passed : Limit → Cause

-- `or_else fault later`: the one fault or, where there is none, the other
abbrev pub or_else : Option Cause → Option Cause → Option Cause
or_else None later = later
or_else (Some c) later = Some c

-- `cause_if b cause`: the cause, where `b` says so
abbrev pub cause_if : Bool → Cause → Option Cause
cause_if b c = if b then Some c else None

-- `reserved ws`: the cause that a name is reserved, for the leftmost one that is
abbrev pub reserved : List Word → Option Cause
reserved [] = None
reserved (w ∷ ws) = if is_reserved w then Some (Reserved w) else reserved ws

-- `is_production left right line`: whether the line is a production with these sides
abbrev pub is_production : Word → List Word → Line → Bool
is_production left right (Production other others) = bytes_eq other left && pointwise bytes_eq others right
is_production left right _ = false

-- whether a statement is a production with these sides
abbrev pub has_production : List Statement → Word → List Word → Bool
has_production ss left right = list_any (λ s. is_production left right s.says) ss

-- whether a statement is a rule of this name
abbrev pub has_rule : List Statement → Word → Bool
has_rule ss w = list_any (λ r. bytes_eq r.name w) (rules ss)

-- `early_fault ss l`: the fault of the line `l` after the statements `ss` that is reported before its pattern is read: it is none of the
-- lines that there are, a name is reserved, or a name is defined twice
abbrev pub early_fault : List Statement → Line → Option Cause
early_fault ss Nothing = None
early_fault ss (Production left right) =
    or_else (reserved (left ∷ map plain right))
    (cause_if (has_rule ss left || has_production ss left right) (DefinedTwice left))
early_fault ss (Rule skip name pattern) =
    or_else (reserved (name ∷ []))
    (cause_if (has_rule ss name || is_among name (nonterminals ss)) (DefinedTwice name))
early_fault ss (Start name) = reserved (name ∷ [])
early_fault ss (Fold name) = reserved (name ∷ [])
early_fault ss Bad = Some BadLine

-- how many nonterminals there are, each marked word being one
abbrev pub nonterminal_count : List Statement → ℕ
nonterminal_count ss = length (nonterminals ss) + length (marked ss)

-- how many productions there are, each marked word having two
abbrev pub production_count : List Statement → ℕ
production_count ss = length (productions ss) + 2 * length (marked ss)

-- the first limit that these numbers pass: 256, 256 and 1,024
abbrev pub exceeded_limit : ℕ → ℕ → ℕ → Option Cause
exceeded_limit rules nonterminals productions =
    or_else (cause_if (nat_lt 256 rules) (Passed Tokens))
    (or_else (cause_if (nat_lt 256 nonterminals) (Passed Nonterminals))
    (cause_if (nat_lt 1024 productions) (Passed Productions)))

-- the first limit that statements pass: 256 rules, 256 nonterminals, or 1,024 productions
abbrev pub limit_fault : List Statement → Option Cause
limit_fault ss = exceeded_limit (length (rules ss)) (nonterminal_count ss) (production_count ss)

-- `line_limit ss line`: what is too much in a line: a right side of more than 16 symbols, or a second start
abbrev pub line_limit : List Statement → Line → Option Cause
line_limit ss (Production left right) = cause_if (nat_lt 16 (length right)) (Passed Symbols)
line_limit ss (Start name) = cause_if (nat_lt 0 (length (starts ss))) SecondStart
line_limit ss _ = None

-- the fault of the line `l` after the statements `ss` that is reported after its pattern is read: a right side of more than 16 symbols, a
-- second start, or `limit_fault` of the statements with it
abbrev pub late_fault : List Statement → Line → Option Cause
late_fault ss l = or_else (line_limit ss l) (limit_fault (ss ++ at 0 l ∷ []))

-- `HasPattern line`: the pattern of a rule's line is one
abbrev pub HasPattern : Line → Type 0
HasPattern (Rule skip name pattern) = (e : Expression) × IsPattern (chars pattern) e
HasPattern _ = Unit {0}

-- `HasPatternFault line f`: the pattern of a rule's line is none, with this fault
abbrev pub HasPatternFault : Line → PatternFault → Type 0
HasPatternFault (Rule skip name pattern) f = IsPatternFault (chars pattern) f
HasPatternFault _ f = ⊥

-- the line `l` has no fault after the statements `ss`
pub record IsFaultless (ss : List Statement) (l : Line) : Type 0 where
  pub early : early_fault ss l ≡ None
  pub pattern : HasPattern l
  pub late : late_fault ss l ≡ None

-- the first fault of the line `l` after the statements `ss` has this cause: an early one, then that of its pattern, then a late one
abbrev pub IsLineFault : List Statement → Line → Cause → Type 0
IsLineFault ss l c =
    (early_fault ss l ≡ Some c)
    ⊎ (early_fault ss l ≡ None) × ((f : PatternFault) × HasPatternFault l f × (c ≡ BadPattern f))
    ⊎ (early_fault ss l ≡ None) × HasPattern l × (late_fault ss l ≡ Some c)

-- no line has a fault after those before it
abbrev pub AreFaultless : List Statement → Type 0
AreFaultless ss = (k : ℕ) (s : Statement) → slice_get ss k ≡ Some s → IsFaultless (take k ss) s.says

-- the first faulty line has the number `n`, and its first fault this cause
abbrev pub IsFirstLineFault : List Statement → ℕ → Cause → Type 0
IsFirstLineFault ss n c =
    (before after : List Statement)
    × ((s : Statement) × (ss ≡ before ++ (s ∷ after)) × (n ≡ s.number) × AreFaultless before × IsLineFault before s.says c)

-- `is_skip_rule w rule`: whether the rule is a skip rule of this name
abbrev pub is_skip_rule : Word → RuleLine → Bool
is_skip_rule w r = r.skip && bytes_eq r.name w

-- what is wrong with a name on a right side: it is a skip rule's, or it isn't defined
abbrev pub symbol_fault : List Statement → Word → Option Cause
symbol_fault ss w =
    if is_among w (nonterminals ss) then None
    else if list_any (is_skip_rule w) (rules ss) then Some (SkipInProduction w)
    else if has_rule ss w then None
    else Some (Undefined w)

-- `right_fault ss ws`: the first `symbol_fault` of the names of a right side, from the left
abbrev pub right_fault : List Statement → List Word → Option Cause
right_fault ss [] = None
right_fault ss (w ∷ ws) = or_else (symbol_fault ss w) (right_fault ss ws)

-- `reference_fault ss l`: what is wrong with the names that a line uses: on a right side the leftmost `symbol_fault`, marks left aside; of
-- a start or a fold that the name is no nonterminal
abbrev pub reference_fault : List Statement → Line → Option Cause
reference_fault ss (Production left right) = right_fault ss (map plain right)
reference_fault ss (Start name) = cause_if (not (is_among name (nonterminals ss))) (NotANonterminal name)
reference_fault ss (Fold name) = cause_if (not (is_among name (nonterminals ss))) (NotANonterminal name)
reference_fault ss _ = None

-- none of the lines `some` has a `reference_fault`
abbrev pub HaveReferents : List Statement → List Statement → Type 0
HaveReferents ss some = (k : ℕ) (s : Statement) → slice_get some k ≡ Some s → reference_fault ss s.says ≡ None

-- the first line with a `reference_fault` has the number `n`, and its fault this cause
abbrev pub IsFirstReferenceFault : List Statement → ℕ → Cause → Type 0
IsFirstReferenceFault ss n c =
    (before after : List Statement)
    × ((s : Statement) × (ss ≡ before ++ (s ∷ after)) × (n ≡ s.number) × HaveReferents ss before
    × (reference_fault ss s.says ≡ Some c))

-- the file has at most 65,536 bytes, a first line that gives a version, no faulty line, and a start
pub record IsWhole (text : List ℕ) : Type 0 where
  pub small : length text ≤ 65536
  pub headed : is_headed (lines text) ≡ true
  pub faultless : AreFaultless (statements text)
  pub started : nat_lt 0 (length (starts (statements text))) ≡ true

-- `IsFileFault text n cause`: the first fault of a file that its lines and names show, at line `n`, or 0 where it is of the whole file: its
-- size; the first line; the first faulty line; no start; the first line that uses a name wrongly
pub data IsFileFault (text : List ℕ) : ℕ → Cause → Type 0 where
  too_large : 65536 < length text → IsFileFault text 0 (Passed File)
  first_line : length text ≤ 65536 → is_headed (lines text) ≡ false → IsFileFault text 1 FirstLine
  line : (n : ℕ) (c : Cause) → length text ≤ 65536 → is_headed (lines text) ≡ true → IsFirstLineFault (statements text) n c
      → IsFileFault text n c
  no_start : length text ≤ 65536 → is_headed (lines text) ≡ true → AreFaultless (statements text)
      → nat_lt 0 (length (starts (statements text))) ≡ false → IsFileFault text 0 NoStart
  reference : (n : ℕ) (c : Cause) → IsWhole text → IsFirstReferenceFault (statements text) n c → IsFileFault text n c
