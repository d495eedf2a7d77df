-- What the lines of a grammar file say.
use Rattle.std.specs.Prelude.{ℕ, ◌&&◌, ◌==◌, Bool, true, false, if◌then◌else◌, List, [], ◌∷◌, drop, slice_index, Option, Some, None}
use Rattle.std.specs.Prelude.{is_some, unwrap_or, codes}
use Rattle.std.specs.List.{list_all, filter_map, enumerate_from}
use Rattle.std.specs.Str.{bytes_eq}
use Rattle.std.specs.Str.Lines.{lines}
use Rattle.grammar_line.specs.declared.line.Version.{Version}
use Rattle.grammar_line.specs.declared.line.Version.TheVariants.{One, Two}
use Rattle.grammar_line.specs.Words.{Word, words, is_name, plain, after_equals}

-- what a line says: nothing, a production, a rule, a start, a fold, or none of these
pub data Line : Type 0 where
  -- nothing: it is blank, or a comment
  Nothing : Line
  -- `LEFT = RIGHT ..`
  Production : (left : Word) (right : List Word) → Line
  -- `token NAME = PATTERN` or `skip NAME = PATTERN`
  Rule : (skip : Bool) (name pattern : Word) → Line
  -- `start NAME`, `fold NAME`
  Start Fold : (name : Word) → Line
  -- it is none of these
  Bad : Line

-- whether a line that begins with this word is a comment: the word begins with `#`
abbrev pub is_comment : Word → Bool
is_comment w = slice_index w 0 == 35

-- `is_right_word version w`: whether a word may stand on a right side: a name, in version 2 also with a mark
abbrev pub is_right_word : Version → Word → Bool
is_right_word One w = is_name w
is_right_word Two w = is_name (plain w)

-- `production version left right`: what `LEFT = RIGHT ..` says: a production, where the words may stand there
abbrev pub production : Version → Word → List Word → Line
production v left right = if is_name left && list_all (is_right_word v) right then Production left right else Bad

-- what `KEYWORD NAME = PATTERN` says: a rule, where the keyword is `token` or `skip` and the name is one
abbrev pub rule : Word → Word → Word → Line
rule keyword name pattern =
    if is_name name && bytes_eq keyword (codes "token") then Rule false name pattern
    else if is_name name && bytes_eq keyword (codes "skip") then Rule true name pattern
    else Bad

-- what `KEYWORD NAME` says: a start or a fold, where the keyword is `start` or `fold` and the name is one
abbrev pub keyword_line : Word → Word → Line
keyword_line keyword name =
    if is_name name && bytes_eq keyword (codes "start") then Start name
    else if is_name name && bytes_eq keyword (codes "fold") then Fold name
    else Bad

-- `statement a b ws pattern`: what a line of the words `a`, `b` and `ws` says that is neither a comment nor a production
abbrev pub statement : Word → Word → List Word → Word → Line
statement a b [] pattern = keyword_line a b
statement a b (c ∷ ws) pattern = if bytes_eq c (codes "=") then rule a b pattern else Bad

-- `longer_line version a b ws pattern`: what a line of the words `a`, `b` and `ws` says that is no comment
abbrev pub longer_line : Version → Word → Word → List Word → Word → Line
longer_line v a b ws pattern = if bytes_eq b (codes "=") then production v a ws else statement a b ws pattern

-- `line_of_words version ws pattern`: what a line of these words says, with this text after its first `=`
abbrev pub line_of_words : Version → List Word → Word → Line
line_of_words v [] pattern = Nothing
line_of_words v (a ∷ []) pattern = if is_comment a then Nothing else Bad
line_of_words v (a ∷ b ∷ ws) pattern = if is_comment a then Nothing else longer_line v a b ws pattern

-- `line_of version line`: what a line says in a file of this version
abbrev pub line_of : Version → List ℕ → Line
line_of v text = line_of_words v (words text) (after_equals text)

-- a line that says something, with its number, the first line's being 1
pub record Statement : Type 0 where
  pub number : ℕ
  pub says : Line

-- `at n line`: what a line says, with the number `n`
abbrev pub at : ℕ → Line → Statement
at n l = record { number = n; says = l }

-- `numbered n line`: what a line says, with its number; none where it says nothing
abbrev pub numbered : ℕ → Line → Option Statement
numbered n Nothing = None
numbered n l = Some (at n l)

-- `statements_in version lines`: what these lines say, of which the first is line 2 of the file
abbrev pub statements_in : Version → List (List ℕ) → List Statement
statements_in v texts = filter_map (λ t. numbered t.0 (line_of v t.1)) (enumerate_from 2 texts)

-- the version that a first line gives, if it is `lrgrammar 1` or `lrgrammar 2`
abbrev pub first_line_version : List ℕ → Option Version
first_line_version line =
    if bytes_eq line (codes "lrgrammar 1") then Some One
    else if bytes_eq line (codes "lrgrammar 2") then Some Two
    else None

-- `version_of lines`: the version that the first line gives: `lrgrammar 1` or `lrgrammar 2`
abbrev pub version_of : List (List ℕ) → Option Version
version_of [] = None
version_of (l ∷ ls) = first_line_version l

-- `is_headed lines`: whether the first line gives a version
abbrev pub is_headed : List (List ℕ) → Bool
is_headed ls = is_some (version_of ls)

-- the statements of a file: what its lines after the first one say
abbrev pub statements : List ℕ → List Statement
statements text = statements_in (unwrap_or (version_of (lines text)) One) (drop 1 (lines text))
