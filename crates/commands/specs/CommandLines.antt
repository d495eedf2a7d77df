-- What the words of a command line ask for, in bytes.
use Rattle.std.specs.Prelude.{◌≡◌, ◌==◌, ℕ, Bool, false, List, [], ◌∷◌, codes, string_bytes, if◌then◌else◌, Option, Some, None, option_map}
use Rattle.std.specs.Str.{bytes_eq}
use Rattle.commands.specs.declared.asked.Words.{Words}
use Rattle.commands.specs.declared.asked.Words.TheVariants.{Check, Parse, Serve}

-- `is_flag word`: the word begins with a hyphen, and isn't that alone
abbrev pub is_flag : List ℕ → Bool
is_flag [] = false
is_flag (c ∷ []) = false
is_flag (c ∷ d ∷ rest) = c == 45

-- `paths words`: the words in order without the first `--`, and none where a word before it is a flag
abbrev pub paths : List (List ℕ) → Option (List (List ℕ))
paths [] = Some []
paths (word ∷ rest) =
    if bytes_eq word (codes "--") then Some rest
    else (if is_flag word then None else option_map (λ others. word ∷ others) (paths rest))

-- `command_of task`: the name of a task's command
abbrev pub command_of : Words → List ℕ
command_of (Check grammar) = codes "check"
command_of (Parse grammar text) = codes "parse"
command_of (Serve grammar) = codes "serve"

-- `paths_of task`: the paths that a task names, in order
abbrev pub paths_of : Words → List (List ℕ)
paths_of (Check grammar) = string_bytes grammar ∷ []
paths_of (Parse grammar text) = string_bytes grammar ∷ string_bytes text ∷ []
paths_of (Serve grammar) = string_bytes grammar ∷ []

-- the words are the name of the task's command, and then its paths
abbrev pub Asks : List (List ℕ) → Words → Type 0
Asks words task = (rest : List (List ℕ)) × (words ≡ command_of task ∷ rest) × (paths rest ≡ Some (paths_of task))

-- `IsRead words read`: the words are read as a task that they ask for, or as none where they ask for none
abbrev pub IsRead : List (List ℕ) → Option Words → Type 0
IsRead words (Some task) = Asks words task
IsRead words None = (task : Words) → Asks words task → ⊥
