-- What clap answers, in the words of the command line.
use Rattle.commands.proofs.Std.{◌≡◌, ◌∙◌, ◌⊎◌, true, List, [], ◌∷◌, Option, Some, None, sym, ap, subst, refl, codes, All, IsUtf8, App, HasMatchesOf, fault_of, is_simple, is_simple_and_free, subcommand_of, subcommand_rows_of, ArgMatches}
use Rattle.commands.proofs.Common.{AsksFor, grammar_in, lrls, text_in, Asks, IsRead, paths, Words}
use Rattle.clap.specs.Words.{Row, Text}
use Rattle.commands.proofs.Lines.{Outcome, one_path, outcome, refused, two_paths}

simple : is_simple lrls ≡ true
simple = refl

pub simple_and_free : is_simple_and_free lrls ≡ true
simple_and_free = refl

asked : (task : Option Words) (words : List Text) (name : Text) (ps rest : List Text) → AsksFor task name ps → words ≡ name ∷ rest → paths rest ≡ Some ps → IsRead words task
asked None words name ps rest is begins names = absurd is
asked (Some task) words name ps rest is begins names = (rest, begins ∙ ap (λ n. n ∷ rest) (sym is.0), names ∙ ap Some (sym is.1))

-- the matches of a command with one path, and of one with two, as `clap` returns them
abbrev ShowsOne : ArgMatches → Option Words → Type 0
ShowsOne m task = (name g : Text) (rows : List Row) → (name ≡ codes "check") ⊎ (name ≡ codes "serve") → subcommand_rows_of m ≡ Some (name, rows) → grammar_in rows ≡ Some g
    → AsksFor task name (g ∷ [])

abbrev ShowsTwo : ArgMatches → Option Words → Type 0
ShowsTwo m task = (g x : Text) (rows : List Row) → subcommand_rows_of m ≡ Some (codes "parse", rows) → grammar_in rows ≡ Some g → text_in rows ≡ Some x
    → AsksFor task (codes "parse") (g ∷ x ∷ [])

by_outcome : (words : List Text) (m : ArgMatches) (task : Option Words) → Outcome words → subcommand_rows_of m ≡ subcommand_of lrls (codes "lrls" ∷ words)
    → fault_of lrls (codes "lrls" ∷ words) ≡ [] → ShowsOne m task → ShowsTwo m task → IsRead words task
by_outcome words m task (one_path name g rest rows which begins names found grammar none) same fault one two =
    asked task words name (g ∷ []) rest (one name g rows which (same ∙ found) grammar) begins names
by_outcome words m task (two_paths g x rest rows begins names found grammar text none) same fault one two =
    asked task words (codes "parse") (g ∷ x ∷ []) rest (two g x rows (same ∙ found) grammar text) begins names
by_outcome words m task (refused bad asks) same fault one two = absurd (bad fault)

-- of words that clap takes
pub read_of_taken : (app : App) (line words : List Text) (m : ArgMatches) (task : Option Words) → app ≡ lrls → line ≡ codes "lrls" ∷ words → All IsUtf8 words
    → HasMatchesOf app line m → fault_of app line ≡ [] → ShowsOne m task → ShowsTwo m task → IsRead words task
read_of_taken app line words m task is begins utf8 has fault one two =
    let matches : HasMatchesOf lrls (codes "lrls" ∷ words) m = subst (λ (a : App). HasMatchesOf a (codes "lrls" ∷ words) m) is (subst (λ (l : List Text). HasMatchesOf app l m) begins has) in
    let none : fault_of lrls (codes "lrls" ∷ words) ≡ [] = subst (λ (a : App). fault_of a (codes "lrls" ∷ words) ≡ []) is (subst (λ (l : List Text). fault_of app l ≡ []) begins fault) in
    by_outcome words m task (outcome words utf8) (matches simple).1 none one two

no_task : (words : List Text) → Outcome words → (fault_of lrls (codes "lrls" ∷ words) ≡ [] → ⊥) → (task : Words) → Asks words task → ⊥
no_task words (one_path name g rest rows which begins names found grammar none) bad task asks = bad none
no_task words (two_paths g x rest rows begins names found grammar text none) bad task asks = bad none
no_task words (refused same none) bad task asks = none task asks

-- of words that clap refuses
pub none_of_refused : (app : App) (line words : List Text) → app ≡ lrls → line ≡ codes "lrls" ∷ words → All IsUtf8 words → (fault_of app line ≡ [] → ⊥) → (task : Words) → Asks words task → ⊥
none_of_refused app line words is begins utf8 bad = no_task words (outcome words utf8)
    (subst (λ (a : App). fault_of a (codes "lrls" ∷ words) ≡ [] → ⊥) is (subst (λ (l : List Text). fault_of app l ≡ [] → ⊥) begins bad))
