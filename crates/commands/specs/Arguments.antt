-- The command line as `clap` is given it, for the proof of `words`.
use Rattle.std.specs.Prelude.{◌≡◌, true, List, codes, Option, Some, None}
use Rattle.clap.specs.Walk.{Row, Rule, Text, first_of}
use Rattle.clap.specs.Simple.{App, new_app, new_rule, on_top, with_rule, with_subcommand}
use Rattle.commands.specs.declared.asked.Words.{Words}
use Rattle.commands.specs.CommandLines.{command_of, paths_of}

-- the rule of a required argument, as `clap` is given it
abbrev pub required_rule : Text → Rule
required_rule name = record (new_rule name) { required = true }

-- the command of this name that takes a grammar's path
abbrev pub one : Text → App
one name = with_rule (new_app name) (required_rule (codes "GRAMMAR"))

-- `parse`, which takes a grammar's path and a text's path
abbrev pub two : App
two = with_rule (one (codes "parse")) (required_rule (codes "TEXT"))

-- without its commands
abbrev pub alone : App
alone = on_top (λ s. record s { subcommand_required = true }) (new_app (codes "lrls"))

-- the program as `clap` is given it, which wants one of its three commands
abbrev pub lrls : App
lrls =
    with_subcommand (with_subcommand (with_subcommand alone (one (codes "check")).top) two.top) (one (codes "serve")).top

-- `grammar_in rows`: the grammar's path in what `clap` found for a command
abbrev pub grammar_in : List Row → Option Text
grammar_in = first_of (codes "GRAMMAR")

-- `text_in rows`: the text's path in what `clap` found for a command
abbrev pub text_in : List Row → Option Text
text_in = first_of (codes "TEXT")

-- `AsksFor task name paths`: the task is there, and has this command and these paths
abbrev pub AsksFor : Option Words → Text → List Text → Type 0
AsksFor None name paths = ⊥
AsksFor (Some task) name paths = (command_of task ≡ name) × (paths_of task ≡ paths)
