-- What of a server of the code a reply is made of, and what stays of it.
use Rattle.std.specs.Prelude.{ℕ, Option, Some, None, option_map, string_bytes}
use Rattle.server.specs.States.{state_view}
use Rattle.server.specs.declared.state.Server.{Server}
use Rattle.shown.specs.Shown.{shown_data}
use Rattle.shown.specs.declared.shown.Shown.{Shown}
use Rattle.own_replies.specs.States.{IdeState, Told, next}
use Rattle.own_replies.specs.declared.replying.Replying.{Replying}
use Rattle.own_replies.specs.declared.results.Results.{Results}
use Rattle.own_replies.specs.declared.results.Told.{Told as LastSent}

-- the colours that the code has sent last
abbrev pub told_view : LastSent → Told
told_view t = record { uri = string_bytes t.uri; name = string_bytes t.name; numbers = t.numbers.items }

-- how many results the code has sent
abbrev pub number_of : Results → ℕ
number_of r = r.number

-- the last of them
abbrev pub last_of : Results → Option Told
last_of r = option_map told_view r.last

-- `state_with core shown results`: the state of a server of the code that has these
abbrev pub state_with : Server → Shown → Results → IdeState
state_with core shown results =
    record { core = state_view core; shown = shown_data shown; number = number_of results; told = last_of results }

-- `after old told`: the state where these colours are sent of a whole document, if any are
abbrev pub after : IdeState → Option LastSent → IdeState
after old None = old
after old (Some told) = record { core = old.core; shown = old.shown; number = next old.number; told = Some (told_view told) }

-- the state that a reply is made of
abbrev pub replying_state : Replying → IdeState
replying_state r = state_with r.known.now.core r.known.now.shown r.results.now
