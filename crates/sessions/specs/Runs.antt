-- Runs of the server over the contents of frames.
use Rattle.std.specs.Prelude.{◌≡◌, ℕ, List, [], ◌∷◌, ◌++◌, flat_map, Option, Some, MatchOption}
use Rattle.rpc.specs.Written.{compact_text}
use Rattle.frames.specs.Write.{frame}
use Rattle.rpc.specs.Reading.{received_in}
use Rattle.rpc.specs.Replies.{Answer, reply_data}
use Rattle.sessions.specs.Steps.{State, Step, Ignores}

-- `Run old contents answers stop new`: steps on contents in turn, up to the first that stops the server
abbrev pub Run : State → List (List ℕ) → List Answer → Option ℕ → State → Type 0
Run old [] answers stop new = Ignores old answers stop new
Run old (content ∷ contents) answers stop new =
    (first : List Answer) × (halt : Option ℕ) × (mid : State) × Step old (received_in content) first halt mid
    × MatchOption halt
    ((rest : List Answer) × (answers ≡ first ++ rest) × Run mid contents rest stop new)
    (λ status. (answers ≡ first) × (stop ≡ Some status) × (new ≡ mid))

-- the answers as compact JSON texts, each in a frame
abbrev pub bytes_of : List Answer → List ℕ
bytes_of answers = flat_map (λ a. frame (compact_text (reply_data a))) answers
