-- What the texts of messages are made of.
use Rattle.std.specs.Prelude.{◌≡◌, ℕ, List, ◌++◌}

-- `BeginsWith start text`: the text is the start and then something more, or nothing
abbrev pub BeginsWith : List ℕ → List ℕ → Type 0
BeginsWith start text = (rest : List ℕ) × (text ≡ start ++ rest)
