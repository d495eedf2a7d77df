use Rattle.std.proofs.Common.{◌≡◌, ◌∷◌, map, take, codes, string_bytes}
use Rattle.commands.proofs.command_line.words.Given as goal

-- the program's name, and the words so far
abbrev pub invariant-loop-word : goal.invariant-loop-word
invariant-loop-word l = map (λ s. s.now) l.line.items ≡ codes "lrls" ∷ map string_bytes (take l.word-index l.given)
