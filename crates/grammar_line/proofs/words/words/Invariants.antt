use Rattle.grammar_line.proofs.Std.{◌≡◌, take, filter, ◌==◌, flat_map, slice_split}
use Rattle.grammar_line.proofs.Common.{is_filled, texts}
use Rattle.grammar_line.proofs.words.words.Given as goal

abbrev pub invariant-loop-part : goal.invariant-loop-part
invariant-loop-part l = texts l.found.items ≡ filter is_filled (flat_map (λ part. slice_split (λ b. b == 9) part) (texts (take l.part-index l.part-items)))
