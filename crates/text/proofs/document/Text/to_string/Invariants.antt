use Rattle.text.proofs.Std.{◌≡◌, ◌++◌, string_bytes, encode_utf8_all}
use Rattle.text.proofs.Common.{text_in}
use Rattle.text.proofs.document.Text.to_string.Given as goal

abbrev pub invariant-loop-piece : goal.invariant-loop-piece
invariant-loop-piece l = string_bytes l.string ++ encode_utf8_all (text_in l.piece-iterator) ≡ encode_utf8_all l.self
