use denote.Shadow.{shadow}
use denote.Text.{Utf8}
use Rattle.std.proofs.Common.{string_bytes}
use Rattle.wording.specs.Texts.{BeginsWith}
use Rattle.wording.proofs.messages.push_joined.Given as goal

abbrev pub invariant-loop-word : goal.invariant-loop-word
invariant-loop-word l = record { begins : BeginsWith (string_bytes l.initial.text) (string_bytes l.text); is_text : shadow (Utf8 l.separator) }
