use Rattle.views.proofs.Std.{string_bytes, IsUtf8-string_bytes}
use Rattle.views.proofs.FaultDiagnostic.{message_written}
use Rattle.views.proofs.diagnoses.message_of.Goals as goal

pub returns : goal.returns
returns c = message_written c.args.grammar.now.names c.args.found c.args.looks (string_bytes c.new-reported.result) (string_bytes c.push_str.new.self) c.name_or_end.result.now
    (string_bytes c.push_str-2.new.self) (string_bytes c.push_str-3.new.self) (string_bytes c.write_looks.new.reported) c.new-reported.ensures.bytes
    c.in_ok-push_str.ensures.bytes c.in_ok-push_str-2.ensures.bytes c.in_ok-push_str-3.ensures.bytes c.in_ok-write_looks.ensures c.name_or_end.ensures
    (IsUtf8-string_bytes c.push_str.new.self) (IsUtf8-string_bytes c.push_str-2.new.self)
