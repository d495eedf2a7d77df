use Rattle.grammar_file.proofs.Std.{rules, Some, None}
use Rattle.grammar_file.proofs.Common.{statements_in, too_large, first_line, texts}
use Rattle.grammar_file.proofs.Files.{version_is, headed, statements_are, line_fault, no_start_fault, is_whole}
use Rattle.grammar_file.proofs.file.read_lines.Goals as goal

pub returns-then-text-gt-LARGEST_FILE-clause-fault : goal.returns-then-text-gt-LARGEST_FILE-clause-fault
returns-then-text-gt-LARGEST_FILE-clause-fault c = too_large c.if-text-gt-LARGEST_FILE.true

pub returns-in_default-clause-fault : goal.returns-in_default-clause-fault
returns-in_default-clause-fault c =
    let v = version_is c.deref.result.now c.in_ok-lines.lines.items c.args.text.now c.version_of.result None c.version_of.ensures c.deref.ensures.value c.in_ok-lines.ensures c.in_default.is in
    first_line c.if-text-gt-LARGEST_FILE.false (headed c.args.text.now None v)

pub returns-in_err-add_lines-clause-fault : goal.returns-in_err-add_lines-clause-fault
returns-in_err-add_lines-clause-fault c =
    let v = version_is c.deref.result.now c.in_ok-lines.lines.items c.args.text.now c.version_of.result
    (Some c.in-Some.version) c.version_of.ensures c.deref.ensures.value c.in_ok-lines.ensures c.in-Some.is in
    let h = line_fault c.args.text.now (statements_in c.in-Some.version (texts c.after_first.result.now)) c.in_err-add_lines.field-0.0 c.if-text-gt-LARGEST_FILE.false
    (headed c.args.text.now (Some c.in-Some.version) v)
    (statements_are c.deref-2.result.now c.in_ok-lines.lines.items c.after_first.result.now c.args.text.now c.in-Some.version c.after_first.ensures c.deref-2.ensures.value c.in_ok-lines.ensures v)
    c.in_err-add_lines.ensures.fault in
    search rules

pub returns-then-not-file-clause-fault : goal.returns-then-not-file-clause-fault
returns-then-not-file-clause-fault c =
    let v = version_is c.deref.result.now c.in_ok-lines.lines.items c.args.text.now c.version_of.result
    (Some c.in-Some.version) c.version_of.ensures c.deref.ensures.value c.in_ok-lines.ensures c.in-Some.is in
    no_start_fault c.args.text.now (statements_in c.in-Some.version (texts c.after_first.result.now)) c.add_lines.new.self c.if-text-gt-LARGEST_FILE.false
    (headed c.args.text.now (Some c.in-Some.version) v)
    (statements_are c.deref-2.result.now c.in_ok-lines.lines.items c.after_first.result.now c.args.text.now c.in-Some.version c.after_first.ensures c.deref-2.ensures.value c.in_ok-lines.ensures v)
    c.in_ok-add_lines.ensures.read c.if-not-file.true

pub returns-clause-whole : goal.returns-clause-whole
returns-clause-whole c =
    let v = version_is c.deref.result.now c.in_ok-lines.lines.items c.args.text.now c.version_of.result
    (Some c.in-Some.version) c.version_of.ensures c.deref.ensures.value c.in_ok-lines.ensures c.in-Some.is in
    is_whole c.args.text.now (statements_in c.in-Some.version (texts c.after_first.result.now)) c.add_lines.new.self c.if-text-gt-LARGEST_FILE.false
    (headed c.args.text.now (Some c.in-Some.version) v)
    (statements_are c.deref-2.result.now c.in_ok-lines.lines.items c.after_first.result.now c.args.text.now c.in-Some.version c.after_first.ensures c.deref-2.ensures.value c.in_ok-lines.ensures v)
    c.in_ok-add_lines.ensures.read c.if-not-file.false
