use Rattle.views.proofs.Std.{◌≡◌, ◌∙◌, ◌<◌, Some, ap, arith, length, sym, string_bytes, IsUtf8-string_bytes}
use Rattle.views.proofs.Common.{position, encodes-chars, significant_kinds, length-kinds, FaultAt, FaultAtEnd, shown}
use Rattle.views.proofs.FaultDiagnostic.{diagnosis_at, diagnosis_at_end, fault_within}
use Rattle.views.proofs.diagnoses.diagnostic.Goals as goal

pub span_of-part-requires : goal.span_of-part-requires
span_of-part-requires c =
    let items = c.args.tokens.now.items in
    let is : c.args.parse.now.verdict ≡ FaultAt c.in-FaultAt.k = sym c.verdict.ensures ∙ c.in-FaultAt.is in
    let within : c.in-FaultAt.k < length (significant_kinds items) = fault_within c.args.tables.now
    (significant_kinds items) c.requires.parse.0 c.args.parse.now c.in-FaultAt.k c.requires.parse.1 is in
    omega (arith, within, length-kinds items)

pub returns-in_ok-message-in-FaultAt-clause-reported : goal.returns-in_ok-message-in-FaultAt-clause-reported
returns-in_ok-message-in-FaultAt-clause-reported c cells h =
    let f = c.args.grammar.now in
    let t = c.args.text.now in
    let items = c.args.tokens.now.items in
    let part = c.span_of-part.result in
    let marked = c.requires.tokens.marked in
    let is : c.args.parse.now.verdict ≡ FaultAt c.in-FaultAt.k = sym c.verdict.ensures ∙ c.in-FaultAt.is in
    let within = fault_within c.args.tables.now (significant_kinds items) cells c.args.parse.now c.in-FaultAt.k h is in
    diagnosis_at c.args.unit f t items marked c.expected-expected.result c.args.tables.now.grammar c.requires.tables cells c.args.parse.now.verdict
    (c.expected-expected.ensures (significant_kinds items) cells h)
    c.in-FaultAt.k part.start part.end part.kind (shown (record { range = record { start = c.position.result; end = c.position-in-FaultAt.result }; message = c.in_ok-message-in-FaultAt.message }))
    is within (c.span_of-part.ensures f.skips marked) c.position.ensures c.position-in-FaultAt.ensures c.in_ok-message-in-FaultAt.ensures

pub returns-in_ok-message-in-FaultAt-clause-bytes : goal.returns-in_ok-message-in-FaultAt-clause-bytes
returns-in_ok-message-in-FaultAt-clause-bytes c =
    let message = c.in_ok-message-in-FaultAt.message in
    let spelled = sym (encodes-chars (string_bytes message) (IsUtf8-string_bytes message)) in
    λ i. Some (record { range = record { start = c.position.result; end = c.position-in-FaultAt.result }; message = spelled i })

pub returns-in_ok-message-in-FaultAtEnd-clause-reported : goal.returns-in_ok-message-in-FaultAtEnd-clause-reported
returns-in_ok-message-in-FaultAtEnd-clause-reported c cells h =
    let f = c.args.grammar.now in
    let t = c.args.text.now in
    let items = c.args.tokens.now.items in
    let is : c.args.parse.now.verdict ≡ FaultAtEnd = sym c.verdict.ensures ∙ c.in-FaultAtEnd.is in
    let end : c.position-end.result ≡ position c.args.unit t (length t) = c.position-end.ensures ∙ ap (position c.args.unit t) c.len.ensures.count in
    diagnosis_at_end c.args.unit f t items c.requires.tokens.marked c.expected-expected.result c.args.tables.now.grammar c.requires.tables cells c.args.parse.now.verdict
    (c.expected-expected.ensures (significant_kinds items) cells h)
    (shown (record { range = record { start = c.position-end.result; end = c.position-end.result }; message = c.in_ok-message-in-FaultAtEnd.message }))
    is end end c.in_ok-message-in-FaultAtEnd.ensures

pub returns-in_ok-message-in-FaultAtEnd-clause-bytes : goal.returns-in_ok-message-in-FaultAtEnd-clause-bytes
returns-in_ok-message-in-FaultAtEnd-clause-bytes c =
    let message = c.in_ok-message-in-FaultAtEnd.message in
    let spelled = sym (encodes-chars (string_bytes message) (IsUtf8-string_bytes message)) in
    λ i. Some (record { range = record { start = c.position-end.result; end = c.position-end.result }; message = spelled i })
