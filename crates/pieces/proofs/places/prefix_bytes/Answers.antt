use Rattle.pieces.proofs.Std.{◌+◌, List, ℕ, take, drop, sym, ap, ◌∙◌, ◌≡◌, length, arith, encode_utf8_all, take-append-drop, encodes-chars}
use Rattle.pieces.proofs.Common.{units, Utf8}
use Rattle.pieces.proofs.CutAt.{one_byte, stepped}
use Rattle.pieces.proofs.Joins.{units-append, units-bytes, units-chars}
use Rattle.pieces.proofs.places.prefix_bytes.Goals as goal

pub returns-then-characters_in-text : goal.returns-then-characters_in-text
returns-then-characters_in-text c =
    let bytes : units Utf8 c.args.piece.now ≡ length c.text-text.result.now = ap (units Utf8) (sym c.text-text.ensures.characters) ∙ units-chars c.text-text.result.now c.text-text.utf8 in
    let characters : c.characters_in.result ≡ length c.args.piece.now = c.characters_in.ensures c.args.piece.now c.sum.ensures in
    one_byte c.args.piece.now c.args.count c.requires (omega (arith, bytes, characters, c.if-characters_in-text.true))

pub loop-init : goal.loop-init
loop-init c = c.chars-rest.ensures.rest ∙ sym (encodes-chars c.text-text.result.now c.text-text.utf8) ∙ ap encode_utf8_all c.text-text.ensures.characters

pub loop-preserved : goal.loop-preserved
loop-preserved c =
    stepped _ c.args.piece.now c.loop.rest.rest.now c.next.new.self.rest.now c.loop.counter c.next.result (omega (arith, c.requires)) c.loop.invariant c.next.ensures.steps.0

left : (t : List ℕ) (n : ℕ) → length (encode_utf8_all (drop n t)) + units Utf8 (take n t) ≡ units Utf8 t
left t n = omega (arith, units-bytes (drop n t), units-append Utf8 (take n t) (drop n t), ap (units Utf8) (take-append-drop n t))

pub overflow_sub-result : goal.overflow_sub-result
overflow_sub-result c =
    let done : c.loop.counter ≡ c.args.count = omega arith in
    let rest : length c.as_str.result.now ≡ length (encode_utf8_all (drop c.args.count c.args.piece.now)) = ap length (c.as_str.ensures ∙ c.loop.invariant)
    ∙ ap (λ n. length (encode_utf8_all (drop n c.args.piece.now))) done in
    omega (arith, rest, left c.args.piece.now c.args.count, ap (units Utf8) c.text-text.ensures.characters, units-chars c.text-text.result.now c.text-text.utf8)

pub returns : goal.returns
returns c =
    let done : c.loop.counter ≡ c.args.count = omega arith in
    let rest : length c.as_str.result.now ≡ length (encode_utf8_all (drop c.args.count c.args.piece.now)) = ap length (c.as_str.ensures ∙ c.loop.invariant)
    ∙ ap (λ n. length (encode_utf8_all (drop n c.args.piece.now))) done in
    omega (arith, rest, left c.args.piece.now c.args.count, ap (units Utf8) c.text-text.ensures.characters, units-chars c.text-text.result.now c.text-text.utf8)
