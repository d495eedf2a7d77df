use Rattle.text.proofs.Std.{ap, sym, ◌∙◌, ◌≡◌, ◌++◌, List, ℕ, string_bytes, encode_utf8_all, append_assoc, encodes-append, encodes-chars}
use Rattle.text.proofs.Common.{text_in}
use Rattle.text.proofs.document.Text.to_string.Goals as goal

pub loop-piece-preserved : goal.loop-piece-preserved
loop-piece-preserved c =
    let before : List ℕ = string_bytes c.loop-piece.string in
    let rest : List ℕ = encode_utf8_all (text_in c.next.new.self) in
    let piece : c.text.result.now ≡ encode_utf8_all c.in-Some.piece.now = sym (encodes-chars c.text.result.now c.text.utf8) ∙ ap encode_utf8_all c.text.ensures.characters in
    ap (λ t. t ++ rest) (c.in_ok-push_str.ensures.bytes ∙ ap (λ t. before ++ t) piece)
    ∙ append_assoc before (encode_utf8_all c.in-Some.piece.now) rest
    ∙ ap (λ t. before ++ t) (sym (encodes-append c.in-Some.piece.now (text_in c.next.new.self)) ∙ ap (λ ps. encode_utf8_all (text_in ps)) (sym c.in-Some.ensures.steps))
    ∙ c.loop-piece.invariant
