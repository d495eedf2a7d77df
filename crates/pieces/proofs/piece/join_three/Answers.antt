use Rattle.pieces.proofs.Std.{ap, ◌∙◌, ◌≡◌, ◌++◌, string_bytes, chars, IsUtf8-append, chars-append}
use Rattle.pieces.proofs.piece.join_three.Goals as goal

pub returns : goal.returns
returns c =
    let prefix = c.args.prefix.now in
    let middle = c.args.middle.now in
    let back = c.args.back.now in
    let bytes : string_bytes c.push_str-2.new.self ≡ prefix ++ middle ++ back =
    c.in_ok-push_str-2.ensures.bytes ∙ ap (λ t. t ++ back) (c.in_ok-push_str.ensures.bytes ∙ ap (λ t. t ++ middle) c.in_ok-text.ensures.ok) in
    ap chars bytes ∙ chars-append (prefix ++ middle) back (IsUtf8-append prefix middle c.utf8.prefix c.utf8.middle) ∙ ap (λ t. t ++ chars back) (chars-append prefix middle c.utf8.prefix)
