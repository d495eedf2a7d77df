use Rattle.commands.proofs.Std.{◌≡◌, ◌∙◌, [], ◌∷◌, ap, List, map, codes, string_bytes, String, All, IsUtf8, take_all, All-cons, All-nil, IfOk-weaker, IsUtf8-string_bytes}
use Rattle.commands.proofs.command_line.words.Goals as goal

texts : {Z : Type 0} (strings : List (String Z)) → All IsUtf8 (map string_bytes strings)
texts [] = All-nil IsUtf8
texts (s ∷ rest) = All-cons IsUtf8 (string_bytes s) (map string_bytes rest) (IsUtf8-string_bytes s) (texts rest)

pub returns : goal.returns
returns c =
    let all = take_all c.loop-word.word-index c.args.given.now c.loop-word-test.false in
    let line : map (λ s. s.now) c.deref.result.now ≡ codes "lrls" ∷ map string_bytes c.args.given.now =
    ap (map (λ s. s.now)) c.deref.ensures.value ∙ (c.loop-word.invariant ∙ ap (λ l. codes "lrls" ∷ map string_bytes l) all) in
    IfOk-weaker c.asked_by.result _ _ (λ task read. read (map string_bytes c.args.given.now) line (texts c.args.given.now)) c.asked_by.ensures
