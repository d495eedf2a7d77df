use Rattle.docs.proofs.Std.{◌≡◌, IfOk, length, ap, subst, sym, ◌∙◌, encode_utf8_all, encodes-chars}
use Rattle.docs.proofs.Common.{lexicon_of, AreTokensOf}
use Rattle.docs.proofs.AsciiTexts.{its_bytes}
use Rattle.docs.proofs.language.Language.scan.Goals as goal

pub returns-then-utf8-len-clause-tokens : goal.returns-then-utf8-len-clause-tokens
returns-then-utf8-len-clause-tokens c =
    let utf8 = c.args.utf8.now in
    let text = c.args.text.now in
    let spelled : encode_utf8_all text ≡ utf8 = ap encode_utf8_all c.requires ∙ encodes-chars utf8 c.utf8.utf8 in
    let narrow : length (encode_utf8_all text) ≡ length text = ap length spelled ∙ c.if-utf8-len.true ∙ c.len.ensures.count in
    let same = c.as_bytes.ensures.value ∙ sym spelled ∙ its_bytes text narrow in
    let file = c.grammar-grammar.ensures.is ∙ ap (λ l. l.file) c.self.view_is in
    subst (λ f. IfOk c.scan.result (λ r. AreTokensOf (lexicon_of f) text r.items)) file
    (subst (λ t. IfOk c.scan.result (λ r. AreTokensOf (lexicon_of c.grammar-grammar.result.now) t r.items)) same c.scan.ensures.tokens)
