use Rattle.docs.proofs.Std.{◌≡◌, ◌≤◌, ◌∙◌, length, ap, refl, subst, sym, arith, All-weaker, chars, true_from_ne_false}
use Rattle.docs.proofs.Common.{IsParseOf, fits, significant_kinds}
use Rattle.docs.proofs.Refusals.{large_text, passed_on, text_made, after_text, all_made}
use Rattle.docs.proofs.doc.Doc.open.Goals as goal

pub returns-in_err-made-clause-too_large : goal.returns-in_err-made-clause-too_large
returns-in_err-made-clause-too_large c =
    passed_on c.open.result _ (large_text c.open.result c.args.text.now c.utf8.text c.open.ensures.too_large) _ c.in_err-made.field-0.0 c.in_err-made.was c.from_residual.ensures.1

pub returns-in_err-tokens-clause-too_large : goal.returns-in_err-tokens-clause-too_large
returns-in_err-tokens-clause-too_large c =
    after_text c.open.result _ (large_text c.open.result c.args.text.now c.utf8.text c.open.ensures.too_large) _ c.in_ok-made.made c.in_ok-made.was c.from_residual-in_err-tokens.ensures.1

pub returns-in_err-store-clause-too_large : goal.returns-in_err-store-clause-too_large
returns-in_err-store-clause-too_large c =
    after_text c.open.result _ (large_text c.open.result c.args.text.now c.utf8.text c.open.ensures.too_large) _ c.in_ok-made.made c.in_ok-made.was c.from_residual-in_err-store.ensures.1

pub returns-in_err-parse-clause-too_large : goal.returns-in_err-parse-clause-too_large
returns-in_err-parse-clause-too_large c =
    after_text c.open.result _ (large_text c.open.result c.args.text.now c.utf8.text c.open.ensures.too_large) _ c.in_ok-made.made c.in_ok-made.was c.from_residual-in_err-parse.ensures.1

pub returns-clause-fits : goal.returns-clause-fits
returns-clause-fits c = true_from_ne_false (fits (chars c.args.text.now))
    (text_made c.open.result _ (large_text c.open.result c.args.text.now c.utf8.text c.open.ensures.too_large) c.in_ok-made.made c.in_ok-made.was)

pub returns-clause-too_large : goal.returns-clause-too_large
returns-clause-too_large c =
    all_made c.open.result _ (large_text c.open.result c.args.text.now c.utf8.text c.open.ensures.too_large) _ c.in_ok-made.made _ c.in_ok-made.was refl

pub returns-clause-current : goal.returns-clause-current
returns-clause-current c = record {
  tokens = c.in_ok-tokens.ensures.tokens;
  parse = subst (λ t. IsParseOf t (significant_kinds c.in_ok-tokens.tokens.items) c.whole.new.store c.in_ok-parse.parse) c.tables.ensures.is c.in_ok-parse.ensures.parse;
  grammar = c.tables-tables.ensures.grammar;
  born = All-weaker (λ x. x.born ≡ 0) (λ x. x.born ≤ c.in_ok-parse.parse.number) (λ x e. omega (arith, e)) c.in_ok-tokens.tokens.items c.in_ok-tokens.ensures.born;
  scanned = λ none. c.in_ok-tokens.ensures.scanned;
  built = λ none. c.in_ok-parse.ensures.built ∙ sym c.in_ok-parse.ensures.parse.branches;
  bounded = omega (arith, c.in_ok-parse.ensures.count, c.in_ok-parse.ensures.parse.branches, ap length c.in_ok-store.ensures);
}
