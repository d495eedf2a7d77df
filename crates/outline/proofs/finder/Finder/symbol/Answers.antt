use Rattle.std.proofs.Common.{◌≡◌, IfSome, subst, sym}
use Rattle.std.specs.Prelude.{Contains}
use Rattle.std.proofs.lemmas.List.Elements.{All-contains_itself}
use Rattle.outline.specs.Symbols.{IsPlaced}
use Rattle.outline.proofs.finder.Finder.symbol.Goals as goal

pub returns-in-Some-clause-symbol : goal.returns-in-Some-clause-symbol
returns-in-Some-clause-symbol c =
    let doc = c.args.self.doc.now in
    let rules = c.deref-rule-items.result.now in
    let rule = c.rule-item.result in
    let here = All-contains_itself rules c.loop-rule.rule-index rule c.loop-rule-test.true in
    record {
      placed = subst (λ o. IfSome o (IsPlaced doc.unit doc.text)) c.in-Some.is c.in_ok-symbol.ensures.placed;
      rule = rule;
      listed = subst (λ rs. Contains rs rule) c.deref-rule-items.ensures.value (subst (Contains rules) (sym c.rule-item.is) here);
      kind = subst (λ o. IfSome o (λ s. s.kind ≡ rule.kind)) c.in-Some.is c.in_ok-symbol.ensures.kind;
    }
