use Rattle.std.proofs.Common.{◌≡◌, ◌∷◌, [], sym, ap, subst, ◌∙◌, arith}
use Rattle.definitions.specs.declared.Symbol.TheVariants.{Rule as Terminal, Nonterminal}
use Rattle.productions.specs.Productions.{IsSound, with_production}
use Rattle.uses.proofs.ListGrammar.{lists, lists_sound, pushed, kept_by_ok}
use Rattle.uses.proofs.sets.use_productions.Goals as goal
use Rattle.uses.proofs.sets.use_productions.Goals.{In_ok-ok-2}

both_are : (c : In_ok-ok-2) → c.push-2.new.self ≡ lists
both_are c =
    let first = c.new.result.items in
    let longer = c.in_ok-longer.longer in
    let one = kept_by_ok c.push.result c.in_ok-ok.field-0 (λ _. c.push.new.self ≡ with_production c.new-productions.result
    (record { left = 0; right = first })) c.in_ok-ok.ensures.value c.push.ensures.added in
    let two = kept_by_ok c.push-2.result c.in_ok-ok-2.field-0
    (λ _. c.push-2.new.self ≡ with_production c.push.new.self (record { left = 0; right = longer.items })) c.in_ok-ok-2.ensures.value c.push-2.ensures.added in
    let copied = kept_by_ok c.from_slice.result longer (λ v. v.items ≡ Nonterminal 0 ∷ Terminal 0 ∷ []) c.in_ok-longer.ensures.value c.from_slice.ensures.items in
    pushed c.new-productions.result c.push.new.self c.push-2.new.self first longer.items c.new-productions.ensures c.new.ensures.items one copied two

pub of-requires : goal.of-requires
of-requires c = subst IsSound (sym (both_are c)) lists_sound

pub may_follow-begins-requires-clause-rule : goal.may_follow-begins-requires-clause-rule
may_follow-begins-requires-clause-rule c =
    let made = kept_by_ok c.of.result c.in_ok-grammar.grammar (λ g. g ≡ c.push-2.new.self) c.in_ok-grammar.ensures.value c.of.ensures in
    let one = kept_by_ok c.push.result c.in_ok-ok.field-0 (λ _. c.push.new.self ≡ with_production c.new-productions.result
    (record { left = 0; right = c.new.result.items })) c.in_ok-ok.ensures.value c.push.ensures.added in
    let two = kept_by_ok c.push-2.result c.in_ok-ok-2.field-0 (λ _. c.push-2.new.self ≡ with_production c.push.new.self (record { left = 0; right = c.in_ok-longer.longer.items }))
    c.in_ok-ok-2.ensures.value c.push-2.ensures.added in
    let rules : c.in_ok-grammar.grammar.grammar.rules ≡ 1 = ap (λ g. g.grammar.rules) (made ∙ two) ∙ ap (λ g. g.grammar.rules) one ∙ ap (λ g. g.grammar.rules) c.new-productions.ensures in
    omega (arith, rules)
