use Rattle.grammar_file.proofs.Std.{◌∙◌, ◌++◌, ◌∷◌, [], sym, subst, bytes_eq, insert_entry-new}
use Rattle.grammar_file.proofs.Common.{AreNumbers}
use Rattle.grammar_file.proofs.NameLookUps.{numbers-new, numbers-again, none_from}
use Rattle.grammar_file.proofs.rules.add_number.Goals as goal

pub returns-in_ok-insert-clause-added : goal.returns-in_ok-insert-clause-added
returns-in_ok-insert-clause-added c names long are =
    subst (AreNumbers (names ++ c.args.name.now ∷ []))
    (sym (c.in_ok-insert.ensures.entries ∙ insert_entry-new (λ a b. bytes_eq a.now b.now) c.args.numbers.now c.args.name c.args.number
    (none_from _ (sym c.contains_key.ensures ∙ c.if-not-contains_key.true))))
    (numbers-new names c.args.numbers.now.entries c.args.name c.args.number long are)

pub returns-else-not-contains_key-clause-added : goal.returns-else-not-contains_key-clause-added
returns-else-not-contains_key-clause-added c names long are = numbers-again names c.args.numbers.now.entries c.args.name (sym c.contains_key.ensures ∙ c.if-not-contains_key.false) are
