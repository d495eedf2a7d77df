use Rattle.grammar.proofs.Std.{◌≡◌, refl, ◌∙◌, sym, ap, ℕ, List, [], ◌∷◌}
use Rattle.grammar.proofs.Common.{kind_name, Invalid}
use Rattle.std.proofs.Common.{rules}
use Rattle.std.specs.Str.{chars}
use Rattle.grammar.proofs.grammar.Grammar.kind_name.Goals as goal

invalid : (names : List (List ℕ)) → chars (105 ∷ 110 ∷ 118 ∷ 97 ∷ 108 ∷ 105 ∷ 100 ∷ []) ≡ kind_name names Invalid
unfolding chars
invalid names = refl

pub returns-in-Invalid : goal.returns-in-Invalid
returns-in-Invalid c = invalid c.args.self.now.names ∙ ap (kind_name c.args.self.now.names) (sym c.in-Invalid.is)

pub returns-in-Rule : goal.returns-in-Rule
returns-in-Rule c = search rules
