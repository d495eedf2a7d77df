use Rattle.grammar.proofs.Std.{◌≡◌, sym, ℕ, ◌≤◌, List, [], length, slice_index_or, get_or_past}
use Rattle.std.specs.Str.{chars}
use Rattle.grammar.proofs.grammar.name_at.Goals as goal

nothing : (names : List (List ℕ)) (k : ℕ) → length names ≤ k → chars [] ≡ slice_index_or names k []
unfolding chars
nothing names k past = sym (get_or_past names k [] past)

pub returns-else-place-names : goal.returns-else-place-names
returns-else-place-names c = nothing c.args.names.now c.args.place c.if-place-names.false
