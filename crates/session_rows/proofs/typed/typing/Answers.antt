use Rattle.std.proofs.Common.{ap, ◌∙◌}
use Rattle.std.specs.Prelude.{ℕ, List, Some}
use Rattle.session_rows.proofs.typed.typing.Goals as goal

pub typed_in-requires-clause-bytes : goal.typed_in-requires-clause-bytes
typed_in-requires-clause-bytes c = c.new-input.ensures.bytes ∙ ap (λ (xs : List ℕ). Some xs) (c.as_bytes.ensures.value ∙ c.in_ok-bytes.ensures.ok)
