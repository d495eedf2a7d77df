use Rattle.std.proofs.Common.{refl}
use Rattle.serde_json.specs.View.{view}
use Rattle.shown.proofs.losses.warning.Goals as goal

pub returns : goal.returns
returns c = (view c.in_ok-told_value.field-0, refl)
