use Rattle.text.proofs.Std.{arith, ◌++◌, ◌∙◌, chars-nil}
use Rattle.text.proofs.Common.{text_in}
use Rattle.text.proofs.NextPosition.{position-start}
use Rattle.text.proofs.places.Places.new.Goals as goal

pub invariant_of-result : goal.invariant_of-result
invariant_of-result c =
    record {
      within = omega arith;
      few = c.requires;
      ahead = c.new.ensures ∙ (λ i. chars-nil i ++ text_in (c.iter_from.ensures i));
      is = position-start c.args.unit (text_in c.args.pieces.now);
    }
