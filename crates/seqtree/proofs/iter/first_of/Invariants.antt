use Rattle.seqtree.proofs.Std.{◌≡◌, ◌++◌, drop, length, ◌+◌, ◌<◌, ◌≤◌}
use Rattle.seqtree.proofs.Common.{items_of, height_of, part_items, items_ahead, AreParts}
use Rattle.seqtree.proofs.iter.first_of.Given as goal

-- what is left below, and then on the stack, is what is left
abbrev pub invariant-loop-below : goal.invariant-loop-below
invariant-loop-below g l =
    record {
      parts : AreParts 0 l.parts;
      has_item : l.skipped < length (items_of l.below);
      room : length l.parts + height_of l.below ≤ 128;
      left : drop l.skipped (items_of l.below) ++ items_ahead l.parts ≡ part_items l.fn.part ++ items_ahead l.fn.parts;
    }

abbrev pub decreases-loop-below : goal.decreases-loop-below
decreases-loop-below g l = length (items_of l.below)
