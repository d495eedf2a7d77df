-- Sums that are counted too are a monoid, a number of items that is reached stays reached, and numbers of items add up.
use Rattle.std.specs.Prelude.{◌≡◌, ℕ, ◌≤◌, true, nat_lt, length}
use Rattle.std.proofs.Common.{arith, length-append}
use Rattle.std.proofs.lemmas.Bool.{ltb-true, lt-ltb}
use Rattle.seqtree.specs.Monoid.{MonoidLaws}
use Rattle.seqtree.specs.Saturated.{saturated, saturated-zero_left, saturated-zero_right, saturated-assoc}
use Rattle.seqtree.specs.Chunks.{IsMeasure}
use Rattle.runs.specs.declared.run.TheConstants.{LONGEST_RUN, SHORTEST_OF_SEVERAL}
use Rattle.runs.specs.declared.counted.Counted.{Counted}
use Rattle.runs.specs.Counted.{most, nothing, join_three}

pub counted_laws : {S : Type 0} (zero : S) (op : S → S → S) → MonoidLaws zero op → MonoidLaws (nothing zero) (join_three op)
counted_laws zero op laws = record {
  left_unit = λ x i. record { items = saturated-zero_left most x.items i; sum = laws.left_unit x.sum i };
  right_unit = λ x i. record { items = saturated-zero_right most x.items i; sum = laws.right_unit x.sum i };
  assoc = λ x y z i. record { items = saturated-assoc most x.items y.items z.items i; sum = laws.assoc x.sum y.sum z.sum i };
}

saturated_ge : (a b : ℕ) → a ≤ saturated most a b
saturated_ge a b = omega arith

pub after_item_stays : {S : Type 0} (op : S → S → S) (offset : ℕ) (s r : Counted S) → nat_lt offset s.items ≡ true
    → nat_lt offset (join_three op s r).items ≡ true
after_item_stays op offset s r h = lt-ltb _ _ (let p = ltb-true offset s.items h in let q = saturated_ge s.items r.items in omega arith)

-- how many items there are adds up
pub length_measures : {A : Type 0} → IsMeasure {A = A} length SHORTEST_OF_SEVERAL LONGEST_RUN
length_measures = record { adds = length-append; each = λ x. omega arith; some = omega arith; halves = omega arith }
