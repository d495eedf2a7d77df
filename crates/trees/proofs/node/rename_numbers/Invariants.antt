use Rattle.trees.proofs.Std.{◌≡◌, ◌++◌, drop, length, map, take}
use Rattle.trees.proofs.Common.{unpack, renamed}
use Rattle.trees.proofs.node.rename_numbers.Given as goal

abbrev pub invariant-loop-number : goal.invariant-loop-number
invariant-loop-number l = record {
  long : length l.numbers ≡ length l.fn.numbers;
  rest : drop l.number-index l.numbers ≡ drop l.number-index l.fn.numbers;
  done : map unpack (take l.number-index l.numbers) ++ map (renamed l.fn.names) (map unpack (drop l.number-index l.numbers)) ≡ map (renamed l.fn.names) (map unpack l.fn.numbers);
}
