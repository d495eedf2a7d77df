-- A list that lies in runs: its items, and what a run keeps.
use Rattle.std.specs.Prelude.{◌≡◌, ◌≤◌, List, length}
use Rattle.seqtree.specs.Chunks.{joined}
use Rattle.seqtree.specs.Monoid.{total}
use Rattle.runs.specs.declared.run.TheConstants.{LONGEST_RUN}

-- `flattened runs`: the items of runs, in order: what a list in runs is seen as
abbrev pub flattened : {A : Type 0} → List (List A) → List A
flattened runs = joined (λ run. run) runs

-- what a run keeps: 1 to 64 items, and their sum
pub record IsRun {A S : Type 0} (zero : S) (op : S → S → S) (measure : A → S) (items : List A) (sum : S) : Type 0 where
  pub some : 1 ≤ length items
  pub few : length items ≤ LONGEST_RUN
  pub summed : sum ≡ total zero op measure items
