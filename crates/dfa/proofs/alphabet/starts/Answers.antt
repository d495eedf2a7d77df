use Rattle.dfa.proofs.Std.{◌≡◌, arith, inl, inr, Contains, cases_lt, dedup_is, All-dedup, AllPairs-from_increasing, Contains-dedup_nat, Contains-permutation, All-permutation, IsStrictlyIncreasing-dedup}
use Rattle.dfa.proofs.Common.{IsCharacter}
use Rattle.dfa.proofs.alphabet.starts.Goals as goal

pub returns-clause-ascending : goal.returns-clause-ascending
returns-clause-ascending c =
    let is = dedup_is _ _ _ c.dedup.ensures.filtered in
    rw is (λ i j le lt. elim (cases_lt i j) [
      | inl l ↦ let a = AllPairs-from_increasing _ (IsStrictlyIncreasing-dedup _ c.sort_unstable.ensures.sorted) i j 0 l lt in omega (arith, a)
      | inr l ↦ let e : i ≡ j = omega (arith, l, le) in rw e (omega arith)
    ])

pub returns-clause-cuts : goal.returns-clause-cuts
returns-clause-cuts c = λ x h.
    let is = dedup_is _ _ _ c.dedup.ensures.filtered in
    let made : Contains c.in_ok-starts.starts.items x = rw c.in_ok-starts.ensures.cuts h in
    rw is (Contains-dedup_nat _ x (Contains-permutation _ _ x c.sort_unstable.ensures.permutation made))

pub returns-clause-characters : goal.returns-clause-characters
returns-clause-characters c =
    let is = dedup_is _ _ _ c.dedup.ensures.filtered in
    rw is (All-dedup _ IsCharacter _ (All-permutation IsCharacter _ _ c.sort_unstable.ensures.permutation c.in_ok-starts.ensures.characters))
