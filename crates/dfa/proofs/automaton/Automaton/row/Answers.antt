use Rattle.dfa.proofs.Std.{arith, sym, subst, ◌∙◌, ◌≡◌, ◌-◌, ap, ℕ, List, drop, length, length-drop, take, slice_index_or, Some, take_all}
use Rattle.dfa.proofs.Common.{IsState, IsAsciiRow, follower}
use Rattle.dfa.proofs.Numbers.{row_follower, row_wide}
use Rattle.dfa.proofs.automaton.Automaton.row.Goals as goal

-- what stands from a place on
from_there : (xs seen : List ℕ) (n : ℕ) → seen ≡ xs → drop n xs ≡ take (length seen - n) (drop n seen)
from_there xs seen n e = sym (take_all (length seen - n) (drop n seen) (omega (arith, length-drop n seen)) ∙ ap (drop n) e)

pub invariant_of-result : goal.invariant_of-result
invariant_of-result c =
    let a = c.self.inside in
    let s = c.args.state in
    let is = subst (λ t. IsState t s) (sym c.self.view_is) c.requires in
    let entries = from_there a.next.items c.deref.result.now s.row c.deref.ensures.value in
    subst (λ (p : List ℕ × List ℕ). IsAsciiRow (record { ascii = p.0; entries = p.1 })) (λ i. (sym c.as_slice.ensures.value i, entries i)) (record {
      full = c.self.invariant.full;
      wide = row_wide a.starts.items a.ascii.items a.next.items a.accepts.items c.self.invariant s is;
    })

pub returns : goal.returns
returns c = λ number x some lt e.
    let a = c.self.inside in
    let s = c.args.state in
    let is = subst (λ t. IsState t s) (sym c.self.view_is) c.requires in
    let entries = from_there a.next.items c.deref.result.now s.row c.deref.ensures.value in
    let read : slice_index_or (drop s.row a.next.items) (slice_index_or a.ascii.items x 0) 0 ≡ number =
    (λ i. slice_index_or (entries i) (slice_index_or (sym c.as_slice.ensures.value i) x 0) 0) ∙ e in
    subst (λ t. follower t s.number x ≡ Some number) c.self.view_is (row_follower a.starts.items a.ascii.items a.next.items a.accepts.items c.self.invariant s is number x some lt read)
