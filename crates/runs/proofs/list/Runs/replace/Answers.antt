use Rattle.runs.proofs.Std.{arith, ap, refl, length-append, ◌∙◌, ◌≡◌, ◌≤◌, ◌+◌, ◌-◌, ◌++◌, ℕ, List, length, take, drop, length-take, length-drop}
use Rattle.runs.proofs.Common.{filled_between, in_order, flattened}
use Rattle.runs.proofs.list.Runs.replace.Goals as goal

-- how many items a change leaves
length_replaced : {A : Type 0} (xs ys : List A) (a b : ℕ) → a ≤ b → b ≤ length xs → length (take a xs ++ ys ++ drop b xs) ≡ length xs - (b - a) + length ys
length_replaced xs ys a b l m = omega (arith, l, m, length-append (take a xs ++ ys) (drop b xs), length-append (take a xs) ys, length-take a xs, length-drop b xs)

pub replace-requires-clause-ordered : goal.replace-requires-clause-ordered
replace-requires-clause-ordered g c =
    omega (
      arith,
      in_order (λ run. run) c.seq-runs.result.now c.args.from c.args.to c.cut_at-start.result.run c.cut_at-end.result.run c.cut_at-start.result.prefix.now
          c.cut_at-start.result.back.now c.cut_at-end.result.prefix.now c.cut_at-end.result.back.now c.requires.ordered c.cut_at-start.ensures c.cut_at-end.ensures,
    )

pub replace-requires-clause-in_range : goal.replace-requires-clause-in_range
replace-requires-clause-in_range g c = omega (arith, c.cut_at-start.ensures.within, ap length c.seq-runs.ensures.same)

pub replace-requires-clause-fits : goal.replace-requires-clause-fits
replace-requires-clause-fits g c =
    let view = ap flattened c.seq-runs.ensures.same ∙ c.self.view_is in
    let same = filled_between (λ run. run) c.seq-runs.result.now c.args.from c.args.to c.cut_at-start.result.run c.cut_at-end.result.run c.cut_at-start.result.prefix.now
    c.cut_at-start.result.back.now c.cut_at-end.result.prefix.now c.cut_at-end.result.back.now c.args.items.now c.in_ok-items.items.items
    c.requires.ordered c.cut_at-start.ensures c.cut_at-end.ensures c.in_ok-items.ensures in
    let count = length_replaced c.args.self.now c.args.items.now c.args.from c.args.to c.requires.ordered c.requires.in_range in
    rw (← c.seq-runs.ensures.same, same, view) (omega (arith, count, c.requires.fits))

wanted : (g : _) (c : goal.In_ok-replace g) → flattened c.replace.new.self ≡ take c.args.from c.args.self.now ++ c.args.items.now ++ drop c.args.to c.args.self.now
wanted g c =
    let view = ap flattened c.seq-runs.ensures.same ∙ c.self.view_is in
    let same = filled_between (λ run. run) c.seq-runs.result.now c.args.from c.args.to c.cut_at-start.result.run c.cut_at-end.result.run c.cut_at-start.result.prefix.now
    c.cut_at-start.result.back.now c.cut_at-end.result.prefix.now c.cut_at-end.result.back.now c.args.items.now c.in_ok-items.items.items
    c.requires.ordered c.cut_at-start.ensures c.cut_at-end.ensures c.in_ok-items.ensures in
    c.in_ok-replace.ensures.list ∙ rw (← c.seq-runs.ensures.same, same, view) refl

pub invariant_of-self-2 : goal.invariant_of-self-2
invariant_of-self-2 g c =
    omega (arith, ap length (wanted g c), length_replaced c.args.self.now c.args.items.now c.args.from c.args.to c.requires.ordered c.requires.in_range, c.requires.fits)

pub returns-clause-list : goal.returns-clause-list
returns-clause-list g c = wanted g c
