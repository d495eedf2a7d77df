use Rattle.colours.proofs.Std.{◌-◌, ◌%◌, ◌≡◌, List, arith, drop, inl, inr, length, length-drop, refl, take, take_all, ℕ}
use Rattle.colours.proofs.CommonEnds.{back_differs, edited, front_differs}
use Rattle.colours.proofs.edits.delta.Goals as goal

-- what is left of a slice after its start is so much of it
rest : (xs : List ℕ) (n : ℕ) → take (length xs - n) (drop n xs) ≡ drop n xs
rest xs n = take_all (length xs - n) (drop n xs) (omega (arith, length-drop n xs))

pub returns-clause-applied : goal.returns-clause-applied
returns-clause-applied c =
    let old = c.args.old.now in
    let new = c.args.new.now in
    let same = c.front-same in
    let back = c.back-common in
    let start : ℕ = same.result - same.result % 5 in
    edited old new same.result start same.ensures.left same.ensures.right same.ensures.same (omega arith) (take (length old - start) (drop start old))
    (take (length new - start) (drop start new)) (rest old start) (rest new start) back.result (back.result - back.result % 5)
    back.ensures.left back.ensures.right (omega arith) back.ensures.same

pub returns-clause-front : goal.returns-clause-front
returns-clause-front c =
    let same = c.front-same in
    let start : ℕ = same.result - same.result % 5 in
    front_differs c.args.old.now c.args.new.now same.result start same.ensures.left same.ensures.right same.ensures.same (omega arith) (omega arith) same.ensures.most
    (λ e f. elim c.else-same-old.either [ inl h ↦ h.1 f | inr h ↦ h e ])

pub returns-clause-back : goal.returns-clause-back
returns-clause-back c =
    let old = c.args.old.now in
    let new = c.args.new.now in
    let same = c.front-same in
    let back = c.back-common in
    let start : ℕ = same.result - same.result % 5 in
    back_differs old new same.result start same.ensures.left same.ensures.right same.ensures.same (omega arith) (take (length old - start) (drop start old))
    (take (length new - start) (drop start new)) (rest old start) (rest new start) back.result (back.result - back.result % 5) _ (omega arith) (omega arith) refl
    (omega (arith, back.ensures.left)) back.ensures.most
