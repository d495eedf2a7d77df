-- Edits that follow each other, as one edit.
use Rattle.docs.proofs.Std.{◌≡◌, ◌≤◌, ◌+◌, ◌-◌, ℕ, List, ◌++◌, length, take, drop, sym, ap, ◌∙◌, Option, Some, None, MatchOption, refl, subst, max}
use Rattle.docs.proofs.Std.{arith, append_assoc, drop-drop, drop-take, length-append, length-drop, length-take, take_at, take-append-drop, take-take, le-max_left, le-max_right, max-le, min-le_left, min-le_right}
use Rattle.docs.proofs.Common.{Edit, edit, drop-edit, length-edit, LeadsTo, joined}

-- what an edit inserts lies within the text after it
pub inserted_within : (was now : List ℕ) (e : Edit) → LeadsTo was e now → e.at + e.inserted ≤ length now
inserted_within was now e leads =
    let long = length-edit was leads.0 e.at (e.at + e.removed) (omega arith) leads.1 in
    omega (arith, long, ap length leads.3, leads.1, leads.2)

-- an edit of short texts has small numbers
pub small_edit : (was now : List ℕ) (e : Edit) → LeadsTo was e now → length was ≤ 1_048_576 → length now ≤ 1_048_576 → e.at + e.removed + e.inserted ≤ 2_097_152
small_edit was now e leads short small = omega (arith, inserted_within was now e leads, leads.1, short, small)

module _ (was now s : List ℕ) (first both : Edit) (from to end : ℕ) (leads : LeadsTo was first now) where
  abbrev piece : List ℕ
  piece = take (from - both.at) (drop both.at now) ++ s ++ take (end - to) (drop to now)

  module _ (ordered : from ≤ to) (inside : to ≤ length now) (left : both.at ≤ first.at) (before : both.at ≤ from) (right : to ≤ end)
      (past : first.at + first.inserted ≤ end) (far : end ≤ length now) (removed : both.removed ≡ end - both.at - first.inserted + first.removed)
      (inserted : both.inserted ≡ end - both.at - (to - from) + length s) where
    long : length now + (first.at + first.removed) ≡ length was + first.at + first.inserted
    long = omega (arith, length-edit was leads.0 first.at (first.at + first.removed) (omega arith) leads.1, ap length leads.3, leads.2)

    fits : both.at + both.removed ≤ length was
    fits = omega (arith, long, left, before, past, far, removed, leads.1)

    measured : both.inserted ≡ length piece
    measured = omega (
      arith,
      inserted,
      ordered,
      inside,
      before,
      right,
      far,
      length-append (take (from - both.at) (drop both.at now) ++ s) (take (end - to) (drop to now)),
      length-append (take (from - both.at) (drop both.at now)) s,
      length-take (from - both.at) (drop both.at now),
      length-take (end - to) (drop to now),
      length-drop both.at now,
      length-drop to now,
    )

    same_start : take both.at now ≡ take both.at was
    same_start =
        let at : length (take first.at was) ≡ first.at = omega (arith, length-take first.at was, leads.1) in
        let kept : take first.at now ≡ take first.at was =
        ap (take first.at) (leads.3 ∙ append_assoc (take first.at was) leads.0 (drop (first.at + first.removed) was))
        ∙ take_at (take first.at was) (leads.0 ++ drop (first.at + first.removed) was) first.at at in
        sym (take-take both.at first.at now left) ∙ (ap (take both.at) kept ∙ take-take both.at first.at was left)

    start : take from now ≡ take both.at was ++ take (from - both.at) (drop both.at now)
    start =
        let n : both.at + (from - both.at) ≡ from = omega (arith, before) in
        let rest : drop both.at (take from now) ≡ take (from - both.at) (drop both.at now) = ap (λ m. drop both.at (take m now)) (sym n) ∙ drop-take both.at (from - both.at) now in
        sym (take-append-drop both.at (take from now)) ∙ (ap (λ l. l ++ drop both.at (take from now)) (take-take both.at from now before ∙ same_start) ∙ ap (λ l. take both.at was ++ l) rest)

    same_end : drop end now ≡ drop (both.at + both.removed) was
    same_end =
        let k : ℕ = end - (first.at + first.inserted) in
        let n : end ≡ first.at + length leads.0 + k = omega (arith, past, leads.2) in
        let m : first.at + first.removed + k ≡ both.at + both.removed = omega (arith, past, left, removed) in
        ap (λ i. drop i now) n ∙ (ap (drop (first.at + length leads.0 + k)) leads.3 ∙ (drop-edit was leads.0 first.at (first.at + first.removed) k (omega (arith, leads.1)) ∙ ap (λ i. drop i was) m))

    finish : drop to now ≡ take (end - to) (drop to now) ++ drop (both.at + both.removed) was
    finish =
        let n : to + (end - to) ≡ end = omega (arith, right) in
        sym (take-append-drop (end - to) (drop to now)) ∙ ap (λ l. take (end - to) (drop to now) ++ l) (drop-drop (end - to) to now ∙ (ap (λ i. drop i now) n ∙ same_end))

    assoc_all : (a x y z : List ℕ) → a ++ x ++ s ++ (y ++ z) ≡ a ++ (x ++ s ++ y) ++ z
    assoc_all a x y z =
        sym (append_assoc (a ++ x ++ s) y z) ∙ ap (λ l. l ++ z) (ap (λ l. l ++ y) (append_assoc a x s) ∙ append_assoc a (x ++ s) y)

    -- two edits in turn, from the first place that one of them touches to the last one
    pub leads_by_both : LeadsTo was both (edit now from to s)
    leads_by_both = (
      piece,
      fits,
      measured,
      ap (λ l. l ++ s ++ drop to now) start ∙ (ap (λ l. take both.at was ++ take (from - both.at) (drop both.at now) ++ s ++ l) finish
          ∙ assoc_all (take both.at was) (take (from - both.at) (drop both.at now)) (take (end - to) (drop to now)) (drop (both.at + both.removed) was)),
    )

-- what waits leads from a text to another, and the change from this one to a third: together they lead from the first to the third
pub joined_leads : (waiting : Option Edit) (e : Edit) (was mid now : List ℕ) → MatchOption waiting (mid ≡ was) (λ first. LeadsTo was first mid) → LeadsTo mid e now
    → LeadsTo was (joined waiting e) now
joined_leads None e was mid now same second = subst (λ (t : List ℕ). LeadsTo t e now) same second
joined_leads (Some first) e was mid now leads second =
    let to = e.at + e.removed in
    let end = max (first.at + first.inserted) to in
    let past = le-max_left (first.at + first.inserted) to in
    let far = max-le (inserted_within was mid first leads) second.1 in
    let removed : to - e.at ≡ e.removed = omega arith in
    let inserted : (joined (Some first) e).inserted ≡ end - (joined (Some first) e).at - (to - e.at) + length second.0 = omega (arith, removed, second.2) in
    subst
    (λ (t : List ℕ). LeadsTo was (joined (Some first) e) t)
    (sym second.3)
    (leads_by_both was mid second.0 first (joined (Some first) e) e.at to end leads (omega arith) second.1 (min-le_left first.at e.at) (min-le_right first.at e.at)
    (le-max_right (first.at + first.inserted) to) past far refl inserted)
