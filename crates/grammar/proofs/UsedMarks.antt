-- What marks at used nonterminals mean.
use Rattle.grammar.proofs.Std.{◌≡◌, inl, inr, ℕ, zero, suc, ◌+◌, ◌<◌, Bool, true, false, List, [], ◌∷◌, ◌++◌, refl, ap, sym, ◌∙◌, length, take, drop, get_or, set, replicate, subst, Some, slice_get, slice_index_or, take_more, get_or-set_other, get_or-set_at, and_parts}
use Rattle.grammar.proofs.Common.{Symbol, Nonterminal, Grammar, IsUsed, The_start, On_right, is_marked, are_marked, IsSpread, IsReached, AreWithin, AreOnlyUsed, AreAllUsed, push_at, Production' as Production}
use Rattle.grammar.proofs.NonterminalMarks.{same_or_not}

pub spread_more : (ps : List Production) (marks : List Bool) (i : ℕ) (x : Production) → i < length ps → x ≡ get_or ps i x → IsSpread (take i ps) marks
    → (slice_index_or marks x.left false ≡ true → are_marked marks x.right ≡ true) → IsSpread (take (i + 1) ps) marks
spread_more ps marks i x within is before here =
    let e : take (i + 1) ps ≡ take i ps ++ x ∷ [] = take_more ps i x within ∙ ap (λ y. take i ps ++ y ∷ []) (sym is) in
    subst (λ (qs : List Production). IsSpread qs marks) (sym e) (push_at (λ p y. slice_index_or marks y.left false ≡ true → are_marked marks y.right ≡ true) (take i ps) x before here)

split_at : (xs : List Symbol) (k : ℕ) (s : Symbol) → slice_get xs k ≡ Some s → xs ≡ take k xs ++ s ∷ drop (suc k) xs
split_at [] k s e = cc
split_at (x ∷ xs) zero s e = let same : x ≡ s = cc in ap (λ y. y ∷ xs) same
split_at (x ∷ xs) (suc k) s e = ap (λ ys. x ∷ ys) (split_at xs k s e)

-- what stands on a right side of a used nonterminal is used
pub used_right : (g : Grammar) (p k : ℕ) (x : Production) (s : Symbol) → slice_get g.productions p ≡ Some x → slice_get x.right k ≡ Some s → IsUsed g (Nonterminal x.left) → IsUsed g s
used_right g p k x s there stands left =
    On_right p x.left (take k x.right) (drop (suc k) x.right) left (there ∙ ap (λ r. Some (record { left = x.left; right = r })) (split_at x.right k s stands))

pub used_more : (start : ℕ) (ps : List Production) (marks : List Bool) (n : ℕ) → n < length marks → AreOnlyUsed start ps marks → IsReached ps marks n → AreOnlyUsed start ps (set marks n true)
used_more start ps marks n within only reached g m begins same marked =
    elim (same_or_not m n) [
      | inl e ↦
          let left : IsUsed g (Nonterminal reached.production.left) = only g reached.production.left begins same reached.marked in
          let here : slice_get g.productions reached.number ≡ Some reached.production = ap (λ (qs : List Production). slice_get qs reached.number) same ∙ reached.there in
          let used : IsUsed g (Nonterminal n) = used_right g reached.number reached.on_right.place reached.production (Nonterminal n) here reached.on_right.stands left in
          (let P : ℕ → Type 0 = λ k. IsUsed g (Nonterminal k) in subst P (sym e) used)
      | inr other ↦ only g m begins same (sym (get_or-set_other marks n m true false other) ∙ marked)
    ]

middle : (marks : List Bool) (before : List Symbol) (s : Symbol) (after : List Symbol) → are_marked marks (before ++ (s ∷ after)) ≡ true → is_marked marks s ≡ true
middle marks [] s after h = (and_parts (is_marked marks s) (are_marked marks after) h).0
middle marks (x ∷ before) s after h = middle marks before s after (and_parts (is_marked marks x) (are_marked marks (before ++ (s ∷ after))) h).1

used_marked : (start : ℕ) (ps : List Production) (marks : List Bool) (g : Grammar) → g.start ≡ start → g.productions ≡ ps → slice_index_or marks start false ≡ true
    → IsSpread ps marks → (s : Symbol) → IsUsed g s → is_marked marks s ≡ true
used_marked start ps marks g begins same first spread s The_start = ap (λ n. slice_index_or marks n false) begins ∙ first
used_marked start ps marks g begins same first spread s (On_right p n before after u has) =
    let left : slice_index_or marks n false ≡ true = used_marked start ps marks g begins same first spread (Nonterminal n) u in
    middle marks before s after (spread p (record { left = n; right = before ++ (s ∷ after) }) (ap (λ (qs : List Production). slice_get qs p) (sym same) ∙ has) left)

pub all_used : (start : ℕ) (ps : List Production) (marks : List Bool) → slice_index_or marks start false ≡ true → IsSpread ps marks → AreAllUsed start ps marks
all_used start ps marks first spread g n begins same used = used_marked start ps marks g begins same first spread (Nonterminal n) used

pub reached_within : (ps : List Production) (marks : List Bool) (n count : ℕ) → AreWithin ps count → IsReached ps marks n → n < count
reached_within ps marks n count within r = within r.number r.production r.on_right.place n r.there r.on_right.stands

-- at first the start alone is marked
pub start_used : (start count : ℕ) (ps : List Production) → start < count → AreOnlyUsed start ps (set (replicate count false) start true)
start_used start count ps within g m begins same marked =
    elim (same_or_not m start) [
      | inl e ↦ (let P : ℕ → Type 0 = λ k. IsUsed g (Nonterminal k) in subst P (begins ∙ sym e) The_start)
      | inr other ↦ absurd (clash (sym (get_or-set_other (replicate count false) start m true false other ∙ nothing count m) ∙ marked))
    ]
  where
    clash : false ≡ true → ⊥
    clash e = cc

    nothing : (n k : ℕ) → get_or (replicate n false) k false ≡ false
    nothing zero k = refl
    nothing (suc n) zero = refl
    nothing (suc n) (suc k) = nothing n k

pub still_marked : (marks : List Bool) (n m : ℕ) → n < length marks → slice_index_or marks m false ≡ true → slice_index_or (set marks n true) m false ≡ true
still_marked marks n m within marked =
    elim (same_or_not m n) [ inl e ↦ get_or-set_at marks n m true false e within | inr other ↦ get_or-set_other marks n m true false other ∙ marked ]
