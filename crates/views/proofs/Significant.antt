-- The significant tokens of a list at their places.
use Rattle.views.proofs.Std.{arith, refl, sym, ap, subst, ◌∙◌, ◌≡◌, ℕ, zero, suc, ◌+◌, Bool, true, false, List, [], ◌∷◌, length, map, take, count_by, slice_get, Some, IsSomeAnd, All, if◌then◌else◌, length-map, All-head, All-tail}
use Rattle.views.proofs.Common.{Kind, end_of, Placed, is_skipped, placed, significant, Token, characters, is_significant, kind_in, plain, significant_kinds, characters-cons, count-cons, length-kinds}

-- the token is marked where its kind is skipped
abbrev pub IsMarked : List Bool → Token → Type 0
IsMarked skips x = x.skipped ≡ is_skipped skips (kind_in x)

-- the significant ones of these tokens, the first of which starts at offset o
abbrev pub parts_from : List Bool → ℕ → List Token → List Placed
parts_from skips o xs = significant skips (placed o (map plain xs))

abbrev pub part_at : ℕ → Token → Placed
part_at o x = record { start = o; token = plain x }

parts-skipped : (skips : List Bool) (o : ℕ) (x : Token) (xs : List Token) → is_skipped skips (kind_in x) ≡ true → parts_from skips o (x ∷ xs) ≡ parts_from skips (o + x.length) xs
parts-skipped skips o x xs e = rw e refl

parts-kept : (skips : List Bool) (o : ℕ) (x : Token) (xs : List Token) → is_skipped skips (kind_in x) ≡ false → parts_from skips o (x ∷ xs) ≡ part_at o x ∷ parts_from skips (o + x.length) xs
parts-kept skips o x xs e = rw e refl

-- how many significant ones there are with one more at the start
count-skipped : (x : Token) (xs : List Token) → x.skipped ≡ true → count_by is_significant (x ∷ xs) ≡ count_by is_significant xs
count-skipped x xs e = count-cons x xs ∙ ap (λ b. (if b then 0 else 1) + count_by is_significant xs) e ∙ omega arith

count-kept : (x : Token) (xs : List Token) → x.skipped ≡ false → count_by is_significant (x ∷ xs) ≡ suc (count_by is_significant xs)
count-kept x xs e = count-cons x xs ∙ ap (λ b. (if b then 0 else 1) + count_by is_significant xs) e ∙ omega arith

-- the significant token that has k before it, where they begin at offset o
part_from : (skips : List Bool) (o : ℕ) (xs : List Token) (p k : ℕ) (x : Token) → All (IsMarked skips) xs → slice_get xs p ≡ Some x
    → count_by is_significant (take p xs) ≡ k → count_by is_significant (take (suc p) xs) ≡ suc k
    → slice_get (parts_from skips o xs) k ≡ Some (part_at (o + characters (take p xs)) x)
part_from skips o [] p k x marked is before at = absurd (omega (arith, before, at))
part_from skips o (y ∷ xs) zero k x marked is before at = go y.skipped refl (sym (All-head (IsMarked skips) y xs marked))
  where
    same : y ≡ x
    same = cc

    go : (b : Bool) → y.skipped ≡ b → is_skipped skips (kind_in y) ≡ y.skipped → slice_get (parts_from skips o (y ∷ xs)) k ≡ Some (part_at (o + 0) x)
    go true e m = absurd (omega (arith, count-skipped y [] e, before, at))
    go false e m =
        let none : k ≡ 0 = sym before in
        let here : o ≡ o + 0 = omega arith in
        ap (slice_get (parts_from skips o (y ∷ xs))) none ∙ ap (λ ps. slice_get ps 0) (parts-kept skips o y xs (m ∙ e)) ∙ (λ i. Some (part_at (here i) (same i)))
part_from skips o (y ∷ xs) (suc p) k x marked is before at =
    go y.skipped refl (sym (All-head (IsMarked skips) y xs marked)) k before at (λ j b a. part_from skips (o + y.length) xs p j x (All-tail (IsMarked skips) y xs marked) is b a)
  where
    there : o + y.length + characters (take p xs) ≡ o + characters (y ∷ take p xs)
    there = omega (arith, characters-cons y (take p xs))

    go : (b : Bool) → y.skipped ≡ b → is_skipped skips (kind_in y) ≡ y.skipped
        → (k : ℕ) → count_by is_significant (y ∷ take p xs) ≡ k → count_by is_significant (y ∷ take (suc p) xs) ≡ suc k
        → ((j : ℕ) → count_by is_significant (take p xs) ≡ j → count_by is_significant (take (suc p) xs) ≡ suc j
        → slice_get (parts_from skips (o + y.length) xs) j ≡ Some (part_at (o + y.length + characters (take p xs)) x))
        → slice_get (parts_from skips o (y ∷ xs)) k ≡ Some (part_at (o + characters (y ∷ take p xs)) x)
    go true e m k before at later =
        ap (λ ps. slice_get ps k) (parts-skipped skips o y xs (m ∙ e))
        ∙ later k (sym (count-skipped y (take p xs) e) ∙ before) (sym (count-skipped y (take (suc p) xs) e) ∙ at)
        ∙ ap (λ n. Some (part_at n x)) there
    go false e m zero before at later = absurd (omega (arith, count-kept y (take p xs) e, before))
    go false e m (suc k) before at later =
        ap (λ ps. slice_get ps (suc k)) (parts-kept skips o y xs (m ∙ e))
        ∙ later k (omega (arith, count-kept y (take p xs) e, before)) (omega (arith, count-kept y (take (suc p) xs) e, at))
        ∙ ap (λ n. Some (part_at n x)) there

-- the significant token that has k before it
pub part_is : (skips : List Bool) (xs : List Token) (p k : ℕ) (x : Token) → All (IsMarked skips) xs → slice_get xs p ≡ Some x
    → count_by is_significant (take p xs) ≡ k → count_by is_significant (take (p + 1) xs) ≡ k + 1
    → slice_get (parts_from skips 0 xs) k ≡ Some (part_at (characters (take p xs)) x)
part_is skips xs p k x marked is before at =
    let next : p + 1 ≡ suc p = omega arith in
    let start : 0 + characters (take p xs) ≡ characters (take p xs) = omega arith in
    part_from skips 0 xs p k x marked is before (ap (λ n. count_by is_significant (take n xs)) (sym next) ∙ at ∙ omega arith) ∙ ap (λ n. Some (part_at n x)) start

-- its offsets and its kind
pub part_shown : (skips : List Bool) (xs : List Token) (p k start : ℕ) (kind : Kind) (x : Token) → All (IsMarked skips) xs → slice_get xs p ≡ Some x
    → count_by is_significant (take p xs) ≡ k → count_by is_significant (take (p + 1) xs) ≡ k + 1 → start ≡ characters (take p xs) → kind ≡ kind_in x
    → IsSomeAnd (slice_get (parts_from skips 0 xs) k) (λ y. (start ≡ y.start) × (start + x.length ≡ end_of y) × (kind ≡ y.token.kind))
part_shown skips xs p k start kind x marked is before at begins is_kind =
    subst (λ o. IsSomeAnd o (λ y. (start ≡ y.start) × (start + x.length ≡ end_of y) × (kind ≡ y.token.kind)))
    (sym (part_is skips xs p k x marked is before at)) (begins, ap (λ n. n + x.length) begins, is_kind)

-- the kinds of the significant ones
pub kinds_of_parts : (skips : List Bool) (o : ℕ) (xs : List Token) → All (IsMarked skips) xs → map (λ x. x.token.kind) (parts_from skips o xs) ≡ significant_kinds xs
kinds_of_parts skips o [] marked = refl
kinds_of_parts skips o (x ∷ xs) marked = go x.skipped refl (sym (All-head (IsMarked skips) x xs marked)) (kinds_of_parts skips (o + x.length) xs (All-tail (IsMarked skips) x xs marked))
  where
    go : (b : Bool) → x.skipped ≡ b → is_skipped skips (kind_in x) ≡ x.skipped → map (λ y. y.token.kind) (parts_from skips (o + x.length) xs) ≡ significant_kinds xs
        → map (λ y. y.token.kind) (parts_from skips o (x ∷ xs)) ≡ significant_kinds (x ∷ xs)
    go true e m rest = ap (map (λ y. y.token.kind)) (parts-skipped skips o x xs (m ∙ e)) ∙ rest ∙ rw e refl
    go false e m rest = ap (map (λ y. y.token.kind)) (parts-kept skips o x xs (m ∙ e)) ∙ ap (λ ks. kind_in x ∷ ks) rest ∙ rw e refl

-- how many they are
pub count_of_parts : (skips : List Bool) (xs : List Token) → All (IsMarked skips) xs → length (parts_from skips 0 xs) ≡ count_by is_significant xs
count_of_parts skips xs marked = sym (length-map (parts_from skips 0 xs) (λ (x : Placed). x.token.kind)) ∙ ap length (kinds_of_parts skips 0 xs marked) ∙ length-kinds xs
