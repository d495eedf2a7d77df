-- A list of vectors that is kept as a set.
use Rattle.item_sets.proofs.Std.{◌≡◌, ◌<◌, ◌⊎◌, ◌&&◌, ℕ, Bool, true, false, List, [], ◌∷◌, ◌++◌, Option, Some, None, Vec, length, slice_index_or, slice_get, refl, sym, ap, ◌∙◌, inl, inr, map, if◌then◌else◌, Decides, option_eq, list_any, position, pointwise, Global}
use Rattle.item_sets.proofs.Std.{arith, eqb, Decides-and, Decides-eqb, slice_eq-Decides, get_or-map, map-append, length-map, list_any_at, position-Some, get_or_from_slice_get}
use Rattle.item_sets.proofs.Common.{ghosts, Item, IsAbsent}

option_same : (x y : Option ℕ) → Decides (option_eq eqb x y) (x ≡ y)
option_same None None = (λ e. refl, λ e. refl)
option_same (Some a) (Some b) = (λ e. ap (λ n. Some n) ((Decides-eqb a b).0 e), λ e. let k : a ≡ b = cc e in (Decides-eqb a b).1 k)
option_same x y = (λ e. absurd (cc e), λ e. absurd (cc e))

item_same : (a b : Item) → Decides (ghosts.eq a b) (a ≡ b)
item_same a b =
    let d = Decides-and (option_eq eqb a.production b.production) (eqb a.at b.at && option_eq eqb a.look b.look) (option_same a.production b.production)
    (Decides-and (eqb a.at b.at) (option_eq eqb a.look b.look) (Decides-eqb a.at b.at) (option_same a.look b.look)) in
    (λ e. let h = d.0 e in λ i. record { production = h.0 i; at = h.1.0 i; look = h.1.1 i }, λ e. d.1 (ap (λ x. x.production) e, (ap (λ x. x.at) e, ap (λ x. x.look) e)))

abbrev pub items_of : Vec Item Global → List Item
items_of v = v.items

abbrev same_items : Vec Item Global → Vec Item Global → Bool
same_items x y = pointwise ghosts.eq x.items y.items

-- a vector that is found has the items
pub found_items : (ks : List (Vec Item Global)) (v x : Vec Item Global) (s : ℕ) → s < length ks → slice_get ks s ≡ Some x → same_items v x ≡ true → slice_index_or (map items_of ks) s [] ≡ v.items
found_items ks v x s l e t =
    let at : slice_index_or ks s x ≡ x = get_or_from_slice_get ks s x x e in
    get_or-map items_of ks s x [] l ∙ ap items_of at ∙ sym ((slice_eq-Decides item_same v.items x.items (same_items v x) refl).0 t)

-- the lists of items after one more vector
pub list_after : (ks : List (Vec Item Global)) (v : Vec Item Global) (b : Bool) → list_any (same_items v) ks ≡ b → (map items_of (if b then ks else ks ++ v ∷ []) ≡ map items_of ks)
    ⊎ ((map items_of (if b then ks else ks ++ v ∷ []) ≡ map items_of ks ++ v.items ∷ []) × IsAbsent (map items_of ks) v.items)
list_after ks v true e = inl refl
list_after ks v false e = inr (map-append items_of ks (v ∷ []), absent)
  where
    absent : IsAbsent (map items_of ks) v.items
    absent s l f =
        let n = length-map ks items_of in
        let below : s < length ks = omega (arith, l, n) in
        let at : slice_index_or (map items_of ks) s [] ≡ (slice_index_or ks s v).items = get_or-map items_of ks s v [] below in
        let shown : same_items v (slice_index_or ks s v) ≡ true = (slice_eq-Decides item_same v.items (slice_index_or ks s v).items (same_items v (slice_index_or ks s v)) refl).1 (sym f ∙ at) in
        let any : list_any (same_items v) ks ≡ true = list_any_at (same_items v) ks s v below shown in
        cc (any, e)

-- the place that is found of some items has them
pub found_place : (ks : List (Vec Item Global)) (items : List Item) (s : ℕ) → position (λ k. pointwise ghosts.eq items k.items) ks ≡ Some s
    → (s < length (map items_of ks)) × (slice_index_or (map items_of ks) s [] ≡ items)
found_place [] items s e = absurd (cc e)
found_place (x ∷ ks) items s e =
    let p = position-Some (λ k. pointwise ghosts.eq items k.items) (x ∷ ks) s x e in
    let n = length-map (x ∷ ks) items_of in
    let l = p.0 in
    let here = slice_index_or (x ∷ ks) s x in
    (omega (arith, l, n), get_or-map items_of (x ∷ ks) s x [] l ∙ sym ((slice_eq-Decides item_same items here.items (pointwise ghosts.eq items here.items) refl).0 p.1))
