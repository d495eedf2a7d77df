-- Splices of kinds are equal by `==` where they say the same.
use Rattle.definitions.proofs.Std.{refl, ap, ◌≡◌, ◌↔◌, Bool, ◌&&◌, true, nat_eq, and_from, and_parts, slice_eq-Decides, eq-eqb, eqb-true, pointwise}
use Rattle.definitions.proofs.Common.{Kind, KindSplice, Splice, plain_splice}

pub same_splices : (E : Kind → Kind → Bool) → ((j k : Kind) → (E j k ≡ true) ↔ (j ≡ k)) → (a b : KindSplice)
    → (((nat_eq a.from b.from && (nat_eq a.to b.to && pointwise E a.kinds.items b.kinds.items))) ≡ true) ↔ (plain_splice a ≡ plain_splice b)
same_splices E each a b =
    let kinds = slice_eq-Decides each a.kinds.items b.kinds.items (pointwise E a.kinds.items b.kinds.items) refl in (
      (λ e.
          let parts = and_parts _ _ e in
          let rest = and_parts _ _ parts.1 in
          let from = eqb-true a.from b.from parts.0 in
          let to = eqb-true a.to b.to rest.0 in
          let ks = kinds.0 rest.1 in
          λ i. record { from = from i; to = to i; kinds = ks i }),
      (λ e. and_from _ _ (eq-eqb a.from b.from (ap (λ (s : Splice). s.from) e)) (and_from _ _ (eq-eqb a.to b.to (ap (λ (s : Splice). s.to) e)) (kinds.1 (ap (λ (s : Splice). s.kinds) e)))),
    )
