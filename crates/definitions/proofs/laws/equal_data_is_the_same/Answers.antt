use Rattle.definitions.proofs.Std.{refl, ap, ◌≡◌, ◌↔◌, Bool, true, eq-eqb, eqb-true}
use Rattle.definitions.proofs.Common.{Kind, Rule, Invalid, eq-value}
use Rattle.definitions.proofs.EqualSplices.{same_splices}
use Rattle.definitions.proofs.laws.equal_data_is_the_same.Goals as goal

same_kinds : (j k : Kind) → (eq-value.it j k ≡ true) ↔ (j ≡ k)
same_kinds (Rule i) (Rule j) = (λ e. ap Rule (eqb-true i j e), λ e. eq-eqb i j (let same : i ≡ j = cc in same))
same_kinds Invalid Invalid = (λ e. refl, λ e. refl)
same_kinds j k = (λ e. absurd (let f : ⊥ = cc in f), λ e. absurd (let f : ⊥ = cc in f))

pub returns-clause-splices : goal.returns-clause-splices
returns-clause-splices c a b = same_splices eq-value.it same_kinds a b
