-- What repairs make of kinds.
use Rattle.std.proofs.Common.{◌≡◌, ◌∙◌, ◌<◌, ◌≤◌, ◌+◌, ◌-◌, ◌++◌, ℕ, zero, suc, List, [], ◌∷◌, ap, append_assoc, arith, drop, get_or, inl, inr, length, length-append, refl, slice_get, subst, sym, take, take-append-drop, Option, Some}
use Rattle.definitions.specs.declared.Kind.{Kind}
use Rattle.definitions.specs.declared.Kind.TheVariants.{Invalid}
use Rattle.definitions.specs.Sentences.{IsSentence}
use Rattle.definitions.specs.Trees.{Grammar}
use Rattle.theory.proofs.Verdicts.{viable_prefix}
use Rattle.std.proofs.Math.Seq.{drop-append_seam, drop-cons}
use Rattle.std.proofs.lemmas.List.{append-nil, drop-drop, length-take-le, take_more}
use Rattle.remedies.specs.Changes.{changed, passed}
use Rattle.tables.specs.Expected.{AreExpected}
use Rattle.tables.specs.Tables.{Sets}
use Rattle.trees.specs.Cells.{Cell}
use Rattle.parser.specs.Parses.{AreExpectedAt, verdict_in}
use Rattle.parser.specs.declared.parse.Verdict.{Verdict}
use Rattle.parser.specs.declared.parse.Verdict.TheVariants.{FaultAt, FaultAtEnd}
use Rattle.mending.specs.Mendings.{IsFirstFault, IsMended, IsMendingOf, With_more, With_none}
use Rattle.mending.specs.declared.mending.Mending.{Mending}
use Rattle.remedies.specs.declared.change.Change.{Change}
use Rattle.remedies.specs.declared.change.Change.TheVariants.{Keep, LeaveOut, PutIn}
use Rattle.mending.specs.declared.repair.Repair.{Repair}

-- a sentence has no fault
faultless : (g : Grammar) (kinds : List Kind) (k : ℕ) → IsSentence g kinds → IsFirstFault g kinds k → ⊥
faultless g kinds k whole (inl fault) =
    fault.1 (viable_prefix g (take (k + 1) kinds) (drop (k + 1) kinds) ([], subst (IsSentence g) (sym (take-append-drop (k + 1) kinds) ∙ sym (append-nil _)) whole))
faultless g kinds k whole (inr fault) = fault.1.0 whole

-- a sentence has no repair
pub unmended : (g : Grammar) (kinds : List Kind) (repairs : List Repair) (copy : List Kind) → IsSentence g kinds → IsMended g kinds repairs copy
    → (repairs ≡ []) × (copy ≡ kinds)
unmended g kinds _ _ whole With_none = (refl, refl)
unmended g kinds _ _ whole (With_more repairs copy r mended is) =
    let before = unmended g kinds repairs copy whole mended in
    absurd (faultless g kinds r.fault whole (subst (λ l. IsFirstFault g l r.fault) before.1 is.first))

pub drop_none : (kinds : List Kind) (n : ℕ) → length kinds ≤ n → drop n kinds ≡ []
drop_none [] zero le = refl
drop_none [] (suc n) le = refl
drop_none (k ∷ kinds) zero le = absurd (omega (arith, le))
drop_none (k ∷ kinds) (suc n) le = drop_none kinds n (omega (arith, le))

pub drop_here : (kinds : List Kind) (n : ℕ) (d : Kind) → n < length kinds → drop n kinds ≡ get_or kinds n d ∷ drop (n + 1) kinds
drop_here kinds n d lt = drop-cons kinds n d lt ∙ ap (λ m. get_or kinds n d ∷ drop m kinds) (let e : suc n ≡ n + 1 = omega arith in e)

-- a sentence that is mended has no repair
pub unrepaired : (t : Sets) (kinds : List Kind) (m : Mending) → IsMendingOf t kinds m → IsSentence t.grammar kinds → m.repairs.items ≡ []
unrepaired t kinds m is whole = (unmended t.grammar kinds m.repairs.items m.copy.items whole is.mended).0

take_get : (kinds : List Kind) (n : ℕ) (k : Kind) → slice_get kinds n ≡ Some k → take (suc n) kinds ≡ take n kinds ++ (k ∷ [])
take_get [] n k e = absurd (cc e)
take_get (j ∷ kinds) zero k e = let same : j ≡ k = cc e in ap (λ l. l ∷ []) same
take_get (j ∷ kinds) (suc n) k e = ap (λ l. j ∷ l) (take_get kinds n k e)

-- one kind more
pub taken : (kinds : List Kind) (n : ℕ) (k : Kind) → slice_get kinds n ≡ Some k → take (n + 1) kinds ≡ take n kinds ++ (k ∷ [])
taken kinds n k e = ap (λ m. take m kinds) (let s : n + 1 ≡ suc n = omega arith in s) ∙ take_get kinds n k e

-- two lists go on with the same kind
pub both_taken : (list kinds : List Kind) (n : ℕ) (d k : Kind) → n < length list → get_or list n d ≡ k → slice_get kinds n ≡ Some k
    → take n list ≡ take n kinds → take (n + 1) list ≡ take (n + 1) kinds
both_taken list kinds n d k lt e f same =
    take_more list n d lt ∙ ap (λ l. l ++ (get_or list n d ∷ [])) same ∙ ap (λ j. take n kinds ++ (j ∷ [])) e ∙ sym (taken kinds n k f)
