-- What the check of repairs rests on.
use Rattle.std.proofs.Common.{◌≡◌, ◌∙◌, ◌<◌, ◌≤◌, ◌+◌, ◌-◌, ◌++◌, ℕ, zero, suc, List, [], ◌∷◌, ap, append_assoc, arith, drop, get_or, length, length-append, length-drop, refl, slice_get, slice_range, subst, sym, take, Option, Some}
use Rattle.std.proofs.Math.Seq.{drop-append_seam, drop-length, take-append_seam}
use Rattle.std.proofs.lemmas.List.{append-nil, length-take-le, take_all, take-append-drop}
use Rattle.std.proofs.lemmas.List.Folds.{drop_split}
use Rattle.std.proofs.lemmas.Option.{get_or_from_slice_get, slice_get_within}
use Rattle.definitions.specs.declared.Kind.{Kind}
use Rattle.definitions.specs.declared.Kind.TheVariants.{Rule}
use Rattle.definitions.specs.Trees.{Grammar}
use Rattle.remedies.specs.Changes.{changed, passed}
use Rattle.remedies.specs.declared.change.Change.{Change}
use Rattle.remedies.specs.declared.change.Change.TheVariants.{Keep, LeaveOut, PutIn}
use Rattle.tables.specs.Expected.{AreExpected}
use Rattle.mending.specs.Mendings.{IsFirstFault, IsMended, IsRepairOf, With_more, repaired}
use Rattle.mending.specs.Seams.{DoesNotFollow, IsFaultAt, IsWithin, before_fault, staged}
use Rattle.mending.specs.declared.repair.Repair.{Repair}
use Rattle.mending.specs.declared.seam.Seam.{Seam}
use Rattle.mending.proofs.Looks.{first_fault}
use Rattle.mending.proofs.Mended.{drop_here, drop_none, taken}

-- the kinds from one on
drop_get : (kinds : List Kind) (n : ℕ) (k : Kind) → slice_get kinds n ≡ Some k → drop n kinds ≡ k ∷ drop (n + 1) kinds
drop_get kinds n k e =
    drop_here kinds n k (slice_get_within kinds n k e) ∙ ap (λ j. j ∷ drop (n + 1) kinds) (get_or_from_slice_get kinds n k k e)

-- both lists have the same next kind
pub along_one : (copy kinds : List Kind) (n m : ℕ) (one other : Kind) → slice_get copy n ≡ Some one → slice_get kinds m ≡ Some other → one ≡ other
    → take (n + 1) copy ++ drop (m + 1) kinds ≡ take n copy ++ drop m kinds
along_one copy kinds n m one other e f same =
    ap (λ l. l ++ drop (m + 1) kinds) (taken copy n one e) ∙ append_assoc (take n copy) (one ∷ []) (drop (m + 1) kinds)
    ∙ ap (λ k. take n copy ++ k ∷ drop (m + 1) kinds) same ∙ ap (λ l. take n copy ++ l) (sym (drop_get kinds m other f))

-- the copy has what a change makes
pub one_put_in : (copy kinds : List Kind) (n m rule : ℕ) (one : Kind) (rest : List Change) → slice_get copy n ≡ Some one → one ≡ Rule rule
    → take (n + 1) copy ++ changed rest (drop m kinds) ≡ take n copy ++ changed (PutIn rule ∷ rest) (drop m kinds)
one_put_in copy kinds n m rule one rest e same =
    ap (λ l. l ++ changed rest (drop m kinds)) (taken copy n one e) ∙ append_assoc (take n copy) (one ∷ []) (changed rest (drop m kinds))
    ∙ ap (λ k. take n copy ++ k ∷ changed rest (drop m kinds)) same

pub one_left_out : (copy kinds : List Kind) (n m : ℕ) (other : Kind) (rest : List Change) → slice_get kinds m ≡ Some other
    → take n copy ++ changed rest (drop (m + 1) kinds) ≡ take n copy ++ changed (LeaveOut ∷ rest) (drop m kinds)
one_left_out copy kinds n m other rest f = ap (λ l. take n copy ++ l) (sym (ap (changed (LeaveOut ∷ rest)) (drop_get kinds m other f)))

pub one_kept : (copy kinds : List Kind) (n m : ℕ) (one other : Kind) (rest : List Change) → slice_get copy n ≡ Some one → slice_get kinds m ≡ Some other
    → one ≡ other → take (n + 1) copy ++ changed rest (drop (m + 1) kinds) ≡ take n copy ++ changed (Keep ∷ rest) (drop m kinds)
one_kept copy kinds n m one other rest e f same =
    ap (λ l. l ++ changed rest (drop (m + 1) kinds)) (taken copy n one e) ∙ append_assoc (take n copy) (one ∷ []) (changed rest (drop (m + 1) kinds))
    ∙ ap (λ k. take n copy ++ k ∷ changed rest (drop (m + 1) kinds)) same
    ∙ ap (λ l. take n copy ++ l) (sym (ap (changed (Keep ∷ rest)) (drop_get kinds m other f)))

get_first : (kinds : List Kind) (n : ℕ) → slice_get (drop n kinds) 0 ≡ slice_get kinds n
get_first kinds zero = refl
get_first [] (suc n) = refl
get_first (k ∷ kinds) (suc n) = get_first kinds n

-- a repair at a fault of the copy so far
module _ (g : Grammar) (copy kinds : List Kind) (here : Seam) (within : IsWithin copy kinds here) (fault : ℕ) (r : Repair) (on : r.at ≤ r.fault)
    (same_copy : here.copy ≡ r.at) (same_kind : here.kind ≡ r.from) (place : fault ≡ r.from + (r.fault - r.at))
    (is : IsFaultAt g copy kinds here fault r.expected.items) where
  abbrev x : List Kind
  x = before_fault copy kinds here fault

  all : staged copy kinds here ≡ x ++ drop fault kinds
  all = ap (λ l. take here.copy copy ++ l) (drop_split kinds here.kind fault is.ordered)
      ∙ sym (append_assoc (take here.copy copy) (slice_range kinds here.kind fault) (drop fault kinds))

  front : length (take here.copy copy) ≡ here.copy
  front = length-take-le here.copy copy within.0

  behind : length (slice_range kinds here.kind fault) + here.kind ≡ fault
  behind =
      let split : length (drop here.kind kinds) ≡ length (slice_range kinds here.kind fault) + length (drop fault kinds) =
      ap length (drop_split kinds here.kind fault is.ordered) ∙ length-append (slice_range kinds here.kind fault) (drop fault kinds) in
      omega (arith, split, length-drop here.kind kinds, length-drop fault kinds, is.inside, within.1, is.ordered)

  long : length x ≡ r.fault
  long = omega (arith, length-append (take here.copy copy) (slice_range kinds here.kind fault), front, behind, same_copy, same_kind, place, on)

  first : IsFirstFault g (staged copy kinds here) r.fault
  first = subst (λ k. IsFirstFault g (staged copy kinds here) k) long (subst (λ l. IsFirstFault g l (length x)) (sym all)
      (first_fault g x (drop fault kinds) is.viable (subst (DoesNotFollow g x) (sym (get_first kinds fault)) is.refused)))

  taken_front : take r.fault (staged copy kinds here) ≡ x
  taken_front = ap (λ n. take n (staged copy kinds here)) (sym long) ∙ ap (take (length x)) all ∙ take-append_seam x (drop fault kinds)

  at_copy : take r.at (staged copy kinds here) ≡ take here.copy copy
  at_copy = ap (λ n. take n (staged copy kinds here)) (sym same_copy ∙ sym front) ∙ take-append_seam (take here.copy copy) (drop here.kind kinds)

  at_kinds : drop r.at (staged copy kinds here) ≡ drop here.kind kinds
  at_kinds = ap (λ n. drop n (staged copy kinds here)) (sym same_copy ∙ sym front) ∙ drop-append_seam (take here.copy copy) (drop here.kind kinds)

  -- it is one, and makes what the copy has behind it
  pub next_repair : (repairs : List Repair) (old to : Seam) → staged copy kinds here ≡ staged copy kinds old → IsMended g kinds repairs (staged copy kinds old)
      → staged copy kinds to ≡ take here.copy copy ++ changed r.changes.items (drop here.kind kinds) → to.kind ≡ here.kind + passed r.changes.items
      → fault ≤ to.kind → IsMended g kinds (repairs ++ (r ∷ [])) (staged copy kinds to)
  next_repair repairs old to along mended made counted covered =
      let repair : IsRepairOf g kinds (staged copy kinds here) r = record {
        first = first;
        expected = subst (λ l. AreExpected g l r.expected.items) (sym taken_front) is.expected;
        begins = on;
        ends = omega (arith, covered, counted, place, same_kind, on);
        unchanged = at_kinds ∙ ap (λ n. drop n kinds) same_kind;
      } in
      let new : repaired r (staged copy kinds here) ≡ staged copy kinds to =
      ap (λ l. l ++ changed r.changes.items (drop r.at (staged copy kinds here))) at_copy
      ∙ ap (λ l. take here.copy copy ++ changed r.changes.items l) at_kinds ∙ sym made in
      subst (IsMended g kinds (repairs ++ (r ∷ []))) new
      (With_more repairs (staged copy kinds here) r (subst (IsMended g kinds repairs) (sym along) mended) repair)

-- where all of both lists is passed, it is the copy
pub whole_copy : (copy kinds : List Kind) (n m : ℕ) → length copy ≤ n → length kinds ≤ m → take n copy ++ drop m kinds ≡ copy
whole_copy copy kinds n m le le' = ap (λ l. take n copy ++ l) (drop_none kinds m le') ∙ append-nil (take n copy) ∙ take_all n copy le

-- and behind the last repair both are the same
pub rest_same : (copy kinds : List Kind) (n m : ℕ) → n ≤ length copy → take n copy ++ drop m kinds ≡ copy → drop n copy ≡ drop m kinds
rest_same copy kinds n m le e =
    let front : length (take n copy) ≡ n = length-take-le n copy le in
    ap (drop n) (sym e) ∙ ap (λ k. drop k (take n copy ++ drop m kinds)) (sym front) ∙ drop-append_seam (take n copy) (drop m kinds)
