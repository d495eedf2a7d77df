-- What repairs make of the kinds before a place.
use Rattle.completion.proofs.Std.{◌++◌, ◌+◌, ◌<◌, ◌≤◌, ◌≡◌, ◌∙◌, ◌∷◌, ℕ, suc, List, [], ap, append_assoc, arith, drop, get_or, length, refl, sym}
use Rattle.completion.proofs.Common.{Kind, TokenRule}
use Rattle.std.proofs.Math.Seq.{drop-cons}
use Rattle.std.proofs.lemmas.List.{drop_all}
use Rattle.definitions.specs.declared.Kind.TheVariants.{Invalid}
use Rattle.remedies.specs.declared.change.Change.{Change}
use Rattle.remedies.specs.declared.change.Change.TheVariants.{LeaveOut, PutIn}
use Rattle.completion.specs.Mended.{changed_before}

changed_none : (changes : List Change) → changed_before changes [] ≡ []
changed_none [] = refl
changed_none (change ∷ changes) = refl

pub next_kind : (kinds : List Kind) (n : ℕ) (d : Kind) → n < length kinds → drop n kinds ≡ get_or kinds n d ∷ drop (n + 1) kinds
next_kind kinds n d lt = drop-cons kinds n d lt ∙ ap (λ m. get_or kinds n d ∷ drop m kinds) (let e : suc n ≡ n + 1 = omega arith in e)

-- one change more, where all kinds are passed
pub none_left : (made : List Kind) (change : Change) (rest : List Change) (kinds : List Kind) (n : ℕ) → length kinds ≤ n
    → made ++ changed_before rest (drop n kinds) ≡ made ++ changed_before (change ∷ rest) (drop n kinds)
none_left made change rest kinds n le =
    let none : drop n kinds ≡ [] = drop_all n kinds le in
    ap (λ l. made ++ l) (ap (changed_before rest) none ∙ changed_none rest ∙ sym (ap (changed_before (change ∷ rest)) none))

-- one that puts a kind in
pub put_in : (made made' : List Kind) (change : Change) (rest : List Change) (kinds : List Kind) (n rule : ℕ) → n < length kinds → change ≡ PutIn rule
    → made' ≡ made ++ TokenRule rule ∷ [] → made' ++ changed_before rest (drop n kinds) ≡ made ++ changed_before (change ∷ rest) (drop n kinds)
put_in made made' change rest kinds n rule lt is e =
    let here = next_kind kinds n Invalid lt in
    ap (λ l. l ++ changed_before rest (drop n kinds)) e ∙ append_assoc made (TokenRule rule ∷ []) (changed_before rest (drop n kinds))
    ∙ ap (λ l. made ++ TokenRule rule ∷ changed_before rest l) here ∙ sym (ap (λ l. made ++ changed_before (PutIn rule ∷ rest) l) here)
    ∙ sym (ap (λ c. made ++ changed_before (c ∷ rest) (drop n kinds)) is)

-- one that leaves the next kind out
pub leave_out : (made : List Kind) (change : Change) (rest : List Change) (kinds : List Kind) (n : ℕ) → n < length kinds → change ≡ LeaveOut
    → made ++ changed_before rest (drop (n + 1) kinds) ≡ made ++ changed_before (change ∷ rest) (drop n kinds)
leave_out made change rest kinds n lt is =
    sym (ap (λ l. made ++ changed_before (LeaveOut ∷ rest) l) (next_kind kinds n Invalid lt)) ∙ sym (ap (λ c. made ++ changed_before (c ∷ rest) (drop n kinds)) is)
