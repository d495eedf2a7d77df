-- What may follow, from what stands before an offset.
use Rattle.mending.specs.declared.repair.Repair.{Repair}
use Rattle.completion.specs.Mended.{GoOnAs}
use Rattle.completion.proofs.Std.{◌++◌, ◌≡◌, ◌∙◌, ℕ, All, Bool, List, [], Option, ap, false, filter-append, map, map-map, not, option_to_list, refl, subst, sym, take, All-take}
use Rattle.completion.proofs.Common.{AreBefore, AreExpected, Expected, FileGrammar, Goes_into, Kind, MayFollow, Token, in_file_order, is_skipped, kind_in, kinds_plain, plain, significant_kinds, unskipped}

unskipped-append : (skips : List Bool) (xs ys : List Kind) → unskipped skips (xs ++ ys) ≡ unskipped skips xs ++ unskipped skips ys
unskipped-append skips xs ys = filter-append (λ k. not (is_skipped skips k)) xs ys

-- the kinds of tokens that are marked rightly
unskipped_kinds : (skips : List Bool) (xs : List Token) → All (λ x. x.skipped ≡ is_skipped skips (kind_in x)) xs → unskipped skips (map kind_in xs) ≡ significant_kinds xs
unskipped_kinds skips xs marked = ap (unskipped skips) (sym (map-map (λ x. x.kind) plain xs)) ∙ kinds_plain skips xs marked

pub kinds_before : (skips : List Bool) (items : List Token) (n : ℕ) (last last' : Option Kind) → All (λ x. x.skipped ≡ is_skipped skips (kind_in x)) items
    → option_to_list last' ≡ unskipped skips (option_to_list last)
    → significant_kinds (take n items) ++ option_to_list last' ≡ unskipped skips (map kind_in (take n items) ++ option_to_list last)
kinds_before skips items n last last' marked is =
    (λ i. sym (unskipped_kinds skips (take n items) (All-take (λ x. x.skipped ≡ is_skipped skips (kind_in x)) n items marked)) i ++ is i)
    ∙ sym (unskipped-append skips (map kind_in (take n items)) (option_to_list last))

-- what is found: the rules that may follow, and perhaps the end
abbrev pub AreFollowing : FileGrammar → List ℕ → List Token → List Repair → ℕ → List (Option ℕ) → Type 0
AreFollowing file t items repairs o looks =
    (rules : List ℕ) × (at_end : Bool) × MayFollow file t (map plain items) repairs o rules × (looks ≡ in_file_order rules at_end)

pub nothing_follows : (file : FileGrammar) (t t' : List ℕ) (items items' : List Token) (repairs : List Repair) (o : ℕ) (looks : List (Option ℕ)) → t' ≡ t → items' ≡ items
    → looks ≡ [] → ((kinds : List Kind) → ¬ AreBefore file.patterns t' (map plain items') o kinds) → AreFollowing file t items repairs o looks
nothing_follows file t t' items items' repairs o looks a b none not =
    ([], false, Goes_into (subst (λ (p : List ℕ × List Token). (kinds : List Kind) → ¬ AreBefore file.patterns p.0 (map plain p.1) o kinds) (λ i. (a i, b i)) not) refl, none)

pub these_follow : (file : FileGrammar) (t t' : List ℕ) (items items' : List Token) (repairs : List Repair) (o : ℕ) (looks : List (Option ℕ)) (before kinds others : List Kind)
    → t' ≡ t → items' ≡ items → AreBefore file.patterns t' (map plain items') o before → kinds ≡ unskipped file.skips before
    → GoOnAs file.grammar repairs kinds others → AreExpected file.grammar others looks → AreFollowing file t items repairs o looks
these_follow file t t' items items' repairs o looks before kinds others a b are is go expected =
    let there = subst (λ (p : List ℕ × List Token). AreBefore file.patterns p.0 (map plain p.1) o before) (λ i. (a i, b i)) are in
    let goes = subst (λ l. GoOnAs file.grammar repairs l others) is go in
    let (rules, at_end, these, looks_are) = expected in
    (rules, at_end, Expected before there others goes at_end these, looks_are)
