-- The stamps of the tokens after an edit.
use Rattle.docs.proofs.Std.{◌≡◌, ◌≤◌, ◌-◌, ◌+◌, ℕ, List, length, take, drop, slice_range, sym, subst, ⊎_elim, arith, All, cases_lt, drop-drop, take-append-drop, All-append, All-drop, All-take, All-weaker, drop_split}
use Rattle.docs.proofs.Common.{Edit, Splice, kept_before, rejoin, AreStampedExactly, FileGrammar, Token, AreRescanned, plain_all, AreMadeBy, plain_of, AreOlder, KeepStamps, all_trees, forest_in, AreStamped, splice_between, Doc}

-- what holds of the prefix of a list, of a part, and of what is after the part, holds of the list
all_parts : {X : Type 0} (P : X → Type 0) (xs : List X) (a b : ℕ) → All P (take a xs) → All P (slice_range xs a b) → All P (drop b xs) → All P xs
all_parts P xs a b first middle last =
    let rest : All P (drop a xs) = ⊎_elim
    (λ lt.
    let at : b + (a - b) ≡ a = omega (arith, lt) in
    subst (λ n. All P (drop n xs)) at (subst (All P) (drop-drop (a - b) b xs) (All-drop P (a - b) (drop b xs) last)))
    (λ le. subst (All P) (sym (drop_split xs a b le)) (All-append P (slice_range xs a b) (drop b xs) middle last))
    (cases_lt b a) in
    subst (All P) (take-append-drop a xs) (All-append P (take a xs) (drop a xs) first rest)

-- no token was made by a later edit
pub born_on : (e : Edit) (old new : List Token) (number : ℕ) → AreRescanned e old new → number ≤ e.number → All (λ x. x.born ≤ number) old → All (λ x. x.born ≤ e.number) new
born_on e old new number kept later born =
    let P : Token → Type 0 = λ x. x.born ≤ e.number in
    let f = kept_before e (plain_all old) in
    let r = rejoin e (plain_all old) (plain_all new) in
    let was : All P old = All-weaker (λ x. x.born ≤ number) P (λ x le. omega (arith, le, later)) old born in
    all_parts P new f r
    (subst (All P) (sym kept.prefix_kept) (All-take P f old was))
    (All-weaker (λ x. x.born ≡ e.number) P (λ x is. omega (arith, is)) (slice_range new f r) kept.stamped)
    (subst (All P) (sym kept.rest_kept) (All-drop P (length old - (length new - r)) old was))

-- what is said of the program's edit, said of the one after the last
pub stamped_so : (file : FileGrammar) (x : Edit) (spliced : Splice) (old new : Doc) → spliced ≡ splice_between file x old new → AreRescanned x old.tokens.items new.tokens.items
    → (AreOlder x.number (all_trees old.store old.parse.stack) → AreStampedExactly x.number spliced (plain_of old.store old.parse.stack) (all_trees new.store new.parse.stack))
    → KeepStamps x.number spliced (all_trees old.store old.parse.stack) (all_trees new.store new.parse.stack)
    → (¬ AreOlder x.number (all_trees old.store old.parse.stack) → AreMadeBy x.number (forest_in new.store new.parse.stack)) → (e : Edit) → x ≡ e → AreStamped file e old new
stamped_so file x spliced old new same kept stamps older anew e is =
    subst (λ (y : Edit). AreStamped file y old new) is (record {
      tokens = kept;
      nodes = λ above. subst (λ s. AreStampedExactly x.number s (plain_of old.store old.parse.stack) (all_trees new.store new.parse.stack)) same (stamps above);
      older = subst (λ s. KeepStamps x.number s (all_trees old.store old.parse.stack) (all_trees new.store new.parse.stack)) same older;
      anew = anew;
    })
