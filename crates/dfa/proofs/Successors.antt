-- The set of positions after one more character.
use Rattle.dfa.proofs.Std.{◌≡◌, ℕ, ◌+◌, Bool, true, List, [], ◌∷◌, ◌++◌, subst, arith}
use Rattle.dfa.proofs.Common.{Expression, IsCharacter, StandsAt, mark, all_next, all_holders, successor, Among, IsSetOf, AreMarksOf}
use Rattle.dfa.proofs.Sets.{among_filter, filter_among, filter_rises, same_set}
use Rattle.dfa.proofs.HolderLists.{all_sound, all_complete, all_rise}
use Rattle.dfa.proofs.RuleLists.{HoldsIn, marks_of_set, next_sound, next_complete, rules_nonempty}

pub successor_set : (rules : List Expression) (u set : List ℕ) (marks : List Bool) (start : Bool) (c : ℕ) → IsCharacter c → (start ≡ true → u ≡ [])
    → (u ≡ [] → start ≡ true) → IsSetOf rules u set → AreMarksOf set marks → IsSetOf rules (u ++ c ∷ []) (successor rules marks start c)
successor_set rules u set marks start c is k l s m =
    let a = marks_of_set rules u set marks s m in
    let f = λ (p : ℕ). mark (all_next marks 0 start rules) p in
    record {
      rises = filter_rises f 0 (all_holders c 0 rules) (all_rise rules c 0);
      only = λ p h.
          let t = among_filter f (all_holders c 0 rules) p h in
          let q = all_sound rules c 0 p t.0 in
          let e : q.0 ≡ p = omega (arith, q.1) in
          next_sound rules marks 0 start u c p is k a t.1 (subst (λ (x : ℕ). HoldsIn rules c x) e q.2);
      every = λ p h.
          let t = next_complete rules marks 0 start u c p l a h in
          let e : 0 + p ≡ p = omega arith in
          filter_among f (all_holders c 0 rules) p (subst (λ (x : ℕ). Among (all_holders c 0 rules) x) e (all_complete rules c 0 p t.1)) t.0;
    }

pub empty_set : (rules : List Expression) → IsSetOf rules [] []
empty_set rules = record { rises = tt; only = λ p h. elim h [ ]; every = λ p h. absurd (omega (arith, rules_nonempty rules p [] h)) }

-- two texts have the same set exactly where they have the same positions
pub set_unique : (rules : List Expression) (u v x y : List ℕ) → IsSetOf rules u x → IsSetOf rules v y → ((p : ℕ) → StandsAt rules p u → StandsAt rules p v)
    → ((p : ℕ) → StandsAt rules p v → StandsAt rules p u) → x ≡ y
set_unique rules u v x y s t f g = same_set 0 x y s.rises t.rises (λ p h. t.every p (f p (s.only p h))) (λ p h. s.every p (g p (t.only p h)))
