-- What an edit keeps are tokens of both texts: the kept ones at the start are the same in both lists, and so are those after.
use Rattle.definitions.proofs.Std.{prefix_len, refl, sym, ap, subst, inl, inr, ◌∙◌, cond, ◌≡◌, ℕ, zero, suc, ◌+◌, ◌-◌, ◌<◌, ◌≤◌, ◌⊎◌, Bool, true, false, ◌==◌, nat_le, List, [], ◌∷◌, ◌++◌, length, take, drop, slice_index_or}
use Rattle.definitions.proofs.Std.{cases_lt, and_from, and_parts, le-leb, leb-true, eq-eqb, eqb-true, false≢true, append_assoc, take-take, drop_at, drop-drop, length-take, take_at, drop-take, get_or_default, fails_before_first, passes_at_first, Any-from_list_any, list_any_at, arith}
use Rattle.definitions.proofs.Std.{length-append, length-drop}
use Rattle.definitions.proofs.Common.{edit, Edit, Expression, Token, IsToken, AreTokens, placed, boundaries, kept_before, is_rejoined, rejoin}
use Rattle.definitions.proofs.TokensUnique.{AreTokens-unique, IsToken-unique, IsPiece-inside, no_token}
use Rattle.definitions.proofs.TokensLocal.{IsToken-local, length-le-reach}

before_end : (i m n : ℕ) → i < m → m ≡ n + 1 → i ≤ n
before_end i m n l e = omega arith

sub-sub : (i n k : ℕ) → i ≤ n → n - i ≡ k → n - k ≡ i
sub-sub i n k l e = omega arith

-- Boundaries: as many as there are tokens and one more, the last one the end of the text.
pub length-boundaries : (o : ℕ) (xs : List Token) → length (boundaries o xs) ≡ length xs + 1
length-boundaries o [] = refl
length-boundaries o (x ∷ xs) = omega (arith, length-boundaries (o + x.length) xs)

pub boundaries-end : (rules : List Expression) (t : List ℕ) (o d : ℕ) (xs : List Token) → AreTokens rules t xs → slice_index_or (boundaries o xs) (length xs) d ≡ o + length t
boundaries-end rules t o d [] p = let none : length t ≡ 0 = ap length p in omega arith
boundaries-end rules t o d (x ∷ xs) p =
    let inside : (1 ≤ x.length) × (x.length ≤ length t) = IsPiece-inside rules t x.kind x.length p.0.piece in
    omega (arith, boundaries-end rules (drop x.length t) (o + x.length) d xs p.1, length-drop x.length t, inside.1)

-- the tokens from the i-th on are those of the text from their boundary on
pub AreTokens-drop : (rules : List Expression) (t : List ℕ) (o d i : ℕ) (xs : List Token) → AreTokens rules (drop o t) xs
    → i ≤ length xs → AreTokens rules (drop (slice_index_or (boundaries o xs) i d) t) (drop i xs)
AreTokens-drop rules t o d zero [] p l = p
AreTokens-drop rules t o d zero (x ∷ xs) p l = p
AreTokens-drop rules t o d (suc i) [] p l = absurd (omega arith)
AreTokens-drop rules t o d (suc i) (x ∷ xs) p l =
    AreTokens-drop rules t (o + x.length) d i xs (subst (λ u. AreTokens rules u xs) (drop-drop x.length o t) p.1) (omega arith)

-- after the edit both texts are the same
pub drop-edit : (t s : List ℕ) (a b k : ℕ) → a ≤ length t → drop (a + length s + k) (edit t a b s) ≡ drop (b + k) t
drop-edit t s a b k l =
    let before : length (take a t ++ s) ≡ a + length s = length-append (take a t) s ∙ omega (arith, length-take a t) in
    sym (drop-drop k (a + length s) (edit t a b s)) ∙ ap (drop k) (drop_at (take a t ++ s) (drop b t) (a + length s) before) ∙ drop-drop k b t

-- the length of an edited text
pub length-edit : (t s : List ℕ) (a b : ℕ) → a ≤ b → b ≤ length t → length (edit t a b s) + b ≡ length t + a + length s
length-edit t s a b l m =
    omega (arith, length-append (take a t ++ s) (drop b t), length-append (take a t) s, length-take a t, length-drop b t)

-- two texts that agree up to place a have the same tokens before the first one whose reach goes past a
prefix_from : (rules : List Expression) (r u : List ℕ) (o a : ℕ) (xs ys : List Token) → o ≤ a → take (a - o) r ≡ take (a - o) u → AreTokens rules r xs → AreTokens rules u ys
    → take (prefix_len (λ x. nat_le (x.start + x.token.reach) a) (placed o xs)) xs ≡ take (prefix_len (λ x. nat_le (x.start + x.token.reach) a) (placed o xs)) ys
prefix_from rules r u o a [] ys l same p q = refl
prefix_from rules r u o a (x ∷ xs) ys l same p q =
    go (nat_le (o + x.reach) a) refl ys q (λ zs less rest z. prefix_from rules (drop x.length r) (drop x.length u) (o + x.length) a xs zs less rest p.1 z)
  where
    n : ℕ
    n = prefix_len (λ x. nat_le (x.start + x.token.reach) a) (placed (o + x.length) xs)

    go : (b : Bool) → nat_le (o + x.reach) a ≡ b → (zs : List Token) → AreTokens rules u zs
        → ((ws : List Token) → o + x.length ≤ a → take (a - (o + x.length)) (drop x.length r) ≡ take (a - (o + x.length)) (drop x.length u)
        → AreTokens rules (drop x.length u) ws → take n xs ≡ take n ws)
        → take (cond b (1 + n) 0) (x ∷ xs) ≡ take (cond b (1 + n) 0) zs
    go false e zs z later = refl
    go true e [] z later =
        let reach : o + x.reach ≤ a = leb-true _ _ e in
        let near : take x.reach r ≡ take x.reach u = sym (take-take x.reach (a - o) r (omega arith)) ∙ ap (take x.reach) same ∙ take-take x.reach (a - o) u (omega arith) in
        let here : IsToken rules u x = IsToken-local rules r u x near p.0 in
        absurd (no_token rules u x here (ap length z))
    go true e (y ∷ ws) z later =
        let reach : o + x.reach ≤ a = leb-true _ _ e in
        let near : take x.reach r ≡ take x.reach u = sym (take-take x.reach (a - o) r (omega arith)) ∙ ap (take x.reach) same ∙ take-take x.reach (a - o) u (omega arith) in
        let here : IsToken rules u x = IsToken-local rules r u x near p.0 in
        let first : x ≡ y = IsToken-unique rules u x y here z.0 in
        let short : x.length ≤ x.reach = length-le-reach rules r x p.0 in
        let sum : x.length + (a - (o + x.length)) ≡ a - o = omega arith in
        let after : take (a - (o + x.length)) (drop x.length r) ≡ take (a - (o + x.length)) (drop x.length u) =
        sym (drop-take x.length (a - (o + x.length)) r) ∙ ap (λ m. drop x.length (take m r)) sum ∙ ap (drop x.length) same
        ∙ ap (λ m. drop x.length (take m u)) (sym sum) ∙ drop-take x.length (a - (o + x.length)) u in
        let rest : take n xs ≡ take n ws = later ws (omega arith) after (subst (λ v. AreTokens rules (drop v.length u) ws) (sym first) z.1) in
        let more : 1 + n ≡ suc n = omega arith in
        ap (λ m. take m (x ∷ xs)) more ∙ (λ i. first i ∷ rest i) ∙ ap (λ m. take m (y ∷ ws)) (sym more)

module _ (rules : List Expression) (t s : List ℕ) (e : Edit) (inside : e.at + e.removed ≤ length t) (inserted : e.inserted ≡ length s)
    (old new : List Token) (p : AreTokens rules t old) (q : AreTokens rules (edit t e.at (e.at + e.removed) s) new) where
  -- from a place of the new text after the edit and the place of the old one from which it was moved
  tail_from : (i j : ℕ) → i ≤ length old → j ≤ length new
      → slice_index_or (boundaries 0 old) i 0 + e.inserted ≡ slice_index_or (boundaries 0 new) j 0 + e.removed
      → e.at + e.inserted ≤ slice_index_or (boundaries 0 new) j 0
      → drop i old ≡ drop j new
  tail_from i j l m moved after =
      let o = slice_index_or (boundaries 0 old) i 0 in
      let k = slice_index_or (boundaries 0 new) j 0 - (e.at + e.inserted) in
      let here : slice_index_or (boundaries 0 new) j 0 ≡ e.at + length s + k = omega (arith, inserted) in
      let there : e.at + e.removed + k ≡ o = omega arith in
      let same : drop (slice_index_or (boundaries 0 new) j 0) (edit t e.at (e.at + e.removed) s) ≡ drop o t =
      ap (λ n. drop n (edit t e.at (e.at + e.removed) s)) here ∙ drop-edit t s e.at (e.at + e.removed) k (omega (arith, inside)) ∙ ap (λ n. drop n t) there in
      AreTokens-unique rules (drop o t) (drop i old) (drop j new)
      (AreTokens-drop rules t 0 0 i old p l)
      (subst (λ u. AreTokens rules u (drop j new)) same (AreTokens-drop rules (edit t e.at (e.at + e.removed) s) 0 0 j new q m))

  -- the end of the text is such a place
  end_rejoined : is_rejoined e old (slice_index_or (boundaries 0 new) (length new) 0) ≡ true
  end_rejoined =
      let q_end : slice_index_or (boundaries 0 new) (length new) 0 ≡ length (edit t e.at (e.at + e.removed) s) = omega (arith, boundaries-end rules (edit t e.at (e.at + e.removed) s) 0 0 new q) in
      let o_end : slice_index_or (boundaries 0 old) (length old) 0 ≡ length t = omega (arith, boundaries-end rules t 0 0 old p) in
      let long : length (edit t e.at (e.at + e.removed) s) + (e.at + e.removed) ≡ length t + e.at + length s = length-edit t s e.at (e.at + e.removed) (omega arith) inside in
      and_from _ _
      (le-leb _ _ (omega (arith, q_end, long, inserted, inside)))
      (list_any_at (λ o. o + e.inserted == slice_index_or (boundaries 0 new) (length new) 0 + e.removed) (boundaries 0 old) (length old) 0
      (omega (arith, length-boundaries 0 old))
      (eq-eqb _ _ (omega (arith, q_end, o_end, long, inserted))))

  -- so the place of rejoining is one of the new tokens' boundaries
  pub rejoin-le-length : rejoin e old new ≤ length new
  rejoin-le-length = go (cases_lt (length new) (rejoin e old new))
    where
      go : (length new < rejoin e old new) ⊎ (rejoin e old new ≤ length new) → rejoin e old new ≤ length new
      go (inl l) =
          let no : is_rejoined e old (slice_index_or (boundaries 0 new) (length new) 0) ≡ false = fails_before_first (is_rejoined e old) (boundaries 0 new) (length new) 0 l in
          absurd (false≢true (sym no ∙ end_rejoined))
      go (inr l) = l

  -- From the place of rejoining on, the new tokens are the last ones of the old.
  pub tail_kept : drop (length old - (length new - rejoin e old new)) old ≡ drop (rejoin e old new) new
  tail_kept =
      let j = rejoin e old new in
      let passes : is_rejoined e old (slice_index_or (boundaries 0 new) j 0) ≡ true = passes_at_first (is_rejoined e old)
      (boundaries 0 new) 0 (omega (arith, length-boundaries 0 new, rejoin-le-length)) in
      let parts = and_parts _ _ passes in
      let some = Any-from_list_any (λ o. o + e.inserted == slice_index_or (boundaries 0 new) j 0 + e.removed) (boundaries 0 old) parts.1 in
      let i : ℕ = some.0 in
      let within : i ≤ length old = before_end i (length (boundaries 0 old)) (length old) some.2 (length-boundaries 0 old) in
      let place : slice_index_or (boundaries 0 old) i 0 ≡ some.1 = get_or_default (boundaries 0 old) i 0 some.1 some.2 ∙ some.3 in
      let moved : some.1 + e.inserted ≡ slice_index_or (boundaries 0 new) j 0 + e.removed = eqb-true _ _ some.4 in
      let same : drop i old ≡ drop j new = tail_from i j within rejoin-le-length (omega (arith, place, moved)) (leb-true _ _ parts.0) in
      let many : length old - i ≡ length new - j = sym (length-drop i old) ∙ ap length same ∙ length-drop j new in
      let index : length old - (length new - j) ≡ i = sub-sub i (length old) (length new - j) within many in
      ap (λ n. drop n old) index ∙ same

  -- The tokens before the first one whose reach goes past the place of the edit are the first ones of the new.
  pub prefix_kept : take (kept_before e old) old ≡ take (kept_before e old) new
  prefix_kept =
      let agree : take e.at t ≡ take e.at (edit t e.at (e.at + e.removed) s) =
      sym (ap (take e.at) (append_assoc (take e.at t) s (drop (e.at + e.removed) t)) ∙ take_at (take e.at t) (s ++ drop (e.at + e.removed) t) e.at (length-take e.at t ∙ omega (arith, inside))) in
      let whole : e.at ≡ e.at - 0 = omega arith in
      prefix_from rules t (edit t e.at (e.at + e.removed) s) 0 e.at old new (omega arith) (subst (λ n. take n t ≡ take n (edit t e.at (e.at + e.removed) s)) whole agree) p q
