-- The first tokens of a text: with those of what they leave they are all its tokens, and the prefix that an edit keeps leads
-- the edited text.
use Rattle.definitions.proofs.Std.{prefix_len, refl, sym, ap, subst, inl, inr, ◌∙◌, cond, ◌≡◌, ℕ, zero, suc, ◌+◌, ◌-◌, ◌<◌, ◌≤◌, Bool, true, false, nat_le, List, [], ◌∷◌, ◌++◌, length, take, drop, sum_by, slice_get, slice_index_or, IsSomeAnd}
use Rattle.definitions.proofs.Std.{cases_lt, leb-true, false≢true, append_assoc, take-take, drop-take, drop-drop, take_at, length-take, sum_by-cons, passes_at_first, arith, length-drop}
use Rattle.definitions.proofs.Common.{Edit, Expression, edit, Token, Placed, IsToken, AreTokens, Leads, placed, boundaries, kept_before, is_rejoined, rejoin}
use Rattle.definitions.proofs.TokensLocal.{IsToken-local, length-le-reach}
use Rattle.definitions.proofs.TokensUnique.{IsToken-unique, IsPiece-inside, no_token}

-- their characters
abbrev pub chars : List Token → ℕ
chars xs = sum_by (λ x. x.length) xs

pub chars-cons : (x : Token) (xs : List Token) → chars (x ∷ xs) ≡ x.length + chars xs
chars-cons x xs = sum_by-cons (λ x. x.length) x xs

-- where what is left after them has tokens, these are all the tokens
pub leads_tokens : (rules : List Expression) (u : List ℕ) (xs rest : List Token) → Leads rules u xs → AreTokens rules (drop (chars xs) u) rest → AreTokens rules u (xs ++ rest)
leads_tokens rules u [] rest h r = r
leads_tokens rules u (x ∷ xs) rest h r =
    let whole : drop (chars (x ∷ xs)) u ≡ drop (chars xs) (drop x.length u) = ap (λ n. drop n u) (chars-cons x xs) ∙ sym (drop-drop (chars xs) x.length u) in
    (h.0, leads_tokens rules (drop x.length u) xs rest h.1 (subst (λ v. AreTokens rules v rest) whole r))

pub leads_more : (rules : List Expression) (u : List ℕ) (xs : List Token) (x : Token) → Leads rules u xs → IsToken rules (drop (chars xs) u) x → Leads rules u (xs ++ x ∷ [])
leads_more rules u [] x h p = (p, tt)
leads_more rules u (y ∷ xs) x h p =
    let whole : drop (chars (y ∷ xs)) u ≡ drop (chars xs) (drop y.length u) = ap (λ n. drop n u) (chars-cons y xs) ∙ sym (drop-drop (chars xs) y.length u) in
    (h.0, leads_more rules (drop y.length u) xs x h.1 (subst (λ v. IsToken rules v x) whole p))

pub leads_join : (rules : List Expression) (u : List ℕ) (xs ys : List Token) → Leads rules u xs → Leads rules (drop (chars xs) u) ys → Leads rules u (xs ++ ys)
leads_join rules u [] ys h r = r
leads_join rules u (x ∷ xs) ys h r =
    let whole : drop (chars (x ∷ xs)) u ≡ drop (chars xs) (drop x.length u) = ap (λ n. drop n u) (chars-cons x xs) ∙ sym (drop-drop (chars xs) x.length u) in
    (h.0, leads_join rules (drop x.length u) xs ys h.1 (subst (λ v. Leads rules v ys) whole r))

-- All tokens of a text that is led by xs are xs and those of what is left.
pub record GoOn (rules : List Expression) (u : List ℕ) (xs new : List Token) : Type 0 where
  pub rest : List Token
  pub joined : new ≡ xs ++ rest
  pub tokens : AreTokens rules (drop (chars xs) u) rest

pub leads_split : (rules : List Expression) (u : List ℕ) (xs new : List Token) → Leads rules u xs → AreTokens rules u new → GoOn rules u xs new
leads_split rules u [] new h p = record { rest = new; joined = refl; tokens = p }
leads_split rules u (x ∷ xs) [] h p = absurd (no_token rules u x h.0 (ap length p))
leads_split rules u (x ∷ xs) (y ∷ new) h p =
    let same : y ≡ x = IsToken-unique rules u y x p.0 h.0 in
    let tail : AreTokens rules (drop x.length u) new = subst (λ z. AreTokens rules (drop z.length u) new) same p.1 in
    let later : GoOn rules (drop x.length u) xs new = leads_split rules (drop x.length u) xs new h.1 tail in
    let whole : drop (chars xs) (drop x.length u) ≡ drop (chars (x ∷ xs)) u = drop-drop (chars xs) x.length u ∙ sym (ap (λ n. drop n u) (chars-cons x xs)) in
    record { rest = later.rest; joined = λ i. same i ∷ later.joined i; tokens = subst (λ v. AreTokens rules v later.rest) whole later.tokens }

-- they lie in the text
pub leads_inside : (rules : List Expression) (u : List ℕ) (xs : List Token) → Leads rules u xs → chars xs ≤ length u
leads_inside rules u [] h = omega arith
leads_inside rules u (x ∷ xs) h =
    let inside : (1 ≤ x.length) × (x.length ≤ length u) = IsPiece-inside rules u x.kind x.length h.0.piece in
    omega (arith, chars-cons x xs, leads_inside rules (drop x.length u) xs h.1, length-drop x.length u, inside.1)

pub length-placed : (o : ℕ) (xs : List Token) → length (placed o xs) ≡ length xs
length-placed o [] = refl
length-placed o (x ∷ xs) = ap suc (length-placed (o + x.length) xs)

-- a boundary is as far from the first one as there are characters before it
pub chars_from : (o : ℕ) (xs : List Token) (j d : ℕ) → j ≤ length xs → slice_index_or (boundaries o xs) j d ≡ o + chars (take j xs)
chars_from o [] zero d l = omega arith
chars_from o [] (suc j) d l = absurd (omega arith)
chars_from o (x ∷ xs) zero d l = omega arith
chars_from o (x ∷ xs) (suc j) d l = omega (arith, chars_from (o + x.length) xs j d (omega arith), chars-cons x (take j xs))

-- two texts that agree up to place a: the tokens of the one before the first whose reach goes past a lead the other
prefix_leads_from : (rules : List Expression) (r u : List ℕ) (o a : ℕ) (xs : List Token) → o ≤ a → take (a - o) r ≡ take (a - o) u → AreTokens rules r xs
    → Leads rules u (take (prefix_len (λ x. nat_le (x.start + x.token.reach) a) (placed o xs)) xs)
prefix_leads_from rules r u o a [] l same p = tt
prefix_leads_from rules r u o a (x ∷ xs) l same p =
    go (nat_le (o + x.reach) a) refl (λ less rest. prefix_leads_from rules (drop x.length r) (drop x.length u) (o + x.length) a xs less rest p.1)
  where
    n : ℕ
    n = prefix_len (λ x. nat_le (x.start + x.token.reach) a) (placed (o + x.length) xs)

    go : (b : Bool) → nat_le (o + x.reach) a ≡ b
        → (o + x.length ≤ a → take (a - (o + x.length)) (drop x.length r) ≡ take (a - (o + x.length)) (drop x.length u) → Leads rules (drop x.length u) (take n xs))
        → Leads rules u (take (cond b (1 + n) 0) (x ∷ xs))
    go false e later = tt
    go true e later =
        let reach : o + x.reach ≤ a = leb-true _ _ e in
        let near : take x.reach r ≡ take x.reach u = sym (take-take x.reach (a - o) r (omega arith)) ∙ ap (take x.reach) same ∙ take-take x.reach (a - o) u (omega arith) in
        let here : IsToken rules u x = IsToken-local rules r u x near p.0 in
        let short : x.length ≤ x.reach = length-le-reach rules r x p.0 in
        let sum : x.length + (a - (o + x.length)) ≡ a - o = omega arith in
        let after : take (a - (o + x.length)) (drop x.length r) ≡ take (a - (o + x.length)) (drop x.length u) =
        sym (drop-take x.length (a - (o + x.length)) r) ∙ ap (λ m. drop x.length (take m r)) sum ∙ ap (drop x.length) same
        ∙ ap (λ m. drop x.length (take m u)) (sym sum) ∙ drop-take x.length (a - (o + x.length)) u in
        let more : 1 + n ≡ suc n = omega arith in
        subst (λ m. Leads rules u (take m (x ∷ xs))) (sym more) (here, later (omega arith) after)

-- the kept prefix leads the edited text
pub prefix_leads : (rules : List Expression) (t s : List ℕ) (e : Edit) (old : List Token) → e.at + e.removed ≤ length t → AreTokens rules t old
    → Leads rules (edit t e.at (e.at + e.removed) s) (take (kept_before e old) old)
prefix_leads rules t s e old inside p =
    let agree : take e.at t ≡ take e.at (edit t e.at (e.at + e.removed) s) =
    sym (ap (take e.at) (append_assoc (take e.at t) s (drop (e.at + e.removed) t)) ∙ take_at (take e.at t) (s ++ drop (e.at + e.removed) t) e.at (length-take e.at t ∙ omega (arith, inside))) in
    let whole : e.at ≡ e.at - 0 = omega arith in
    prefix_leads_from rules t (edit t e.at (e.at + e.removed) s) 0 e.at old (omega arith) (subst (λ n. take n t ≡ take n (edit t e.at (e.at + e.removed) s)) whole agree) p

-- the token that stands after others
pub placed_at : (o : ℕ) (xs : List Token) (y : Token) (ys : List Token) (P : Placed → Type 0) → P (record { start = o + chars xs; token = y })
    → IsSomeAnd (slice_get (placed o (xs ++ y ∷ ys)) (length xs)) P
placed_at o [] y ys P h = let e : o + 0 ≡ o = omega arith in subst (λ n. P (record { start = n; token = y })) e h
placed_at o (x ∷ xs) y ys P h =
    let e : o + chars (x ∷ xs) ≡ o + x.length + chars xs = omega (arith, chars-cons x xs) in
    placed_at (o + x.length) xs y ys P (subst (λ n. P (record { start = n; token = y })) e h)

-- a place before which no boundary is one of rejoining lies before the first such
pub before_rejoin : (e : Edit) (old new : List Token) (k : ℕ) → k < length (boundaries 0 new)
    → ((i : ℕ) → i ≤ k → is_rejoined e old (slice_index_or (boundaries 0 new) i 0) ≡ false) → k < rejoin e old new
before_rejoin e old new k l h = elim (cases_lt k (rejoin e old new)) [
  | inl lt ↦ lt
  | inr ge ↦
      let found : is_rejoined e old (slice_index_or (boundaries 0 new) (rejoin e old new) 0) ≡ true = passes_at_first (is_rejoined e old) (boundaries 0 new) 0 (omega arith) in
      absurd (false≢true (sym (h (rejoin e old new) ge) ∙ found))
]

-- no kept token of the prefix starts after the place of the edit
prefix_starts : (rules : List Expression) (r : List ℕ) (o a : ℕ) (xs : List Token) (i : ℕ) → AreTokens rules r xs
    → i < prefix_len (λ x. nat_le (x.start + x.token.reach) a) (placed o xs) → slice_index_or (boundaries o xs) i 0 < a
prefix_starts rules r o a [] i p l = absurd (omega arith)
prefix_starts rules r o a (x ∷ xs) i p l = go i (nat_le (o + x.reach) a) refl l (λ j m. prefix_starts rules (drop x.length r) (o + x.length) a xs j p.1 m)
  where
    n : ℕ
    n = prefix_len (λ x. nat_le (x.start + x.token.reach) a) (placed (o + x.length) xs)

    go : (i : ℕ) (b : Bool) → nat_le (o + x.reach) a ≡ b → i < cond b (1 + n) 0 → ((j : ℕ) → j < n → slice_index_or (boundaries (o + x.length) xs) j 0 < a)
        → slice_index_or (boundaries o (x ∷ xs)) i 0 < a
    go i false e m later = absurd (omega arith)
    go zero true e m later =
        let reach : o + x.reach ≤ a = leb-true _ _ e in
        let inside : (1 ≤ x.length) × (x.length ≤ length r) = IsPiece-inside rules r x.kind x.length p.0.piece in
        omega (arith, reach, inside.0, length-le-reach rules r x p.0)
    go (suc i) true e m later = later i (omega arith)

pub prefix_before : (rules : List Expression) (t : List ℕ) (e : Edit) (old : List Token) (i : ℕ) → AreTokens rules t old → i < kept_before e old → slice_index_or (boundaries 0 old) i 0 < e.at
prefix_before rules t e old i p l = prefix_starts rules t 0 e.at old i p l
