-- What a rescan has made, at a place where no rejoining has been.
use Rattle.lexer.proofs.Std.{take-map, cases_lt, map-append, take-take, length-take, take_all, take-append-le, prefix_len-le-length, sum_by-append, take-append-add, arith, length-append, length-drop}
use Rattle.lexer.proofs.Std.{refl, sym, ap, subst, inl, inr, ◌∙◌, ◌≡◌, ℕ, ◌+◌, ◌-◌, ◌<◌, ◌≤◌, ◌^◌, true, false, List, [], ◌∷◌, ◌++◌, length, take, drop, slice_get, slice_index_or, IsSomeAnd}
use Rattle.lexer.proofs.Common.{GoOn, before_rejoin, chars, chars-cons, chars_from, prefix_before, prefix_leads, leads_inside, leads_join, leads_split, length-placed, placed_at, length-edit, boundaries-end, length-boundaries}
use Rattle.lexer.proofs.Common.{Leads, Edit, Expression, edit, PlainToken, Placed, IsToken, AreTokens, placed, boundaries, kept_before, is_rejoined}
use Rattle.lexer.proofs.Common.{IsWithinReach, Lexicon, Token, plain, characters, Fits, plain_all, prefix_end, IsEdited, IsNeeded, IsReachedByMade, IsPassed, horizon}
use Rattle.lexer.proofs.Totals.{characters-cons}
use Rattle.lexer.proofs.Boundaries.{length-plain, boundary_at, not_after, is_rejoined_at}
use Rattle.lexer.proofs.WithinReach.{within_token}

pub chars-plain : (xs : List Token) → chars (plain_all xs) ≡ characters xs
chars-plain [] = refl
chars-plain (x ∷ xs) = chars-cons (plain x) (plain_all xs) ∙ ap (λ n. x.length + n) (chars-plain xs) ∙ sym (characters-cons x xs)

pub plain-take : (n : ℕ) (xs : List Token) → plain_all (take n xs) ≡ take n (plain_all xs)
plain-take n xs = sym (take-map plain n xs)

-- the tokens of a text have all its characters
pub tokens_length : (rules : List Expression) (t : List ℕ) (xs : List Token) → AreTokens rules t (plain_all xs) → characters xs ≡ length t
tokens_length rules t xs p =
    let whole : take (length xs) xs ≡ xs = take_all (length xs) xs (omega arith) in
    let end : slice_index_or (boundaries 0 (plain_all xs)) (length (plain_all xs)) 0 ≡ 0 + length t = boundaries-end rules t 0 0 (plain_all xs) p in
    sym (ap characters whole) ∙ sym (boundary_at xs (length xs) 0 (omega arith)) ∙ ap (λ n. slice_index_or (boundaries 0 (plain_all xs)) n 0) (sym (length-plain xs)) ∙ end ∙ omega arith

module _ (lexicon : Lexicon) (e : Edit) (items : List Token) (u : List ℕ) (h : IsEdited lexicon e items u) where
  pub removed_fits : Fits items → e.at + e.removed ≤ 2 ^ 30
  removed_fits f = omega (arith, tokens_length lexicon.patterns h.text items h.tokens.tokens, f.short, h.inside)

  prefix_all : Leads lexicon.patterns u (plain_all (take (kept_before e (plain_all items)) items))
  prefix_all =
      subst (λ v. Leads lexicon.patterns v (plain_all (take (kept_before e (plain_all items)) items))) (sym h.new_text)
      (subst (λ xs. Leads lexicon.patterns (edit h.text e.at (e.at + e.removed) h.piece) xs) (sym (plain-take (kept_before e (plain_all items)) items))
      (prefix_leads lexicon.patterns h.text h.piece e (plain_all items) h.inside h.tokens.tokens))

  pub prefix_inside : prefix_end e items ≤ length u
  prefix_inside = subst (λ n. n ≤ length u) (chars-plain (take (kept_before e (plain_all items)) items))
      (leads_inside lexicon.patterns u (plain_all (take (kept_before e (plain_all items)) items)) prefix_all)

  pub kept_before-le : kept_before e (plain_all items) ≤ length items
  kept_before-le = omega (arith, prefix_len-le-length {X = Placed}, length-placed 0 (plain_all items), length-plain items)

  -- the first tokens, which are kept, start before the edit, and no old token is looked for there
  pub prefix_passed : (place at : ℕ) → place ≡ kept_before e (plain_all items) → IsPassed (horizon e at) (record { items = items; place = place })
  prefix_passed place at same j l =
      let inside : j < kept_before e (plain_all items) = omega (arith, same) in
      let start = boundary_at items j 0 (omega (arith, kept_before-le)) in
      omega (arith, prefix_before lexicon.patterns h.text e (plain_all items) j h.tokens.tokens inside, start)

  pub all_lead : (made : List Token) → Leads lexicon.patterns (drop (prefix_end e items) u) (plain_all made)
      → Leads lexicon.patterns u (plain_all (take (kept_before e (plain_all items)) items) ++ plain_all made)
  all_lead made m = leads_join lexicon.patterns u (plain_all (take (kept_before e (plain_all items)) items)) (plain_all made) prefix_all
      (subst (λ n. Leads lexicon.patterns (drop n u) (plain_all made)) (sym (chars-plain (take (kept_before e (plain_all items)) items))) m)

  pub end_rejoins : is_rejoined e (plain_all items) (length u) ≡ true
  end_rejoins =
      let long : length u + (e.at + e.removed) ≡ length h.text + e.at + length h.piece = ap (λ v. length v + (e.at + e.removed)) h.new_text
      ∙ length-edit h.text h.piece e.at (e.at + e.removed) (omega arith) h.inside in
      let sum : characters (take (length items) items) ≡ length h.text = ap characters (take_all (length items) items (omega arith)) ∙ tokens_length lexicon.patterns h.text items h.tokens.tokens in
      is_rejoined_at e items (length u) (length items) (omega (arith, long, h.inserted, h.inside)) (omega arith) (omega (arith, long, sum, h.inserted))

  pub end_moved : characters (take (length items) items) + e.inserted ≡ length u + e.removed
  end_moved =
      let long : length u + (e.at + e.removed) ≡ length h.text + e.at + length h.piece = ap (λ v. length v + (e.at + e.removed)) h.new_text
      ∙ length-edit h.text h.piece e.at (e.at + e.removed) (omega arith) h.inside in
      let sum : characters (take (length items) items) ≡ length h.text = ap characters (take_all (length items) items (omega arith)) ∙ tokens_length lexicon.patterns h.text items h.tokens.tokens in
      omega (arith, long, sum, h.inserted)

  abbrev pub kept : List Token
  kept = take (kept_before e (plain_all items)) items

  pub many : length kept ≡ kept_before e (plain_all items)
  many = length-take (kept_before e (plain_all items)) items ∙ omega (arith, kept_before-le)

  -- no boundary of the new tokens before the place that has been reached is a place of rejoining
  pub not_before : (made : List Token) → ((k : ℕ) → k < length made → is_rejoined e (plain_all items) (prefix_end e items + characters (take k made)) ≡ false)
      → (i : ℕ) → i < length (kept ++ made) → is_rejoined e (plain_all items) (characters (take i (kept ++ made))) ≡ false
  not_before made earlier i l = elim (cases_lt i (length kept)) [
    | inl lt ↦
        let fits : i ≤ length kept = omega arith in
        let prefix_only : take i (kept ++ made) ≡ take i kept = take-append-le i kept made fits in
        let shorter : take i kept ≡ take i items = take-take i (kept_before e (plain_all items)) items (omega (arith, many)) in
        let at : slice_index_or (boundaries 0 (plain_all items)) i 0 ≡ characters (take i items) = boundary_at items i 0 (omega (arith, many, kept_before-le)) in
        let low : slice_index_or (boundaries 0 (plain_all items)) i 0 < e.at = prefix_before lexicon.patterns h.text e (plain_all items) i h.tokens.tokens (omega (arith, many)) in
        not_after e items (characters (take i (kept ++ made))) (omega (arith, low, at, ap characters prefix_only, ap characters shorter))
    | inr ge ↦
        let j = i - length kept in
        let is : i ≡ length kept + j = omega arith in
        let both : take i (kept ++ made) ≡ kept ++ take j made = ap (λ n. take n (kept ++ made)) is ∙ take-append-add kept made j in
        let sum : characters (take i (kept ++ made)) ≡ prefix_end e items + characters (take j made) = ap characters both ∙ sum_by-append (λ x. x.length) kept (take j made) in
        subst (λ n. is_rejoined e (plain_all items) n ≡ false) (sym sum) (earlier j (omega (arith, length-append kept made)))
  ]

  -- Neither is that place itself.
  module _ (made : List Token) (m : Leads lexicon.patterns (drop (prefix_end e items) u) (plain_all made))
      (earlier : (k : ℕ) → k < length made → is_rejoined e (plain_all items) (prefix_end e items + characters (take k made)) ≡ false)
      (here : is_rejoined e (plain_all items) (prefix_end e items + characters made) ≡ false) where
    not_here : (i : ℕ) → i ≤ length (kept ++ made) → is_rejoined e (plain_all items) (characters (take i (kept ++ made))) ≡ false
    not_here i l = elim (cases_lt i (length (kept ++ made))) [
      | inl lt ↦ not_before made earlier i lt
      | inr ge ↦
          let whole : characters (take i (kept ++ made)) ≡ prefix_end e items + characters made = ap characters (take_all i (kept ++ made) ge) ∙ sum_by-append (λ x. x.length) kept made in
          subst (λ n. is_rejoined e (plain_all items) n ≡ false) (sym whole) here
    ]

    joined : plain_all (kept ++ made) ≡ plain_all kept ++ plain_all made
    joined = map-append plain kept made

    -- after them stands a token whose reach holds what is within the reach there
    reached_by : (i : ℕ) → prefix_end e items + characters made < length u → IsWithinReach lexicon.patterns u (prefix_end e items + characters made) i
        → (new : List PlainToken) → AreTokens lexicon.patterns u new → IsReachedByMade e (plain_all items) new i
    reached_by i lt w new p = go later.rest later.joined later.tokens
      where
        later : GoOn lexicon.patterns u (plain_all kept ++ plain_all made) new
        later = leads_split lexicon.patterns u (plain_all kept ++ plain_all made) new (all_lead made m) p

        sum : chars (plain_all kept ++ plain_all made) ≡ prefix_end e items + characters made
        sum = ap chars (sym joined) ∙ chars-plain (kept ++ made) ∙ sum_by-append (λ x. x.length) kept made

        go : (rest : List PlainToken) → new ≡ (plain_all kept ++ plain_all made) ++ rest → AreTokens lexicon.patterns
            (drop (chars (plain_all kept ++ plain_all made)) u) rest → IsReachedByMade e (plain_all items) new i
        go [] is q = absurd (omega (arith, ap length q, length-drop (chars (plain_all kept ++ plain_all made)) u, sum, lt))
        go (y ∷ ys) is q =
            let at : IsToken lexicon.patterns (drop (prefix_end e items + characters made) u) y = subst (λ n. IsToken lexicon.patterns (drop n u) y) sum q.0 in
            let past : i < prefix_end e items + characters made + y.reach = within_token lexicon.patterns u (prefix_end e items + characters made) i y.reach (omega arith) w at.reach in
            let k = length (plain_all kept ++ plain_all made) in
            let size : k ≡ length (kept ++ made) = ap length (sym joined) ∙ length-plain (kept ++ made) in
            let long : length new ≡ k + length (y ∷ ys) = ap length is ∙ length-append (plain_all kept ++ plain_all made) (y ∷ ys) in (
              k,
              omega (arith, size, length-append kept made, many),
              before_rejoin e (plain_all items) new k (omega (arith, length-boundaries 0 new, long)) (λ j l.
                  let fits : j ≤ length (plain_all kept ++ plain_all made) = l in
                  let value : slice_index_or (boundaries 0 new) j 0 ≡ characters (take j (kept ++ made)) =
                  chars_from 0 new j 0 (omega (arith, long))
                  ∙ omega (
                    arith,
                    ap (λ v. chars (take j v)) is,
                    ap chars (take-append-le j (plain_all kept ++ plain_all made) (y ∷ ys) fits),
                    ap (λ v. chars (take j v)) (sym joined),
                    ap chars (sym (plain-take j (kept ++ made))),
                    chars-plain (take j (kept ++ made)),
                  ) in
                  subst (λ n. is_rejoined e (plain_all items) n ≡ false) (sym value) (not_here j (omega (arith, size)))),
              subst (λ v. IsSomeAnd (slice_get (placed 0 v) k) (λ x. i < x.start + x.token.reach)) (sym is)
                  (placed_at 0 (plain_all kept ++ plain_all made) y ys (λ x. i < x.start + x.token.reach) (omega (arith, sum, past))),
            )

    pub needed : (i : ℕ) → prefix_end e items + characters made < length u → IsWithinReach lexicon.patterns u (prefix_end e items + characters made) i → IsNeeded lexicon.patterns e items u i
    needed i lt w = record { past = omega (arith, w.after); inside = w.inside; reached = reached_by i lt w }

pub earlier_one : (e : Edit) (items : List Token) (from : ℕ) (made : List Token) (x : Token)
    → ((k : ℕ) → k < length made → is_rejoined e (plain_all items) (from + characters (take k made)) ≡ false)
    → is_rejoined e (plain_all items) (from + characters made) ≡ false
    → (k : ℕ) → k < length (made ++ x ∷ []) → is_rejoined e (plain_all items) (from + characters (take k (made ++ x ∷ []))) ≡ false
earlier_one e items from made x earlier here k l =
    let fits : k ≤ length made = omega (arith, length-append made (x ∷ [])) in
    let short : take k (made ++ x ∷ []) ≡ take k made = take-append-le k made (x ∷ []) fits in
    subst (λ ys. is_rejoined e (plain_all items) (from + characters ys) ≡ false) (sym short) (elim (cases_lt k (length made)) [
      | inl lt ↦ earlier k lt
      | inr ge ↦ subst (λ ys. is_rejoined e (plain_all items) (from + characters ys) ≡ false) (sym (take_all k made ge)) here
    ])
