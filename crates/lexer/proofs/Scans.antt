-- Tokens made one after another.
use Rattle.lexer.proofs.Std.{arith, cases_lt, slice_get_past, append-nil, drop-drop, drop_all, map-append, sum_by-append, sum_by_push, All-nil, All-cons, All-append}
use Rattle.lexer.proofs.Std.{inl, inr, sym, ap, subst, ◌∙◌, ◌≡◌, ℕ, ◌+◌, ◌<◌, ◌≤◌, ◌^◌, Bool, List, [], ◌∷◌, ◌++◌, length, take, drop, map, All, Option, Some, None, IfSome, IsSomeAnd}
use Rattle.lexer.proofs.Common.{Expression, Matches, IsPiece, IsToken, AreTokens, Leads, is_skipped, chars, leads_join, leads_more, leads_tokens, kind_of, Lexicon, Token, kind_in, plain, characters, AreMade, AreNext}
use Rattle.lexer.proofs.Remakes.{chars-plain}
use Rattle.lexer.proofs.Totals.{length-le-characters}

-- the number of a rule with a token fits 16 bits where there are at most 256 rules
pub rule_fits : (rules : List Expression) (t : List ℕ) (o : Option ℕ) (n : ℕ) → length rules ≤ 256 → IsPiece rules t (kind_of o) n → IfSome o (λ k. k < 2 ^ 16)
rule_fits rules t None n few p = tt
rule_fits rules t (Some k) n few p = elim (cases_lt k (length rules)) [
  | inl lt ↦ omega (arith, lt, few)
  | inr ge ↦ absurd (subst (λ o. IsSomeAnd o (λ rule. Matches rule (take n t))) (slice_get_past rules k ge) p.matches)
]

pub made_none : (skips : List Bool) (born : ℕ) → AreMade skips born []
made_none skips born = record {
  marked = All-nil (λ x. x.skipped ≡ is_skipped skips (kind_in x));
  stamped = All-nil (λ x. x.born ≡ born);
  nonempty = All-nil (λ x. 1 ≤ x.length);
  near = All-nil (λ x. x.reach ≤ 1048577);
}

pub made_join : (skips : List Bool) (born : ℕ) (xs ys : List Token) → AreMade skips born xs → AreMade skips born ys → AreMade skips born (xs ++ ys)
made_join skips born xs ys h k = record {
  marked = All-append (λ x. x.skipped ≡ is_skipped skips (kind_in x)) xs ys h.marked k.marked;
  stamped = All-append (λ x. x.born ≡ born) xs ys h.stamped k.stamped;
  nonempty = All-append (λ x. 1 ≤ x.length) xs ys h.nonempty k.nonempty;
  near = All-append (λ x. x.reach ≤ 1048577) xs ys h.near k.near;
}

one : (P : Token → Type 0) (x : Token) → P x → All P (x ∷ [])
one P x p = All-cons P x [] p (All-nil P)

pub made_more : (skips : List Bool) (born : ℕ) (xs : List Token) (x : Token) → AreMade skips born xs → x.skipped ≡ is_skipped skips (kind_in x)
    → x.born ≡ born → 1 ≤ x.length → x.reach ≤ 1048577 → AreMade skips born (xs ++ x ∷ [])
made_more skips born xs x h a b c d =
    made_join skips born xs (x ∷ []) h
    (record {
      marked = one (λ x. x.skipped ≡ is_skipped skips (kind_in x)) x a;
      stamped = one (λ x. x.born ≡ born) x b;
      nonempty = one (λ x. 1 ≤ x.length) x c;
      near = one (λ x. x.reach ≤ 1048577) x d;
    })

pub characters-more : (xs : List Token) (x : Token) → characters (xs ++ x ∷ []) ≡ characters xs + x.length
characters-more xs x = sum_by_push (λ x. x.length) xs x

-- what is dropped where the tokens from an offset on end
place : (t : List ℕ) (from at : ℕ) (xs : List Token) → at ≡ from + characters xs → drop at t ≡ drop (chars (map plain xs)) (drop from t)
place t from at xs is = ap (λ n. drop n t) (is ∙ ap (λ n. from + n) (sym (chars-plain xs))) ∙ sym (drop-drop (chars (map plain xs)) from t)

-- one more token made
pub lead_one : (rules : List Expression) (t : List ℕ) (from at : ℕ) (made : List Token) (x : Token) → at ≡ from + characters made → Leads rules (drop from t) (map plain made)
    → IsToken rules (drop at t) (plain x) → Leads rules (drop from t) (map plain (made ++ x ∷ []))
lead_one rules t from at made x is l p =
    subst (λ xs. Leads rules (drop from t) xs) (sym (map-append plain made (x ∷ [])))
    (leads_more rules (drop from t) (map plain made) (plain x) l (subst (λ v. IsToken rules v (plain x)) (place t from at made is) p))

module _ (lexicon : Lexicon) (t : List ℕ) where
  pub next_one : (from at : ℕ) (xs : List Token) (x : Token) → AreNext lexicon t from xs at → IsToken lexicon.patterns (drop at t) (plain x)
      → AreMade lexicon.skips 0 (xs ++ x ∷ []) → at + x.length ≤ length t → AreNext lexicon t from (xs ++ x ∷ []) (at + x.length)
  next_one from at xs x h p made l = record {
    leads = lead_one lexicon.patterns t from at xs x h.end_is h.leads p;
    made = made;
    end_is = omega (arith, h.end_is, characters-more xs x);
    inside = l;
  }

  pub next_join : (from at end : ℕ) (xs ys : List Token) → AreNext lexicon t from xs at → AreNext lexicon t at ys end → AreNext lexicon t from (xs ++ ys) end
  next_join from at end xs ys h k = record {
    leads =
        subst (λ zs. Leads lexicon.patterns (drop from t) zs) (sym (map-append plain xs ys))
        (leads_join lexicon.patterns (drop from t) (map plain xs) (map plain ys) h.leads (subst (λ v. Leads lexicon.patterns v (map plain ys)) (place t from at xs h.end_is) k.leads));
    made = made_join lexicon.skips 0 xs ys h.made k.made;
    end_is = omega (arith, h.end_is, k.end_is, sum_by-append (λ x. x.length) xs ys);
    inside = k.inside;
  }

  -- no more tokens than characters
  pub next_few : (from at : ℕ) (xs : List Token) → AreNext lexicon t from xs at → from + length xs ≤ at
  next_few from at xs h = omega (arith, h.end_is, length-le-characters xs h.made.nonempty)

  -- up to the end of the text they are all of its tokens
  pub next_all : (xs : List Token) → AreNext lexicon t 0 xs (length t) → AreTokens lexicon.patterns t (map plain xs)
  next_all xs h =
      let end : length t ≤ chars (map plain xs) = omega (arith, h.end_is, chars-plain xs) in
      subst (λ ys. AreTokens lexicon.patterns t ys) (append-nil (map plain xs)) (leads_tokens lexicon.patterns t (map plain xs) [] h.leads (drop_all (chars (map plain xs)) t end))
