-- Where a text may be cut.
use Rattle.pieces.proofs.Std.{IsUtf8, IsCharBoundary, all_scalars, chars, len_utf8, refl, sym, ap, subst, inl, inr, ◌∙◌, ◌≡◌, ℕ, zero, suc, ◌+◌, ◌<◌, ◌≤◌, true, List, [], ◌∷◌, ◌++◌, length, take, drop, encode_utf8_all}
use Rattle.pieces.proofs.Std.{cases_lt, and_parts, and_from, take-append-drop, take-append_seam, drop-append_seam, IsUtf8-drop, IsCharBoundary-past_char, IsCharBoundary-start, IsCharBoundary-at_seam, len_utf8_bounds, chars-encodes, scalars-chars, encodes-chars, encodes-append, arith, length-drop}
use Rattle.pieces.proofs.Common.{units, Utf8}
use Rattle.pieces.proofs.Joins.{units-bytes}

-- the first place from n on at which a text may be cut
module _ (bs : List ℕ) (at n : ℕ) (u : IsUtf8 bs) (inside : n ≤ length bs) (none : (i : ℕ) → n ≤ i → i < at → ¬ (IsCharBoundary bs i)) where
  pub not_past : (i : ℕ) → IsCharBoundary bs i → n ≤ i → at ≤ i
  not_past i b l = elim (cases_lt i at) [ inl h ↦ absurd (none i l h b) | inr h ↦ h ]

  -- the place after a character
  next : (s : ℕ) → IsCharBoundary bs s → s < length bs → (t : ℕ) × (IsCharBoundary bs t × ((s < t) × (t ≤ s + 4)))
  next s b l = go (IsUtf8-drop bs s u b).0 (IsUtf8-drop bs s u b).1.1
    where
      go : (cs : List ℕ) → encode_utf8_all cs ≡ drop s bs → (t : ℕ) × (IsCharBoundary bs t × ((s < t) × (t ≤ s + 4)))
      go [] e = absurd (omega (arith, l, length-drop s bs, ap length e))
      go (c ∷ cs) e = (s + len_utf8 c, (IsCharBoundary-past_char bs (encode_utf8_all cs) s c b.0 (IsUtf8-drop bs s u b) (sym e), (omega (arith, len_utf8_bounds c), omega (arith, len_utf8_bounds c))))

  near_from : (k s : ℕ) → IsCharBoundary bs s → s ≤ n → n ≤ s + k → at < n + 4
  near_from zero s b l m = omega (arith, l, not_past s b (omega (arith, m)))
  near_from (suc k) s b l m = elim (cases_lt s n) [
    | inl i ↦
        let t = next s b (omega (arith, i, inside)) in
        elim (cases_lt n t.0) [ inl h ↦ omega (arith, i, t.1.1.1, not_past t.0 t.1.0 (omega (arith, h))) | inr h ↦ near_from k t.0 t.1.0 h (omega (arith, m, t.1.1.0)) ]
    | inr i ↦ omega (arith, l, not_past s b i)
  ]

  -- it is less than the 4 bytes of a character after n
  pub near : at < n + 4
  near = near_from n 0 (IsCharBoundary-start bs u) (omega arith) (omega arith)

-- the parts of a text's characters are texts
scalars_parted : (cs : List ℕ) (n : ℕ) → all_scalars cs ≡ true → (all_scalars (take n cs) ≡ true) × (all_scalars (drop n cs) ≡ true)
scalars_parted cs zero h = (refl, h)
scalars_parted [] (suc n) h = (refl, refl)
scalars_parted (c ∷ cs) (suc n) h =
    let parts = and_parts _ (all_scalars cs) h in
    let rest = scalars_parted cs n parts.1 in
    (and_from _ (all_scalars (take n cs)) parts.0 rest.0, rest.1)

-- a text cut after so many of its characters
pub record IsBorder (bs : List ℕ) (n at : ℕ) : Type 0 where
  pub boundary : IsCharBoundary bs at
  pub prefix : chars (take at bs) ≡ take n (chars bs)
  pub back : chars (drop at bs) ≡ drop n (chars bs)

pub border : (bs : List ℕ) (n at : ℕ) → IsUtf8 bs → at ≡ units Utf8 (take n (chars bs)) → IsBorder bs n at
border bs n at u e =
    let cs : List ℕ = chars bs in
    let prefix : List ℕ = encode_utf8_all (take n cs) in
    let back : List ℕ = encode_utf8_all (drop n cs) in
    let scalars = scalars_parted cs n (scalars-chars bs u) in
    let whole : bs ≡ prefix ++ back = sym (encodes-chars bs u) ∙ ap encode_utf8_all (sym (take-append-drop n cs)) ∙ encodes-append (take n cs) (drop n cs) in
    let here : at ≡ length prefix = e ∙ units-bytes (take n cs) in
    record {
      boundary = subst (IsCharBoundary bs) (sym here) (IsCharBoundary-at_seam bs prefix back whole (drop n cs, (scalars.1, refl)));
      prefix = ap chars ((λ i. take (here i) (whole i)) ∙ take-append_seam prefix back) ∙ chars-encodes (take n cs) scalars.0;
      back = ap chars ((λ i. drop (here i) (whole i)) ∙ drop-append_seam prefix back) ∙ chars-encodes (drop n cs) scalars.1;
    }
