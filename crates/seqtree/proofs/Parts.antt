-- The parts that an iterator has still to give, as a stack, and what is left of a node's items.
use Rattle.seqtree.proofs.Std.{◌≡◌, ℕ, suc, ◌+◌, ◌<◌, ◌≤◌, List, [], ◌∷◌, ◌++◌, length, length-append, drop, refl, sym, ap, ◌∙◌, arith, append-nil, drop-append-le, drop-append_seam, drop-append-add}
use Rattle.seqtree.proofs.Common.{part_items, items_ahead, AreParts, IsPart, Part}
use Rattle.std.proofs.Common.{append_assoc}

module _ {A S : Type 0} where
  -- what is on top comes first
  pub items_ahead-push : (ps : List (Part A S)) (p : Part A S) → items_ahead (ps ++ p ∷ []) ≡ part_items p ++ items_ahead ps
  items_ahead-push [] p = sym (append-nil (part_items p))
  items_ahead-push (q ∷ ps) p = ap (λ xs. xs ++ part_items q) (items_ahead-push ps p) ∙ append_assoc (part_items p) (items_ahead ps) (part_items q)

  pub AreParts-push : (k n : ℕ) (ps : List (Part A S)) (p : Part A S) → n ≡ k + length ps → AreParts k ps → IsPart n p → AreParts k (ps ++ p ∷ [])
  AreParts-push k n [] p e h i = let f : n ≡ k = omega arith in (rw f at i, tt)
  AreParts-push k n (q ∷ ps) p e h i = (h.0, AreParts-push (k + 1) n ps p (omega arith) h.1 i)

  pub AreParts-below : (k : ℕ) (ps : List (Part A S)) (p : Part A S) → AreParts k (ps ++ p ∷ []) → AreParts k ps
  AreParts-below k [] p h = tt
  AreParts-below k (q ∷ ps) p h = (h.0, AreParts-below (k + 1) ps p h.1)

  pub AreParts-top : (k n : ℕ) (ps : List (Part A S)) (p : Part A S) → n ≡ k + length ps → AreParts k (ps ++ p ∷ []) → IsPart n p
  AreParts-top k n [] p e h = let f : n ≡ k = omega arith in rw f h.0
  AreParts-top k n (q ∷ ps) p e h = AreParts-top (k + 1) n ps p (omega arith) h.1

-- the items `all` of a node, with x between xs and ys
module _ {A : Type 0} (all xs : List A) (x : A) (ys : List A) (is : all ≡ xs ++ x ∷ ys) where
  pub length_around : length all ≡ length xs + 1 + length ys
  length_around = omega (arith, ap length is, length-append xs (x ∷ ys))

  pub drop-to_root : (s : ℕ) → s ≡ length xs → drop s all ≡ x ∷ ys
  drop-to_root s e = rw (is, e) (drop-append_seam xs (x ∷ ys))

  pub drop-in_left : (s n : ℕ) (back : List A) → s < n → n ≡ length xs → drop s xs ++ (drop n all ++ back) ≡ drop s all ++ back
  drop-in_left s n back lt e =
      let le : s ≤ length xs = omega arith in
      let f : drop s all ≡ drop s xs ++ drop n all = rw (drop-to_root n e, is) (drop-append-le s xs (x ∷ ys) le) in
      rw (f, append_assoc)

  pub drop-in_right : (s r : ℕ) → s ≡ length xs + 1 + r → drop s all ≡ drop r ys
  drop-in_right s r e = let f : s ≡ length xs + suc r = omega arith in rw (is, f) (drop-append-add xs (x ∷ ys) (suc r))

pub no_item : {A : Type 0} (xs : List A) → length xs ≤ 0 → xs ≡ []
no_item [] h = refl
no_item (x ∷ xs) h = absurd (omega arith)
