-- What is taken from the start of the input, and put back there.
use Rattle.parser.proofs.Std.{◌≡◌, ℕ, ◌-◌, min, List, [], ◌∷◌, ◌++◌, length, Option, Some, None, MatchOption, refl, sym, ap, ◌∙◌, arith, append_assoc, tail-eq_of_cons-eq, head-eq_of_cons-eq, append-nil, nil_from_length}
use Rattle.parser.proofs.Common.{all_kinds, yield, StampedBranch, plain, plain_all, kinds-append, kinds-trees, Child, Node, NodeId, Cell, AreBelow, most, tree, trees_from, forest_of, BeginsWith, IsFull, IsOpened, Skips, plain_of}
use Rattle.parser.proofs.Reductions.{plain-append, plain-children}

pub taken : (r : Option Child) (old new rest : List Child) (c : Child) → MatchOption r ((old ≡ []) × (new ≡ [])) (λ x. old ≡ x ∷ new) → old ≡ c ∷ rest → old ≡ c ∷ new
taken None old new rest c h e = absurd (let k : [] ≡ c ∷ rest = sym h.0 ∙ e in cc k)
taken (Some x) old new rest c h e = h ∙ ap (λ y. y ∷ new) (head-eq_of_cons-eq (sym h ∙ e))

pub begins_none : (cs : List Child) → BeginsWith cs None → cs ≡ []
begins_none cs h = h

-- a list that begins with nothing is not opened
pub still_empty : (before now : List Child) → before ≡ [] → IsOpened before now → now ≡ before
still_empty [] now e h = h
still_empty (d ∷ ds) now e h = absurd (cc e)

pub none_counted : (n : ℕ) → min most n ≡ 0 → n ≡ 0
none_counted n h = grind (arith, h)

pub skips_one : (cells : List Cell) (old now new : List Child) (c : Child) → Skips cells old now → now ≡ c ∷ new → length (yield (plain (tree cells c))) ≡ 0 → Skips cells old new
skips_one cells old now new c h e empty = (h.0 ++ (c ∷ []), h.1 ∙ ap (λ l. h.0 ++ l) e ∙ sym (moved h.0), none h.0 ∙ h.2)
  where
    moved : (gone : List Child) → (gone ++ (c ∷ [])) ++ new ≡ gone ++ (c ∷ new)
    moved [] = refl
    moved (d ∷ gone) = ap (λ l. d ∷ l) (moved gone)

    none : (gone : List Child) → all_kinds (plain_of cells (gone ++ (c ∷ []))) ≡ all_kinds (plain_of cells gone)
    none [] = ap (λ l. l ++ []) (nil_from_length (yield (plain (tree cells c))) empty)
    none (d ∷ gone) = ap (λ l. yield (plain (tree cells d)) ++ l) (none gone)

pub below-gone : (n : ℕ) (gone new : List Child) → AreBelow n (gone ++ new) → AreBelow n new
below-gone n [] new h = h
below-gone n (c ∷ gone) new h = below-gone n gone new h.1

-- the first child is opened, and its kinds are still before the others
abbrev pub IsOpening : List Cell → List Child → List Child → Type 0
IsOpening cells [] now = now ≡ []
IsOpening cells (c ∷ rest) now = (opened : List Child) × (now ≡ opened ++ rest) × (all_kinds (plain_of cells opened) ≡ yield (plain (tree cells c)))

pub opening_begins : (cells : List Cell) (cs : List Child) → IsOpening cells cs cs
opening_begins cells [] = refl
opening_begins cells (c ∷ rest) = (c ∷ [], refl, append-nil (yield (plain (tree cells c))))

-- other children of the same kinds in the place of the first
pub opening_on : (cells : List Cell) (before now rest kids : List Child) (c : Child) → IsFull cells before → IsOpening cells before now → now ≡ c ∷ rest
    → all_kinds (plain_of cells kids) ≡ yield (plain (tree cells c)) → IsOpening cells before (kids ++ rest)
opening_on cells [] now rest kids c full h e same = absurd (let k : [] ≡ c ∷ rest = sym h ∙ e in cc k)
opening_on cells (b ∷ bs) now rest kids c full h e same = go h.0 (sym h.1 ∙ e) h.2
  where
    go : (opened : List Child) → opened ++ bs ≡ c ∷ rest → all_kinds (plain_of cells opened) ≡ yield (plain (tree cells b)) → IsOpening cells (b ∷ bs) (kids ++ rest)
    go [] e' k = absurd (omega (arith, full, ap length k))
    go (o ∷ os) e' k =
        let one : o ≡ c = head-eq_of_cons-eq e' in
        let two : os ++ bs ≡ rest = tail-eq_of_cons-eq e' in (
          kids ++ os,
          ap (λ l. kids ++ l) (sym two) ∙ sym (append_assoc kids os bs),
          ap all_kinds (plain-append cells kids os) ∙ kinds-append (plain_of cells kids) (plain_of cells os)
              ∙ ap (λ l. l ++ all_kinds (plain_of cells os)) (same ∙ ap (λ d. yield (plain (tree cells d))) (sym one)) ∙ k,
        )

pub kids_kinds : (cells : List Cell) (kids : List Child) (id : NodeId) (p b : ℕ) → tree cells (Node id) ≡ StampedBranch p b (forest_of (trees_from [] cells) kids)
    → all_kinds (plain_of cells kids) ≡ yield (plain (tree cells (Node id)))
kids_kinds cells kids id p b e = ap all_kinds (plain-children (trees_from [] cells) kids) ∙ kinds-trees (plain_all (forest_of (trees_from [] cells) kids)) ∙ sym (ap (λ s. yield (plain s)) e)
