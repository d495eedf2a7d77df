-- Items cut into chunks, one chunk more at a time, the last one first.
use Rattle.seqtree.proofs.Std.{arith, refl, sym, ap, subst, inl, inr, ◌∙◌, length-append, ◌≡◌, ℕ, ◌+◌, ◌<◌, ◌≤◌, ◌⊎◌, List, [], ◌∷◌, ◌++◌, length, All, cases_lt, append-nil, All-append, All-cons, All-nil}
use Rattle.seqtree.proofs.Common.{IsLarge, IsShort, IsMeasure, AreCut, IsCutOff}
use Rattle.seqtree.proofs.Joined.{joined-append}

module _ {X A : Type 0} (items : X → List A) (size : List A → ℕ) (shortest longest : ℕ) (measure : IsMeasure size shortest longest) where
  abbrev Large : X → Type 0
  Large = IsLarge items size shortest

  abbrev Short : X → Type 0
  Short = IsShort items size longest

  none_empty : size [] ≡ 0
  none_empty = omega (arith, measure.adds [] [])

  no_item : (list : List A) → size list ≤ 0 → list ≡ []
  no_item [] h = refl
  no_item (x ∷ xs) h = absurd (omega (arith, h, measure.each x, measure.adds (x ∷ []) xs))

  -- what has no size are no chunks
  pub none_cut : (list : List A) → size list ≤ 0 → AreCut items size shortest longest list []
  none_cut list h = rw (no_item list h) record { joined_are = refl; large = λ _. All-nil Large; short = All-nil Short; one = λ _. omega arith; none = λ _. refl }

  module _ (whole left : List A) (most : ℕ) (chunk : X) (off : IsCutOff items size shortest most whole left chunk) where
    parted : size whole ≡ size left + size (items chunk)
    parted = ap size off.parts ∙ measure.adds left (items chunk)

    -- the chunks of what is left, and this one after them
    pub one_more : 1 ≤ most → most ≤ longest → most ≤ size whole → (size whole ≤ longest → most ≡ size whole) → (most < size whole → most + shortest ≤ size whole)
        → (front : List X) → AreCut items size shortest longest left front → AreCut items size shortest longest whole (front ++ chunk ∷ [])
    one_more some fits within all later front cut = record {
      joined_are =
          joined-append items front (chunk ∷ [])
          ∙ (λ i. cut.joined_are i ++ append-nil (items chunk) i)
          ∙ sym off.parts;
      large = λ h. All-append Large front (chunk ∷ []) (front_large (cases_lt most (size whole))) (All-cons Large chunk [] (chunk_large h (cases_lt most (size whole))) (All-nil Large));
      short = All-append Short front (chunk ∷ []) cut.short (All-cons Short chunk [] (omega (arith, off.short, fits)) (All-nil Short));
      one = λ h. omega (arith, length-append front (chunk ∷ []), ap length (cut.none (off.all (omega (arith, all h)))));
      none = λ e. absurd (omega (arith, some, within, ap size e, none_empty));
    }
      where
        front_large : (most < size whole) ⊎ (size whole ≤ most) → All Large front
        front_large (inl m) = cut.large (omega (arith, later m, off.short, parted))
        front_large (inr m) = subst (All Large) (sym (cut.none (off.all m))) (All-nil Large)

        chunk_large : shortest ≤ size whole → (most < size whole) ⊎ (size whole ≤ most) → shortest ≤ size (items chunk)
        chunk_large h (inl m) = off.large m
        chunk_large h (inr m) = omega (arith, h, parted, ap size (off.all m), none_empty)
