-- Blanks before a part and after it.
use Rattle.patterns.proofs.Std.{◌≡◌, ℕ, ◌≤◌, List, [], ◌∷◌, ◌++◌, length, refl, sym, ◌∙◌, ap, subst, inl, inr, append_assoc, arith, append-nil, AllByRecursion}
use Rattle.patterns.proofs.Common.{Expression, Written, Before, Nothing, Outside, fault_from, IsBlank, Level, SpellsAt, blank_before, blank_after, Character, writing, HasNoBlank, IsBlankAt, IsBlanks, IsPart, IsRead}
use Rattle.patterns.proofs.Literals.{by_plain}

all_after : (P : Written → Type 0) (us : List Written) (w : Written) → AllByRecursion P us → P w → AllByRecursion P (us ++ w ∷ [])
all_after P [] w h p = (p, tt)
all_after P (u ∷ us) w h p = (h.0, all_after P us w h.1 p)

pub no_blanks : (ws : List Written) → IsBlanks ws ws
no_blanks ws = ([], refl, tt)

pub one_more_blank : (ws vs rest : List Written) → IsBlanks ws vs → IsBlankAt vs rest → IsBlanks ws rest
one_more_blank ws vs rest (us, e, all) (w, f, blank) =
    (us ++ w ∷ [], e ∙ ap (λ x. us ++ x) f ∙ sym (append_assoc us (w ∷ []) rest), all_after IsBlank us w all blank)

pub blank_step : (n d : ℕ) (b : Before) (w : Written) (ws : List Written) → IsBlank w → fault_from n (Outside d b) (w ∷ ws) ≡ fault_from n (Outside d b) ws
blank_step n d b w ws (inl h) = by_plain (λ x. fault_from n (Outside d b) (x ∷ ws) ≡ fault_from n (Outside d b) ws) 32 w (λ o. refl) h
blank_step n d b w ws (inr h) = by_plain (λ x. fault_from n (Outside d b) (x ∷ ws) ≡ fault_from n (Outside d b) ws) 9 w (λ o. refl) h

blanks_steps : (n d : ℕ) (b : Before) (us ws : List Written) → AllByRecursion IsBlank us → fault_from n (Outside d b) (us ++ ws) ≡ fault_from n (Outside d b) ws
blanks_steps n d b [] ws all = refl
blanks_steps n d b (u ∷ us) ws all = blank_step n d b u (us ++ ws) all.0 ∙ blanks_steps n d b us ws all.1

-- blanks change no state outside literals and classes
pub blanks_skipped : (n d : ℕ) (b : Before) (ws vs : List Written) → IsBlanks ws vs → fault_from n (Outside d b) ws ≡ fault_from n (Outside d b) vs
blanks_skipped n d b ws vs (us, e, all) = ap (fault_from n (Outside d b)) e ∙ blanks_steps n d b us vs all

spells_after : (l : Level) (d : ℕ) (e : Expression) (us ws : List Written) → AllByRecursion IsBlank us → SpellsAt l d e ws → SpellsAt l d e (us ++ ws)
spells_after l d e [] ws all s = s
spells_after l d e (u ∷ us) ws all s = blank_before l d (us ++ ws) u all.0 (spells_after l d e us ws all.1 s)

spells_before : (l : Level) (d : ℕ) (e : Expression) (us ws : List Written) → AllByRecursion IsBlank us → SpellsAt l d e ws → SpellsAt l d e (ws ++ us)
spells_before l d e [] ws all s = let P : List Written → Type 0 = SpellsAt l d e in subst P (sym (append-nil ws)) s
spells_before l d e (u ∷ us) ws all s =
    let P : List Written → Type 0 = SpellsAt l d e in
    subst P (append_assoc ws (u ∷ []) us) (spells_before l d e us (ws ++ u ∷ []) all.1 (blank_after l d ws (ws ++ u ∷ []) u refl all.0 s))

-- a part with the blanks after it
pub blanks_after_part : (l : Level) (d : ℕ) (e : Expression) (ws vs rest : List Written) → IsPart l d e ws vs → IsBlanks vs rest → IsPart l d e ws rest
blanks_after_part l d e ws vs rest (part, f, s) (us, g, all) =
    (part ++ us, f ∙ ap (λ x. part ++ x) g ∙ sym (append_assoc part us rest), spells_before l d e us part all s)

-- `rest` is left of `words` after its blanks
abbrev pub Skips : List Character → List Character → Type 0
Skips words rest = IsBlanks (writing words) (writing rest) × HasNoBlank (writing rest) × (length rest ≤ length words)

-- a part with the blanks before it and after it
pub among_blanks : {l : Level} {d n : ℕ} {after : Before} {words inside rest left : List Character} {e : Expression} → Skips words inside
    → IsRead l d after n inside rest e → Skips rest left → IsRead l d after n words left e
among_blanks {l = l} {d = d} {n = n} {after = b} {words = words} {inside = inside} {rest = rest} {left = left} {e = e} ((us, f, all), _, short) h (blanks, _, shorter) =
    let (part, g, s) = h.spelled in record {
      spelled = blanks_after_part l d e (writing words) (writing rest) (writing left)
          (us ++ part, f ∙ ap (λ x. us ++ x) g ∙ sym (append_assoc us part (writing rest)), spells_after l d e us part all s) blanks;
      sound = h.sound;
      shorter = omega (arith, h.shorter);
      goes_on = blanks_skipped n d Nothing (writing words) (writing inside) (us, f, all) ∙ h.goes_on ∙ blanks_skipped n d b (writing rest) (writing left) blanks;
    }
