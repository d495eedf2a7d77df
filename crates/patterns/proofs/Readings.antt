-- A text and the characters that it writes.
use Rattle.patterns.proofs.Std.{◌≡◌, ℕ, true, false, List, length, refl, sym, ◌∙◌, ap, subst, inl, inr, Some, None, both_ways}
use Rattle.patterns.proofs.Common.{Expression, MatchesEmpty, Written, written, Outside, Nothing, fault_from, first_fault, IsFault, Alt, SpellsAt, Spells, IsPattern, Refusal, Fault, Memory, matches_empty, is_sound, Reports, fault_at, writing, Character}
use Rattle.patterns.proofs.WellMade.{well_made, empty_matched, empty_tested}

-- ws is what the text t writes, and n its length
pub record IsWriting (t : List ℕ) (n : ℕ) (ws : List Written) : Type 0 where
  pub writes : ws ≡ written 0 t
  pub counts : n ≡ length t

pub first_of : (t : List ℕ) (n : ℕ) (ws : List Written) → IsWriting t n ws → first_fault t ≡ fault_from n (Outside 0 Nothing) ws
unfolding first_fault
first_of t n ws h = ap (λ m. fault_from m (Outside 0 Nothing) (written 0 t)) (sym h.counts) ∙ ap (fault_from n (Outside 0 Nothing)) (sym h.writes)

pub shown : (r : Refusal) (t : List ℕ) (n : ℕ) (ws : List Written) → IsWriting t n ws → Reports r (λ f. fault_from n (Outside 0 Nothing) ws ≡ Some f) → Reports r (λ f. IsFault t f)
shown (Fault f) t n ws h g = inl (first_of t n ws h ∙ g)
shown Memory t n ws h g = tt

pub spelled_text : (e : Expression) (t : List ℕ) (n : ℕ) (ws : List Written) → IsWriting t n ws → SpellsAt Alt 0 e ws → Spells e t
spelled_text e t n ws h s = let P : List Written → Type 0 = SpellsAt Alt 0 e in subst P h.writes s

-- the fault of a text whose expression matches the empty text
pub shown_empty : (r : Refusal) (e : Expression) (t : List ℕ) (n : ℕ) (ws : List Written) → IsWriting t n ws → fault_from n (Outside 0 Nothing) ws ≡ None
    → SpellsAt Alt 0 e ws → matches_empty e ≡ true → r ≡ fault_at 0 MatchesEmpty → Reports r (λ f. IsFault t f)
shown_empty r e t n ws h g s m k = rw k (inr (first_of t n ws h ∙ g, refl, (e, spelled_text e t n ws h s, empty_matched e m)))

pub is_pattern : (e : Expression) (t : List ℕ) (n : ℕ) (ws : List Written) → IsWriting t n ws → SpellsAt Alt 0 e ws → is_sound e ≡ true → matches_empty e ≡ false → IsPattern t e
is_pattern e t n ws h s g m =
    record { spelled = spelled_text e t n ws h s; well_made = well_made e g; not_empty = λ q. both_ways (matches_empty e) m (empty_tested e q) }

pub is_writing : (t items prefix : List ℕ) (words after : List Character) (n : ℕ) → items ≡ t → prefix ≡ items
    → writing words ≡ written 0 prefix → after ≡ words → n ≡ length items → IsWriting t n (writing after)
is_writing t items prefix words after n a b e f g =
    record { writes = ap writing f ∙ e ∙ ap (written 0) (b ∙ a); counts = g ∙ ap length a }
