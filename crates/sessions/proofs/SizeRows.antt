-- Which texts are too large, and which changes outgrow the limit.
use Rattle.std.specs.Char.{encode_utf8}
use Rattle.std.specs.FinMap.{get}
use Rattle.std.specs.Prelude.{◌≡◌, ◌⊎◌, ◌||◌, ℕ, pos, true, false, nat_lt, List, [], ◌∷◌, length, codes, refl, Option, Some, None, encode_utf8_all}
use Rattle.std.specs.Str.{chars}
use Rattle.std.proofs.Common.{ap, arith, inl, inr, sym, ◌∙◌}
use Rattle.definitions.specs.Text.{changed}
use Rattle.readings.specs.Grammars.{FileGrammar}
use Rattle.readings.specs.Texts.{OpenDocument}
use Rattle.rpc.specs.Loss.TheVariants as loss
use Rattle.rpc.specs.Messages.{TextChange, accepted, notification, open_text, change_text}
use Rattle.rpc.specs.Reading.{received_in}
use Rattle.rpc.specs.Replies.{Answer}
use Rattle.rpc.specs.Unit.TheVariants.{Utf16}
use Rattle.sessions.specs.Documents.{is_open, is_lost, has_room}
use Rattle.sessions.specs.Runs.{Run}
use Rattle.sessions.specs.Sizes.{is_large, outgrows, TooLargeIsExact}
use Rattle.sessions.specs.Steps.{State, first_state, Step}
use Rattle.sessions.specs.declared.phase.Phase.TheVariants.{Ready}

abbrev uri : List ℕ
uri = codes "a:x"

-- the limit is 1,048,576 bytes
at_the_limit : (t : List ℕ) → length (encode_utf8_all t) ≡ 1_048_576 → is_large t ≡ false
at_the_limit t e = ap (λ n. nat_lt 1_048_576 n) e

past_the_limit : (t : List ℕ) → length (encode_utf8_all t) ≡ 1_048_577 → is_large t ≡ true
past_the_limit t e = ap (λ n. nat_lt 1_048_576 n) e

small : is_large (codes "1+2") ≡ false
unfolding encode_utf8
small = refl

-- ---- changes

abbrev puts : List ℕ → TextChange
puts text = record { range = None; text = text }

unchanged : (t : List ℕ) → outgrows Utf16 t [] ≡ false
unchanged t = refl

grows_a_little : outgrows Utf16 (codes "1") (puts (codes "1+2") ∷ puts [] ∷ []) ≡ false
unfolding chars encode_utf8 changed
grows_a_little = refl

-- the first text on the way counts, and each that follows
by_the_first : (t new : List ℕ) (more : List TextChange) → is_large (changed Utf16 t None (chars new)) ≡ true → outgrows Utf16 t (puts new ∷ more) ≡ true
by_the_first t new more e = ap (λ b. b || outgrows Utf16 (changed Utf16 t None (chars new)) more) e

by_the_second : (t first second : List ℕ) → is_large (changed Utf16 t None (chars first)) ≡ false
    → is_large (changed Utf16 (changed Utf16 t None (chars first)) None (chars second)) ≡ true → outgrows Utf16 t (puts first ∷ puts second ∷ []) ≡ true
by_the_second t first second e f =
    ap (λ b. b || outgrows Utf16 (changed Utf16 t None (chars first)) (puts second ∷ [])) e ∙ ap (λ b. b || false) f

-- ---- what the law says

module _ (file : FileGrammar) (contents : List (List ℕ)) (sent : List Answer) (old : State) (content : List ℕ)
    (answers : List Answer) (stop : Option ℕ) (new : State) (run : Run (first_state file) contents sent None old) (ready : old.phase ≡ Ready Utf16)
    (step : Step old (received_in content) answers stop new) where
  -- of an opened text the bytes count
  opened_past_the_limit : TooLargeIsExact file → (text : List ℕ) → received_in content ≡ accepted (notification (open_text uri (pos 1) text)) → has_room uri old.documents ≡ true
      → length text ≡ 1_048_577 → get new.documents uri ≡ Some (is_lost loss.TooLarge)
  opened_past_the_limit law text is room many =
      ((law contents sent old Utf16 content uri (pos 1) answers stop new run ready step).0 text is room).1 (omega (arith, many))

  opened_at_the_limit : TooLargeIsExact file → (text : List ℕ) → received_in content ≡ accepted (notification (open_text uri (pos 1) text)) → has_room uri old.documents ≡ true
      → length text ≡ 1_048_576 → get new.documents uri ≡ Some (is_lost loss.TooLarge) → ⊥
  opened_at_the_limit law text is room few lost =
      let many = ((law contents sent old Utf16 content uri (pos 1) answers stop new run ready step).0 text is room).0 lost in
      absurd (omega (arith, few, many))

  -- a change that outgrows the limit loses the document so, or because memory was refused
  outgrown : TooLargeIsExact file → (changes : List TextChange) (d : OpenDocument) → received_in content ≡ accepted (notification (change_text uri (pos 1) changes))
      → get old.documents uri ≡ Some (is_open d) → outgrows d.unit d.text changes ≡ true
      → (get new.documents uri ≡ Some (is_lost loss.Memory)) ⊎ (get new.documents uri ≡ Some (is_lost loss.TooLarge))
  outgrown law changes d is here grown =
      elim ((law contents sent old Utf16 content uri (pos 1) answers stop new run ready step).1 changes d is here) [
        | inl lost ↦ inl lost
        | inr exact ↦ inr (exact.1 grown)
      ]

  -- and no other does
  not_outgrown : TooLargeIsExact file → (changes : List TextChange) (d : OpenDocument) → received_in content ≡ accepted (notification (change_text uri (pos 1) changes))
      → get old.documents uri ≡ Some (is_open d) → outgrows d.unit d.text changes ≡ false → get new.documents uri ≡ Some (is_lost loss.TooLarge) → ⊥
  not_outgrown law changes d is here grown lost =
      elim ((law contents sent old Utf16 content uri (pos 1) answers stop new run ready step).1 changes d is here) [
        | inl other ↦ absurd (cc (sym other ∙ lost))
        | inr exact ↦ absurd (cc (sym grown ∙ exact.0 lost))
      ]
