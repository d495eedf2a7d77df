-- A document is lost as too large exactly where a text has too many bytes.
use Rattle.sessions.proofs.Std.{All, All-head, All-tail, Bool, IsUtf8, List, None, Option, Some, [], ap, arith, chars, encode_utf8_all, false, get, if◌then◌else◌, inl, inr, length, ltb-false, ltb-true, map, refl, subst, sym, true, ℕ, ℤ, ◌<◌, ◌||◌, ◌↔◌, ◌∙◌, ◌∷◌, ◌≡◌, ◌⊎◌}
use Rattle.sessions.proofs.Common.{Answer, Encoding, FileGrammar, IsSpelled, MalformedChange, Memory, OpenDocument, Range, Received, Receives, TextChange, TooLarge, accepted, change_text, fits, fits_from, large_from, notification, open_text, spelled_large, texts_of, too_long}
use Rattle.sessions.proofs.Common.{Becomes, Changes, DocumentState, Holds, OnNotification, Opens, Phase, State, Step, TooLargeIsExact, edited, first_state, has_room, is_large, is_lost, is_open, new_document, outgrows}
use Rattle.sessions.proofs.Common.{IsText-chars, IsText-edit}
use Rattle.readings.proofs.Texts.{is_text}
use Rattle.definitions.specs.Text.{IsText, changed, span}
use Rattle.sessions.proofs.Edits.{after, edited_fitting, edited_never}
use Rattle.sessions.proofs.Fits.{none_fits, run_keeps}
use Rattle.sessions.proofs.LookUps.{get_inserted}

utf8_of : (s : List ℕ) → IsSpelled s → IsUtf8 s
utf8_of s h = (chars s, (h.scalars, h.same))

-- ---- the texts on the way

IsText-changed : (encoding : Encoding) (t : List ℕ) (range : Option Range) (bytes : List ℕ) → IsText t → IsUtf8 bytes → IsText (changed encoding t range (chars bytes))
unfolding changed
IsText-changed encoding t range bytes is utf8 = IsText-edit t (span encoding t range).0 (span encoding t range).1 (chars bytes) is (IsText-chars bytes utf8)

small_fits : (t : List ℕ) → IsText t → is_large t ≡ false → fits t ≡ true
small_fits t is small = let few = ltb-false 1_048_576 (length (encode_utf8_all t)) small in fits_from t is (omega (arith, few))

large_never : (t : List ℕ) → is_large t ≡ true → fits t ≡ false
large_never t large = too_long t (ltb-true 1_048_576 (length (encode_utf8_all t)) large)

-- no text is left exactly where one on the way is large
outgrown : (encoding : Encoding) (t : List ℕ) (changes : List TextChange) → IsText t → All IsSpelled (map (λ (c : TextChange). c.text) changes)
    → (edited encoding t changes ≡ None) ↔ (outgrows encoding t changes ≡ true)
outgrown encoding t [] is spelled = ((λ e. absurd (let f : ⊥ = cc in f)), (λ e. absurd (let f : ⊥ = cc in f)))
outgrown encoding t (c ∷ cs) is spelled =
    let next = IsText-changed encoding t c.range c.text is (utf8_of c.text (All-head IsSpelled c.text (map (λ (x : TextChange). x.text) cs) spelled)) in
    by (is_large (after encoding t c)) refl next (outgrown encoding (after encoding t c) cs next (All-tail IsSpelled c.text (map (λ (x : TextChange). x.text) cs) spelled))
  where
    by : (b : Bool) → is_large (after encoding t c) ≡ b → IsText (after encoding t c)
        → (edited encoding (after encoding t c) cs ≡ None) ↔ (outgrows encoding (after encoding t c) cs ≡ true)
        → (edited encoding t (c ∷ cs) ≡ None) ↔ (b || outgrows encoding (after encoding t c) cs ≡ true)
    by true large next more = ((λ e. refl), (λ e. edited_never encoding t c cs (large_never (after encoding t c) large)))
    by false small next more =
        let same = edited_fitting encoding t c cs (small_fits (after encoding t c) next small) in
        ((λ e. more.0 (sym same ∙ e)), (λ e. same ∙ more.1 e))

-- ---- steps

-- what is held is had back
held : (old : State) (uri : List ℕ) (state : DocumentState) (answers : List Answer) (stop : Option ℕ) (new : State) → Holds old uri state answers stop new
    → get new.documents uri ≡ Some state
held old uri (is_open d) answers stop new s = ap (λ (z : State). get z.documents uri) s.3.1 ∙ get_inserted old.documents uri (is_open d)
held old uri (is_lost loss) answers stop new s = ap (λ (z : State). get z.documents uri) s.1.1 ∙ get_inserted old.documents uri (is_lost loss)

opened : (old new : State) (unit : Encoding) (uri : List ℕ) (version : ℤ) (text : List ℕ) (answers : List Answer) (stop : Option ℕ) → IsUtf8 text → has_room uri old.documents ≡ true
    → Opens (has_room uri old.documents) old uri (new_document unit version (chars text)) answers stop new
    → (get new.documents uri ≡ Some (is_lost TooLarge)) ↔ (1_048_576 < length text)
opened old new unit uri version text answers stop utf8 room s =
    let there = held old uri (new_document unit version (chars text)) answers stop new
    (subst (λ b. Opens b old uri (new_document unit version (chars text)) answers stop new) room s) in
    by (fits (chars text)) refl there
  where
    by : (b : Bool) → fits (chars text) ≡ b
        → get new.documents uri ≡ Some (if b then is_open (record { unit = unit; version = version; text = chars text; last = None }) else is_lost TooLarge)
        → (get new.documents uri ≡ Some (is_lost TooLarge)) ↔ (1_048_576 < length text)
    by true fit there = ((λ e. let f : ⊥ = cc in absurd f), (λ many. let over = spelled_large text utf8 many in let f : ⊥ = cc in absurd f))
    by false over there = ((λ e. large_from text utf8 over), (λ many. there))

changed_so : (old new : State) (d : OpenDocument) (uri : List ℕ) (version : ℤ) (changes : List TextChange) (answers : List Answer) (stop : Option ℕ) → fits d.text ≡ true
    → All IsSpelled (map (λ (c : TextChange). c.text) changes) → Changes (Some (is_open d)) old uri version changes answers stop new
    → (get new.documents uri ≡ Some (is_lost Memory)) ⊎ ((get new.documents uri ≡ Some (is_lost TooLarge)) ↔ (outgrows d.unit d.text changes ≡ true))
changed_so old new d uri version changes answers stop fit spelled (state, becomes, holds) =
    by state becomes (held old uri state answers stop new holds) (outgrown d.unit d.text changes (is_text d.text fit) spelled)
  where
    by : (state : DocumentState) → Becomes old.file version d changes state → get new.documents uri ≡ Some state
        → (edited d.unit d.text changes ≡ None) ↔ (outgrows d.unit d.text changes ≡ true)
        → (get new.documents uri ≡ Some (is_lost Memory)) ⊎ ((get new.documents uri ≡ Some (is_lost TooLarge)) ↔ (outgrows d.unit d.text changes ≡ true))
    by (is_open e) becomes there exact = inr ((λ lost. let f : ⊥ = cc in absurd f), (λ grown. let none = sym becomes.0 ∙ exact.1 grown in let f : ⊥ = cc none in absurd f))
    by (is_lost TooLarge) becomes there exact = inr ((λ lost. exact.0 becomes), (λ grown. there))
    by (is_lost MalformedChange) becomes there exact = absurd becomes
    by (is_lost Memory) becomes there exact = inl there

pub too_large_is_exact : ((content : List ℕ) (received : Received) → Receives content received → All IsSpelled (texts_of received)) → (file : FileGrammar) → TooLargeIsExact file
too_large_is_exact unicode file contents sent old unit content uri version answers stop new run phase step = (
  (λ text is room.
      let spelled = unicode content (accepted (notification (open_text uri version text))) (sym is) in
      opened old new unit uri version text answers stop (utf8_of text (All-head IsSpelled text [] (All-tail IsSpelled uri (text ∷ []) spelled))) room
      (subst (λ (p : Phase). OnNotification p old (open_text uri version text) answers stop new) phase (subst (λ (r : Received). Step old r answers stop new) is step))),
  (λ changes d is here.
      let spelled = unicode content (accepted (notification (change_text uri version changes))) (sym is) in
      let fit = (run_keeps contents (first_state file) sent None old run).fit none_fits uri d here in
      changed_so old new d uri version changes answers stop fit (All-tail IsSpelled uri (map (λ (c : TextChange). c.text) changes) spelled)
      (subst (λ (o : Option DocumentState). Changes o old uri version changes answers stop new) here
      (subst (λ (p : Phase). OnNotification p old (change_text uri version changes) answers stop new) phase (subst (λ (r : Received). Step old r answers stop new) is step)))),
)
