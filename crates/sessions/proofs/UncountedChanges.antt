-- What a document is after changes of whose counts none are reported, and what it becomes by those after them.
use Rattle.sessions.proofs.Std.{◌≡◌, ◌<◌, ◌+◌, ℕ, ℤ, Bool, true, false, cond, List, [], ◌∷◌, ◌++◌, length, map, take, drop, min, refl, sym, ap, subst, ◌∙◌, inl, inr, arith, Option, Some, None, append_assoc, min-eq_left, length-drop, map-append, take-append-drop, chars}
use Rattle.sessions.proofs.Common.{Range, IsAbove, IsNext, Makes, edit_of, number_after, number_of, FileGrammar, LastEdit, OpenDocument, fits, TextChange, change_view, Change, Encoding, Loss, TooLarge, MalformedChange, Memory}
use Rattle.sessions.proofs.Common.{AreAlikeForNext, IsAfter, DocumentState, is_open, is_lost, edited, Becomes, IsLastAfter}
use Rattle.sessions.proofs.Edits.{after, edited_after, edited_fitting}

-- while numbers are left, the next one is above every stamp
next_is_above : (last : Option LastEdit) → number_of last < 18_446_744_073_709_551_615 → IsAbove last (number_after last)
next_is_above None less = let one = min-eq_left {n = 1} {m = 18_446_744_073_709_551_615} (omega arith) in omega (arith, one)
next_is_above (Some last) less = let one = min-eq_left {n = last.number + 1} {m = 18_446_744_073_709_551_615} (omega (arith, less)) in inl (omega (arith, one))

module _ (encoding : Encoding) (file : FileGrammar) where
  -- after two last edits that are alike for the next one, it makes the same
  next_alike : (t : List ℕ) (range : Option Range) (s : List ℕ) (one other : Option LastEdit) (next : LastEdit) → AreAlikeForNext one other
      → IsNext encoding file t range s other next → IsNext encoding file t range s one next
  next_alike t range s one other next (inl same) is = subst (λ (l : Option LastEdit). IsNext encoding file t range s l next) (sym same) is
  next_alike t range s one other next (inr alike) is =
      let numbers : number_after other ≡ number_after one = ap (λ n. min (n + 1) 18_446_744_073_709_551_615) (sym alike.0) in
      let makes : Makes file (edit_of encoding t range s (number_after one)) other is.old is.new next =
      subst (λ n. Makes file (edit_of encoding t range s n) other is.old is.new next) numbers is.makes in
      let other_above : IsAbove other (number_after one) = subst (IsAbove other) numbers (next_is_above other alike.1) in
      let one_above : IsAbove one (number_after one) = next_is_above one (omega (arith, alike.0, alike.1)) in
      record {
        old = is.old;
        new = is.new;
        was = is.was;
        is = is.is;
        makes = record { number = makes.number; scanned = makes.scanned; built = λ above. makes.built other_above; all_built = λ never. absurd (never one_above) };
      }

  last_alike : (t : List ℕ) (c : TextChange) (cs : List TextChange) (one other last : Option LastEdit) → AreAlikeForNext one other
      → IsLastAfter encoding file t (c ∷ cs) other last → IsLastAfter encoding file t (c ∷ cs) one last
  last_alike t c cs one other last alike is = (is.0, next_alike t c.range (chars c.text) one other is.0 alike is.1, is.2)

  -- more edits
  last_append : (t : List ℕ) (before following : List TextChange) (mid : List ℕ) (last now end : Option LastEdit) → edited encoding t before ≡ Some mid
      → IsLastAfter encoding file t before last now → IsLastAfter encoding file mid following now end → IsLastAfter encoding file t (before ++ following) last end
  last_append t [] following mid last now end e is more =
      let same : mid ≡ t = cc in
      subst (λ (l : Option LastEdit). IsLastAfter encoding file t following l end) is (subst (λ x. IsLastAfter encoding file x following now end) same more)
  last_append t (b ∷ before) following mid last now end e is more =
      (is.0, is.1, by (fits (after encoding t b)) e (λ rest. last_append (after encoding t b) before following mid (Some is.0) now end rest is.2 more))
    where
      by : {P : Type 0} (fit : Bool) → cond fit (edited encoding (after encoding t b) before) None ≡ Some mid → (edited encoding (after encoding t b) before ≡ Some mid → P) → P
      by true h go = go h
      by false h go = absurd (let g : ⊥ = cc in g)

  -- where a text on the way doesn't fit, none is made
  edited_none : (t : List ℕ) (before following : List TextChange) → edited encoding t before ≡ None → edited encoding t (before ++ following) ≡ None
  edited_none t [] following e = absurd (let g : ⊥ = cc in g)
  edited_none t (b ∷ before) following e = by (fits (after encoding t b)) e (edited_none (after encoding t b) before following)
    where
      by : (fit : Bool) → cond fit (edited encoding (after encoding t b) before) None ≡ None
          → (edited encoding (after encoding t b) before ≡ None → edited encoding (after encoding t b) (before ++ following) ≡ None)
          → cond fit (edited encoding (after encoding t b) (before ++ following)) None ≡ None
      by true h go = go h
      by false h go = refl

module _ (file : FileGrammar) (version : ℤ) (d : OpenDocument) (before : List TextChange) where
  -- what is lost by some changes is lost by them and more
  pub lost_earlier : (loss : Loss) (following : List TextChange) → Becomes file version d before (is_lost loss) → Becomes file version d (before ++ following) (is_lost loss)
  lost_earlier TooLarge following b = edited_none d.unit file d.text before following b
  lost_earlier MalformedChange following b = b
  lost_earlier Memory following b =
      (b.0, b.1 ++ following, b.2, ap (λ l. l ++ following) b.3 ∙ append_assoc b.0 (b.2 ∷ b.1) following, b.4)

  module _ (e : OpenDocument) (is : IsAfter file d before e) (c : TextChange) (cs : List TextChange) where
    goes_on : edited d.unit d.text (before ++ c ∷ cs) ≡ edited e.unit e.text (c ∷ cs)
    goes_on = edited_after d.unit d.text before (c ∷ cs) e.text is.text ∙ ap (λ (u : Encoding). edited u e.text (c ∷ cs)) (sym is.unit)

    -- what it becomes by the changes that follow, which are one at least
    pub becomes_after : (state : DocumentState) → Becomes file version e (c ∷ cs) state → Becomes file version d (before ++ c ∷ cs) state
    becomes_after (is_open x) b =
        let more : IsLastAfter d.unit file e.text (c ∷ cs) e.last x.last = subst (λ (u : Encoding). IsLastAfter u file e.text (c ∷ cs) e.last x.last) is.unit b.3 in (
          goes_on ∙ b.0,
          b.1 ∙ is.unit,
          b.2,
          last_append d.unit file d.text before (c ∷ cs) e.text d.last is.last x.last is.text is.is_last
              (last_alike d.unit file e.text c cs is.last e.last x.last is.alike more),
        )
    becomes_after (is_lost TooLarge) b = goes_on ∙ b
    becomes_after (is_lost MalformedChange) b = b
    becomes_after (is_lost Memory) b = (
      before ++ b.0,
      b.1,
      b.2,
      ap (λ l. before ++ l) b.3 ∙ sym (append_assoc before b.0 (b.2 ∷ b.1)),
      (
        b.4.0,
        ap (edited d.unit d.text) (append_assoc before b.0 (b.2 ∷ []))
            ∙ (edited_after d.unit d.text before (b.0 ++ b.2 ∷ []) e.text is.text ∙ (ap (λ (u : Encoding). edited u e.text (b.0 ++ b.2 ∷ [])) (sym is.unit) ∙ b.4.1)),
      ),
    )

-- memory may be refused at a change that was reached: at the first one, where there is one
pub lost_on_the_way : (file : FileGrammar) (version : ℤ) (d : OpenDocument) (before following : List TextChange) (mid : List ℕ) → edited d.unit d.text before ≡ Some mid
    → (before ≡ [] → Becomes file version d (before ++ following) (is_lost Memory)) → Becomes file version d (before ++ following) (is_lost Memory)
lost_on_the_way file version d [] following mid e first = first refl
lost_on_the_way file version d (b ∷ before) following mid e first =
    ([], before ++ following, b, refl, (after d.unit d.text b, edited_fitting d.unit d.text b [] (fit (fits (after d.unit d.text b)) e)))
  where
    fit : (x : Bool) → cond x (edited d.unit (after d.unit d.text b) before) None ≡ Some mid → x ≡ true
    fit true h = refl
    fit false h = absurd (let g : ⊥ = cc in g)

-- ---- the changes of a message, in two parts

module _ (changes : List Change) (n : ℕ) where
  parts : map change_view changes ≡ map change_view (take n changes) ++ map change_view (drop n changes)
  parts = ap (map change_view) (sym (take-append-drop n changes)) ∙ map-append change_view (take n changes) (drop n changes)

  module _ (file : FileGrammar) (version : ℤ) (d : OpenDocument) where
    pub becomes_by_parts : n < length changes → (e : OpenDocument) (state : DocumentState) → IsAfter file d (map change_view (take n changes)) e
        → Becomes file version e (map change_view (drop n changes)) state → Becomes file version d (map change_view changes) state
    becomes_by_parts less e state is b = by (drop n changes) refl
      where
        by : (rest : List Change) → drop n changes ≡ rest → Becomes file version d (map change_view changes) state
        by [] none = absurd (omega (arith, less, length-drop n changes, ap length none))
        by (c ∷ cs) some =
            let here = subst (λ l. Becomes file version e (map change_view l) state) some b in
            subst (λ l. Becomes file version d l state) (sym (parts ∙ ap (λ l. map change_view (take n changes) ++ map change_view l) some))
            (becomes_after file version d (map change_view (take n changes)) e is (change_view c) (map change_view cs) state here)

    pub lost_by_parts : (loss : Loss) → Becomes file version d (map change_view (take n changes)) (is_lost loss) → Becomes file version d (map change_view changes) (is_lost loss)
    lost_by_parts loss b = subst (λ l. Becomes file version d l (is_lost loss)) (sym parts) (lost_earlier file version d (map change_view (take n changes)) loss (map change_view (drop n changes)) b)
