-- A text that is edited by changes in turn.
use Rattle.sessions.proofs.Std.{◌≡◌, ◌<◌, ◌+◌, ℕ, ℤ, Bool, true, false, cond, List, [], ◌∷◌, ◌++◌, length, map, take, drop, get_or, refl, sym, ap, subst, ◌∙◌, Option, Some, None, drop_more, take_more, map-append, take-append-drop, chars}
use Rattle.sessions.proofs.Common.{changed, Encoding, IsNext, LastEdit, OpenDocument, fits, FileGrammar, TextChange, change_view, Change, TooLarge, Memory, DocumentState, is_open, is_lost, edited, Becomes, IsLastAfter}

module _ (encoding : Encoding) where
  -- the text after one change
  abbrev pub after : List ℕ → TextChange → List ℕ
  after t c = changed encoding t c.range (chars c.text)

  pub edited_fits : (text : List ℕ) (changes : List TextChange) (new : List ℕ) → fits text ≡ true → edited encoding text changes ≡ Some new → fits new ≡ true
  edited_fits text [] new fit e = let same : text ≡ new = cc in subst (λ t. fits t ≡ true) same fit
  edited_fits text (c ∷ cs) new fit e = by (fits (after text c)) refl e (λ f. edited_fits (after text c) cs new f)
    where
      by : (b : Bool) → fits (after text c) ≡ b → cond b (edited encoding (after text c) cs) None ≡ Some new
          → (fits (after text c) ≡ true → edited encoding (after text c) cs ≡ Some new → fits new ≡ true) → fits new ≡ true
      by true f h more = more f h
      by false f h more = absurd (let g : ⊥ = cc in g)

  -- after some changes, the others go on from the text that these made
  pub edited_after : (t : List ℕ) (before following : List TextChange) (mid : List ℕ) → edited encoding t before ≡ Some mid → edited encoding t (before ++ following) ≡ edited encoding mid following
  edited_after t [] following mid e = let same : t ≡ mid = cc in ap (λ x. edited encoding x following) same
  edited_after t (c ∷ before) following mid e = by (fits (after t c)) e (edited_after (after t c) before following mid)
    where
      by : (b : Bool) → cond b (edited encoding (after t c) before) None ≡ Some mid
          → (edited encoding (after t c) before ≡ Some mid → edited encoding (after t c) (before ++ following) ≡ edited encoding mid following)
          → cond b (edited encoding (after t c) (before ++ following)) None ≡ edited encoding mid following
      by true h more = more h
      by false h more = absurd (let g : ⊥ = cc in g)

  pub edited_fitting : (t : List ℕ) (c : TextChange) (following : List TextChange) → fits (after t c) ≡ true → edited encoding t (c ∷ following) ≡ edited encoding (after t c) following
  edited_fitting t c following fit = ap (λ b. cond b (edited encoding (after t c) following) None) fit

  pub edited_never : (t : List ℕ) (c : TextChange) (following : List TextChange) → fits (after t c) ≡ false → edited encoding t (c ∷ following) ≡ None
  edited_never t c following over = ap (λ b. cond b (edited encoding (after t c) following) None) over

  -- one more change that fits
  pub edited_more : (t : List ℕ) (before : List TextChange) (c : TextChange) (mid : List ℕ) → edited encoding t before ≡ Some mid
      → fits (after mid c) ≡ true → edited encoding t (before ++ c ∷ []) ≡ Some (after mid c)
  edited_more t before c mid e fit = edited_after t before (c ∷ []) mid e ∙ edited_fitting mid c [] fit

-- an open document's text fits
abbrev pub IsFit : DocumentState → Type 0
IsFit (is_open d) = fits d.text ≡ true
IsFit (is_lost loss) = Unit {0}

pub becomes_fit : (file : FileGrammar) (version : ℤ) (d : OpenDocument) (changes : List TextChange) (state : DocumentState) → fits d.text ≡ true → Becomes file version d changes state → IsFit state
becomes_fit file version d changes (is_open e) fit b = edited_fits d.unit d.text changes e.text fit b.0
becomes_fit file version d changes (is_lost loss) fit b = tt

-- without a change it stays; and it may be lost by the first one, because memory was refused or for the length of its text
pub some_becomes : (file : FileGrammar) (version : ℤ) (d : OpenDocument) (changes : List TextChange) → (state : DocumentState) × Becomes file version d changes state
some_becomes file version d [] = (is_open (record { unit = d.unit; version = version; text = d.text; last = d.last }), (refl, refl, refl, refl))
some_becomes file version d (c ∷ cs) = by (fits (after d.unit d.text c)) refl
  where
    by : (b : Bool) → fits (after d.unit d.text c) ≡ b → (state : DocumentState) × Becomes file version d (c ∷ cs) state
    by true e = (is_lost Memory, ([], cs, c, refl, (after d.unit d.text c, edited_fitting d.unit d.text c [] e)))
    by false e = (is_lost TooLarge, edited_never d.unit d.text c cs e)

-- one edit more
pub last_more : (encoding : Encoding) (file : FileGrammar) (t : List ℕ) (before : List TextChange) (c : TextChange) (mid : List ℕ) (last now : Option LastEdit) (next : LastEdit)
    → edited encoding t before ≡ Some mid → IsLastAfter encoding file t before last now → IsNext encoding file mid c.range (chars c.text) now next
    → IsLastAfter encoding file t (before ++ c ∷ []) last (Some next)
last_more encoding file t [] c mid last now next e is one =
    let same : t ≡ mid = cc in
    let there : IsNext encoding file mid c.range (chars c.text) last next = subst (λ (l : Option LastEdit). IsNext encoding file mid c.range (chars c.text) l next) is one in
    (next, subst (λ x. IsNext encoding file x c.range (chars c.text) last next) (sym same) there, refl)
last_more encoding file t (b ∷ before) c mid last now next e is one =
    (is.0, is.1, by (fits (after encoding t b)) e (λ more. last_more encoding file (after encoding t b) before c mid (Some is.0) now next more is.2 one))
  where
    by : {P : Type 0} (fit : Bool) → cond fit (edited encoding (after encoding t b) before) None ≡ Some mid → (edited encoding (after encoding t b) before ≡ Some mid → P) → P
    by true h more = more h
    by false h more = absurd (let g : ⊥ = cc in g)

-- ---- the changes of a message

-- the changes before one, it, and those after it
module _ (changes : List Change) (i : ℕ) (c : Change) (within : i < length changes) (here : c ≡ get_or changes i c) where
  abbrev before : List TextChange
  before = map change_view (take i changes)

  abbrev following : List TextChange
  following = map change_view (drop (i + 1) changes)

  pub all_changes : map change_view changes ≡ before ++ change_view c ∷ following
  all_changes =
      ap (map change_view) (sym (take-append-drop i changes))
      ∙ (map-append change_view (take i changes) (drop i changes)
      ∙ ap (λ (l : List Change). before ++ map change_view l) (drop_more changes i c within ∙ ap (λ (d : Change). d ∷ drop (i + 1) changes) (sym here)))

  one_more : map change_view (take (i + 1) changes) ≡ before ++ change_view c ∷ []
  one_more =
      ap (map change_view) (take_more changes i c within ∙ ap (λ (d : Change). take i changes ++ d ∷ []) (sym here))
      ∙ map-append change_view (take i changes) (c ∷ [])

  module _ (file : FileGrammar) (d : OpenDocument) (mid : List ℕ) (edits : edited d.unit d.text before ≡ Some mid) where
    pub ends_there : fits (after d.unit mid (change_view c)) ≡ false → edited d.unit d.text (map change_view changes) ≡ None
    ends_there over =
        ap (edited d.unit d.text) all_changes ∙ (edited_after d.unit d.text before (change_view c ∷ following) mid edits ∙ edited_never d.unit mid (change_view c) following over)

    pub goes_on : fits (after d.unit mid (change_view c)) ≡ true → edited d.unit d.text (map change_view (take (i + 1) changes)) ≡ Some (after d.unit mid (change_view c))
    goes_on fit = ap (edited d.unit d.text) one_more ∙ edited_more d.unit d.text before (change_view c) mid edits fit

    pub last_goes_on : (now : Option LastEdit) (next : LastEdit) → IsLastAfter d.unit file d.text before d.last now → IsNext d.unit file mid c.range (chars (change_view c).text) now next
        → IsLastAfter d.unit file d.text (map change_view (take (i + 1) changes)) d.last (Some next)
    last_goes_on now next is one = subst (λ cs. IsLastAfter d.unit file d.text cs d.last (Some next)) (sym one_more)
        (last_more d.unit file d.text before (change_view c) mid d.last now next edits is one)

    pub may_lose : (version : ℤ) → fits (after d.unit mid (change_view c)) ≡ true → Becomes file version d (map change_view changes) (is_lost Memory)
    may_lose version fit = (before, following, change_view c, all_changes, (after d.unit mid (change_view c), edited_more d.unit d.text before (change_view c) mid edits fit))
