-- A document with pending changes: its text is ahead of its tokens and of its parse.
use Rattle.std.specs.Prelude.{◌≡◌, ◌⊎◌, ℕ, ℤ, ◌+◌, ◌-◌, ◌<◌, ◌≤◌, max, min, List, length, Option, Some, None, MatchOption}
use Rattle.definitions.specs.declared.Range.{Range}
use Rattle.definitions.specs.declared.Edit.{Edit}
use Rattle.definitions.specs.declared.Unit.{Unit as Encoding}
use Rattle.docs.specs.Docs.{IsCurrent}
use Rattle.docs.specs.Languages.{LanguageData}
use Rattle.docs.specs.Settling.{LeadsTo, IsSettled, with_text}
use Rattle.readings.specs.Edits.{edit_of}
use Rattle.docs.specs.declared.doc.Doc.{Doc}
use Rattle.docs.specs.declared.pending.Pending.{Pending}

-- the document, whose tokens and parse are those before the pending changes
abbrev pub pending_document : Pending → Doc
pending_document p = p.doc

-- the text after all changes
abbrev pub pending_text : Pending → List ℕ
pending_text p = p.doc.text

-- the unit of the document's positions
abbrev pub pending_unit : Pending → Encoding
pending_unit p = p.doc.unit

-- the version that the document has
abbrev pub pending_version : Pending → ℤ
pending_version p = p.doc.version

-- `number_or n o`: the number of the edit, or `n` where there is none
abbrev pub number_or : ℕ → Option Edit → ℕ
number_or n None = n
number_or n (Some e) = e.number

-- the number of the last change that was made
abbrev pub pending_number : Pending → ℕ
pending_number p = number_or p.doc.parse.number p.edit

-- no change is pending
abbrev pub HasNone : Pending → Type 0
HasNone p = p.edit ≡ None

-- the tokens and the parse are those of some text, by this language; and the pending edit leads from it to the document's text
pub record IsPending (language : LanguageData) (p : Pending) : Type 0 where
  pub was : List ℕ
  pub short : length was ≤ 1_048_576
  pub current : IsCurrent language (with_text p.doc was)
  pub leads : MatchOption p.edit (p.doc.text ≡ was)
      (λ e. LeadsTo was e p.doc.text × (p.doc.parse.number ≤ e.number) × (1 ≤ e.number))

-- `IsSettledAs language p d`: `d` is the document of `p` where nothing is pending; else its tokens and its parse are those after the
-- pending changes, as one edit
abbrev pub IsSettledAs : LanguageData → Pending → Doc → Type 0
IsSettledAs language p d = MatchOption p.edit (d ≡ p.doc) (λ e. IsSettled language e p.doc d)

-- `joined waiting e`: what waits, and after it the edit `e`, as one edit with the number of `e`: from the smaller start of both up to the
-- greater end. Of the `long` characters that lie there between the two edits, the text before them had what the first removed in place of
-- what it inserted, and the text after them has what `e` inserts in place of what it removes. Where nothing waits, it is `e`
abbrev pub joined : Option Edit → Edit → Edit
joined None e = e
joined (Some first) e =
    let start = min first.at e.at in
    let long = max (first.at + first.inserted) (e.at + e.removed) - start in
    record {
      at = start;
      removed = long - first.inserted + first.removed;
      inserted = long - e.removed + e.inserted;
      number = e.number;
    }

-- `IsApart p from to`: an edit waits, and the characters from `from` up to `to` don't touch what it inserted
abbrev pub IsApart : Pending → ℕ → ℕ → Type 0
IsApart p from to = MatchOption p.edit ⊥ (λ first. (to < first.at) ⊎ (first.at + first.inserted < from))

-- a change of the text as the edit after the last one that was made
abbrev pub next_pending : Pending → Option Range → List ℕ → Edit
next_pending p range s =
    edit_of (pending_unit p) (pending_text p) range s (min (pending_number p + 1) 18_446_744_073_709_551_615)

-- `Waits language old e new`: the tokens and the parse stay as they are, and `e` waits as one edit with what waited; or, where `e` is apart
-- from what waited, they are brought up to this first, and `e` waits alone
abbrev pub Waits : LanguageData → Pending → Edit → Pending → Type 0
Waits language old e new =
    let doc = with_text new.doc old.doc.text in
    ((doc ≡ old.doc) × (new.edit ≡ Some (joined old.edit e)))
    ⊎ (IsApart old e.at (e.at + e.removed) × IsSettledAs language old doc × (new.edit ≡ Some e))
