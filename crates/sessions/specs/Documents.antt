-- The documents that a server holds: a finite map from the bytes of their URIs.
use Rattle.std.specs.Prelude.{◌≡◌, ℕ, ℤ, ◌||◌, Bool, nat_lt, if◌then◌else◌, List, [], ◌∷◌, ◌++◌, Option, Some, None}
use Rattle.std.specs.Ordering.{nat_cmp}
use Rattle.std.specs.Str.{chars}
use Rattle.std.specs.Cmp.Lexicographic.{slice_cmp}
use Rattle.std.specs.FinMap.{FinMap, contains_key, len}
use Rattle.readings.specs.Text.{changed}
use Rattle.rpc.specs.Unit.{Unit as Encoding}
use Rattle.readings.specs.Edits.{IsNext}
use Rattle.readings.specs.Texts.{LastEdit, OpenDocument, fits}
use Rattle.readings.specs.Grammars.{FileGrammar}
use Rattle.rpc.specs.Messages.{TextChange}
use Rattle.rpc.specs.Loss.{Loss}
use Rattle.rpc.specs.Loss.TheVariants.{TooLarge, MalformedChange, Memory}

-- a document is open, with its unit, version, text and last edit, or lost, with the cause
pub data DocumentState : Type 0 where
  is_open : OpenDocument → DocumentState
  is_lost : Loss → DocumentState

-- the documents by the bytes of their URIs, a finite map
abbrev pub Held : Type 0
Held = FinMap (slice_cmp nat_cmp) DocumentState

-- `edited encoding text changes`: a text after changes, each applied to the text that the one before it made; none where a text on the way
-- doesn't fit
abbrev pub edited : Encoding → List ℕ → List TextChange → Option (List ℕ)
edited encoding text [] = Some text
edited encoding text (c ∷ cs) =
    if fits (changed encoding text c.range (chars c.text))
    then edited encoding (changed encoding text c.range (chars c.text)) cs
    else None

-- `IsLastAfter encoding file text changes last after`: what the last edit is after changes, each an edit of the text that the one before it
-- made
abbrev pub IsLastAfter : Encoding → FileGrammar → List ℕ → List TextChange → Option LastEdit → Option LastEdit → Type 0
IsLastAfter encoding file text [] last after = after ≡ last
IsLastAfter encoding file text (c ∷ cs) last after =
    (next : LastEdit) × IsNext encoding file text c.range (chars c.text) last next
    × IsLastAfter encoding file (changed encoding text c.range (chars c.text)) cs (Some next) after

-- `Becomes file version d changes state`: what an open document may become by the changes of a message: open with the text after them and
-- the last of these edits, where all texts on the way fit; lost as too large where one doesn't; or lost because memory was refused at a
-- change that is reached and whose text fits
abbrev pub Becomes : FileGrammar → ℤ → OpenDocument → List TextChange → DocumentState → Type 0
Becomes file version d changes (is_open e) =
    (edited d.unit d.text changes ≡ Some e.text) × (e.unit ≡ d.unit) × (e.version ≡ version)
    × IsLastAfter d.unit file d.text changes d.last e.last
Becomes file version d changes (is_lost TooLarge) = edited d.unit d.text changes ≡ None
Becomes file version d changes (is_lost MalformedChange) = ⊥
Becomes file version d changes (is_lost Memory) =
    (prefix rest : List TextChange) × (c : TextChange) × (changes ≡ prefix ++ c ∷ rest)
    × ((mid : List ℕ) × (edited d.unit d.text (prefix ++ c ∷ []) ≡ Some mid))

-- something is held under this URI already, or fewer than 64 documents are held, lost ones among them
abbrev pub has_room : List ℕ → Held → Bool
has_room uri documents = contains_key documents uri || nat_lt (len documents) 64
