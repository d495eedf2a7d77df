-- What the code's map of documents means.
use Rattle.std.specs.Prelude.{◌≡◌, ℕ, List, map, String, Option, Some, string_bytes}
use Rattle.std.specs.Ordering.{nat_cmp}
use Rattle.std.specs.Cmp.Lexicographic.{slice_cmp}
use Rattle.std.specs.FinMap.{from_entries}
use Rattle.std.specs.Map.{lookup}
use Rattle.std.specs.BTreeMap.{is_at}
use Rattle.docs.specs.Docs.{open_document, IsCurrent}
use Rattle.docs.specs.Languages.{LanguageData}
use Rattle.sessions.specs.Documents.{DocumentState, is_open, is_lost, Held}
use Rattle.server.specs.declared.entry.Entry.{Entry}
use Rattle.server.specs.declared.entry.Entry.TheVariants as entry

-- the language, and the documents that are held
pub record Holding : Type 0 where
  pub language : LanguageData
  pub documents : Held

-- what an entry of the code's map means
abbrev pub entry_view : Entry → DocumentState
entry_view (entry.Open d) = is_open (open_document d)
entry_view (entry.Lost loss) = is_lost loss

-- the documents that the entries of the code's map make
abbrev pub documents_of : {Y : Type 0} → List (String Y × Entry) → Held
documents_of entries = from_entries (map (λ e. (string_bytes e.0, entry_view e.1)) entries)

-- the entry that stands under a URI
abbrev pub entry_at : {Y : Type 0} → List (String Y × Entry) → List ℕ → Option Entry
entry_at entries uri = lookup (is_at (λ k. slice_cmp nat_cmp uri (string_bytes k))) entries

-- `IsEntryOf language entry`: an open document is one of the language
abbrev pub IsEntryOf : LanguageData → Entry → Type 0
IsEntryOf language (entry.Open d) = IsCurrent language d
IsEntryOf language (entry.Lost loss) = Unit {0}

-- each open document among the entries is one of the language
abbrev pub AreCurrent : {Y : Type 0} → LanguageData → List (String Y × Entry) → Type 0
AreCurrent language entries = (uri : List ℕ) (e : Entry) → entry_at entries uri ≡ Some e → IsEntryOf language e
