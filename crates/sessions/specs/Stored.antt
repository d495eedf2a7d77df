-- The documents that are held as what a finite map stores: each as numbers, from which it is had back.
use Rattle.std.specs.Prelude.{◌≡◌, ℕ, zero, suc, ℤ, pos, List, [], refl, Option, None}
use Rattle.std.specs.Coded.{Coded, code_by, coded×, coded_ℕ, coded_ℤ, coded_list, coded_option}
use Rattle.std.specs.FinMap.{code}
use Rattle.rpc.specs.Unit.{Unit as Encoding}
use Rattle.rpc.specs.Unit.TheVariants.{Utf8, Utf16, Utf32}
use Rattle.readings.specs.Texts.{LastEdit}
use Rattle.rpc.specs.Loss.TheVariants.{TooLarge, MalformedChange, Memory}
use Rattle.sessions.specs.Documents.{DocumentState, is_open, is_lost, Held}

abbrev pub stored_edit : LastEdit → ℕ × (ℕ × ℕ)
stored_edit e = (e.number, (e.scanned, e.built))

abbrev pub of_stored_edit : ℕ × (ℕ × ℕ) → LastEdit
of_stored_edit (n, p) = record { number = n; scanned = p.0; built = p.1 }

abbrev pub edit_code : Coded LastEdit
edit_code = code_by (ℕ × (ℕ × ℕ)) (coded× coded_ℕ (coded× coded_ℕ coded_ℕ)) stored_edit of_stored_edit (λ e. refl)

abbrev pub stored_unit : Encoding → ℕ
stored_unit Utf8 = 0
stored_unit Utf16 = 1
stored_unit Utf32 = 2

abbrev pub of_stored_unit : ℕ → Encoding
of_stored_unit zero = Utf8
of_stored_unit (suc zero) = Utf16
of_stored_unit (suc (suc n)) = Utf32

pub of_stored_unit_back : (encoding : Encoding) → of_stored_unit (stored_unit encoding) ≡ encoding
of_stored_unit_back Utf8 = refl
of_stored_unit_back Utf16 = refl
of_stored_unit_back Utf32 = refl

abbrev pub unit_code : Coded Encoding
unit_code = code_by ℕ coded_ℕ stored_unit of_stored_unit of_stored_unit_back

-- what a document is stored as: a number for its state, and its unit, version, text and last edit where it is open
abbrev pub StoredDocument : Type 0
StoredDocument = ℕ × (Encoding × (ℤ × (List ℕ × Option LastEdit)))

abbrev pub stored : DocumentState → StoredDocument
stored (is_open d) = (0, (d.unit, (d.version, (d.text, d.last))))
stored (is_lost TooLarge) = (1, (Utf8, (pos 0, ([], None))))
stored (is_lost MalformedChange) = (2, (Utf8, (pos 0, ([], None))))
stored (is_lost Memory) = (3, (Utf8, (pos 0, ([], None))))

abbrev pub of_stored : StoredDocument → DocumentState
of_stored (zero, p) = is_open (record { unit = p.0; version = p.1.0; text = p.1.1.0; last = p.1.1.1 })
of_stored (suc zero, p) = is_lost TooLarge
of_stored (suc (suc zero), p) = is_lost MalformedChange
of_stored (suc (suc (suc n)), p) = is_lost Memory

pub of_stored_back : (s : DocumentState) → of_stored (stored s) ≡ s
of_stored_back (is_open d) = refl
of_stored_back (is_lost TooLarge) = refl
of_stored_back (is_lost MalformedChange) = refl
of_stored_back (is_lost Memory) = refl

-- the code of a document
abbrev pub document_code : Coded DocumentState
document_code =
    let code = coded× coded_ℕ (coded× unit_code (coded× coded_ℤ (coded× (coded_list coded_ℕ) (coded_option edit_code)))) in
    code_by StoredDocument code stored of_stored of_stored_back

-- the code of all documents that are held
abbrev pub held_code : Coded Held
held_code = code (coded_list coded_ℕ) document_code
