-- Rows of a table in little room.
use Rattle.std.specs.Prelude.{⊤, ◌≢◌, ◌<◌, ◌^◌, ℕ, List, Option, None, length, map, slice_index_or}
use Rattle.tables.specs.declared.packed.Lent.{Lent}
use Rattle.tables.specs.declared.packed.Lent.TheVariants.{Narrow as LentNarrow, Wide as LentWide}
use Rattle.tables.specs.declared.packed.Form.{Form}
use Rattle.tables.specs.declared.packed.Form.TheVariants.{Narrow, Wide}

-- `entries_in meant form`: the entries of a row, where `meant` is what a number stands for
abbrev pub entries_in : {T : Type 0} → (ℕ → Option T) → Form T → List (Option T)
entries_in meant (Narrow numbers) = map meant numbers.items
entries_in meant (Wide entries) = entries.items

-- `entries_lent meant form`: the same of entries that are borrowed
abbrev pub entries_lent : {T : Type 0} → (ℕ → Option T) → Lent T → List (Option T)
entries_lent meant (LentNarrow numbers) = map meant numbers.now
entries_lent meant (LentWide entries) = entries.now

-- `HasLarge meant entries`: no number of 16 bits stands for some entry
abbrev pub HasLarge : {T : Type 0} → (ℕ → Option T) → List (Option T) → Type 0
HasLarge meant entries = (k : ℕ) × (k < length entries) × ((n : ℕ) → n < 2 ^ 16 → meant n ≢ slice_index_or entries k None)

-- `IsNarrowIfSmall meant form`: the row takes more than 16 bits for each entry only where some entry has no number of so few
abbrev pub IsNarrowIfSmall : {T : Type 0} → (ℕ → Option T) → Form T → Type 0
IsNarrowIfSmall meant (Narrow numbers) = ⊤
IsNarrowIfSmall meant (Wide entries) = HasLarge meant entries.items
