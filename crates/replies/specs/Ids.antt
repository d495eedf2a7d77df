-- What a request is named by, as plain data. A text is its UTF-8 bytes.
use Rattle.std.specs.Prelude.{ℤ, ℕ, List, string_bytes}
use Rattle.replies.specs.declared.id.Id.{Id}
use Rattle.replies.specs.declared.id.Id.TheVariants.{Text, Number}

-- what a request is named by: a text or a whole number
pub data Ident : Type 0 where
  named : List ℕ → Ident
  numbered : ℤ → Ident

-- `id_view id`: an id of the code as an `Ident`
abbrev pub id_view : Id → Ident
id_view (Text s) = named (string_bytes s)
id_view (Number z) = numbered z
