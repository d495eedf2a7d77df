-- What the proofs of this crate cite of std and of the kit's crates, passed on from one place. Declares nothing.
pub use Rattle.std.proofs.Common.{◌+◌, ◌-◌, ◌<◌, ◌||◌, ◌∙◌, ◌∷◌, ◌≡◌, ◌≤◌, List, None, Option, Result, Some, [], ap, arith, drop, false, get_or, length, map, negsuc, of_z, pos, refl, rules, string_bytes, subst, suc, sym, take, take_all, to_z, to_z-of_z, w32, ℕ, ℤ}
pub use Rattle.std.specs.Prelude.{OnOk, ⊤}
pub use Rattle.std.proofs.lemmas.List.{drop_all, drop_more}
pub use Rattle.std.proofs.lemmas.Result.{on_ok_weaker}
pub use Rattle.serde.specs.Event.{Log, Logs, seq_begins, seq_ends, text}
pub use Rattle.serde_json.proofs.FreeTexts.{text_of_value}
pub use Rattle.serde_json.specs.Data.{Data, Items, array, item, no_items, null, number, string}
pub use Rattle.serde_json.specs.Events.{SendsItems, SendsValue, items_len}
pub use Rattle.serde_json.specs.Find.{of_integer}
pub use Rattle.serde_json.specs.View.{items_of}
pub use Rattle.serde_json.specs.Written.{has_float, items_have_float}
