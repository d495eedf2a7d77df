use Rattle.rpc.proofs.Std.{◌≡◌, sym, ap, ◌∙◌, Some, option_and_then, unwrap_or, Data, Items, array, as_array, view, items_view, view-Array}
use Rattle.rpc.proofs.Common.{Utf16, first_unit, encodings_at, unit_at}
use Rattle.rpc.proofs.parts.unit_at.Goals as goal

unit_of_items : (params : Data) (items : Items) → Some (array items) ≡ encodings_at params → unwrap_or (first_unit items) Utf16 ≡ unit_at params
unit_of_items params items is = ap (λ o. unwrap_or (option_and_then first_unit (option_and_then as_array o)) Utf16) is

pub returns-in-Some-Array : goal.returns-in-Some-Array
returns-in-Some-Array c =
    let array_is = ap view c.in-Some-Array.field-0-is ∙ view-Array c.in-Some-Array.items in
    c.unwrap_or.ensures
    ∙ ap (λ unit. unwrap_or unit Utf16) (c.first_unit.ensures ∙ ap (λ l. first_unit (items_view l)) (c.deref.ensures.value ∙ ap (λ v. v.items) c.in-Some-Array.items-is))
    ∙ unit_of_items (view c.args.params.now) (items_view c.in-Some-Array.items.items) (ap (λ d. Some d) (sym array_is) ∙ c.in-Some-Array.ensures)
