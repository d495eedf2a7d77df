use Rattle.std.proofs.Common.{◌≡◌, drop}
use Rattle.serde_json.specs.View.{items_view, members_view}
use Rattle.serde_json.specs.Written.{items_have_float, members_have_float}
use Rattle.editor_replies.proofs.values.+is_whole.Given as goal

-- no item before has a fraction
abbrev pub invariant-are_whole-loop-item : goal.invariant-are_whole-loop-item
invariant-are_whole-loop-item l = items_have_float (items_view l.item-items) ≡ items_have_float (items_view (drop l.item-index l.item-items))

abbrev pub invariant-are_members_whole-loop-member : goal.invariant-are_members_whole-loop-member
invariant-are_members_whole-loop-member l = members_have_float (members_view l.initial.member-iterator) ≡ members_have_float (members_view l.member-iterator)
