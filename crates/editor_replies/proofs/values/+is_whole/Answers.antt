use Rattle.std.proofs.Common.{◌≡◌, ◌||◌, ◌+◌, [], drop, sym, ap, ◌∙◌, arith, rules}
use Rattle.std.specs.Prelude.{not}
use Rattle.std.proofs.lemmas.List.{drop_all}
use Rattle.serde_json.specs.View.{items_view, members_view, view}
use Rattle.serde_json.specs.Written.{has_float, items_have_float, members_have_float}
use Rattle.editor_replies.proofs.Fractions.{from_item, of_not, of_whole}
use Rattle.editor_replies.proofs.values.+is_whole.Goals as goal

pub are_whole-returns-then-not-is_whole : goal.are_whole-returns-then-not-is_whole
are_whole-returns-then-not-is_whole t c =
    let xs = c.deref-item-items.result.now in
    let k = c.loop-item.item-index in
    let x = c.item-item.result in
    let has = of_not (has_float (view x)) c.is_whole.result c.is_whole.ensures c.if-not-is_whole.true in
    let here = ap (λ v. has_float (view v)) (sym c.item-item.is) ∙ has in
    let all = c.loop-item.invariant ∙ (from_item xs k x (omega arith) ∙ ap (λ b. b || items_have_float (items_view (drop (k + 1) xs))) here) in
    sym (ap not (ap (λ l. items_have_float (items_view l)) (sym c.deref-item-items.ensures.value) ∙ all))

pub are_whole-loop-item-preserved : goal.are_whole-loop-item-preserved
are_whole-loop-item-preserved t c =
    let xs = c.deref-item-items.result.now in
    let k = c.loop-item.item-index in
    let x = c.item-item.result in
    let none = of_whole (has_float (view x)) c.is_whole.result c.is_whole.ensures c.if-not-is_whole.false in
    let here = ap (λ v. has_float (view v)) (sym c.item-item.is) ∙ none in
    c.loop-item.invariant ∙ (from_item xs k x (omega arith) ∙ ap (λ b. b || items_have_float (items_view (drop (k + 1) xs))) here)

pub are_whole-returns : goal.are_whole-returns
are_whole-returns t c =
    let xs = c.deref-item-items.result.now in
    let none : drop c.loop-item.item-index xs ≡ [] = drop_all c.loop-item.item-index xs (omega arith) in
    let all = c.loop-item.invariant ∙ ap (λ l. items_have_float (items_view l)) none in
    sym (ap not (ap (λ l. items_have_float (items_view l)) (sym c.deref-item-items.ensures.value) ∙ all))

-- an object's members have a fraction where its first one or one of the others has
pub are_members_whole-returns-then-not-is_whole : goal.are_members_whole-returns-then-not-is_whole
are_members_whole-returns-then-not-is_whole t c =
    let has = of_not (has_float (view c.in-Some.member.now)) c.is_whole.result c.is_whole.ensures c.if-not-is_whole.true in
    let all : c.into_iter-member-iterator.result ≡ c.args.members.now.entries = search rules in
    let here = c.loop-member.invariant ∙ (ap (λ l. members_have_float (members_view l)) c.in-Some.ensures.steps
    ∙ ap (λ b. b || members_have_float (members_view c.next.new.self)) has) in
    sym (ap not (ap (λ l. members_have_float (members_view l)) (sym all) ∙ here))

pub are_members_whole-loop-member-preserved : goal.are_members_whole-loop-member-preserved
are_members_whole-loop-member-preserved t c =
    let none = of_whole (has_float (view c.in-Some.member.now)) c.is_whole.result c.is_whole.ensures c.if-not-is_whole.false in
    c.loop-member.invariant ∙ (ap (λ l. members_have_float (members_view l)) c.in-Some.ensures.steps
    ∙ ap (λ b. b || members_have_float (members_view c.next.new.self)) none)

pub are_members_whole-returns : goal.are_members_whole-returns
are_members_whole-returns t c =
    let all : c.into_iter-member-iterator.result ≡ c.args.members.now.entries = search rules in
    let none = c.loop-member.invariant ∙ ap (λ l. members_have_float (members_view l)) c.in-None.ensures.steps.0 in
    sym (ap not (ap (λ l. members_have_float (members_view l)) (sym all) ∙ none))
