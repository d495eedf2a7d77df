use Rattle.std.proofs.Common.{sym, subst}
use Rattle.productions.specs.Productions.{IsSound}
use Rattle.uses.proofs.ListGrammar.{lists_sound, pushed}
use Rattle.uses.proofs.sets.lists.Goals as goal

pub of-requires : goal.of-requires
of-requires c =
    let copied = c.in_ok-from_slice.ensures.items in
    subst IsSound (sym (pushed c.new-productions.result c.push.new.self c.push-2.new.self c.new.result.items c.in_ok-from_slice.field-0.items c.new-productions.ensures
    c.new.ensures.items c.in_ok-push.ensures.added copied c.in_ok-push-2.ensures.added)) lists_sound
