use Rattle.completion.proofs.Std.{◌++◌, ◌≡◌, flat_map, map}
use Rattle.completion.proofs.Common.{offer}
use Rattle.completion.proofs.Looks.{of_look}
use Rattle.completion.proofs.offers.offers_of.Given as goal

abbrev pub invariant-loop-look : goal.invariant-loop-look
invariant-loop-look l =
    map offer l.offers.items ++ flat_map (of_look l.texts l.word) l.look-iterator ≡ flat_map (of_look l.texts l.word) l.fn.expected
