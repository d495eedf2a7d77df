use Rattle.completion.proofs.Std.{◌≡◌, is_lowercase, list_any}
use Rattle.completion.proofs.offers.has_small_letter.Given as goal

abbrev pub invariant-loop-character : goal.invariant-loop-character
invariant-loop-character l = l.found ≡ list_any is_lowercase l.yielded
