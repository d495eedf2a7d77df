use Rattle.patterns.proofs.Words.{one_more_word}
use Rattle.patterns.proofs.characters.spelled_characters.Goals as goal

pub loop-place-preserved : goal.loop-place-preserved
loop-place-preserved c = (
  one_more_word c.loop-place.words.items c.push.new.self.items c.character_at-word.result.0 _ _ _ c.in_ok-push.ensures.items c.character_at-word.ensures.written c.loop-place.invariant.0,
  c.character_at-word.ensures.in_range,
)
