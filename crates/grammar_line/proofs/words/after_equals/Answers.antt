use Rattle.grammar_line.proofs.Std.{◌≡◌, ◌==◌, ◌∙◌, ap, arith, common_steps, after_first}
use Rattle.grammar_line.proofs.Common.{trim_start, trim_end}
use Rattle.grammar_line.proofs.Blanks.{starts_trimmed, ends_trimmed}
use Rattle.grammar_line.proofs.words.after_equals.Goals as goal
use Rattle.grammar_line.proofs.words.after_equals.Goals.{in-Some, in-None}

pub returns : goal.returns
returns c =
    let is : c.match-split_once.pattern.now ≡ after_first (λ b. b == 61) c.args.line.now = elim c.match-split_once.branch [
      | in-Some w ↦ rw w.pattern-is (grind (arith, common_steps))
      | in-None w ↦ rw w.pattern-is (grind (arith, common_steps))
    ] in
    ends_trimmed _ _ c.trim_end_matches.ensures.matches
    ∙ (ap trim_end (starts_trimmed _ _ c.trim_start_matches.ensures.matches) ∙ ap (λ p. trim_end (trim_start p)) is)
