use Rattle.text.proofs.Std.{chars_past_char, chars, sym, ap, ◌∷◌, ◌∙◌}
use Rattle.text.proofs.characters.split_first.Goals as goal

pub returns : goal.returns
returns c =
    let steps = c.in_ok-first.ensures.steps in
    chars_past_char c.args.text.now c.next.new.self.rest.now c.in_ok-first.first c.utf8.text (sym c.chars-rest.ensures.rest ∙ steps.0)
    ∙ ap (λ t. c.in_ok-first.first ∷ chars t) (sym c.as_str.ensures)
