use Rattle.session_rows.proofs.TypedSession.{came_typed}
use Rattle.session_rows.specs.Contents.{session_bytes}
use Rattle.session_rows.proofs.typed.typed_in.Goals as goal

pub returns : goal.returns
returns g c =
    came_typed (record { rules = c.expected_unique.ensures.rules; ends = c.expected_unique.ensures.ends; meaning = c.one_text_has_one_meaning.ensures })
    c.in_ok-_number._number c.in_ok-_number.ensures.spelled c.in_ok-_number.ensures.two
    c.in_ok-language.language.file c.in_ok-language.ensures.language.grammar _ _
    (c.over_input.ensures.session session_bytes c.requires.bytes)
