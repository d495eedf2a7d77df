-- Worked examples of what a content asks of the editor's server, and of what the editor cancels.
use Rattle.std.proofs.Common.{◌≡◌, [], ◌∷◌, Some, None, arith, pos, refl}
use Rattle.std.specs.Prelude.{codes}
use Rattle.serde_json.specs.Data.{Data, member, no_members, number, object, string, unsigned}
use Rattle.definitions.specs.declared.Range.{Range}
use Rattle.definitions.specs.declared.Unit.TheVariants.{Utf16}
use Rattle.replies.specs.Ids.{numbered}
use Rattle.rpc.specs.Messages.{accepted, ignored, refused, request, shutdown, stats, unknown}
use Rattle.sessions.specs.declared.phase.Phase.TheVariants.{New, Ready, Down}
use Rattle.questions.specs.Asked.{a_grammar, about, about_document, grammar_asked, its_colours, lines_of, misfit}
use Rattle.questions.specs.Cancels.{IsCancelled, cancelled_of, question_id}
use Rattle.questions.specs.Own.{own_of}

-- from 2:5 to 4:0, in either order: the lines 2 to 4
range : Range
range = record { start = record { line = 4; character = 0 }; end = record { line = 2; character = 5 } }

three_lines : lines_of range ≡ (2, 5)
unfolding range
three_lines = refl

-- a request that asks for colours is answered by the editor's server in the ready phase alone
ready : own_of (Ready Utf16) (refused (unknown (numbered (pos 7)))) (Some misfit) ≡ Some (numbered (pos 7), misfit)
ready = refl

before_initialize : own_of New (refused (unknown (numbered (pos 7)))) (Some misfit) ≡ None
before_initialize = refl

after_shutdown : own_of Down (refused (unknown (numbered (pos 7)))) (Some misfit) ≡ None
after_shutdown = refl

-- what the core knows, and what asks nothing, is the core's
known : own_of (Ready Utf16) (accepted ignored) (Some misfit) ≡ None
known = refl

other_method : own_of (Ready Utf16) (refused (unknown (numbered (pos 7)))) None ≡ None
other_method = refl

-- a question needs a document
no_document : about_document None (Some its_colours) ≡ misfit
no_document = refl

of_document : about_document (Some (97 ∷ [])) (Some its_colours) ≡ about (97 ∷ []) its_colours
of_document = refl

-- a grammar file needs a text, which may be empty
no_text : grammar_asked None ≡ misfit
no_text = refl

empty_text : grammar_asked (Some []) ≡ a_grammar []
empty_text = refl

-- ---- cancelled requests

-- `$/cancelRequest` with the id 7, and without one
cancel : Data
cancel = object
    (member (codes "method") (string (codes "$/cancelRequest"))
    (member (codes "params") (object (member (codes "id") (number (unsigned 7)) no_members)) no_members))

bare : Data
bare = object (member (codes "method") (string (codes "$/cancelRequest")) no_members)

cancels_seven : cancelled_of cancel ≡ Some (numbered (pos 7))
unfolding cancel
cancels_seven = refl

cancels_none : cancelled_of bare ≡ None
unfolding bare
cancels_none = refl

-- a question can be cancelled in the ready phase alone; `shutdown` never
question : question_id (Ready Utf16) (accepted (request (numbered (pos 7)) (stats []))) ≡ Some (numbered (pos 7))
question = refl

own_question : question_id (Ready Utf16) (refused (unknown (numbered (pos 7)))) ≡ Some (numbered (pos 7))
own_question = refl

too_early : question_id New (refused (unknown (numbered (pos 7)))) ≡ None
too_early = refl

no_question : question_id (Ready Utf16) (accepted (request (numbered (pos 7)) shutdown)) ≡ None
no_question = refl

is_cancelled : IsCancelled (numbered (pos 7)) (None ∷ Some (numbered (pos 7)) ∷ [])
is_cancelled = (1, Some (numbered (pos 7)), omega arith, refl, refl)
