-- Worked examples of how answers of the core are shown, and of what of a message is the core's.
use Rattle.std.proofs.Common.{◌≡◌, [], ◌∷◌, Some, None, pos, refl, inl, inr}
use Rattle.std.specs.Prelude.{codes}
use Rattle.serde_json.specs.Data.{null}
use Rattle.definitions.specs.declared.Range.{Range}
use Rattle.definitions.specs.declared.Unit.TheVariants.{Utf16}
use Rattle.replies.specs.Ids.{numbered}
use Rattle.replies.specs.Replies.{capabilities_reply, folds_reply, log_message, null_reply, published_diagnostics, selections_reply}
use Rattle.replies.specs.declared.reply.Log.TheVariants.{CloseNotOpen, Lost, TooManyDocuments}
use Rattle.replies.specs.declared.reply.Loss.TheVariants.{TooLarge}
use Rattle.editor_replies.specs.Sent.{call, cancelled, capabilities, changes, colours, core_answers, core_part, grown, notice, of_core, own, worded}
use Rattle.shown.specs.Shown.{AreShown, AreTold, IsShown, ShownData, shown_fault}

-- from 4:0 to 2:5
range : Range
range = record { start = record { line = 4; character = 0 }; end = record { line = 2; character = 5 } }

-- of what is sent the core's answers are left, with its own text of a fault
sent :
    core_answers (capabilities (numbered (pos 0)) Utf16 [] [] [] ∷ colours (numbered (pos 1)) None (0 ∷ [])
    ∷ changes (numbered (pos 1)) (49 ∷ []) None ∷ of_core (null_reply (numbered (pos 2))) ∷ own (null_reply (numbered (pos 3))) ∷ [])
    ≡ capabilities_reply (numbered (pos 0)) Utf16 ∷ null_reply (numbered (pos 2)) ∷ []
sent = refl

nothing_of_the_cores : core_answers (cancelled (numbered (pos 7)) ∷ notice [] null ∷ call [] [] None ∷ []) ≡ []
nothing_of_the_cores = refl

fault : core_part (worded (shown_fault (97 ∷ []) (Some (pos 1)) range (98 ∷ []) None (null ∷ [])) (99 ∷ []))
    ≡ published_diagnostics (97 ∷ []) (Some (pos 1)) (Some (range, 99 ∷ [])) ∷ []
fault = refl

-- an editor of a language that begins comments by `#`
shown : ShownData
shown = record { name = 103 ∷ []; comment = 35 ∷ []; types = (107 ∷ []) ∷ []; palette = Some 0 ∷ []; texts = []; kinds = [] }

-- what the core can do is sent with the name, the comment and the types that are shown, and with no others
capable : IsShown shown (capabilities_reply (numbered (pos 0)) Utf16) (capabilities (numbered (pos 0)) Utf16 (103 ∷ []) (35 ∷ []) ((107 ∷ []) ∷ []))
unfolding shown
capable = refl

other_comment : IsShown shown (capabilities_reply (numbered (pos 0)) Utf16) (capabilities (numbered (pos 0)) Utf16 (103 ∷ []) [] ((107 ∷ []) ∷ [])) → ⊥
unfolding shown
other_comment e = cc

capable_alone : IsShown shown (capabilities_reply (numbered (pos 0)) Utf16) (of_core (capabilities_reply (numbered (pos 0)) Utf16)) → ⊥
capable_alone e = cc

-- a fault keeps its place, and the core's text
with_words : IsShown shown (published_diagnostics (97 ∷ []) None (Some (range, 99 ∷ []))) (worded (shown_fault (97 ∷ []) None range (98 ∷ []) (Some (100 ∷ [])) (null ∷ [])) (99 ∷ []))
with_words = (98 ∷ [], Some (100 ∷ []), null ∷ [], refl)

other_text : IsShown shown (published_diagnostics (97 ∷ []) None (Some (range, 99 ∷ []))) (worded (shown_fault (97 ∷ []) None range (98 ∷ []) None []) []) → ⊥
other_text e = let is = e.3 in cc

-- folds stay, and more may come behind them
more_folds : IsShown shown (folds_reply (numbered (pos 2)) ((1, 4) ∷ [])) (grown (folds_reply (numbered (pos 2)) ((1, 4) ∷ [])) (folds_reply (numbered (pos 2)) ((1, 4) ∷ (6, 8) ∷ [])))
more_folds = ((6, 8) ∷ [], inr refl)

fewer_folds : IsShown shown (folds_reply (numbered (pos 2)) ((1, 4) ∷ [])) (grown (folds_reply (numbered (pos 2)) ((1, 4) ∷ [])) (folds_reply (numbered (pos 2)) [])) → ⊥
fewer_folds (more, inl is) = cc
fewer_folds (more, inr is) = cc

-- what is sent in the place of selections are as many
other_selection : IsShown shown (selections_reply (numbered (pos 2)) ([] ∷ [])) (grown (selections_reply (numbered (pos 2)) ([] ∷ [])) (selections_reply (numbered (pos 2)) ((range ∷ []) ∷ [])))
other_selection = ((range ∷ []) ∷ [], refl, inr refl)

too_few_selections : IsShown shown (selections_reply (numbered (pos 2)) ([] ∷ [])) (grown (selections_reply (numbered (pos 2)) ([] ∷ [])) (selections_reply (numbered (pos 2)) [])) → ⊥
too_few_selections (others, same, inl is) = cc
too_few_selections (others, same, inr is) = cc

-- the core's part of such an answer is the core's
of_grown : core_part (grown (folds_reply (numbered (pos 2)) []) (folds_reply (numbered (pos 2)) ((6, 8) ∷ []))) ≡ folds_reply (numbered (pos 2)) [] ∷ []
of_grown = refl

-- all else is sent as it is
as_it_is : IsShown shown (null_reply (numbered (pos 2))) (of_core (null_reply (numbered (pos 2))))
as_it_is = refl

as_its_own : IsShown shown (null_reply (numbered (pos 2))) (own (null_reply (numbered (pos 2)))) → ⊥
as_its_own e = cc

mended : IsShown shown (published_diagnostics (97 ∷ []) None None) (of_core (published_diagnostics (97 ∷ []) None None))
mended = refl

-- one message for each answer, in order, and none besides
both : AreShown shown (null_reply (numbered (pos 2)) ∷ null_reply (numbered (pos 3)) ∷ []) (of_core (null_reply (numbered (pos 2))) ∷ of_core (null_reply (numbered (pos 3))) ∷ [])
both =
    (of_core (null_reply (numbered (pos 2))), [], of_core (null_reply (numbered (pos 3))) ∷ [], refl, refl, (of_core (null_reply (numbered (pos 3))), [], [], refl, refl, refl, refl), refl)

one_besides : AreShown shown [] (own (null_reply (numbered (pos 3))) ∷ []) → ⊥
one_besides e = cc

one_too_few : AreShown shown (null_reply (numbered (pos 2)) ∷ []) [] → ⊥
one_too_few e = let is = e.6 in cc

-- of a lost document and of one too many it is told, and of nothing else
lost : AreTold (log_message (Lost TooLarge)) (notice (codes "window/showMessage") null ∷ [])
lost = (null, refl)

too_many : AreTold (log_message TooManyDocuments) (notice (codes "window/showMessage") null ∷ [])
too_many = (null, refl)

untold : AreTold (log_message (Lost TooLarge)) [] → ⊥
untold e = let is = e.1 in cc

told_apart : AreTold (log_message TooManyDocuments) (notice (codes "window/logMessage") null ∷ []) → ⊥
told_apart e = let is = e.1 in cc

nothing_to_tell : AreTold (log_message CloseNotOpen) []
nothing_to_tell = refl

told_for_nothing : AreTold (log_message CloseNotOpen) (notice (codes "window/showMessage") null ∷ []) → ⊥
told_for_nothing e = cc
