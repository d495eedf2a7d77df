-- What a step, a change and the end of a session leave, and what they don't: one row for each part that is given, and one that is refused.
use Rattle.std.specs.Char.{encode_utf8}
use Rattle.std.specs.FinMap.{empty, insert, remove, get-empty}
use Rattle.std.specs.Prelude.{◌≡◌, ℕ, pos, true, false, List, [], ◌∷◌, ◌++◌, codes, refl, Option, Some, None, Ok, Err}
use Rattle.std.specs.Str.{chars}
use Rattle.std.proofs.Common.{ap, inl, inr, sym, subst, ◌∙◌}
use Rattle.definitions.specs.Text.{changed, offset, position, line_of, line_start, line_from, break_ends, units, greatest}
use Rattle.frames.specs.Frames.{Open, Faulty}
use Rattle.frames.specs.declared.fault.FrameFault.TheVariants.{BadField, Truncated}
use Rattle.readings.proofs.ReadingRows.{from_to, sum_reading, sum_is_read, two_reading, two_are_read, lines, lines_reading, lines_are_read, two_pairs, plus_reading, plus_is_read, three_deep, at_end, appended, appended_counts, one_node_more, made, counts}
use Rattle.readings.proofs.SumTokenRows.{InMemory, patterns}
use Rattle.readings.proofs.SumsRows.{sums_file}
use Rattle.readings.specs.Answers.{written_tree}
use Rattle.readings.specs.Edits.{AreStats}
use Rattle.readings.specs.Grammars.{FileGrammar}
use Rattle.readings.specs.Texts.{OpenDocument}
use Rattle.rpc.specs.Ids.{Ident, numbered}
use Rattle.rpc.specs.Log.TheVariants as log
use Rattle.rpc.specs.Loss.TheVariants as loss
use Rattle.rpc.specs.Messages.{TextChange, about, stats, its_text, its_tokens, its_tree, its_folds, its_selections, notification, open_text, exit, unfit_open, unfit_change, accepted, invalid, unknown, params, refused}
use Rattle.rpc.specs.Refusal.TheVariants as refusal
use Rattle.rpc.specs.Replies.{null_reply, text_reply, tokens_reply, tree_reply, stats_reply, folds_reply, selections_reply, error_reply, published_diagnostics, log_message}
use Rattle.rpc.specs.Unit.TheVariants.{Utf8, Utf16}
use Rattle.sessions.specs.Answers.{tree_answer, IsAnswerOf, IsAnswer, IsCount}
use Rattle.sessions.specs.Documents.{DocumentState, is_open, is_lost, Held, edited, IsLastAfter, Becomes, has_room}
use Rattle.sessions.specs.Sessions.{AppendsPrefix, IsWritten, Ends}
use Rattle.sessions.specs.Steps.{State, Replies, RepliesSome, Enters, Ignores, Logs, Leaves, Holds, Forgets, Stops, OnRequest, new_document, Opens, Changes, Closes, Spoils, OnMalformed, OnNotification, Step}
use Rattle.sessions.specs.declared.fault.RunFault.TheVariants.{Frame, Read, Memory}
use Rattle.sessions.specs.declared.phase.Phase.{Phase}
use Rattle.sessions.specs.declared.phase.Phase.TheVariants.{New, Ready, Down}

abbrev uri : List ℕ
uri = codes "a:x"

abbrev one : Ident
one = numbered (pos 1)

abbrev document : List ℕ → OpenDocument
document text = record { unit = Utf16; version = pos 2; text = text; last = None }

-- ---- what a step leaves

module _ (file : FileGrammar) where
  abbrev at : Phase → State
  at phase = record { file = file; phase = phase; documents = empty }

  different : (phase : Phase) → at phase ≡ at Down → phase ≡ Down
  different phase e = ap (λ (s : State). s.phase) e

  replies : Replies (at New) (null_reply one) (null_reply one ∷ []) None (at New)
  replies = (refl, refl, refl)

  replies_and_changes : Replies (at New) (null_reply one) (null_reply one ∷ []) None (at Down) → ⊥
  replies_and_changes r = absurd (cc (different New (sym r.2)))

  replies_and_stops : Replies (at New) (null_reply one) (null_reply one ∷ []) (Some 0) (at New) → ⊥
  replies_and_stops r = absurd (cc r.1)

  replies_twice : Replies (at New) (null_reply one) (null_reply one ∷ null_reply one ∷ []) None (at New) → ⊥
  replies_twice r = absurd (cc r.0)

  replies_some : RepliesSome (at New) (λ a. a ≡ null_reply one) (null_reply one ∷ []) None (at New)
  replies_some = (null_reply one, refl, replies)

  replies_other : RepliesSome (at New) (λ a. a ≡ null_reply one) (log_message log.OpenMalformed ∷ []) None (at New) → ⊥
  replies_other (answer, is, r) = absurd (cc (r.0 ∙ ap (λ a. a ∷ []) is))

  enters : Enters (at New) Down (null_reply one) (null_reply one ∷ []) None (at Down)
  enters = (refl, refl, refl)

  enters_nothing : Enters (at New) Down (null_reply one) (null_reply one ∷ []) None (at New) → ⊥
  enters_nothing e = absurd (cc (different New e.2))

  ignores : Ignores (at New) [] None (at New)
  ignores = (refl, refl, refl)

  ignores_and_changes : Ignores (at New) [] None (at Down) → ⊥
  ignores_and_changes i = absurd (cc (different New (sym i.2)))

  ignores_and_replies : Ignores (at New) (null_reply one ∷ []) None (at New) → ⊥
  ignores_and_replies i = absurd (cc i.0)

  ignores_and_stops : Ignores (at New) [] (Some 1) (at New) → ⊥
  ignores_and_stops i = absurd (cc i.1)

  logs : Logs (at New) log.OpenMalformed (log_message log.OpenMalformed ∷ []) None (at New)
  logs = (refl, refl, refl)

  logs_another : Logs (at New) log.OpenMalformed (log_message log.ChangeMalformed ∷ []) None (at New) → ⊥
  logs_another l = absurd (cc l.0)

  leaves : Leaves (at New) empty None (at New)
  leaves = (refl, refl)

  leaves_a_phase : Leaves (at New) empty None (at Down) → ⊥
  leaves_a_phase l = absurd (cc (different New (sym l.1)))

  leaves_and_stops : Leaves (at New) empty (Some 0) (at New) → ⊥
  leaves_and_stops l = absurd (cc l.0)

  stops : Stops (at Down) 0 [] (Some 0) (at Down)
  stops = (refl, refl, refl)

  stops_with_another : Stops (at Down) 0 [] (Some 1) (at Down) → ⊥
  stops_with_another s = absurd (cc s.1)

  stops_and_replies : Stops (at Down) 0 (null_reply one ∷ []) (Some 0) (at Down) → ⊥
  stops_and_replies s = absurd (cc s.0)

  unknown_before : Step (at New) (refused (unknown one)) (error_reply (Some one) refusal.NotInitialized ∷ []) None (at New)
  unknown_before = (refl, refl, refl)

  unknown_after : Step (at Down) (refused (unknown one)) (error_reply (Some one) refusal.NotInitialized ∷ []) None (at Down) → ⊥
  unknown_after s = absurd (cc s.0)

  misfit_before : Step (at New) (refused (params one false)) (error_reply (Some one) refusal.NotInitialized ∷ []) None (at New)
  misfit_before = (refl, refl, refl)

  counts_of_none : OnRequest (Ready Utf16) (at (Ready Utf16)) one (stats uri) (error_reply (Some one) refusal.DocumentNotOpen ∷ []) None (at (Ready Utf16))
  counts_of_none = (error_reply (Some one) refusal.DocumentNotOpen, subst (λ d. IsCount file one d (error_reply (Some one) refusal.DocumentNotOpen)) (sym (get-empty _ uri)) refl, (refl, refl, refl))

  text_of_none : OnRequest (Ready Utf16) (at (Ready Utf16)) one (about uri its_text) (null_reply one ∷ []) None (at (Ready Utf16)) → ⊥
  text_of_none (answer, is, r) =
      absurd (cc (r.0 ∙ ap (λ a. a ∷ []) (subst (λ d. IsAnswer file one d its_text answer) (get-empty _ uri) is)))

  invalid_with_its_id : Step (at Down) (refused (invalid (Some one))) (error_reply (Some one) refusal.InvalidRequest ∷ []) None (at Down)
  invalid_with_its_id = (refl, refl, refl)

  lost_counts : IsCount file one (Some (is_lost loss.TooLarge)) (error_reply (Some one) (refusal.DocumentLost loss.TooLarge))
  lost_counts = refl

  spoils_none : OnMalformed (at (Ready Utf16)) (unfit_change (Some uri)) (log_message log.ChangeNotOpen ∷ []) None (at (Ready Utf16))
  spoils_none = subst (λ d. Spoils d (at (Ready Utf16)) uri (log_message log.ChangeNotOpen ∷ []) None (at (Ready Utf16))) (sym (get-empty _ uri)) (refl, refl, refl)

  abbrev ready : Held → State
  ready documents = record { file = file; phase = Ready Utf16; documents = documents }

  finds_no_room : (documents : Held) → has_room uri documents ≡ false
      → Step (ready documents) (accepted (notification (open_text uri (pos 1) []))) (log_message log.TooManyDocuments ∷ []) None (ready documents)
  finds_no_room documents none =
      subst (λ b. Opens b (ready documents) uri (new_document Utf16 (pos 1) (chars [])) (log_message log.TooManyDocuments ∷ []) None (ready documents)) (sym none) (refl, refl, refl)

  malformed_silently : OnMalformed (at (Ready Utf16)) unfit_open [] None (at (Ready Utf16)) → ⊥
  malformed_silently m = absurd (cc m.0)

  goes_on_after_exit : OnNotification Down (at Down) exit [] None (at Down) → ⊥
  goes_on_after_exit n = absurd (cc n.1)

  -- ---- losses and closing

  abbrev lost : State
  lost = record { file = file; phase = Ready Utf16; documents = insert empty uri (is_lost loss.TooLarge) }

  holds_lost : Holds (at (Ready Utf16)) uri (is_lost loss.TooLarge) (published_diagnostics uri None None ∷ log_message (log.Lost loss.TooLarge) ∷ []) None lost
  holds_lost = (refl, (refl, refl))

  opens_lost : Opens true (at (Ready Utf16)) uri (is_lost loss.TooLarge) (published_diagnostics uri None None ∷ log_message (log.Lost loss.TooLarge) ∷ []) None lost
  opens_lost = holds_lost

  opens_without_room : Opens false (at (Ready Utf16)) uri (is_lost loss.TooLarge) [] None (at (Ready Utf16)) → ⊥
  opens_without_room o = absurd (cc o.0)

  log_before_diagnostics : Holds (at (Ready Utf16)) uri (is_lost loss.TooLarge) (log_message (log.Lost loss.TooLarge) ∷ published_diagnostics uri None None ∷ []) None lost → ⊥
  log_before_diagnostics h = absurd (cc h.0)

  another_cause : Holds (at (Ready Utf16)) uri (is_lost loss.TooLarge) (published_diagnostics uri None None ∷ log_message (log.Lost loss.Memory) ∷ []) None lost → ⊥
  another_cause h = absurd (cc h.0)

  forgets : Forgets lost uri (published_diagnostics uri None None ∷ []) None (record { file = file; phase = Ready Utf16; documents = remove lost.documents uri })
  forgets = (refl, (refl, refl))

  forgets_with_version : Forgets lost uri (published_diagnostics uri (Some (pos 1)) None ∷ []) None lost → ⊥
  forgets_with_version f = absurd (cc f.0)

  changes_a_lost_one : Changes (Some (is_lost loss.Memory)) lost uri (pos 3) [] (log_message log.ChangeNotOpen ∷ []) None lost → ⊥
  changes_a_lost_one c = absurd (cc c.0)

  changes_none_silently : Changes None lost uri (pos 3) [] [] None lost → ⊥
  changes_none_silently c = absurd (cc c.0)

  spoils_none_silently : Spoils None lost uri [] None lost → ⊥
  spoils_none_silently c = absurd (cc c.0)

  closes_none_silently : Closes None lost uri [] None lost → ⊥
  closes_none_silently c = absurd (cc c.0)

  -- ---- what changes make of an open document

  becomes_open : Becomes file (pos 3) (document (codes "2")) [] (is_open (record { unit = Utf16; version = pos 3; text = codes "2"; last = None }))
  becomes_open = (refl, refl, refl, refl)

  keeps_the_version : Becomes file (pos 3) (document (codes "2")) [] (is_open (document (codes "2"))) → ⊥
  keeps_the_version b = absurd (cc b.2)

  another_unit : Becomes file (pos 3) (document (codes "2")) [] (is_open (record { unit = Utf8; version = pos 3; text = codes "2"; last = None })) → ⊥
  another_unit b = absurd (cc b.1)

  another_text : Becomes file (pos 3) (document (codes "2")) [] (is_open (record { unit = Utf16; version = pos 3; text = []; last = None })) → ⊥
  another_text b = absurd (cc b.0)

  another_edit : Becomes file (pos 3) (document (codes "2")) []
      (is_open (record { unit = Utf16; version = pos 3; text = codes "2"; last = Some (record { number = 1; scanned = 0; built = 0 }) })) → ⊥
  another_edit b = absurd (cc b.3)

  -- memory is refused only at a change that is reached and fits
  abbrev small : TextChange
  small = record { range = None; text = codes "3" }

  -- U+D800 in three bytes is no Unicode scalar value, so a text with it doesn't fit
  abbrev unfit : TextChange
  unfit = record { range = None; text = 0xED ∷ 0xA0 ∷ 0x80 ∷ [] }

  no_change_no_loss : Becomes file (pos 3) (document (codes "2")) [] (is_lost loss.Memory) → ⊥
  no_change_no_loss ([], rest, c, is, fits) = absurd (cc is)
  no_change_no_loss (x ∷ prefix, rest, c, is, fits) = absurd (cc is)

  a_change_lost : Becomes file (pos 3) (document (codes "2")) (small ∷ []) (is_lost loss.Memory)
  unfolding chars encode_utf8 changed
  a_change_lost = ([], [], small, refl, (codes "3", refl))

  too_large : Becomes file (pos 3) (document (codes "2")) (unfit ∷ []) (is_lost loss.TooLarge)
  unfolding chars encode_utf8 changed
  too_large = refl

  fits_yet_too_large : Becomes file (pos 3) (document (codes "2")) (small ∷ []) (is_lost loss.TooLarge) → ⊥
  unfolding chars encode_utf8 changed
  fits_yet_too_large b = absurd (cc b)

  unfit_for_memory : Becomes file (pos 3) (document (codes "2")) (unfit ∷ []) (is_lost loss.Memory) → ⊥
  unfolding chars encode_utf8 changed
  unfit_for_memory ([], rest, c, is, (mid, fits)) =
      let first : c ≡ unfit = cc is in
      absurd (cc (subst (λ x. edited Utf16 (codes "2") (x ∷ []) ≡ Some mid) first fits))
  unfit_for_memory (x ∷ [], rest, c, is, fits) = absurd (cc is)
  unfit_for_memory (x ∷ y ∷ prefix, rest, c, is, fits) = absurd (cc is)

  changes_an_open_one : Changes (Some (is_open (document (codes "2")))) (at (Ready Utf16)) uri (pos 3) (unfit ∷ [])
      (published_diagnostics uri None None ∷ log_message (log.Lost loss.TooLarge) ∷ []) None lost
  changes_an_open_one = (is_lost loss.TooLarge, too_large, holds_lost)

opened_text : new_document Utf16 (pos 2) (codes "2") ≡ is_open (document (codes "2"))
unfolding encode_utf8
opened_text = refl

opened_too_large : new_document Utf16 (pos 2) (0xD800 ∷ []) ≡ is_lost loss.TooLarge
unfolding encode_utf8
opened_too_large = refl

unfit_on_the_way : edited Utf16 [] (record { range = None; text = 0xED ∷ 0xA0 ∷ 0x80 ∷ [] } ∷ record { range = None; text = codes "3" } ∷ []) ≡ None
unfolding chars encode_utf8 changed
unfit_on_the_way = refl

-- the whole text has to fit, and not the piece alone
unfit_before : edited Utf16 (0xD800 ∷ []) (record { range = Some (from_to 0 0 0 0); text = codes "3" } ∷ []) ≡ None
unfolding chars encode_utf8 changed offset line_start line_from break_ends units greatest
unfit_before = refl

-- ---- answers about an open text of sums

module _ (at : InMemory) where
  abbrev sums : FileGrammar
  sums = sums_file (patterns at)

  tokens_answered : IsAnswerOf sums one (document (codes "1+2")) its_tokens
      (tokens_reply one ((codes "NUM", from_to 0 0 0 1) ∷ (codes "PLUS", from_to 0 1 0 2) ∷ (codes "NUM", from_to 0 2 0 3) ∷ []))
  unfolding encode_utf8 position line_of line_start line_from break_ends units
  tokens_answered = (sum_reading at, sum_is_read at, refl)

  no_tokens_answered : IsAnswerOf sums one (document (codes "1+2")) its_tokens (null_reply one) → ⊥
  no_tokens_answered (reading, is, answer) = absurd (cc answer)

  tree_answered : IsAnswerOf sums one (document (codes "1+2")) its_tree (tree_reply one (codes "(Sum (Sum (Atom NUM)) PLUS (Atom NUM))"))
  unfolding encode_utf8
  tree_answered = (sum_reading at, sum_is_read at, refl)

  no_tree_answered : IsAnswerOf sums one (document (codes "1 2")) its_tree (null_reply one)
  no_tree_answered = (two_reading at, two_are_read at, refl)

  text_for_a_tree : IsAnswerOf sums one (document (codes "1+2")) its_tree (text_reply one (pos 2) (codes "1+2")) → ⊥
  unfolding tree_answer
  text_for_a_tree (reading, is, answer) = by (written_tree sums reading.verdict) answer
    where
      by : (o : Option (List ℕ)) → text_reply one (pos 2) (codes "1+2") ≡ tree_answer one o → ⊥
      by None e = absurd (cc e)
      by (Some t) e = absurd (cc e)

  folds_answered : IsAnswerOf sums one (document (lines at)) its_folds (folds_reply one ((0, 4) ∷ (1, 3) ∷ []))
  folds_answered = (lines_reading at, lines_are_read at, ((0, 4) ∷ (1, 3) ∷ [], two_pairs at, refl))

  no_folds_answered : IsAnswerOf sums one (document (lines at)) its_folds (null_reply one) → ⊥
  no_folds_answered (reading, is, (pairs, are, answer)) = absurd (cc answer)

  selections_answered : IsAnswerOf sums one (document (codes "1+2+")) (its_selections (record { line = 0; character = 2 } ∷ record { line = 0; character = 4 } ∷ []))
      (selections_reply one ((from_to 0 2 0 3 ∷ from_to 0 0 0 3 ∷ from_to 0 0 0 4 ∷ []) ∷ (from_to 0 0 0 4 ∷ []) ∷ []))
  unfolding offset line_start line_from break_ends units greatest
  selections_answered = (plus_reading at, plus_is_read at, (_, (_, _, refl, three_deep at, (_, _, refl, at_end at, refl)), refl))

  no_selections_answered : IsAnswerOf sums one (document (codes "1+2+")) (its_selections []) (null_reply one) → ⊥
  no_selections_answered (reading, is, (selections, are, answer)) = absurd (cc answer)

  abbrev edited_once : OpenDocument
  edited_once = record { unit = Utf16; version = pos 2; text = codes "1+2+3+4"; last = Some (made at 1 3 4) }

  abbrev after_edit : DocumentState
  after_edit = is_open edited_once

  counts_answered : IsCount sums one (Some after_edit) (stats_reply one (counts at 1 3 7 8 4 1_040))
  counts_answered = (counts at 1 3 7 8 4 1_040, appended_counts at, refl)

  one_node_too_many : IsCount sums one (Some after_edit) (stats_reply one (counts at 1 3 7 8 4 1_041)) → ⊥
  one_node_too_many (found, are, answer) =
      let same : found ≡ counts at 1 3 7 8 4 1_041 = sym (cc answer) in
      one_node_more at (subst (λ s. AreStats sums edited_once s) same are)

  last_after : IsLastAfter Utf16 sums (codes "1+2+3") (record { range = Some (from_to 0 5 0 5); text = codes "+4" } ∷ []) None (Some (made at 1 3 4))
  unfolding chars encode_utf8
  last_after = (made at 1 3 4, appended at, refl)

  last_after_none : IsLastAfter Utf16 sums (codes "1+2+3") [] (Some (made at 1 3 4)) None → ⊥
  last_after_none l = absurd (cc l)

-- ---- how a session ends, and what is written of it

ends_with_another_status : Ends (Ok 1) (Some []) (Open []) (Some 0) → ⊥
ends_with_another_status (inl e) = absurd (cc e)
ends_with_another_status (inr e) = absurd (cc e.0)

ends_well_without_exit : Ends (Ok 0) (Some []) (Open []) None → ⊥
ends_well_without_exit (inl e) = absurd (cc e)
ends_well_without_exit (inr e) = absurd (cc e.3)

ends_before_the_end : Ends (Ok 1) (Some (codes "X")) (Open []) None → ⊥
ends_before_the_end (inl e) = absurd (cc e)
ends_before_the_end (inr e) = absurd (cc e.1)

fault_after_exit : Ends (Err (Frame BadField)) (Some []) (Faulty BadField) (Some 0) → ⊥
fault_after_exit e = absurd (cc e.0)

another_fault : Ends (Err (Frame BadField)) (Some []) (Faulty Truncated) None → ⊥
another_fault e = absurd (cc e.1)

fault_in_the_stream : Ends (Err (Frame BadField)) (Some (codes "X")) (Faulty BadField) None
fault_in_the_stream = (refl, refl, λ o. absurd o)

cut_short_before_the_end : Ends (Err (Frame Truncated)) (Some (codes "X")) (Open (codes "C")) None → ⊥
cut_short_before_the_end e = absurd (cc (e.2 tt))

read_fails_after_exit : Ends (Err Read) (Some []) (Open []) (Some 0) → ⊥
read_fails_after_exit e = absurd (cc e.0)

read_fails : Ends (Err Read) (Some []) (Open (codes "C")) None
read_fails = (refl, tt)

all_before_a_read_fault : IsWritten (Err Read) (Some []) (Some (codes "bc")) (codes "bc")
all_before_a_read_fault = refl

part_before_a_read_fault : IsWritten (Err Read) (Some []) (Some (codes "b")) (codes "bc") → ⊥
part_before_a_read_fault w = absurd (cc w)

part_before_a_stream_fault : IsWritten (Err (Frame BadField)) (Some []) (Some (codes "b")) (codes "bc") → ⊥
part_before_a_stream_fault w = absurd (cc w)

part_before_refused_memory : IsWritten (Err Memory) (Some (codes "a")) (Some (codes "ab")) (codes "bc")
part_before_refused_memory = (codes "b", codes "c", refl, refl)

more_than_all : AppendsPrefix (Some []) (Some (codes "bcd")) (codes "bc") → ⊥
more_than_all (prefix, rest, is, appended) = by prefix appended is
  where
    by : (prefix : List ℕ) → codes "bcd" ≡ prefix → codes "bc" ≡ prefix ++ rest → ⊥
    by prefix same is = absurd (cc (subst (λ p. codes "bc" ≡ p ++ rest) (sym same) is))

a_part : AppendsPrefix (Some (codes "a")) (Some (codes "ab")) (codes "bc")
a_part = (codes "b", codes "c", refl, refl)
