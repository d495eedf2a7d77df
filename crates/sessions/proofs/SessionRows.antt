-- What a server does with single messages, what is left of small runs, and what neither allows: from the rows of the protocol (LSP 3.17,
-- "Server lifecycle", "Text Document Synchronization"; JSON-RPC 2.0).
use Rattle.std.specs.Prelude.{◌≡◌, ℕ, pos, List, [], ◌∷◌, ◌++◌, codes, refl, Some, None, Ok, Err, true, false, slice_index, ◌||◌, is_some, nat_lt}
use Rattle.std.proofs.Common.{ap, arith, inl, inr, sym, subst, ◌∙◌}
use Rattle.std.specs.Char.{encode_utf8}
use Rattle.std.specs.FinMap.{empty, get, insert, remove, len}
use Rattle.std.specs.Fmt.{digits}
use Rattle.std.specs.Str.{chars, is_utf8}
use Rattle.frames.specs.Frames.{Open, Faulty, Splits, start_of}
use Rattle.frames.specs.declared.fault.FrameFault.TheVariants.{BadField, Truncated}
use Rattle.sessions.specs.declared.fault.RunFault.TheVariants.{Frame, Read, Write}
use Rattle.definitions.specs.Text.{changed, offset, line_start, line_from, break_ends, units, greatest}
use Rattle.json.specs.Print.{escape_byte}
use Rattle.serde_json.proofs.OnLiterals.{serde_json_on_literals}
use Rattle.readings.specs.Grammars.{FileGrammar}
use Rattle.readings.specs.Texts.{OpenDocument}
use Rattle.rpc.specs.Ids.{Ident, numbered}
use Rattle.rpc.specs.Log.TheVariants as log
use Rattle.rpc.specs.Loss.TheVariants as loss
use Rattle.rpc.specs.Messages.{initialize, shutdown, about, stats, its_text, its_tree, exit, initialized, open_text, change_text, close, malformed, unfit_open}
use Rattle.rpc.specs.Messages.{unfit_change, unfit_close, request, notification, ignored, unread, refused, accepted, invalid}
use Rattle.rpc.specs.Refusal.TheVariants as refusal
use Rattle.rpc.specs.Replies.{Answer, capabilities_reply, null_reply, text_reply, tree_reply, stats_reply, error_reply, published_diagnostics, log_message}
use Rattle.rpc.specs.Unit.TheVariants.{Utf8, Utf16}
use Rattle.sessions.specs.Alone.{named, finds_room, loses, SendTheSame, AreAlikeFor, SameFor, Event, History}
use Rattle.sessions.specs.Answers.{tree_answer, IsAnswer, IsCount, but_nodes}
use Rattle.sessions.specs.Documents.{is_open, is_lost, Becomes, Held, edited, has_room}
use Rattle.sessions.specs.Fresh.{Publishes, IsLastPublished, RepliesOnly, AnswerAlike}
use Rattle.sessions.specs.Runs.{Run, bytes_of}
use Rattle.sessions.specs.Sessions.{AppendsPrefix, IsWritten, Ends, Session}
use Rattle.sessions.specs.Steps.{State, first_state, Step, StepOn, Opens, Changes, Spoils, Closes, OnMalformed, OnNotification, exit_status, unknown_in, params_in}
use Rattle.sessions.specs.declared.phase.Phase.{Phase}
use Rattle.sessions.specs.declared.phase.Phase.TheVariants.{New, Ready, Down}

abbrev uri : List ℕ
uri = codes "a:x"

abbrev other : List ℕ
other = codes "a:y"

abbrev one : Ident
one = numbered (pos 1)

-- the text `2`, of version 2
abbrev document : OpenDocument
document = record { unit = Utf16; version = pos 2; text = codes "2"; last = None }

-- ---- phases

module _ (file : FileGrammar) where
  abbrev at : Phase → State
  at phase = record { file = file; phase = phase; documents = empty }

  no_json : Step (at New) unread (error_reply None refusal.ParseError ∷ []) None (at New)
  no_json = (refl, refl, refl)

  no_json_is_answered : Step (at New) unread [] None (at New) → ⊥
  no_json_is_answered s = let f : ⊥ = cc s.0 in f

  invalid_request : Step (at Down) (refused (invalid None)) (error_reply None refusal.InvalidRequest ∷ []) None (at Down)
  invalid_request = (refl, refl, refl)

  too_early : Step (at New) (accepted (request one (about uri its_text))) (error_reply (Some one) refusal.NotInitialized ∷ []) None (at New)
  too_early = (refl, refl, refl)

  initializes : Step (first_state file) (accepted (request one (initialize Utf16))) (capabilities_reply one Utf16 ∷ []) None (at (Ready Utf16))
  initializes = (refl, refl, refl)

  stays_new : Step (first_state file) (accepted (request one (initialize Utf16))) (capabilities_reply one Utf16 ∷ []) None (at New) → ⊥
  stays_new s = let p : New ≡ Ready Utf16 = ap (λ (x : State). x.phase) s.2 in let f : ⊥ = cc p in f

  initializes_again : Step (at (Ready Utf16)) (accepted (request one (initialize Utf8))) (error_reply (Some one) refusal.InvalidRequest ∷ []) None (at (Ready Utf16))
  initializes_again = (refl, refl, refl)

  shuts_down : Step (at (Ready Utf16)) (accepted (request one shutdown)) (null_reply one ∷ []) None (at Down)
  shuts_down = (refl, refl, refl)

  too_late : Step (at Down) (accepted (request one shutdown)) (error_reply (Some one) refusal.InvalidRequest ∷ []) None (at Down)
  too_late = (refl, refl, refl)

  exits : Step (at (Ready Utf16)) (accepted (notification exit)) [] (Some 1) (at (Ready Utf16))
  exits = (refl, refl, refl)

  exits_after_shutdown : Step (at Down) (accepted (notification exit)) [] (Some 0) (at Down)
  exits_after_shutdown = (refl, refl, refl)

  exits_in_vain : Step (at Down) (accepted (notification exit)) [] None (at Down) → ⊥
  exits_in_vain s = let f : ⊥ = cc s.1 in f

  opens_too_early : Step (at New) (accepted (notification (open_text uri (pos 1) []))) [] None (at New)
  opens_too_early = (refl, refl, refl)

  opens_too_late : Step (at Down) (accepted (notification (open_text uri (pos 1) []))) [] None (at Down)
  opens_too_late = (refl, refl, refl)

  ignores : Step (at (Ready Utf16)) (accepted ignored) [] None (at (Ready Utf16))
  ignores = (refl, refl, refl)

  nothing_received : StepOn None (at New) [] None (at New) → ⊥
  nothing_received s = s

unknown_new : unknown_in New ≡ refusal.NotInitialized
unknown_new = refl

unknown_ready : unknown_in (Ready Utf16) ≡ refusal.MethodNotFound
unknown_ready = refl

unknown_down : unknown_in Down ≡ refusal.InvalidRequest
unknown_down = refl

params_new : params_in New true ≡ refusal.InvalidParams
params_new = refl

params_new_other : params_in New false ≡ refusal.NotInitialized
params_new_other = refl

params_ready : params_in (Ready Utf16) true ≡ refusal.InvalidRequest
params_ready = refl

params_ready_other : params_in (Ready Utf16) false ≡ refusal.InvalidParams
params_ready_other = refl

params_down : params_in Down true ≡ refusal.InvalidRequest
params_down = refl

status_new : exit_status New ≡ 1
status_new = refl

-- ---- documents

module _ (old : State) where
  too_many : Opens false old uri (is_open document) (log_message log.TooManyDocuments ∷ []) None old
  too_many = (refl, refl, refl)

  change_not_open : Changes None old uri (pos 1) [] (log_message log.ChangeNotOpen ∷ []) None old
  change_not_open = (refl, refl, refl)

  change_of_lost : Changes (Some (is_lost loss.TooLarge)) old uri (pos 1) [] [] None old
  change_of_lost = (refl, refl, refl)

  spoils_not_open : Spoils None old uri (log_message log.ChangeNotOpen ∷ []) None old
  spoils_not_open = (refl, refl, refl)

  spoils_lost : Spoils (Some (is_lost loss.Memory)) old uri [] None old
  spoils_lost = (refl, refl, refl)

  spoils_open : Spoils (Some (is_open document)) old uri (published_diagnostics uri None None ∷ log_message (log.Lost loss.MalformedChange) ∷ []) None
      (record { file = old.file; phase = old.phase; documents = insert old.documents uri (is_lost loss.MalformedChange) })
  spoils_open = (refl, (refl, refl))

  spoils_silently : Spoils (Some (is_open document)) old uri [] None old → ⊥
  spoils_silently s = let f : ⊥ = cc s.0 in f

  close_not_open : Closes None old uri (log_message log.CloseNotOpen ∷ []) None old
  close_not_open = (refl, refl, refl)

  closes_lost : Closes (Some (is_lost loss.Memory)) old uri (published_diagnostics uri None None ∷ []) None (record { file = old.file; phase = old.phase; documents = remove old.documents uri })
  closes_lost = (refl, (refl, refl))

  closes_silently : Closes (Some (is_lost loss.Memory)) old uri [] None old → ⊥
  closes_silently s = let f : ⊥ = cc s.0 in f

  open_malformed : OnMalformed old unfit_open (log_message log.OpenMalformed ∷ []) None old
  open_malformed = (refl, refl, refl)

  change_malformed : OnMalformed old (unfit_change None) (log_message log.ChangeMalformed ∷ []) None old
  change_malformed = (refl, refl, refl)

  close_malformed : OnMalformed old unfit_close (log_message log.CloseMalformed ∷ []) None old
  close_malformed = (refl, refl, refl)

  is_initialized : OnNotification (Ready Utf16) old initialized [] None old
  is_initialized = (refl, refl, refl)

module _ (file : FileGrammar) where
  not_open : IsAnswer file one None its_text (error_reply (Some one) refusal.DocumentNotOpen)
  not_open = refl

  is_lost_document : IsAnswer file one (Some (is_lost loss.TooLarge)) its_tree (error_reply (Some one) (refusal.DocumentLost loss.TooLarge))
  is_lost_document = refl

  no_counts : IsCount file one None (error_reply (Some one) refusal.DocumentNotOpen)
  no_counts = refl

  its_text_is : IsAnswer file one (Some (is_open document)) its_text (text_reply one (pos 2) (codes "2"))
  unfolding encode_utf8
  its_text_is = refl

  another_text : IsAnswer file one (Some (is_open document)) its_text (text_reply one (pos 2) []) → ⊥
  unfolding encode_utf8
  another_text s = let f : ⊥ = cc s in f

  -- a malformed change loses a document, but no change that fits does so
  malformed_is_no_edit : Becomes file (pos 3) document [] (is_lost loss.MalformedChange) → ⊥
  malformed_is_no_edit s = s

  -- no change can make a text too large
  not_too_large : Becomes file (pos 3) document [] (is_lost loss.TooLarge) → ⊥
  not_too_large s = let f : ⊥ = cc s in f

-- 64 documents are held, and not this one
full : (documents : Held) → get documents uri ≡ None → len documents ≡ 64 → has_room uri documents ≡ false
full documents none many = ap (λ o. is_some o || nat_lt (len documents) 64) none ∙ ap (λ n. nat_lt n 64) many

-- 63 documents are held, and not this one
nearly_full : (documents : Held) → get documents uri ≡ None → len documents ≡ 63 → has_room uri documents ≡ true
nearly_full documents none many = ap (λ o. is_some o || nat_lt (len documents) 64) none ∙ ap (λ n. nat_lt n 64) many

held_already : (documents : Held) → get documents uri ≡ Some (is_lost loss.Memory) → has_room uri documents ≡ true
held_already documents held = ap (λ o. is_some o || nat_lt (len documents) 64) held

-- `12` is inserted into the empty text, and then its first character is deleted
both_changes : edited Utf16 [] (record
    { range = Some (record { start = record { line = 0; character = 0 }; end = record { line = 0; character = 0 } }); text = codes "12" } ∷ record {
      range =
          Some (record { start = record { line = 0; character = 0 }; end = record { line = 0; character = 1 } });
      text = [];
    } ∷ []) ≡ Some (codes "2")
unfolding chars encode_utf8 changed offset line_start line_from break_ends units greatest
both_changes = refl

-- a change without a range replaces the whole text
whole_change : edited Utf16 (codes "1+2") (record { range = None; text = codes "3" } ∷ []) ≡ Some (codes "3")
unfolding chars encode_utf8 changed offset line_start line_from break_ends units greatest
whole_change = refl

no_tree : tree_answer one None ≡ null_reply one
no_tree = refl

a_tree : tree_answer one (Some (codes "(L)")) ≡ tree_reply one (codes "(L)")
a_tree = refl

-- ---- what documents have to do with one another

opens_it : named (accepted (notification (open_text uri (pos 1) []))) ≡ Some uri
opens_it = refl

changes_it : named (accepted (notification (change_text uri (pos 1) []))) ≡ Some uri
changes_it = refl

closes_it : named (accepted (notification (close uri))) ≡ Some uri
closes_it = refl

spoils_it : named (accepted (notification (malformed (unfit_change (Some uri))))) ≡ Some uri
spoils_it = refl

asks_it : named (accepted (request one (about uri its_text))) ≡ Some uri
asks_it = refl

counts_it : named (accepted (request one (stats uri))) ≡ Some uri
counts_it = refl

names_none : named (accepted (notification (malformed unfit_open))) ≡ None
names_none = refl

exit_names_none : named (accepted (notification exit)) ≡ None
exit_names_none = refl

no_room_asked : (file : FileGrammar) → finds_room uri (first_state file) (accepted (notification (close uri))) ≡ true
no_room_asked file = refl

loses_for_memory : loses (Some (is_open document)) (Some (is_lost loss.Memory)) ≡ true
loses_for_memory = refl

loses_for_size : loses (Some (is_open document)) (Some (is_lost loss.TooLarge)) ≡ false
loses_for_size = refl

was_lost : loses (Some (is_lost loss.Memory)) (Some (is_lost loss.Memory)) ≡ false
was_lost = refl

keeps_text : but_nodes (text_reply one (pos 2) (codes "2")) ≡ text_reply one (pos 2) (codes "2")
keeps_text = refl

keeps_diagnostics : but_nodes (published_diagnostics uri None None) ≡ published_diagnostics uri None None
keeps_diagnostics = refl

leaves_out_nodes : but_nodes (stats_reply one (record { edit = 1; scanned = 3; tokens = 7; branches = 8; built = 4; nodes = 12 }))
    ≡ stats_reply one (record { edit = 1; scanned = 3; tokens = 7; branches = 8; built = 4; nodes = 0 })
leaves_out_nodes = refl

same_but_nodes : SendTheSame (stats_reply one (record { edit = 1; scanned = 3; tokens = 7; branches = 8; built = 4; nodes = 12 }) ∷ [])
    (stats_reply one (record { edit = 1; scanned = 3; tokens = 7; branches = 8; built = 4; nodes = 13 }) ∷ [])
same_but_nodes = refl

another_reply : SendTheSame (tree_reply one (codes "(L)") ∷ []) (null_reply one ∷ []) → ⊥
another_reply s = let f : ⊥ = cc s in f

one_reply_less : SendTheSame (null_reply one ∷ []) [] → ⊥
one_reply_less s = let f : ⊥ = cc s in f

publishes : Publishes uri (published_diagnostics uri (Some (pos 1)) None)
publishes = refl

publishes_another : Publishes uri (published_diagnostics other None None) → ⊥
publishes_another s = omega (arith, ap (λ l. slice_index l 2) s)

publishes_none : Publishes uri (null_reply one) → ⊥
publishes_none s = s

none_published : (p : Answer) → IsLastPublished uri [] p → ⊥
none_published p i = by i.0 i.1 i.2
  where
    by : (before after : List Answer) → [] ≡ before ++ p ∷ after → ⊥
    by [] after e = let f : ⊥ = cc e in f
    by (x ∷ before) after e = let f : ⊥ = cc e in f

-- ---- runs

module _ (file : FileGrammar) where
  runs_nothing : Run (first_state file) [] [] None (first_state file)
  runs_nothing = (refl, refl, refl)

  -- a content that is no JSON
  runs_no_json : Run (first_state file) (codes "{" ∷ []) (error_reply None refusal.ParseError ∷ []) None (first_state file)
  unfolding chars encode_utf8 is_utf8 serde_json_on_literals
  runs_no_json = (error_reply None refusal.ParseError ∷ [], None, first_state file, (refl, refl, refl), ([], refl, (refl, refl, refl)))

  -- what comes after `exit` isn't looked at
  stops : Run (first_state file) (codes "{\"jsonrpc\":\"2.0\",\"method\":\"exit\"}" ∷ codes "{" ∷ []) [] (Some 1) (first_state file)
  unfolding chars encode_utf8 is_utf8 serde_json_on_literals
  stops = ([], Some 1, first_state file, (refl, refl, refl), (refl, refl, refl))

  -- `exit` stops a run
  stops_so : Run (first_state file) (codes "{\"jsonrpc\":\"2.0\",\"method\":\"exit\"}" ∷ []) [] None (first_state file) → ⊥
  unfolding chars encode_utf8 is_utf8 serde_json_on_literals
  stops_so (first, None, mid, step, more) = absurd (cc step.1)
  stops_so (first, Some status, mid, step, end) = absurd (cc end.1)

  runs_on : Run (first_state file) [] (null_reply one ∷ []) None (first_state file) → ⊥
  runs_on r = let f : ⊥ = cc r.0 in f

one_frame : bytes_of (error_reply None refusal.ParseError ∷ []) ≡ codes "Content-Length: 75\r\n\r\n{\"error\":{\"code\":-32700,\"message\":\"parse error\"},\"id\":null,\"jsonrpc\":\"2.0\"}"
unfolding digits escape_byte
one_frame = refl

no_frame : bytes_of [] ≡ []
no_frame = refl

-- ---- ends

all_written : IsWritten (Ok 1) (Some (codes "a")) (Some (codes "ab")) (codes "b")
all_written = refl

part_written : IsWritten (Ok 1) (Some []) (Some (codes "b")) (codes "bc") → ⊥
part_written w = let f : ⊥ = cc w in f

part_before_failure : IsWritten (Err Write) (Some []) (Some (codes "b")) (codes "bc")
part_before_failure = (codes "b", codes "c", refl, refl)

other_before_failure : AppendsPrefix (Some []) (Some (codes "c")) (codes "bc") → ⊥
other_before_failure p = by p.0 p.1 p.2 p.3
  where
    by : (prefix rest : List ℕ) → codes "bc" ≡ prefix ++ rest → codes "c" ≡ prefix → ⊥
    by prefix rest e same = let g : codes "bc" ≡ codes "c" ++ rest = subst (λ p. codes "bc" ≡ p ++ rest) (sym same) e in omega (arith, ap (λ l. slice_index l 0) g)

ends : Ends (Ok 1) (Some []) (Open []) None
ends = inr (refl, refl, refl, refl)

ends_with_status : Ends (Ok 0) (Some (codes "X")) (Open []) (Some 0)
ends_with_status = inl refl

ends_cut_short : Ends (Err (Frame Truncated)) (Some []) (Open (codes "X")) None
ends_cut_short = (refl, refl, λ o. refl)

ends_well_with_a_rest : Ends (Ok 1) (Some []) (Open (codes "X")) None → ⊥
ends_well_with_a_rest (inl e) = let f : ⊥ = cc e in f
ends_well_with_a_rest (inr e) = let f : ⊥ = cc e.2 in f

reads_fail_after_a_fault : Ends (Err Read) (Some []) (Faulty BadField) None → ⊥
reads_fail_after_a_fault e = e.1

-- ---- a whole session: one byte that is no JSON, and then the end of the input

abbrev one_byte : List ℕ
one_byte = codes "Content-Length: 1\r\n\r\n{"

abbrev parse_error : List ℕ
parse_error = codes "Content-Length: 75\r\n\r\n{\"error\":{\"code\":-32700,\"message\":\"parse error\"},\"id\":null,\"jsonrpc\":\"2.0\"}"

no_json_session : (file : FileGrammar) → Session file (Some one_byte) (Some []) (Some []) (Some parse_error) (Ok 1)
unfolding chars encode_utf8 is_utf8 serde_json_on_literals digits escape_byte
no_json_session file =
    record {
      bytes = one_byte;
      contents = codes "{" ∷ [];
      tail = Open [];
      answers = error_reply None refusal.ParseError ∷ [];
      stop = None;
      after = first_state file;
      was_read = refl;
      split = (21, record { header = refl; follows = refl }, (refl, tt));
      run = runs_no_json file;
      written = refl;
      ends = inr (refl, refl, refl, refl);
    }

-- `initialize` alone: the session begins in the first state, and ends in another one
abbrev initialize_alone : List ℕ
initialize_alone = codes "Content-Length: 58\r\n\r\n{\"jsonrpc\":\"2.0\",\"id\":1,\"method\":\"initialize\",\"params\":{}}"

abbrev capabilities : List ℕ
capabilities = codes "Content-Length: 187\r\n\r\n{\"id\":1,\"jsonrpc\":\"2.0\",\"result\":{\"capabilities\":{\"foldingRangeProvider\":true,\"positionEncoding\":\"utf-16\",\"selectionRangeProvider\":true,\"textDocumentSync\":{\"change\":2,\"openClose\":true}}}}"

initialized_session : (file : FileGrammar) → Session file (Some initialize_alone) (Some []) (Some []) (Some capabilities) (Ok 1)
unfolding chars encode_utf8 is_utf8 serde_json_on_literals digits escape_byte
initialized_session file =
    record {
      bytes = initialize_alone;
      contents = codes "{\"jsonrpc\":\"2.0\",\"id\":1,\"method\":\"initialize\",\"params\":{}}" ∷ [];
      tail = Open [];
      answers = capabilities_reply one Utf16 ∷ [];
      stop = None;
      after = record { file = file; phase = Ready Utf16; documents = empty };
      was_read = refl;
      split = (22, record { header = refl; follows = refl }, (refl, tt));
      run = (
        capabilities_reply one Utf16 ∷ [],
        None,
        record { file = file; phase = Ready Utf16; documents = empty },
        (refl, refl, refl),
        ([], refl, (refl, refl, refl)),
      );
      written = refl;
      ends = inr (refl, refl, refl, refl);
    }

-- no session ends with status 0 over a stream without a frame, nor writes over it
no_session : (file : FileGrammar) → Session file (Some []) (Some []) (Some []) (Some []) (Ok 0) → ⊥
no_session file s = by s.contents s.split s.run s.ends
  where
    empty_is : s.bytes ≡ []
    empty_is = by_bytes s.bytes s.was_read
      where
        by_bytes : (bytes : List ℕ) → [] ≡ bytes ++ [] → bytes ≡ []
        by_bytes [] e = refl
        by_bytes (b ∷ bytes) e = absurd (cc e)

    by : (contents : List (List ℕ)) → Splits s.bytes contents s.tail → Run (first_state file) contents s.answers s.stop s.after
        → Ends (Ok 0) (Some []) s.tail s.stop → ⊥
    by [] split run (inl e) = absurd (cc (sym e ∙ run.1))
    by [] split run (inr e) = absurd (cc e.3)
    by (content ∷ contents) split run ends = absurd (cc (ap start_of (sym empty_is) ∙ split.1.header))

-- ---- two states that look alike, and what a document is told

module _ (file : FileGrammar) where
  alike : AreAlikeFor uri unread (first_state file) (first_state file)
  alike = record { file = refl; phase = refl; held = refl; room = refl }

  another_phase : AreAlikeFor uri unread (first_state file) (record { file = file; phase = Down; documents = empty }) → ⊥
  another_phase a = let p : Down ≡ New = a.phase in let f : ⊥ = cc p in f

  the_same : SameFor uri [] [] None None (first_state file) (first_state file)
  the_same = record { sent = refl; stops = refl; held = refl }

  another_end : SameFor uri [] [] None (Some 0) (first_state file) (first_state file) → ⊥
  another_end a = let p : Some 0 ≡ None = a.stops in let f : ⊥ = cc p in f

  no_history : History uri (first_state file) [] [] None (first_state file) [] []
  no_history = ((refl, refl, refl), refl, refl)

  unheard : (event : Event) → History uri (first_state file) [] [] None (first_state file) (event ∷ []) [] → ⊥
  unheard event h = let f : ⊥ = cc h.1 in f

  only_reply : RepliesOnly (first_state file) (accepted (request one (about uri its_text))) (error_reply (Some one) refusal.NotInitialized)
  only_reply = record { replies = (refl, refl, refl); only = λ answers stop new s. s }

  another_only_reply : RepliesOnly (first_state file) (accepted (request one (about uri its_text))) (null_reply one) → ⊥
  another_only_reply r = let e = r.replies.0 in let f : ⊥ = cc e in f

  alike_at_first : AnswerAlike uri (first_state file) (first_state file)
  alike_at_first = λ id question.
      (error_reply (Some id) refusal.NotInitialized, record { replies = (refl, refl, refl); only = λ answers stop new s. s }, record { replies = (refl, refl, refl); only = λ answers stop new s. s })
