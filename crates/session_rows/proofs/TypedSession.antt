-- What a session comes to in which a text of sums is opened empty and then typed in.
use Rattle.std.specs.Prelude.{◌≡◌, ℕ, pos, List, [], ◌∷◌, ◌++◌, codes, Bool, true, false, ◌||◌, nat_lt, Option, Some, None, Result, Ok, Err, refl, take, ◌⊎◌, option_map, ◌+◌, encode_utf8_all, ◌↔◌}
use Rattle.std.proofs.Common.{ap, sym, subst, ◌∙◌, append-nil, inl, inr, arith}
use Rattle.std.specs.Char.{encode_utf8}
use Rattle.std.specs.FinMap.{empty, get, insert, len, contains_key, get-insert, len-empty}
use Rattle.std.proofs.lemmas.Cmp.{nat_list_cmp_total}
use Rattle.std.specs.Fmt.{digits}
use Rattle.std.specs.Str.{chars}
use Rattle.definitions.specs.Answers.{message, diagnostic}
use Rattle.definitions.specs.Sentences.{IsExpected, IsViable, IsVerdict, Verdict, HasTree, FaultAt, FaultAtEnd}
use Rattle.definitions.specs.Text.{changed, offset, line_start, line_from, line_of, position, break_ends, units, greatest}
use Rattle.definitions.specs.Tokens.{Token as Piece, AreTokens, kinds}
use Rattle.definitions.specs.declared.Kind.{Kind}
use Rattle.definitions.specs.declared.Kind.TheVariants.{Rule as Token}
use Rattle.definitions.specs.declared.Range.{Range}
use Rattle.definitions.specs.declared.Symbol.TheVariants.{Rule as Terminal, Nonterminal}
use Rattle.definitions.specs.declared.expression.Expression.{Expression}
use Rattle.definitions.specs.Patterns.{Matches}
use Rattle.definitions.specs.Spelling.{Spells, IsPattern}
use Rattle.definitions.specs.Trees.{Grammar}
use Rattle.grammar.specs.Meaning.{IsGrammarOf, file_grammar}
use Rattle.grammar_file.specs.Contents.{rules}
use Rattle.grammar_file.specs.Kept.{ArePatterns}
use Rattle.grammar_line.specs.Statements.{statements}
use Rattle.json.specs.Print.{escape_byte}
use Rattle.frames.specs.Frames.{Open, Splits}
use Rattle.sessions.specs.declared.fault.RunFault.{RunFault}
use Rattle.sessions.specs.declared.fault.RunFault.TheVariants.{Frame, Read, Write, Memory}
use Rattle.readings.specs.Answers.{Diagnostic}
use Rattle.readings.specs.Diagnostics.{IsDiagnosis, looks}
use Rattle.readings.specs.Grammars.{FileGrammar}
use Rattle.readings.specs.Texts.{OpenDocument}
use Rattle.rpc.specs.Log.TheVariants as log
use Rattle.rpc.specs.Loss.TheVariants as loss
use Rattle.rpc.specs.Messages.{its_text}
use Rattle.rpc.specs.Reading.{received_in}
use Rattle.rpc.specs.Refusal.TheVariants as refusal
use Rattle.rpc.specs.Replies.{Answer, capabilities_reply, null_reply, text_reply, error_reply, published_diagnostics, log_message}
use Rattle.rpc.specs.Unit.{Unit as Encoding}
use Rattle.rpc.specs.Unit.TheVariants.{Utf16}
use Rattle.sessions.specs.Answers.{IsPublished, IsAnswer, shown}
use Rattle.sessions.specs.Documents.{DocumentState, is_open, is_lost, Held, Becomes, edited, has_room}
use Rattle.sessions.specs.Runs.{Run, bytes_of}
use Rattle.sessions.specs.Steps.{State, Step, first_state, new_document, Opens, Holds, Changes}
use Rattle.sessions.specs.declared.phase.Phase.TheVariants.{Ready, Down}
use Rattle.session_rows.specs.Contents.{uri, of, initializes, opens, types, asks, shuts_down, exits, both_changes, session_bytes}
use Rattle.session_rows.specs.Known.{ComesTo, CameEither, IsPrefixOf}
use Rattle.session_rows.specs.Written.{typed, typed_and_lost}
use Rattle.session_rows.proofs.FewBytes.{Known, AreFirst, first_step, last, last_step, longer, next, none_yet, prefix_of}
use Rattle.session_rows.proofs.Received.{initializes_is, opens_is, types_is, asks_is, shuts_down_is, exits_is}
use Rattle.session_rows.proofs.Sums.{sums, skips, number, not_empty, at_first, no_tokens, one_kind}

-- ---- what is published

-- what the file of sums defines, with these patterns
abbrev pub sums_file : List Expression → FileGrammar
sums_file patterns = record {
  names = codes "NUM" ∷ codes "PLUS" ∷ codes "LP" ∷ codes "RP" ∷ codes "WS" ∷ [];
  patterns = patterns;
  skips = skips;
  nonterminals = codes "Sum" ∷ codes "Atom" ∷ [];
  folds = false ∷ true ∷ [];
  grammar = sums;
  defined = Terminal 0 ∷ Terminal 1 ∷ Terminal 2 ∷ Terminal 3 ∷ Terminal 4 ∷ Nonterminal 0 ∷ Nonterminal 1 ∷ [];
}

abbrev no_text : OpenDocument
no_text = record { unit = Utf16; version = pos 1; text = []; last = None }

abbrev start : Range
start = record { start = record { line = 0; character = 0 }; end = record { line = 0; character = 0 } }

abbrev first_published : Answer
first_published = published_diagnostics uri (Some (pos 1)) (Some (start, codes "unexpected end; expected NUM, LP"))

-- a fault is reported of the empty text: that a number or a parenthesis is expected
module _ (only_rules : (r s : List ℕ) (a b : Bool) → IsExpected sums [] r a → IsExpected sums [] s b → r ≡ s)
    (only_end : (r s : List ℕ) (a b : Bool) → IsExpected sums [] r a → IsExpected sums [] s b → a ≡ b)
    (patterns : List Expression) where
  fault_of_none : (v : Verdict) (fault : Option Diagnostic) → IsVerdict sums [] v → IsDiagnosis Utf16 (sums_file patterns) [] [] v fault
      → fault ≡ Some (record { range = start; message = codes "unexpected end; expected NUM, LP" })
  unfolding message position line_of line_start line_from break_ends units
  fault_of_none (HasTree t) fault is d = absurd (not_empty (t, is))
  fault_of_none (FaultAt k) fault is d = absurd (omega (arith, is.0))
  fault_of_none FaultAtEnd fault is (rules, at_end, expected, reported) =
      let rules_are : rules ≡ 0 ∷ 2 ∷ [] = only_rules rules (0 ∷ 2 ∷ []) at_end false expected at_first in
      let end_is : at_end ≡ false = only_end rules (0 ∷ 2 ∷ []) at_end false expected at_first in
      subst (λ rs. fault ≡ Some (diagnostic Utf16 (sums_file patterns).names [] [] 0 (looks rs false))) rules_are
      (subst (λ b. fault ≡ Some (diagnostic Utf16 (sums_file patterns).names [] [] 0 (looks rules b))) end_is reported)

  published_of_none : (answer : Answer) → IsPublished (sums_file patterns) uri no_text answer → answer ≡ first_published
  unfolding encode_utf8
  published_of_none answer (reading, is, (fault, diagnosis, sent)) =
      let none : reading.tokens ≡ [] = no_tokens patterns reading.tokens is.tokens in
      let verdict = subst (λ xs. IsVerdict sums (kinds skips xs) reading.verdict) none is.verdict in
      let of_none = subst (λ xs. IsDiagnosis Utf16 (sums_file patterns) [] xs reading.verdict fault) none diagnosis in
      sent ∙ ap (λ f. published_diagnostics uri (Some (pos 1)) (option_map shown f)) (fault_of_none reading.verdict fault verdict of_none)

-- no fault is reported of `2`
module _ (e : Expression) (es : List Expression) (two : Matches e (50 ∷ [])) where
  no_fault : (u : Encoding) (xs : List Piece) (v : Verdict) (fault : Option Diagnostic) → IsVerdict sums (Token 0 ∷ []) v
      → IsDiagnosis u (sums_file (e ∷ es)) (codes "2") xs v fault → fault ≡ None
  no_fault u xs (HasTree t) fault is d = d
  no_fault u xs (FaultAt k) fault is d =
      let first : k ≡ 0 = omega (arith, is.0) in
      absurd (subst (λ n. ¬ IsViable sums (take (n + 1) (Token 0 ∷ []))) first is.1 ([], number))
  no_fault u xs FaultAtEnd fault is d = absurd (is.0 number)

  published_of_two : (d : OpenDocument) (answer : Answer) → d.text ≡ codes "2" → d.version ≡ pos 2 → IsPublished (sums_file (e ∷ es)) uri d answer
      → answer ≡ published_diagnostics uri (Some (pos 2)) None
  published_of_two d answer text version (reading, is, (fault, diagnosis, sent)) =
      let tokens = subst (λ t. AreTokens (e ∷ es) t reading.tokens) text is.tokens in
      let verdict = subst (λ ks. IsVerdict sums ks reading.verdict) (one_kind e es two reading.tokens tokens) is.verdict in
      let of_two = subst (λ t. IsDiagnosis d.unit (sums_file (e ∷ es)) t reading.tokens reading.verdict fault) text diagnosis in
      let none = no_fault d.unit reading.tokens reading.verdict fault verdict of_two in
      sent ∙ ap (λ f. published_diagnostics uri (Some d.version) (option_map shown f)) none ∙ ap (λ n. published_diagnostics uri (Some n) None) version

-- ---- the steps

or_true : (b : Bool) → (b || true) ≡ true
or_true true = refl
or_true false = refl

-- there is room where nothing is held
room : (documents : Held) → len documents ≡ 0 → has_room uri documents ≡ true
room documents none = ap (λ n. contains_key documents uri || nat_lt n 64) none ∙ or_true (contains_key documents uri)

module _ (file : FileGrammar) where
  abbrev ready : Held → State
  ready documents = record { file = file; phase = Ready Utf16; documents = documents }

  abbrev down : Held → State
  down documents = record { file = file; phase = Down; documents = documents }

  -- what follows the change: the text is asked for, and the server shuts down and exits
  ends : (documents : Held) (reply : Answer) → ((other : Answer) → IsAnswer file (of 2) (get documents uri) its_text other → other ≡ reply)
      → (answers : List Answer) (stop : Option ℕ) (after : State) → Run (ready documents) (asks ∷ shuts_down ∷ exits ∷ []) answers stop after
      → (answers ≡ reply ∷ null_reply (of 3) ∷ []) × (stop ≡ Some 0)
  ends documents reply only answers stop after run =
      let asked = next (ready documents) (ready documents) asks (shuts_down ∷ exits ∷ []) _ asks_is answers (reply ∷ []) stop after
      (λ sent halt m s. (s.2.0 ∙ ap (λ a. a ∷ []) (only s.0 s.1), s.2.1, s.2.2)) run in
      let shut = next (ready documents) (down documents) shuts_down (exits ∷ []) _ shuts_down_is asked.0 (null_reply (of 3) ∷ []) stop after (λ sent halt m s. s) asked.2 in
      let exited = last (down documents) exits [] _ exits_is shut.0 stop after 0 (λ sent halt m s. (s.0, s.1)) shut.2 in
      (asked.1 ∙ ap (λ l. reply ∷ l) (shut.1 ∙ ap (λ l. null_reply (of 3) ∷ l) exited.0), exited.1)

  -- and what is answered to a part of that
  first_ends : (Is : List Answer → Type 0) (documents : Held) (reply : Answer) → Is (reply ∷ null_reply (of 3) ∷ [])
      → ((other : Answer) → IsAnswer file (of 2) (get documents uri) its_text other → other ≡ reply)
      → (part more : List (List ℕ)) (answers : List Answer) (stop : Option ℕ) (after : State) → part ++ more ≡ asks ∷ shuts_down ∷ exits ∷ []
      → Run (ready documents) part answers stop after → AreFirst Is answers
  first_ends Is documents reply is only part more answers stop after joined run =
      first_step Is (reply ∷ null_reply (of 3) ∷ []) is (ready documents) (ready documents) asks (shuts_down ∷ exits ∷ []) part more _ asks_is (reply ∷ []) answers stop after
      (λ sent halt m s. (s.2.0 ∙ ap (λ a. a ∷ []) (only s.0 s.1), s.2.1, s.2.2))
      (λ later rest j r. first_step (λ l. Is (reply ∷ l)) (null_reply (of 3) ∷ []) is (ready documents) (down documents) shuts_down (exits ∷ []) later more _ shuts_down_is
      (null_reply (of 3) ∷ []) rest stop after (λ sent halt m s. s)
      (λ others none k q. last_step (λ l. Is (reply ∷ null_reply (of 3) ∷ l)) is (down documents) exits [] others more _ exits_is none stop after 0
      (λ sent halt m s. (s.0, s.1)) k q) j r)
      joined run

  abbrev held : DocumentState → Held
  held state = insert empty uri state

  found : (documents : Held) (state : DocumentState) → get (insert documents uri state) uri ≡ Some state
  found documents state = get-insert nat_list_cmp_total documents uri state uri

  fits_is : new_document Utf16 (pos 1) (chars []) ≡ is_open no_text
  unfolding chars encode_utf8
  fits_is = refl

  abbrev rest_of_all : List (List ℕ)
  rest_of_all = types ∷ asks ∷ shuts_down ∷ exits ∷ []

  module _ (published : (answer : Answer) → IsPublished file uri no_text answer → answer ≡ first_published) where
    holds : (sent : List Answer) (halt : Option ℕ) (m : State) → Holds (ready empty) uri (is_open no_text) sent halt m
        → (sent ≡ first_published ∷ []) × (halt ≡ None) × (m ≡ ready (held (is_open no_text)))
    holds sent halt m h = (h.2 ∙ ap (λ a. a ∷ []) (published h.0 h.1), h.3.0, h.3.1)

    -- the step on the second content
    opens_so : (sent : List Answer) (halt : Option ℕ) (m : State)
        → Opens (has_room uri empty) (ready empty) uri (new_document Utf16 (pos 1) (chars [])) sent halt m
        → (sent ≡ first_published ∷ []) × (halt ≡ None) × (m ≡ ready (held (is_open no_text)))
    opens_so sent halt m s =
        holds sent halt m (subst (λ d. Opens true (ready empty) uri d sent halt m) fits_is
        (subst (λ b. Opens b (ready empty) uri (new_document Utf16 (pos 1) (chars [])) sent halt m) (room empty (len-empty _ _)) s))

    -- the first two contents, and what is sent on them
    opened : (answers : List Answer) (stop : Option ℕ) (after : State) → Run (first_state file) (initializes ∷ opens ∷ rest_of_all) answers stop after
        → (rest : List Answer) × (answers ≡ capabilities_reply (of 1) Utf16 ∷ first_published ∷ rest)
        × Run (ready (held (is_open no_text))) rest_of_all rest stop after
    opened answers stop after run =
        let first = next (first_state file) (ready empty) initializes (opens ∷ rest_of_all) _ initializes_is answers
        (capabilities_reply (of 1) Utf16 ∷ []) stop after (λ sent halt m s. s) run in
        let second = next (ready empty) (ready (held (is_open no_text))) opens rest_of_all _ opens_is first.0 (first_published ∷ []) stop after opens_so first.2 in
        (second.0, first.1 ∙ ap (λ l. capabilities_reply (of 1) Utf16 ∷ l) second.1, second.2)

    -- and what is sent on a part of all contents, where that of the others is known
    first_opened : (Is : List Answer → Type 0) (all : List Answer) → Is (capabilities_reply (of 1) Utf16 ∷ first_published ∷ all)
        → (part more : List (List ℕ)) (answers : List Answer) (stop : Option ℕ) (after : State)
        → ((later : List (List ℕ)) (rest : List Answer) → later ++ more ≡ rest_of_all → Run (ready (held (is_open no_text))) later rest stop after
        → AreFirst (λ l. Is (capabilities_reply (of 1) Utf16 ∷ first_published ∷ l)) rest)
        → part ++ more ≡ initializes ∷ opens ∷ rest_of_all → Run (first_state file) part answers stop after → AreFirst Is answers
    first_opened Is all is part more answers stop after go joined run =
        first_step Is (capabilities_reply (of 1) Utf16 ∷ first_published ∷ all) is (first_state file) (ready empty) initializes (opens ∷ rest_of_all) part more _ initializes_is
        (capabilities_reply (of 1) Utf16 ∷ []) answers stop after (λ sent halt m s. s)
        (λ later rest j r. first_step (λ l. Is (capabilities_reply (of 1) Utf16 ∷ l)) (first_published ∷ all) is (ready empty) (ready (held (is_open no_text))) opens rest_of_all
        later more _ opens_is (first_published ∷ []) rest stop after opens_so go j r)
        joined run

abbrev typed_answers : List Answer
typed_answers = capabilities_reply (of 1) Utf16 ∷ first_published ∷ published_diagnostics uri (Some (pos 2)) None ∷ text_reply (of 2) (pos 2) (codes "2") ∷ null_reply (of 3) ∷ []

abbrev lost_answers : List Answer
lost_answers = capabilities_reply (of 1) Utf16 ∷ first_published ∷ published_diagnostics uri None None ∷ log_message (log.Lost loss.Memory)
    ∷ error_reply (Some (of 2)) (refusal.DocumentLost loss.Memory) ∷ null_reply (of 3) ∷ []

typed_bytes : bytes_of typed_answers ≡ typed
unfolding digits escape_byte
typed_bytes = refl

lost_bytes : bytes_of lost_answers ≡ typed_and_lost
unfolding digits escape_byte
lost_bytes = refl

edited_is : edited Utf16 [] both_changes ≡ Some (codes "2")
unfolding chars encode_utf8 changed offset line_start line_from break_ends units greatest
edited_is = refl

-- ---- the change

abbrev after_open : List Answer
after_open = published_diagnostics uri (Some (pos 2)) None ∷ text_reply (of 2) (pos 2) (codes "2") ∷ null_reply (of 3) ∷ []

abbrev after_loss : List Answer
after_loss = published_diagnostics uri None None ∷ log_message (log.Lost loss.Memory) ∷ error_reply (Some (of 2)) (refusal.DocumentLost loss.Memory) ∷ null_reply (of 3) ∷ []

module _ (file : FileGrammar)
    (published : (d : OpenDocument) (answer : Answer) → d.text ≡ codes "2" → d.version ≡ pos 2 → IsPublished file uri d answer
    → answer ≡ published_diagnostics uri (Some (pos 2)) None) where
  abbrev before : Held
  before = held file (is_open no_text)

  its_reply : (e : OpenDocument) → e.text ≡ codes "2" → e.version ≡ pos 2 → (other : Answer)
      → IsAnswer file (of 2) (get (insert before uri (is_open e)) uri) its_text other → other ≡ text_reply (of 2) (pos 2) (codes "2")
  unfolding encode_utf8
  its_reply e text version other answer =
      subst (λ o. IsAnswer file (of 2) o its_text other) (found file before (is_open e)) answer
      ∙ ap (λ v. text_reply (of 2) v (encode_utf8_all e.text)) version ∙ ap (λ t. text_reply (of 2) (pos 2) (encode_utf8_all t)) text

  its_loss : (other : Answer) → IsAnswer file (of 2) (get (insert before uri (is_lost loss.Memory)) uri) its_text other
      → other ≡ error_reply (Some (of 2)) (refusal.DocumentLost loss.Memory)
  its_loss other answer = subst (λ o. IsAnswer file (of 2) o its_text other) (found file before (is_lost loss.Memory)) answer

  becomes : (state : DocumentState) (sent : List Answer) (m : State) (later answers : List Answer) (stop : Option ℕ) (after : State)
      → Becomes file (pos 2) no_text both_changes state → Holds (ready file before) uri state sent None m
      → answers ≡ sent ++ later → Run m (asks ∷ shuts_down ∷ exits ∷ []) later stop after
      → ((answers ≡ after_open) ⊎ (answers ≡ after_loss)) × (stop ≡ Some 0)
  becomes (is_open e) sent m later answers stop after b h is run =
      let same : Some e.text ≡ Some (codes "2") = sym b.0 ∙ edited_is in
      let text : e.text ≡ codes "2" = cc same in
      let rest = ends file (insert before uri (is_open e)) (text_reply (of 2) (pos 2) (codes "2")) (its_reply e text b.2) later stop after
      (subst (λ x. Run x (asks ∷ shuts_down ∷ exits ∷ []) later stop after) h.3.1 run) in
      (inl (is ∙ ap (λ l. l ++ later) (h.2 ∙ ap (λ a. a ∷ []) (published e h.0 text b.2 h.1)) ∙ ap (λ l. published_diagnostics uri (Some (pos 2)) None ∷ l) rest.0), rest.1)
  becomes (is_lost loss.TooLarge) sent m later answers stop after b h is run = let f : ⊥ = cc (sym edited_is ∙ b) in absurd f
  becomes (is_lost loss.MalformedChange) sent m later answers stop after b h is run = absurd b
  becomes (is_lost loss.Memory) sent m later answers stop after b h is run =
      let rest = ends file (insert before uri (is_lost loss.Memory)) (error_reply (Some (of 2)) (refusal.DocumentLost loss.Memory)) its_loss later stop after
      (subst (λ x. Run x (asks ∷ shuts_down ∷ exits ∷ []) later stop after) h.1.1 run) in
      (inr (is ∙ ap (λ l. l ++ later) h.0 ∙ ap (λ l. published_diagnostics uri None None ∷ log_message (log.Lost loss.Memory) ∷ l) rest.0), rest.1)

  -- and what is sent on a part of that
  first_becomes : (Is : List Answer → Type 0) → Is after_open → Is after_loss
      → (state : DocumentState) (sent : List Answer) (m : State) (part more : List (List ℕ)) (later answers : List Answer) (stop : Option ℕ) (after : State)
      → Becomes file (pos 2) no_text both_changes state → Holds (ready file before) uri state sent None m
      → answers ≡ sent ++ later → part ++ more ≡ asks ∷ shuts_down ∷ exits ∷ [] → Run m part later stop after → AreFirst Is answers
  first_becomes Is opens loses (is_open e) sent m part more later answers stop after b h is joined run =
      let same : Some e.text ≡ Some (codes "2") = sym b.0 ∙ edited_is in
      let text : e.text ≡ codes "2" = cc same in
      let told : answers ≡ published_diagnostics uri (Some (pos 2)) None ∷ later = is ∙ ap (λ l. l ++ later) (h.2 ∙ ap (λ a. a ∷ []) (published e h.0 text b.2 h.1)) in
      longer Is (published_diagnostics uri (Some (pos 2)) None ∷ []) answers later told
      (first_ends file (λ l. Is (published_diagnostics uri (Some (pos 2)) None ∷ l)) (insert before uri (is_open e)) (text_reply (of 2) (pos 2) (codes "2")) opens
      (its_reply e text b.2) part more later stop after joined (subst (λ x. Run x part later stop after) h.3.1 run))
  first_becomes Is opens loses (is_lost loss.TooLarge) sent m part more later answers stop after b h is joined run = let f : ⊥ = cc (sym edited_is ∙ b) in absurd f
  first_becomes Is opens loses (is_lost loss.MalformedChange) sent m part more later answers stop after b h is joined run = absurd b
  first_becomes Is opens loses (is_lost loss.Memory) sent m part more later answers stop after b h is joined run =
      longer Is (published_diagnostics uri None None ∷ log_message (log.Lost loss.Memory) ∷ []) answers later (is ∙ ap (λ l. l ++ later) h.0)
      (first_ends file (λ l. Is (published_diagnostics uri None None ∷ log_message (log.Lost loss.Memory) ∷ l)) (insert before uri (is_lost loss.Memory))
      (error_reply (Some (of 2)) (refusal.DocumentLost loss.Memory)) loses its_loss part more later stop after joined (subst (λ x. Run x part later stop after) h.1.1 run))

  goes_on : (state : DocumentState) (sent : List Answer) (halt : Option ℕ) (m : State) → Holds (ready file before) uri state sent halt m → halt ≡ None
  goes_on (is_open e) sent halt m h = h.3.0
  goes_on (is_lost l) sent halt m h = h.1.0

  change_of : (sent : List Answer) (halt : Option ℕ) (m : State) → Step (ready file before) (received_in types) sent halt m
      → (state : DocumentState) × Becomes file (pos 2) no_text both_changes state × Holds (ready file before) uri state sent halt m
  change_of sent halt m step =
      subst (λ o. Changes o (ready file before) uri (pos 2) both_changes sent halt m) (found file empty (is_open no_text)) (subst (λ r. Step (ready file before) r sent halt m) types_is step)

  typed_in : (answers : List Answer) (stop : Option ℕ) (after : State) → Run (ready file before) (types ∷ asks ∷ shuts_down ∷ exits ∷ []) answers stop after
      → ((answers ≡ after_open) ⊎ (answers ≡ after_loss)) × (stop ≡ Some 0)
  typed_in answers stop after (sent, None, m, step, (later, is, run)) =
      let c = change_of sent None m step in becomes c.0 sent m later answers stop after c.1 c.2 is run
  typed_in answers stop after (sent, Some status, m, step, end) =
      let c = change_of sent (Some status) m step in absurd (cc (goes_on c.0 sent (Some status) m c.2))

  first_changed : (Is : List Answer → Type 0) → Is after_open → Is after_loss
      → (part more : List (List ℕ)) (answers : List Answer) (stop : Option ℕ) (after : State) → part ++ more ≡ asks ∷ shuts_down ∷ exits ∷ []
      → Run (ready file before) (types ∷ part) answers stop after → AreFirst Is answers
  first_changed Is opens loses part more answers stop after joined (sent, None, m, step, (later, is, run)) =
      let c = change_of sent None m step in first_becomes Is opens loses c.0 sent m part more later answers stop after c.1 c.2 is joined run
  first_changed Is opens loses part more answers stop after joined (sent, Some status, m, step, end) =
      let c = change_of sent (Some status) m step in absurd (cc (goes_on c.0 sent (Some status) m c.2))

  first_typed : (Is : List Answer → Type 0) → Is after_open → Is after_loss
      → (part more : List (List ℕ)) (answers : List Answer) (stop : Option ℕ) (after : State) → part ++ more ≡ rest_of_all file
      → Run (ready file before) part answers stop after → AreFirst Is answers
  first_typed Is opens loses [] more answers stop after joined run = none_yet Is after_open answers opens run.0
  first_typed Is opens loses (c ∷ cs) more answers stop after joined run =
      let same : c ≡ types = cc joined in
      let rests : cs ++ more ≡ asks ∷ shuts_down ∷ exits ∷ [] = cc joined in
      first_changed Is opens loses cs more answers stop after rests (subst (λ x. Run (ready file before) (x ∷ cs) answers stop after) same run)

-- ---- the whole session

abbrev all_contents : List (List ℕ)
all_contents = initializes ∷ opens ∷ types ∷ asks ∷ shuts_down ∷ exits ∷ []

splits : Splits session_bytes all_contents (Open [])
splits = (
  22,
  record { header = refl; follows = refl },
  (
    23,
    record { header = refl; follows = refl },
    (
      23,
      record { header = refl; follows = refl },
      (22, record { header = refl; follows = refl }, (22, record { header = refl; follows = refl }, (22, record { header = refl; follows = refl }, (refl, tt)))),
    ),
  ),
)

module _ (file : FileGrammar)
    (first : (answer : Answer) → IsPublished file uri no_text answer → answer ≡ first_published)
    (second : (d : OpenDocument) (answer : Answer) → d.text ≡ codes "2" → d.version ≡ pos 2 → IsPublished file uri d answer
    → answer ≡ published_diagnostics uri (Some (pos 2)) None) where
  whole : (answers : List Answer) (stop : Option ℕ) (after : State) → Run (first_state file) all_contents answers stop after
      → ((answers ≡ typed_answers) ⊎ (answers ≡ lost_answers)) × (stop ≡ Some 0)
  whole answers stop after run =
      let begun = opened file first answers stop after run in
      let done = typed_in file second begun.0 stop after begun.2 in
      (by begun.0 begun.1 done.0, done.1)
    where
      by : (rest : List Answer) → answers ≡ capabilities_reply (of 1) Utf16 ∷ first_published ∷ rest → (rest ≡ after_open) ⊎ (rest ≡ after_loss)
          → (answers ≡ typed_answers) ⊎ (answers ≡ lost_answers)
      by rest is (inl e) = inl (is ∙ ap (λ l. capabilities_reply (of 1) Utf16 ∷ first_published ∷ l) e)
      by rest is (inr e) = inr (is ∙ ap (λ l. capabilities_reply (of 1) Utf16 ∷ first_published ∷ l) e)

  written_so : (answers : List Answer) (written : List ℕ) → written ≡ bytes_of answers → (answers ≡ typed_answers) ⊎ (answers ≡ lost_answers)
      → (written ≡ typed) ⊎ (written ≡ typed_and_lost)
  written_so answers written is (inl e) = inl (is ∙ ap bytes_of e ∙ typed_bytes)
  written_so answers written is (inr e) = inr (is ∙ ap bytes_of e ∙ lost_bytes)

  -- what is sent on a part of it
  abbrev Either : List Answer → Type 0
  Either l = (l ≡ typed_answers) ⊎ (l ≡ lost_answers)

  first_whole : (part more : List (List ℕ)) (answers : List Answer) (stop : Option ℕ) (after : State) → part ++ more ≡ all_contents
      → Run (first_state file) part answers stop after → AreFirst Either answers
  first_whole part more answers stop after joined run =
      first_opened file first Either after_open (inl refl) part more answers stop after
      (λ later rest j r. first_typed file second (λ l. Either (capabilities_reply (of 1) Utf16 ∷ first_published ∷ l)) (inl refl) (inr refl) later more rest stop after j r)
      joined run

  prefix_so : (answers : List Answer) (written rest : List ℕ) → bytes_of answers ≡ written ++ rest → AreFirst Either answers
      → IsPrefixOf typed written ⊎ IsPrefixOf typed_and_lost written
  prefix_so answers written rest is (others, inl e) = inl (subst (λ b. IsPrefixOf b written) typed_bytes (prefix_of typed_answers answers others written rest e is))
  prefix_so answers written rest is (others, inr e) = inr (subst (λ b. IsPrefixOf b written) lost_bytes (prefix_of lost_answers answers others written rest e is))

  came : (written : List ℕ) (outcome : Result ℕ RunFault) → ComesTo file all_contents (Open []) written outcome → CameEither (Ok 0) typed typed_and_lost outcome written
  came written (Ok status) (answers, stop, after, run, is, inl some) =
      let w = whole answers stop after run in
      let same : Some status ≡ Some 0 = sym some ∙ w.1 in
      let zero_is : status ≡ 0 = cc same in
      inl (ap (λ n. Ok n) zero_is, written_so answers written is w.0)
  came written (Ok status) (answers, stop, after, run, is, inr (none, finish, one)) =
      absurd (cc (sym none ∙ (whole answers stop after run).1))
  came written (Err (Frame fault)) (answers, stop, after, run, is, (none, finish)) =
      absurd (cc (sym none ∙ (whole answers stop after run).1))
  came written (Err Read) (part, more, joined, (answers, stop, after, run, is, none)) =
      inr (tt, prefix_so answers written [] (sym is ∙ sym (append-nil written)) (first_whole part more answers stop after joined run))
  came written (Err Write) (part, more, answers, stop, after, rest, joined, run, is) =
      inr (tt, prefix_so answers written rest is (first_whole part more answers stop after joined run))
  came written (Err Memory) (part, more, answers, stop, after, rest, joined, run, is) =
      inr (tt, prefix_so answers written rest is (first_whole part more answers stop after joined run))

-- ---- the grammar file

abbrev pub sums_text : List ℕ
sums_text =
    codes "lrgrammar 1\ntoken NUM = [0-9]+\ntoken PLUS = \"+\"\ntoken LP = \"(\"\ntoken RP = \")\"\nskip WS = [ \\t\\r\\n]+\n"
    ++ codes "start Sum\nfold Atom\nSum = Sum PLUS Atom\nSum = Atom\nAtom = NUM\nAtom = LP Sum RP\n"

file_is : (patterns : List Expression) → file_grammar (statements sums_text) patterns ≡ sums_file patterns
unfolding chars encode_utf8
file_is patterns = refl

first_pattern : (patterns : List Expression) → ArePatterns (rules (statements sums_text)) patterns
    → (e : Expression) × (es : List Expression) × (patterns ≡ e ∷ es) × IsPattern (codes "[0-9]+") e
unfolding chars encode_utf8
first_pattern [] are = absurd are
first_pattern (e ∷ es) are = (e, es, refl, are.0)

-- what laws say of what may follow, and of the meaning of a pattern's text
pub record Laws : Type 0 where
  pub rules : (g : Grammar) (x : List Kind) (r s : List ℕ) (a b : Bool) → IsExpected g x r a → IsExpected g x s b → r ≡ s
  pub ends : (g : Grammar) (x : List Kind) (r s : List ℕ) (a b : Bool) → IsExpected g x r a → IsExpected g x s b → a ≡ b
  pub meaning : (t : List ℕ) (e f : Expression) (u : List ℕ) → Spells e t → Spells f t → Matches e u ↔ Matches f u

-- a session over these bytes of a language that the file of sums defines
pub came_typed : Laws → (number : Expression) → Spells number (codes "[0-9]+") → Matches number (codes "2") → (file : FileGrammar) → IsGrammarOf sums_text file
    → (written : List ℕ) (outcome : Result ℕ RunFault) → Known file session_bytes written outcome → CameEither (Ok 0) typed typed_and_lost outcome written
came_typed laws number spelled two file grammar written outcome known =
    let first = first_pattern file.patterns grammar.patterns in
    let is : file ≡ sums_file (first.0 ∷ first.1) = grammar.is ∙ file_is file.patterns ∙ ap sums_file first.2 in
    let means : Matches first.0 (codes "2") = (laws.meaning (codes "[0-9]+") number first.0 (codes "2") spelled first.3.spelled).0 two in
    let comes = subst (λ f. ComesTo f all_contents (Open []) written outcome) is (known all_contents (Open []) splits) in
    came (sums_file (first.0 ∷ first.1)) (published_of_none (laws.rules sums []) (laws.ends sums []) (first.0 ∷ first.1)) (published_of_two first.0 first.1 means) written outcome comes
