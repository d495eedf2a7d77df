-- A session that opens the empty text as sums: what is published, what a fresh server says, and uses of the laws of freshness.
use Rattle.std.specs.Char.{encode_utf8}
use Rattle.std.specs.FinMap.{empty, get, insert, len, contains_key, get-empty, get-insert, len-empty}
use Rattle.std.specs.Prelude.{◌≡◌, ◌⊎◌, ℕ, pos, Bool, true, false, ◌||◌, nat_lt, List, [], ◌∷◌, ◌++◌, length, All, codes, refl, Option, Some, None, slice_index}
use Rattle.std.specs.Str.{chars, is_utf8}
use Rattle.std.proofs.Common.{ap, arith, sym, subst, ◌∙◌}
use Rattle.std.proofs.lemmas.Cmp.{nat_list_cmp_total}
use Rattle.std.proofs.lemmas.List.Elements.{All-nil, All-cons}
use Rattle.definitions.specs.Answers.{message}
use Rattle.definitions.specs.Sentences.{FaultAtEnd}
use Rattle.definitions.specs.Text.{changed, offset, position, line_of, line_start, line_from, break_ends, units, greatest}
use Rattle.definitions.specs.declared.Range.{Range}
use Rattle.definitions.specs.declared.expression.Expression.{Expression}
use Rattle.readings.proofs.SumsRows.{sums_file, nothing_yet, at_first}
use Rattle.readings.specs.Answers.{Reading, IsReading}
use Rattle.readings.specs.Grammars.{FileGrammar}
use Rattle.readings.specs.Texts.{LastEdit, OpenDocument}
use Rattle.rpc.specs.Ids.{Ident, numbered}
use Rattle.rpc.specs.Loss.TheVariants as loss
use Rattle.rpc.specs.Messages.{Received, TextChange, initialize, about, its_text, open_text, change_text, request, notification, accepted}
use Rattle.rpc.specs.Reading.{received_in}
use Rattle.rpc.specs.Replies.{Answer, capabilities_reply, null_reply, text_reply, published_diagnostics}
use Rattle.rpc.specs.Unit.TheVariants.{Utf16}
use Rattle.serde_json.proofs.OnLiterals.{serde_json_on_literals}
use Rattle.sessions.specs.Answers.{shown, IsPublished, IsAnswer}
use Rattle.sessions.specs.Documents.{DocumentState, is_open, is_lost, Held, has_room}
use Rattle.sessions.specs.Fresh.{IsFresh, RepliesOnly, AnswerAlike, Publishes, IsLastPublished, EveryAnswerIsFresh, EachTextIsItsEdits}
use Rattle.sessions.specs.Runs.{Run}
use Rattle.sessions.specs.Steps.{State, first_state, new_document, Step, Opens, Holds}
use Rattle.sessions.specs.declared.phase.Phase.TheVariants.{Ready, Down}

abbrev uri : List ℕ
uri = codes "a:x"

abbrev other : List ℕ
other = codes "a:y"

abbrev id : ℕ → Ident
id n = numbered (pos n)

abbrev initializes : List ℕ
initializes = codes "{\"jsonrpc\":\"2.0\",\"id\":1,\"method\":\"initialize\",\"params\":{}}"

abbrev opens : List ℕ
opens = codes "{\"jsonrpc\":\"2.0\",\"method\":\"textDocument/didOpen\",\"params\":{\"textDocument\":{\"uri\":\"a:x\",\"languageId\":\"g\",\"version\":1,\"text\":\"\"}}}"

initializes_is : received_in initializes ≡ accepted (request (id 1) (initialize Utf16))
unfolding chars encode_utf8 is_utf8 serde_json_on_literals
initializes_is = refl

opens_is : received_in opens ≡ accepted (notification (open_text uri (pos 1) []))
unfolding chars encode_utf8 is_utf8 serde_json_on_literals
opens_is = refl

abbrev start : Range
start = record { start = record { line = 0; character = 0 }; end = record { line = 0; character = 0 } }

abbrev no_text : OpenDocument
no_text = record { unit = Utf16; version = pos 1; text = []; last = None }

abbrev published : Answer
published = published_diagnostics uri (Some (pos 1)) (Some (start, codes "unexpected end; expected NUM, LP"))

or_true : (b : Bool) → (b || true) ≡ true
or_true true = refl
or_true false = refl

room : (documents : Held) → len documents ≡ 0 → has_room uri documents ≡ true
room documents none = ap (λ n. contains_key documents uri || nat_lt n 64) none ∙ or_true (contains_key documents uri)

-- ---- which answer is the last one published

abbrev version : ℕ → Answer
version n = published_diagnostics uri (Some (pos n)) None

abbrev of_other : Answer
of_other = published_diagnostics other (Some (pos 1)) None

other_isnt_it : Publishes uri of_other → ⊥
other_isnt_it p = omega (arith, ap (λ l. slice_index l 2) p)

last_published : IsLastPublished uri (version 1 ∷ null_reply (id 1) ∷ version 2 ∷ of_other ∷ []) (version 2)
last_published = (version 1 ∷ null_reply (id 1) ∷ [], of_other ∷ [], refl, refl, All-cons (λ a. ¬ Publishes uri a) of_other [] other_isnt_it (All-nil (λ a. ¬ Publishes uri a)))

first_isnt_last : IsLastPublished uri (version 1 ∷ version 2 ∷ []) (version 1) → ⊥
first_isnt_last (before, after, is, publishes, none) = by before after is none
  where
    by : (before after : List Answer) → version 1 ∷ version 2 ∷ [] ≡ before ++ version 1 ∷ after → All (λ a. ¬ Publishes uri a) after → ⊥
    by [] after is none =
        let rest : version 2 ∷ [] ≡ after = cc is in
        subst (λ l. All (λ a. ¬ Publishes uri a) l) (sym rest) none 0 (version 2) (omega arith) refl
    by (x ∷ []) after is none = absurd (cc is)
    by (x ∷ y ∷ []) after is none = absurd (cc is)
    by (x ∷ y ∷ z ∷ before) after is none = absurd (cc is)

reply_isnt_published : IsLastPublished uri (null_reply (id 1) ∷ []) (null_reply (id 1)) → ⊥
reply_isnt_published (before, after, is, publishes, none) = publishes

only_published : (p : Answer) → IsLastPublished uri (capabilities_reply (id 1) Utf16 ∷ published ∷ []) p → p ≡ published
only_published p (before, after, is, publishes, none) = by before after is publishes
  where
    by : (before after : List Answer) → capabilities_reply (id 1) Utf16 ∷ published ∷ [] ≡ before ++ p ∷ after → Publishes uri p → p ≡ published
    by [] after is publishes =
        let first : p ≡ capabilities_reply (id 1) Utf16 = cc is in
        absurd (subst (λ a. Publishes uri a) first publishes)
    by (x ∷ []) after is publishes = cc is
    by (x ∷ y ∷ []) after is publishes = absurd (cc is)
    by (x ∷ y ∷ z ∷ before) after is publishes = absurd (cc is)

-- ---- the session and a fresh server, over sums

module _ (patterns : List Expression) where
  abbrev file : FileGrammar
  file = sums_file patterns

  abbrev ready : Held → State
  ready documents = record { file = file; phase = Ready Utf16; documents = documents }

  abbrev at_end : State
  at_end = ready (insert empty uri (is_open no_text))

  abbrev no_tokens : Reading
  no_tokens = record { tokens = []; verdict = FaultAtEnd; trees = [] }

  no_text_is_read : IsReading file [] no_tokens
  no_text_is_read = record { tokens = refl; verdict = nothing_yet; trees = refl }

  is_published : IsPublished file uri no_text published
  unfolding encode_utf8 message position line_of line_start line_from break_ends units
  is_published = (no_tokens, no_text_is_read, (_, (0 ∷ 2 ∷ [], false, at_first, refl), refl))

  without_version : IsPublished file uri no_text (published_diagnostics uri None None) → ⊥
  without_version (reading, is, (fault, diagnosis, sent)) = absurd (cc sent)

  of_another : IsPublished file uri no_text (published_diagnostics other (Some (pos 1)) None) → ⊥
  of_another (reading, is, (fault, diagnosis, sent)) =
      let same : other ≡ uri = cc sent in omega (arith, ap (λ l. slice_index l 2) same)

  -- an open document is held and published
  holds : Holds (ready empty) uri (is_open no_text) (published ∷ []) None at_end
  holds = (published, is_published, refl, (refl, refl))

  holds_silently : Holds (ready empty) uri (is_open no_text) [] None at_end → ⊥
  holds_silently h = absurd (cc h.2)

  holds_nothing : Holds (ready empty) uri (is_open no_text) (published ∷ []) None (ready empty) → ⊥
  holds_nothing h =
      let same : insert empty uri (is_open no_text) ≡ empty = sym (ap (λ (s : State). s.documents) h.3.1) in
      absurd (cc (sym (get-insert nat_list_cmp_total empty uri (is_open no_text) uri) ∙ ap (λ (d : Held). get d uri) same ∙ get-empty _ uri))

  opens_it : Step (ready empty) (accepted (notification (open_text uri (pos 1) []))) (published ∷ []) None at_end
  unfolding chars encode_utf8
  opens_it = subst (λ b. Opens b (ready empty) uri (is_open no_text) (published ∷ []) None at_end) (sym (room empty (len-empty _ _))) holds

  fresh : IsFresh file Utf16 uri (pos 1) [] published at_end
  unfolding chars
  fresh = record { id = id 1; bytes = []; mid = ready empty; spelled = refl; initializes = (refl, refl, refl); opens = opens_it }

  run : Run (first_state file) (initializes ∷ opens ∷ []) (capabilities_reply (id 1) Utf16 ∷ published ∷ []) None at_end
  run = (
    capabilities_reply (id 1) Utf16 ∷ [],
    None,
    ready empty,
    subst (λ r. Step (first_state file) r (capabilities_reply (id 1) Utf16 ∷ []) None (ready empty)) (sym initializes_is) (refl, refl, refl),
    (
      published ∷ [],
      refl,
      (published ∷ [], None, at_end, subst (λ r. Step (ready empty) r (published ∷ []) None at_end) (sym opens_is) opens_it, ([], refl, (refl, refl, refl))),
    ),
  )

  -- the phase that an opening leaves is the ready one
  phase_kept : (b : Bool) (d : DocumentState) (old new : State) (answers : List Answer) (stop : Option ℕ) → Opens b old uri d answers stop new → new.phase ≡ old.phase
  phase_kept true (is_open d) old new answers stop h = ap (λ (s : State). s.phase) h.3.1
  phase_kept true (is_lost l) old new answers stop h = ap (λ (s : State). s.phase) h.1.1
  phase_kept false d old new answers stop h = ap (λ (s : State). s.phase) h.2

  not_fresh_before : (p : Answer) → IsFresh file Utf16 uri (pos 1) [] p (first_state file) → ⊥
  not_fresh_before p f =
      let mid : f.mid ≡ ready empty = f.initializes.2 in
      let step = subst (λ s. Step s (accepted (notification (open_text uri (pos 1) f.bytes))) (p ∷ []) None (first_state file)) mid f.opens in
      absurd (cc (phase_kept (has_room uri empty) (new_document Utf16 (pos 1) (chars f.bytes)) (ready empty) (first_state file) (p ∷ []) None step))

  abbrev length_of : Option DocumentState → ℕ
  length_of (Some (is_open d)) = length d.text
  length_of (Some (is_lost l)) = 0
  length_of None = 0

  abbrev two : OpenDocument
  two = record { unit = Utf16; version = pos 1; text = codes "2"; last = None }

  -- nor is this one fresh on another text
  not_on_another_text : (p : Answer) → IsFresh file Utf16 uri (pos 1) (codes "2") p at_end → ⊥
  unfolding encode_utf8
  not_on_another_text p f =
      let step = subst (λ s. Step s (accepted (notification (open_text uri (pos 1) f.bytes))) (p ∷ []) None at_end) f.initializes.2 f.opens in
      let opens = subst (λ b. Opens b (ready empty) uri (new_document Utf16 (pos 1) (chars f.bytes)) (p ∷ []) None at_end) (room empty (len-empty _ _)) step in
      let holds_two : Holds (ready empty) uri (is_open two) (p ∷ []) None at_end =
      subst (λ t. Opens true (ready empty) uri (new_document Utf16 (pos 1) t) (p ∷ []) None at_end) f.spelled opens in
      let same : insert empty uri (is_open no_text) ≡ insert empty uri (is_open two) = ap (λ (s : State). s.documents) holds_two.3.1 in
      let found = sym (get-insert nat_list_cmp_total empty uri (is_open no_text) uri) ∙ ap (λ (d : Held). get d uri) same
      ∙ get-insert nat_list_cmp_total empty uri (is_open two) uri in
      let lengths : 0 ≡ 1 = ap length_of found in
      omega (arith, lengths)

  -- ---- what the laws say

  abbrev asks : Received
  asks = accepted (request (id 3) (about uri its_text))

  abbrev its_reply : Answer
  its_reply = text_reply (id 3) (pos 1) []

  held : get at_end.documents uri ≡ Some (is_open no_text)
  held = get-insert nat_list_cmp_total empty uri (is_open no_text) uri

  answers_text : Step at_end asks (its_reply ∷ []) None at_end
  unfolding encode_utf8
  answers_text = (its_reply, subst (λ d. IsAnswer file (id 3) d its_text its_reply) (sym held) refl, (refl, refl, refl))

  -- each fresh server answers `lr/text` as this one, and has published what this one published last
  as_fresh : EveryAnswerIsFresh file → (other_state : State) (p : Answer) → IsFresh file Utf16 uri (pos 1) [] p other_state
      → Step other_state asks (its_reply ∷ []) None other_state × (p ≡ published)
  as_fresh law other_state p f =
      let both = (law (initializes ∷ opens ∷ []) (capabilities_reply (id 1) Utf16 ∷ published ∷ []) at_end Utf16 uri no_text run refl held).1 other_state p f in
      let alike = both.0 (id 3) its_text in
      let same : its_reply ∷ [] ≡ alike.0 ∷ [] = (alike.1.only (its_reply ∷ []) None at_end answers_text).0 in
      (subst (λ l. Step other_state asks l None other_state) (sym same) alike.2.replies, only_published p both.1)

  fresh_exists : EveryAnswerIsFresh file → (other_state : State) × (p : Answer) × IsFresh file Utf16 uri (pos 1) [] p other_state
  fresh_exists law = (law (initializes ∷ opens ∷ []) (capabilities_reply (id 1) Utf16 ∷ published ∷ []) at_end Utf16 uri no_text run refl held).0

  -- and gives no second answer to a question
  one_answer : (state after : State) (answer : Answer) (answers : List Answer) (stop : Option ℕ) → RepliesOnly state asks answer
      → Step state asks answers stop after → (answers ≡ answer ∷ []) × (stop ≡ None) × (after ≡ state)
  one_answer state after answer answers stop r step = r.only answers stop after step

  abbrev down : State
  down = record { file = file; phase = Down; documents = empty }

  -- before `initialize` and after `shutdown` a question has different answers
  not_alike : AnswerAlike uri (first_state file) down → ⊥
  not_alike alike =
      let a = alike (id 1) its_text in
      absurd (cc (sym a.1.replies.0 ∙ a.2.replies.0))

-- the text after a message of two changes, and what it leaves alone
abbrev both_changes : List TextChange
both_changes =
    record { range = Some start; text = codes "12" }
    ∷ record { range = Some (record { start = record { line = 0; character = 0 }; end = record { line = 0; character = 1 } }); text = [] }
    ∷ []

edited_text : EachTextIsItsEdits → (old new : State) (answers : List Answer) (stop : Option ℕ) → old.phase ≡ Ready Utf16
    → get old.documents uri ≡ Some (is_open no_text) → Step old (accepted (notification (change_text uri (pos 2) both_changes))) answers stop new
    → (((last : Option LastEdit) × (get new.documents uri ≡ Some (is_open (record { unit = Utf16; version = pos 2; text = codes "2"; last = last }))))
    ⊎ (get new.documents uri ≡ Some (is_lost loss.Memory)))
    × (get new.documents other ≡ get old.documents other)
unfolding chars encode_utf8 changed offset line_start line_from break_ends units greatest
edited_text law old new answers stop phase held step =
    let said = law old new Utf16 uri (pos 2) both_changes no_text (codes "2") answers stop phase held refl step in
    (said.0, said.1 other (λ e. omega (arith, ap (λ l. slice_index l 2) e)))

shown_so : shown (record { range = start; message = 0xE9 ∷ [] }) ≡ (start, 0xC3 ∷ 0xA9 ∷ [])
unfolding encode_utf8
shown_so = refl
