-- What a client writes for a message is read as that message.
use Rattle.rpc.proofs.Std.{All, Bool, IsUtf8, List, None, Option, Some, [], ap, ap₂, chars, codes, false, if◌then◌else◌, map, nat_lt, negsuc, option_map, pos, refl, subst, sym, true, ℕ, ℤ, ◌++◌, ◌<◌, ◌^◌, ◌∙◌, ◌∷◌, ◌≡◌, ◌≤◌}
use Rattle.rpc.proofs.Std.{All-cons, All-head, All-nil, All-tail, arith, is_utf8-from_IsUtf8, lt-ltb, ltb-true}
use Rattle.rpc.proofs.Std.{Data, IsUtf8-are_ascii, are_ascii, compact_text, depth, items_depth, items_of, max_depth, null, number, of_integer}
use Rattle.rpc.proofs.Common.{Encoding, Position, Range, Utf16, Utf32, Utf8}
use Rattle.rpc.proofs.Common.{IdFits, NotificationFits, PositionFits, QuestionFits, RangeFits, RequestFits, asking, change_data, notification_data, of_changes, of_client, of_document, of_opening, of_positions, question_data, request_data, telling, with_range}
use Rattle.rpc.proofs.Common.{IsSpelled, id_texts, notification_texts, request_texts, texts_of}
use Rattle.rpc.proofs.Common.{Notification, Question, Request, TextChange, about, accepted, change_text, close, exit, initialize, initialized, its_folds, its_selections, its_text, its_tokens, its_tree, malformed, notification, open_text, request, shutdown, stats}
use Rattle.rpc.proofs.Common.{Receives, change_notification, change_of, change_with, changes_of, first_and, ident_of, message_of, open_notification, place, position_of, positions_of, range_of, received_as, request_of, selections_request, span, value_of, fits_i32, fits_u31, integer_of}
use Rattle.rpc.proofs.Common.{Ident, id_data, named, numbered, position_data, range_data, unit_name}
use Rattle.rpc.proofs.Plain.{IsPlain, ArePlain, plain_utf8, read_again}

-- ---- numbers

below : (n m : ℕ) (z : ℤ) → (if nat_lt n m then Some z else None) ≡ Some z → n < m
below n m z = by (nat_lt n m) refl
  where
    by : (b : Bool) → nat_lt n m ≡ b → (if b then Some z else None) ≡ Some z → n < m
    by true e h = ltb-true n m e
    by false e h = absurd (let f : ⊥ = cc in f)

integer_is : (z : ℤ) → fits_i32 z ≡ Some z → integer_of (number (of_integer z)) ≡ Some z
integer_is (pos n) fit = let small = below n (2 ^ 31) (pos n) fit in rw (lt-ltb n (2 ^ 63) (omega arith)) fit
integer_is (negsuc n) fit = fit

ident_is : (id : Ident) → IdFits id → ident_of (id_data id) ≡ Some id
ident_is (named s) fit = refl
ident_is (numbered z) fit = ap (option_map numbered) (integer_is z fit)

position_is : (p : Position) → PositionFits p → position_of (position_data p) ≡ Some p
position_is p fit = ap₂ place fit.0 fit.1

positions_are : (ps : List Position) → All PositionFits ps → positions_of (items_of (map position_data ps)) ≡ Some ps
positions_are [] fit = refl
positions_are (p ∷ ps) fit = ap₂ first_and (position_is p (All-head PositionFits p ps fit)) (positions_are ps (All-tail PositionFits p ps fit))

range_is : (r : Range) → RangeFits (Some r) → range_of (range_data r) ≡ Some r
range_is r fit = ap₂ span (position_is r.start fit.0) (position_is r.end fit.1)

abbrev ChangeFits : TextChange → Type 0
ChangeFits c = RangeFits c.range

change_is : (range : Option Range) (text : List ℕ) → RangeFits range → change_of (with_range range text) ≡ Some (record { range = range; text = text })
change_is None text fit = refl
change_is (Some r) text fit = ap (λ (o : Option Range). change_with (Some text) (option_map (λ (r : Range). Some r) o)) (range_is r fit)

changes_are : (cs : List TextChange) → All ChangeFits cs → changes_of (items_of (map change_data cs)) ≡ Some cs
changes_are [] fit = refl
changes_are (c ∷ cs) fit = ap₂ first_and (change_is c.range c.text (All-head ChangeFits c cs fit)) (changes_are cs (All-tail ChangeFits c cs fit))

-- ---- values

asked : (id : Ident) (method : List ℕ) (params : Data) → IdFits id → message_of (asking id method (Some params)) ≡ request_of method id params
asked id method params fit = rw (ident_is id fit) refl

asked_alone : (id : Ident) (method : List ℕ) → IdFits id → message_of (asking id method None) ≡ request_of method id null
asked_alone id method fit = rw (ident_is id fit) refl

question_is : (id : Ident) (uri : List ℕ) (question : Question) → IdFits id → QuestionFits question
    → message_of (question_data id uri question) ≡ accepted (request id (about uri question))
question_is id uri its_text id_fits fit = asked id (codes "lr/text") (of_document uri) id_fits
question_is id uri its_tokens id_fits fit = asked id (codes "lr/tokens") (of_document uri) id_fits
question_is id uri its_tree id_fits fit = asked id (codes "lr/tree") (of_document uri) id_fits
question_is id uri its_folds id_fits fit = asked id (codes "textDocument/foldingRange") (of_document uri) id_fits
question_is id uri (its_selections ps) id_fits fit = asked id (codes "textDocument/selectionRange") (of_positions uri ps) id_fits ∙ ap (selections_request id (Some uri)) (positions_are ps fit)

request_is : (id : Ident) (call : Request) → IdFits id → RequestFits call → message_of (request_data id call) ≡ accepted (request id call)
request_is id (initialize Utf8) id_fits fit = asked id (codes "initialize") (of_client Utf8) id_fits
request_is id (initialize Utf16) id_fits fit = asked id (codes "initialize") (of_client Utf16) id_fits
request_is id (initialize Utf32) id_fits fit = asked id (codes "initialize") (of_client Utf32) id_fits
request_is id shutdown id_fits fit = asked_alone id (codes "shutdown") id_fits
request_is id (about uri question) id_fits fit = question_is id uri question id_fits fit
request_is id (stats uri) id_fits fit = asked id (codes "lr/stats") (of_document uri) id_fits

notification_is : (language : List ℕ) (note : Notification) (d : Data) → notification_data language note ≡ Some d → NotificationFits note
    → message_of d ≡ accepted (notification note)
notification_is language note d is fit = by note is fit
  where
    at : (value : Data) (note : Notification) → Some value ≡ Some d → message_of value ≡ accepted (notification note) → message_of d ≡ accepted (notification note)
    at value note is read = let same : value ≡ d = cc in subst (λ x. message_of x ≡ accepted (notification note)) same read

    by : (note : Notification) → notification_data language note ≡ Some d → NotificationFits note → message_of d ≡ accepted (notification note)
    by initialized is fit = at _ initialized is refl
    by exit is fit = at _ exit is refl
    by (open_text uri version text) is fit =
        at _ _ is (ap (λ v. accepted (notification (open_notification (Some uri) v (Some text)))) (integer_is version fit))
    by (change_text uri version changes) is fit =
        at _ _ is (ap₂ (λ v cs. accepted (notification (change_notification (Some uri) v cs))) (integer_is version fit.0) (changes_are changes fit.1))
    by (close uri) is fit = at _ _ is refl
    by (malformed unfit) is fit = absurd (let f : ⊥ = cc in f)

pub request_value : (id : Ident) (call : Request) (content : List ℕ) → value_of content ≡ Some (request_data id call) → IdFits id → RequestFits call
    → Receives content (accepted (request id call))
request_value id call content is id_fits fit = sym (ap received_as is ∙ request_is id call id_fits fit)

pub notification_value : (language : List ℕ) (note : Notification) (content : List ℕ) (d : Data) → value_of content ≡ Some d → notification_data language note ≡ Some d
    → NotificationFits note → Receives content (accepted (notification note))
notification_value language note content d is data_is fit = sym (ap received_as is ∙ notification_is language note d data_is fit)

-- ---- texts

utf8_of : (s : List ℕ) → IsSpelled s → IsUtf8 s
utf8_of s h = (chars s, (h.scalars, h.same))

value_read : (d : Data) → IsPlain d → depth d ≤ max_depth → value_of (compact_text d) ≡ Some d
value_read d plain shallow = rw (is_utf8-from_IsUtf8 (compact_text d) (plain_utf8 d plain)) (read_again d plain shallow)

plain_integer : (z : ℤ) → fits_i32 z ≡ Some z → IsPlain (number (of_integer z))
plain_integer (pos n) fit = let small = below n (2 ^ 31) (pos n) fit in omega arith
plain_integer (negsuc n) fit = below n (2 ^ 31) (negsuc n) fit

plain_natural : (n : ℕ) → fits_u31 n ≡ Some n → n < 2 ^ 64
plain_natural n fit = by (nat_lt n (2 ^ 31)) refl fit
  where
    by : (b : Bool) → nat_lt n (2 ^ 31) ≡ b → (if b then Some n else None) ≡ Some n → n < 2 ^ 64
    by true e h = let small = ltb-true n (2 ^ 31) e in omega arith
    by false e h = absurd (let f : ⊥ = cc in f)

plain_id : (id : Ident) → IdFits id → All IsSpelled (id_texts id) → IsPlain (id_data id)
plain_id (named s) fit h = utf8_of s (All-head IsSpelled s [] h)
plain_id (numbered z) fit h = plain_integer z fit

id_depth : (id : Ident) → depth (id_data id) ≡ 0
id_depth (named s) = refl
id_depth (numbered z) = refl

ascii : (s : List ℕ) → are_ascii s ≡ true → IsUtf8 s
ascii s e = IsUtf8-are_ascii s e

plain_position : (p : Position) → PositionFits p → IsPlain (position_data p)
plain_position p fit = (ascii (codes "character") refl, plain_natural p.character fit.1, refl, (ascii (codes "line") refl, plain_natural p.line fit.0, refl, tt))

plain_positions : (ps : List Position) → All PositionFits ps → ArePlain (items_of (map position_data ps))
plain_positions [] fit = tt
plain_positions (p ∷ ps) fit = (plain_position p (All-head PositionFits p ps fit), plain_positions ps (All-tail PositionFits p ps fit))

positions_depth : (ps : List Position) → items_depth (items_of (map position_data ps)) ≤ 1
positions_depth [] = omega arith
positions_depth (p ∷ ps) = let more = positions_depth ps in omega arith

plain_change : (range : Option Range) (text : List ℕ) → RangeFits range → IsSpelled text → IsPlain (with_range range text)
plain_change None text fit h = (ascii (codes "text") refl, utf8_of text h, refl, tt)
plain_change (Some r) text fit h = (
  ascii (codes "range") refl,
  (ascii (codes "end") refl, plain_position r.end fit.1, refl, (ascii (codes "start") refl, plain_position r.start fit.0, refl, tt)),
  refl,
  (ascii (codes "text") refl, utf8_of text h, refl, tt),
)

plain_changes : (cs : List TextChange) → All ChangeFits cs → All IsSpelled (map (λ c. c.text) cs) → ArePlain (items_of (map change_data cs))
plain_changes [] fit h = tt
plain_changes (c ∷ cs) fit h = (
  plain_change c.range c.text (All-head ChangeFits c cs fit) (All-head IsSpelled c.text (map (λ (x : TextChange). x.text) cs) h),
  plain_changes cs (All-tail ChangeFits c cs fit) (All-tail IsSpelled c.text (map (λ (x : TextChange). x.text) cs) h),
)

change_depth : (range : Option Range) (text : List ℕ) → depth (with_range range text) ≤ 3
change_depth None text = omega arith
change_depth (Some r) text = omega arith

changes_depth : (cs : List TextChange) → items_depth (items_of (map change_data cs)) ≤ 3
changes_depth [] = omega arith
changes_depth (c ∷ cs) = let one = change_depth c.range c.text in let more = changes_depth cs in omega arith

-- ---- parameters, and messages

plain_document : (uri : List ℕ) → IsSpelled uri → IsPlain (of_document uri)
plain_document uri h = (ascii (codes "textDocument") refl, (ascii (codes "uri") refl, utf8_of uri h, refl, tt), refl, tt)

-- a message of a method, with its parameters
record Is (d : Data) (most : ℕ) : Type 0 where
  plain : IsPlain d
  shallow : depth d ≤ most

told : (method : List ℕ) (params : Data) → are_ascii method ≡ true → Is params 100 → Is (telling method (Some params)) max_depth
told method params e p = record {
  plain = (
    ascii (codes "jsonrpc") refl,
    ascii (codes "2.0") refl,
    refl,
    (ascii (codes "method") refl, ascii method e, refl, (ascii (codes "params") refl, p.plain, refl, tt)),
  );
  shallow = let under = p.shallow in omega arith;
}

told_alone : (method : List ℕ) → are_ascii method ≡ true → Is (telling method None) max_depth
told_alone method e = record {
  plain = (ascii (codes "jsonrpc") refl, ascii (codes "2.0") refl, refl, (ascii (codes "method") refl, ascii method e, refl, tt));
  shallow = omega arith;
}

module _ (id : Ident) (id_fits : IdFits id) (id_spelled : All IsSpelled (id_texts id)) where
  asks : (method : List ℕ) (params : Data) → are_ascii method ≡ true → Is params 100 → Is (asking id method (Some params)) max_depth
  asks method params e p = record {
    plain = (
      ascii (codes "id") refl,
      plain_id id id_fits id_spelled,
      refl,
      (
        ascii (codes "jsonrpc") refl,
        ascii (codes "2.0") refl,
        refl,
        (ascii (codes "method") refl, ascii method e, refl, (ascii (codes "params") refl, p.plain, refl, tt)),
      ),
    );
    shallow = let under = p.shallow in let flat = id_depth id in omega arith;
  }

  asks_alone : (method : List ℕ) → are_ascii method ≡ true → Is (asking id method None) max_depth
  asks_alone method e = record {
    plain = (
      ascii (codes "id") refl,
      plain_id id id_fits id_spelled,
      refl,
      (ascii (codes "jsonrpc") refl, ascii (codes "2.0") refl, refl, (ascii (codes "method") refl, ascii method e, refl, tt)),
    );
    shallow = let flat = id_depth id in omega arith;
  }

  document_is : (uri : List ℕ) → IsSpelled uri → Is (of_document uri) 100
  document_is uri h = record { plain = plain_document uri h; shallow = omega arith }

  positions_is : (uri : List ℕ) (ps : List Position) → IsSpelled uri → All PositionFits ps → Is (of_positions uri ps) 100
  positions_is uri ps h fit = record {
    plain = (
      ascii (codes "positions") refl,
      plain_positions ps fit,
      refl,
      (ascii (codes "textDocument") refl, (ascii (codes "uri") refl, utf8_of uri h, refl, tt), refl, tt),
    );
    shallow = let flat = positions_depth ps in omega arith;
  }

  client_is : (unit : Encoding) (name : List ℕ) → unit_name unit ≡ name → are_ascii name ≡ true → Is (of_client unit) 100
  client_is unit name is e = record {
    plain = (
      ascii (codes "capabilities") refl,
      (
        ascii (codes "general") refl,
        (ascii (codes "positionEncodings") refl, (subst IsUtf8 (sym is) (ascii name e), tt), refl, tt),
        refl,
        tt,
      ),
      refl,
      (ascii (codes "processId") refl, tt, refl, (ascii (codes "rootUri") refl, tt, refl, tt)),
    );
    shallow = omega arith;
  }

  question_plain : (uri : List ℕ) (question : Question) → IsSpelled uri → QuestionFits question → Is (question_data id uri question) max_depth
  question_plain uri its_text h fit = asks _ _ refl (document_is uri h)
  question_plain uri its_tokens h fit = asks _ _ refl (document_is uri h)
  question_plain uri its_tree h fit = asks _ _ refl (document_is uri h)
  question_plain uri its_folds h fit = asks _ _ refl (document_is uri h)
  question_plain uri (its_selections ps) h fit = asks _ _ refl (positions_is uri ps h fit)

  request_plain : (call : Request) → RequestFits call → All IsSpelled (request_texts call) → Is (request_data id call) max_depth
  request_plain (initialize Utf8) fit h = asks _ _ refl (client_is Utf8 (codes "utf-8") refl refl)
  request_plain (initialize Utf16) fit h = asks _ _ refl (client_is Utf16 (codes "utf-16") refl refl)
  request_plain (initialize Utf32) fit h = asks _ _ refl (client_is Utf32 (codes "utf-32") refl refl)
  request_plain shutdown fit h = asks_alone _ refl
  request_plain (about uri question) fit h = question_plain uri question (All-head IsSpelled uri [] h) fit
  request_plain (stats uri) fit h = asks _ _ refl (document_is uri (All-head IsSpelled uri [] h))

id_and_others : (id : Ident) (others : List (List ℕ)) → All IsSpelled (id_texts id ++ others) → All IsSpelled (id_texts id) × All IsSpelled others
id_and_others (named s) others h = (All-cons IsSpelled s [] (All-head IsSpelled s others h) (All-nil IsSpelled), All-tail IsSpelled s others h)
id_and_others (numbered z) others h = (All-nil IsSpelled, h)

pub request_text : (id : Ident) (call : Request) → IdFits id → RequestFits call → All IsSpelled (texts_of (accepted (request id call)))
    → Receives (compact_text (request_data id call)) (accepted (request id call))
request_text id call id_fits fit h =
    let spelled = id_and_others id (request_texts call) h in
    let is = request_plain id id_fits spelled.0 call fit spelled.1 in
    request_value id call _ (value_read (request_data id call) is.plain is.shallow) id_fits fit

notification_plain : (language : List ℕ) (note : Notification) (d : Data) → notification_data language note ≡ Some d → NotificationFits note → IsSpelled language
    → All IsSpelled (notification_texts note) → Is d max_depth
notification_plain language note d is fit spelled h = by note is fit h
  where
    at : (value : Data) → Some value ≡ Some d → Is value max_depth → Is d max_depth
    at value is plain = let same : value ≡ d = cc in subst (λ x. Is x max_depth) same plain

    by : (note : Notification) → notification_data language note ≡ Some d → NotificationFits note → All IsSpelled (notification_texts note) → Is d max_depth
    by initialized is fit h = at _ is (told _ _ refl (record { plain = tt; shallow = omega arith }))
    by exit is fit h = at _ is (told_alone _ refl)
    by (open_text uri version text) is fit h = at _ is (told _ (of_opening language uri version text) refl (record {
      plain = (
        ascii (codes "textDocument") refl,
        (
          ascii (codes "languageId") refl,
          utf8_of language spelled,
          refl,
          (
            ascii (codes "text") refl,
            utf8_of text (All-head IsSpelled text [] (All-tail IsSpelled uri (text ∷ []) h)),
            refl,
            (
              ascii (codes "uri") refl,
              utf8_of uri (All-head IsSpelled uri (text ∷ []) h),
              refl,
              (ascii (codes "version") refl, plain_integer version fit, refl, tt),
            ),
          ),
        ),
        refl,
        tt,
      );
      shallow = omega arith;
    }))
    by (change_text uri version changes) is fit h = at _ is (told _ (of_changes uri version changes) refl (record {
      plain = (
        ascii (codes "contentChanges") refl,
        plain_changes changes fit.1 (All-tail IsSpelled uri (map (λ (c : TextChange). c.text) changes) h),
        refl,
        (
          ascii (codes "textDocument") refl,
          (
            ascii (codes "uri") refl,
            utf8_of uri (All-head IsSpelled uri (map (λ (c : TextChange). c.text) changes) h),
            refl,
            (ascii (codes "version") refl, plain_integer version fit.0, refl, tt),
          ),
          refl,
          tt,
        ),
      );
      shallow = let flat = changes_depth changes in omega arith;
    }))
    by (close uri) is fit h = at _ is (told _ _ refl (record { plain = plain_document uri (All-head IsSpelled uri [] h); shallow = omega arith }))
    by (malformed unfit) is fit h = absurd (let f : ⊥ = cc in f)

pub notification_text : (language : List ℕ) (note : Notification) (d : Data) → notification_data language note ≡ Some d → NotificationFits note → IsSpelled language
    → All IsSpelled (texts_of (accepted (notification note))) → Receives (compact_text d) (accepted (notification note))
notification_text language note d is fit spelled h =
    let plain = notification_plain language note d is fit spelled h in
    notification_value language note _ d (value_read d plain.plain plain.shallow) is fit
