-- The strings of a JSON value are in UTF-8 where its text is: of the text's tokens, of the grammar's value, and of the data that it is.
use Rattle.rpc.proofs.Std.{◌≡◌, ℕ, zero, suc, Bool, true, false, cond, ◌==◌, List, [], ◌∷◌, ◌++◌, length, Option, Some, None, IfSome, option_map, option_and_then, IsUtf8, refl, arith, ⊤, slice_cmp, nat_cmp, match_ordering, Ordering, Less, Equal, Greater}
use Rattle.rpc.proofs.Std.{plain, content, word, number_before, after_number, head, is_operator, is_space, ends_word, Token, Lexeme, Class, Mode, Place}
use Rattle.rpc.proofs.Std.{token, comma, colon, quote, backslash, operator, space, other, class, between, in_word, in_string, in_escape, operator_lexeme, string_token, lex_byte, lex, fresh, after_value, after_comma, after_key, begins_colon, may_begin, may_close, if_allowed, place_token, punctuate}
use Rattle.rpc.proofs.Std.{tokens, Data, number_of, of_json, of_items, of_members, max_depth, read}
use Rattle.json.specs.Ascii as ascii
use Rattle.json.specs.Json as json
use Rattle.serde_json.specs.Data as datum
use Rattle.rpc.proofs.Strings.{if_map, if_then, cond_either, byte_small, one_more, past_ascii, content-utf8}

-- ---- tokens

abbrev IsGood : Token → Type 0
IsGood (Token.string s) = IsUtf8 s
IsGood d = ⊤

abbrev AreGood : List Token → Type 0
AreGood [] = ⊤
AreGood (t ∷ ts) = IsGood t × AreGood ts

abbrev IsGoodLexeme : Lexeme → Type 0
IsGoodLexeme (token t) = IsGood t
IsGoodLexeme comma = ⊤
IsGoodLexeme colon = ⊤

abbrev AreGoodLexemes : List Lexeme → Type 0
AreGoodLexemes [] = ⊤
AreGoodLexemes (l ∷ ls) = IsGoodLexeme l × AreGoodLexemes ls

good_number : (t : List ℕ) (o : Option (List ℕ)) → IsGood (number_before t o)
good_number t None = tt
good_number t (Some rest) = cond_either IsGood (ends_word rest) (Token.number _) Token.bad tt tt

good_word : (t : List ℕ) → IsGood (word t)
unfolding word
good_word t =
    cond_either IsGood (head t == ascii.lower_t) _ _ (cond_either IsGood _ (Token.boolean true) Token.bad tt tt)
    (cond_either IsGood (head t == ascii.lower_f) _ _ (cond_either IsGood _ (Token.boolean false) Token.bad tt tt)
    (cond_either IsGood (head t == ascii.lower_n) _ _ (cond_either IsGood _ Token.null Token.bad tt tt) (good_number t (after_number t))))

good_operator : (x : ℕ) → IsGoodLexeme (operator_lexeme x)
good_operator x =
    cond_either IsGoodLexeme (x == ascii.open_brace) (token Token.begin_object) _ tt
    (cond_either IsGoodLexeme (x == ascii.close_brace) (token Token.end_object) _ tt
    (cond_either IsGoodLexeme (x == ascii.open_bracket) (token Token.begin_array) _ tt
    (cond_either IsGoodLexeme (x == ascii.close_bracket) (token Token.end_array) _ tt
    (cond_either IsGoodLexeme (x == ascii.comma) comma colon tt tt))))

good_string : (o : Option (List ℕ)) → IfSome o (λ s. IsUtf8 s) → IsGood (string_token o)
good_string None u = tt
good_string (Some s) u = u

abbrev is_quote : Class → Bool
is_quote quote = true
is_quote d = false

quote_from : (a b c d : Bool) → is_quote (cond a quote (cond b backslash (cond c operator (cond d space other)))) ≡ true → a ≡ true
quote_from true b c d e = refl
quote_from false true c d e = e
quote_from false false true d e = e
quote_from false false false true e = e
quote_from false false false false e = e

good_byte : (m : Mode) (c : Class) (x : ℕ) (xs : List ℕ) (k : Mode → List Lexeme) → (is_quote c ≡ true → IsUtf8 xs) → ((next : Mode) → AreGoodLexemes (k next)) → AreGoodLexemes (lex_byte m c x xs k)
good_byte between quote x xs k u more = (good_string (content plain xs) (content-utf8 plain [] xs (u refl)), more in_string)
good_byte between backslash x xs k u more = (tt, more in_word)
good_byte between operator x xs k u more = (good_operator x, more between)
good_byte between space x xs k u more = more between
good_byte between other x xs k u more = (good_word (x ∷ xs), more in_word)
good_byte in_word operator x xs k u more = (good_operator x, more between)
good_byte in_word space x xs k u more = more between
good_byte in_word d x xs k u more = more in_word
good_byte in_string quote x xs k u more = more between
good_byte in_string backslash x xs k u more = more in_escape
good_byte in_string d x xs k u more = more in_string
good_byte in_escape c x xs k u more = more in_string

-- f are the bytes before, which may end within a character
good_lexemes : (m : Mode) (f xs : List ℕ) → IsUtf8 (f ++ xs) → AreGoodLexemes (lex m xs)
unfolding lex
good_lexemes m f [] u = tt
good_lexemes m f (x ∷ xs) u =
    good_byte m (class x) x xs (λ next. lex next xs)
    (λ e. past_ascii f xs x (byte_small (quote_from (x == ascii.quote) (x == ascii.backslash) (is_operator x) (is_space x) e) (omega arith)) u)
    (λ next. good_lexemes next (f ++ x ∷ []) xs (one_more f xs x u))

good_allowed : (b : Bool) (t : Token) (k : Place → List Token) (next : Place) → IsGood t → AreGood (k next) → AreGood (if_allowed b t k next)
good_allowed true t k next x y = (x, y)
good_allowed false t k next x y = (tt, tt)

good_place : (p : Place) (t : Token) (b : Bool) (k : Place → List Token) → IsGood t → ((next : Place) → AreGood (k next)) → AreGood (place_token p t b k)
good_place p Token.begin_object b k x more = good_allowed (may_begin p) _ k fresh tt (more fresh)
good_place p Token.end_object b k x more = good_allowed (may_close p) _ k after_value tt (more after_value)
good_place p Token.begin_array b k x more = good_allowed (may_begin p) _ k fresh tt (more fresh)
good_place p Token.end_array b k x more = good_allowed (may_close p) _ k after_value tt (more after_value)
good_place p (Token.key s) b k x more = (tt, tt)
good_place p (Token.string s) true k x more = good_allowed (may_begin p) (Token.key s) k after_key tt (more after_key)
good_place p (Token.string s) false k x more = good_allowed (may_begin p) (Token.string s) k after_value x (more after_value)
good_place p Token.bad b k x more = (tt, tt)
good_place p d b k x more = good_allowed (may_begin p) _ k after_value tt (more after_value)

good_tokens : (p : Place) (ls : List Lexeme) → AreGoodLexemes ls → AreGood (punctuate p ls)
unfolding punctuate
good_tokens fresh [] g = tt
good_tokens after_value [] g = tt
good_tokens p (token t ∷ ls) g = good_place p t (begins_colon ls) (λ next. punctuate next ls) g.0 (λ next. good_tokens next ls g.1)
good_tokens after_value (comma ∷ ls) g = good_tokens after_comma ls g.1
good_tokens after_key (colon ∷ ls) g = good_tokens fresh ls g.1
good_tokens p ls g = (tt, tt)

-- ---- the grammar's value

abbrev mutual
  HasTexts : json.Json → Type 0
  HasTexts (json.string s) = IsUtf8 s
  HasTexts (json.array js) = ItemsHaveTexts js
  HasTexts (json.object ms) = MembersHaveTexts ms
  HasTexts d = ⊤

  ItemsHaveTexts : json.Items → Type 0
  ItemsHaveTexts json.no_items = ⊤
  ItemsHaveTexts (json.item j js) = HasTexts j × ItemsHaveTexts js

  MembersHaveTexts : json.Members → Type 0
  MembersHaveTexts json.no_members = ⊤
  MembersHaveTexts (json.member k j ms) = HasTexts j × MembersHaveTexts ms

-- what was read has P, and the tokens left are good
abbrev Reads : {A : Type 0} → (A → Type 0) → Option (A × List Token) → Type 0
Reads P o = IfSome o (λ p. P p.0 × AreGood p.1)

abbrev IsReader : {A : Type 0} → (A → Type 0) → json.Parse A → Type 0
IsReader P parse = (ts : List Token) → AreGood ts → Reads P (parse ts)

reads_map : {A B : Type 0} (P : A → Type 0) (Q : B → Type 0) (f : A → B) (o : Option (A × List Token)) → ((a : A) → P a → Q (f a)) → Reads P o → Reads Q (json.parse_map f o)
reads_map P Q f o step = if_map (λ p. P p.0 × AreGood p.1) (λ p. Q p.0 × AreGood p.1) (λ p. (f p.0, p.1)) o (λ p h. (step p.0 h.0, h.1))

after_array : (ts : List Token) → AreGood ts → IfSome (json.after_end_array ts) AreGood
after_array (Token.end_array ∷ ts) g = g.1
after_array d g = tt

after_a_key : (ts : List Token) → AreGood ts → Reads (λ _. ⊤) (json.read_key ts)
after_a_key (Token.end_object ∷ ts) g = (tt, g.1)
after_a_key (Token.key s ∷ ts) g = (tt, g.1)
after_a_key d g = tt

items_step_reads : (value : json.Parse json.Json) (more : json.Parse json.Items) (ts : List Token) (o : Option (List Token))
    → IsReader HasTexts value → IsReader ItemsHaveTexts more → AreGood ts → IfSome o AreGood
    → Reads ItemsHaveTexts (json.items_step value more ts o)
items_step_reads value more ts (Some rest) one all g h = (tt, h)
items_step_reads value more ts None one all g h =
    if_then (λ p. HasTexts p.0 × AreGood p.1) (λ p. ItemsHaveTexts p.0 × AreGood p.1) (λ p. json.parse_map (json.item p.0) (more p.1)) (value ts)
    (λ p k. reads_map ItemsHaveTexts ItemsHaveTexts (json.item p.0) (more p.1) (λ js t. (k.0, t)) (all p.1 k.1)) (one ts g)

members_step_reads : (value : json.Parse json.Json) (more : json.Parse json.Members) (o : Option (List ℕ)) (ts : List Token) → IsReader HasTexts value → IsReader MembersHaveTexts more → AreGood ts
    → Reads MembersHaveTexts (json.members_step value more o ts)
members_step_reads value more None ts one all g = (tt, g)
members_step_reads value more (Some name) ts one all g =
    if_then (λ p. HasTexts p.0 × AreGood p.1) (λ p. MembersHaveTexts p.0 × AreGood p.1) (λ p. json.parse_map (json.member name p.0) (more p.1)) (value ts)
    (λ p k. reads_map MembersHaveTexts MembersHaveTexts (json.member name p.0) (more p.1) (λ ms t. (k.0, t)) (all p.1 k.1)) (one ts g)

items_reads : (value : json.Parse json.Json) (n : ℕ) → IsReader HasTexts value → IsReader ItemsHaveTexts (json.items value n)
unfolding json.items
items_reads value zero one ts g = tt
items_reads value (suc n) one ts g = items_step_reads value (json.items value n) ts (json.after_end_array ts) one (items_reads value n one) g (after_array ts g)

members_reads : (value : json.Parse json.Json) (n : ℕ) → IsReader HasTexts value → IsReader MembersHaveTexts (json.members value n)
unfolding json.members
members_reads value zero one ts g = tt
members_reads value (suc n) one ts g =
    if_then (λ p. ⊤ × AreGood p.1) (λ p. MembersHaveTexts p.0 × AreGood p.1) (λ p. json.members_step value (json.members value n) p.0 p.1) (json.read_key ts)
    (λ p k. members_step_reads value (json.members value n) p.0 p.1 one (members_reads value n one) k.1) (after_a_key ts g)

value_with_reads : (a : json.Parse json.Items) (o : json.Parse json.Members) → IsReader ItemsHaveTexts a → IsReader MembersHaveTexts o → IsReader HasTexts (json.value_with a o)
value_with_reads a o items members (Token.begin_object ∷ ts) g = reads_map MembersHaveTexts HasTexts json.object (o ts) (λ ms t. t) (members ts g.1)
value_with_reads a o items members (Token.begin_array ∷ ts) g = reads_map ItemsHaveTexts HasTexts json.array (a ts) (λ js t. t) (items ts g.1)
value_with_reads a o items members (Token.string s ∷ ts) g = (g.0, g.1)
value_with_reads a o items members (Token.number s ∷ ts) g = (tt, g.1)
value_with_reads a o items members (Token.boolean b ∷ ts) g = (tt, g.1)
value_with_reads a o items members (Token.null ∷ ts) g = (tt, g.1)
value_with_reads a o items members d g = tt

value_reads : (depth : ℕ) → IsReader HasTexts (json.value depth)
unfolding json.value
value_reads zero = value_with_reads (λ ts. None) (λ ts. None) (λ ts g. tt) (λ ts g. tt)
value_reads (suc depth) =
    value_with_reads (λ ts. json.items (json.value depth) (length ts) ts) (λ ts. json.members (json.value depth) (length ts) ts)
    (λ ts g. items_reads (json.value depth) (length ts) (value_reads depth) ts g) (λ ts g. members_reads (json.value depth) (length ts) (value_reads depth) ts g)

if_last_reads : (j : json.Json) (ts : List Token) → HasTexts j → IfSome (json.if_last j ts) HasTexts
if_last_reads j [] h = h
if_last_reads j (t ∷ ts) h = tt

-- ---- the data that it is

abbrev mutual
  pub IsSpelledData : Data → Type 0
  IsSpelledData (datum.string s) = IsUtf8 s
  IsSpelledData (datum.array ds) = AreSpelledItems ds
  IsSpelledData (datum.object ms) = AreSpelledMembers ms
  IsSpelledData d = ⊤

  pub AreSpelledItems : datum.Items → Type 0
  AreSpelledItems datum.no_items = ⊤
  AreSpelledItems (datum.item d ds) = IsSpelledData d × AreSpelledItems ds

  pub AreSpelledMembers : datum.Members → Type 0
  AreSpelledMembers datum.no_members = ⊤
  AreSpelledMembers (datum.member k d ms) = IsSpelledData d × AreSpelledMembers ms

pub by_order : {A : Type 0} (P : A → Type 0) (o : Ordering) (a b c : A) → P a → P b → P c → P (match_ordering o a b c)
by_order P Less a b c x y z = x
by_order P Equal a b c x y z = y
by_order P Greater a b c x y z = z

put_spelled : (k : List ℕ) (d : Data) (ms : datum.Members) → IsSpelledData d → AreSpelledMembers ms → AreSpelledMembers (datum.put k d ms)
put_spelled k d datum.no_members h g = (h, tt)
put_spelled k d (datum.member l e ms) h g = by_order AreSpelledMembers (slice_cmp nat_cmp k l) _ _ _ (h, g) (h, g.1) (g.0, put_spelled k d ms h g.1)

pub any : {A : Type 0} (o : Option A) → IfSome o (λ _. ⊤)
any None = tt
any (Some a) = tt

mutual
  json_spelled : (j : json.Json) → HasTexts j → IfSome (of_json j) IsSpelledData
  json_spelled (json.number s) h = if_map (λ _. ⊤) IsSpelledData datum.number (number_of s) (λ n _. tt) (any (number_of s))
  json_spelled (json.string s) h = h
  json_spelled (json.array js) h = if_map AreSpelledItems IsSpelledData datum.array (of_items js) (λ ds g. g) (items_spelled js h)
  json_spelled (json.object ms) h = if_map AreSpelledMembers IsSpelledData datum.object (of_members ms datum.no_members) (λ ds g. g) (members_spelled ms datum.no_members h tt)
  json_spelled d h = tt

  items_spelled : (js : json.Items) → ItemsHaveTexts js → IfSome (of_items js) AreSpelledItems
  items_spelled json.no_items h = tt
  items_spelled (json.item j js) h =
      if_then IsSpelledData AreSpelledItems (λ d. option_map (datum.item d) (of_items js)) (of_json j)
      (λ d g. if_map AreSpelledItems AreSpelledItems (datum.item d) (of_items js) (λ ds k. (g, k)) (items_spelled js h.1)) (json_spelled j h.0)

  members_spelled : (ms : json.Members) (found : datum.Members) → MembersHaveTexts ms → AreSpelledMembers found → IfSome (of_members ms found) AreSpelledMembers
  members_spelled json.no_members found h g = g
  members_spelled (json.member k j ms) found h g =
      if_then IsSpelledData AreSpelledMembers (λ d. of_members ms (datum.put k d found)) (of_json j)
      (λ d t. members_spelled ms (datum.put k d found) h.1 (put_spelled k d found t g)) (json_spelled j h.0)

pub read_spelled : (text : List ℕ) → IsUtf8 text → IfSome (read text) IsSpelledData
read_spelled text u =
    if_then HasTexts IsSpelledData of_json (option_and_then (λ p. json.if_last p.0 p.1) (json.value max_depth (tokens text))) json_spelled
    (if_then (λ p. HasTexts p.0 × AreGood p.1) HasTexts (λ p. json.if_last p.0 p.1) (json.value max_depth (tokens text)) (λ p h. if_last_reads p.0 p.1 h.0)
    (value_reads max_depth (tokens text) (good_tokens fresh (lex between text) (good_lexemes between [] text u))))
