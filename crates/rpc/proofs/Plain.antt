-- A JSON value of whole numbers and texts in UTF-8, with its keys in order, is written and read back.
use Rattle.rpc.proofs.Std.{ArePrintable-json_tokens, IsNumber-decimal, IsNumber-signed_decimal, IsUtf8-are_ascii, IsUtf8-boolean, IsUtf8-quoted, number_of-decimal, number_of-negative, print-outline, tokens-print, value-json_tokens}
use Rattle.rpc.proofs.Std.{Data, Items, Members, Num, array, boolean, depth, item, items_depth, member, members_depth, negative, no_items, no_members, null, number, object, put, string, unsigned, comma_if, compact_text, items_outline, items_text, members_outline, members_text, number_text, outline}
use Rattle.rpc.proofs.Std.{max_depth, of_items, of_json, of_members, read, tokens}
use Rattle.rpc.proofs.Std.{Bool, IsAscii-decimal, IsAscii-signed, IsUtf8, IsUtf8-append, IsUtf8-from_ascii, IsUtf8-nil, List, Some, [], ap, append-nil, ap₂, arith, false, max, negsuc, option_and_then, option_map, refl, subst, suc, sym, true, ℕ, ⊤, ◌<◌, ◌^◌, ◌∙◌, ◌∷◌, ◌≡◌, ◌≤◌}
use Rattle.json.specs.Json as json
use Rattle.json.specs.Tree as tree
use Rattle.rpc.proofs.Strings.{IsUtf8-one}

-- these members, and those after them
abbrev joined : Members → Members → Members
joined no_members ms = ms
joined (member k d before) ms = member k d (joined before ms)

joined_more : (before : Members) (k : List ℕ) (d : Data) (ms : Members) → joined (joined before (member k d no_members)) ms ≡ joined before (member k d ms)
joined_more no_members k d ms = refl
joined_more (member l e before) k d ms = ap (member l e) (joined_more before k d ms)

joined_none : (before : Members) → joined before no_members ≡ before
joined_none no_members = refl
joined_none (member l e before) = ap (member l e) (joined_none before)

after_byte : (x : ℕ) (xs : List ℕ) → x < 128 → IsUtf8 xs → IsUtf8 (x ∷ xs)
after_byte x xs small u = IsUtf8-append (x ∷ []) xs (IsUtf8-one x small) u

comma_utf8 : (later : Bool) → IsUtf8 (comma_if later)
comma_utf8 true = IsUtf8-one 44 (omega arith)
comma_utf8 false = IsUtf8-nil

abbrev pub IsPlainNumber : Num → Type 0
IsPlainNumber (unsigned n) = n < 2 ^ 64
IsPlainNumber (negative (negsuc n)) = n < 2 ^ 31
IsPlainNumber d = ⊥

-- each key comes after those before it
abbrev mutual
  pub IsPlain : Data → Type 0
  IsPlain null = ⊤
  IsPlain (boolean b) = ⊤
  IsPlain (number n) = IsPlainNumber n
  IsPlain (string s) = IsUtf8 s
  IsPlain (array ds) = ArePlain ds
  IsPlain (object ms) = ArePlainAfter no_members ms

  pub ArePlain : Items → Type 0
  ArePlain no_items = ⊤
  ArePlain (item d ds) = IsPlain d × ArePlain ds

  pub ArePlainAfter : Members → Members → Type 0
  ArePlainAfter before no_members = ⊤
  ArePlainAfter before (member k d ms) =
      IsUtf8 k × IsPlain d × (put k d before ≡ joined before (member k d no_members)) × ArePlainAfter (joined before (member k d no_members)) ms

-- ---- its numbers

number_is : (n : Num) → IsPlainNumber n → of_json (json.number (number_text n)) ≡ Some (number n)
number_is (unsigned n) h = ap (option_map number) (number_of-decimal n h)
number_is (negative (negsuc n)) h = ap (option_map number) (number_of-negative n (omega arith))
number_is d h = absurd h

mutual
  has_numbers : (d : Data) → IsPlain d → tree.HasNumbers (outline d)
  has_numbers null h = tt
  has_numbers (boolean b) h = tt
  has_numbers (number (unsigned n)) h = IsNumber-decimal n h
  has_numbers (number (negative (negsuc n))) h = IsNumber-signed_decimal (negsuc n) (omega arith)
  has_numbers (number n) h = absurd h
  has_numbers (string s) h = tt
  has_numbers (array ds) h = have_numbers ds h
  has_numbers (object ms) h = members_have_numbers no_members ms h

  have_numbers : (ds : Items) → ArePlain ds → tree.ItemsHaveNumbers (items_outline ds)
  have_numbers no_items h = tt
  have_numbers (item d ds) h = (has_numbers d h.0, have_numbers ds h.1)

  members_have_numbers : (before ms : Members) → ArePlainAfter before ms → tree.MembersHaveNumbers (members_outline ms)
  members_have_numbers before no_members h = tt
  members_have_numbers before (member k d ms) h = (has_numbers d h.1, members_have_numbers _ ms h.3)

-- ---- its text

mutual
  pub plain_utf8 : (d : Data) → IsPlain d → IsUtf8 (compact_text d)
  plain_utf8 null h = IsUtf8-are_ascii _ refl
  plain_utf8 (boolean b) h = IsUtf8-boolean b
  plain_utf8 (number (unsigned n)) h = IsUtf8-from_ascii _ (IsAscii-decimal n h)
  plain_utf8 (number (negative (negsuc n))) h = IsUtf8-from_ascii _ (IsAscii-signed (negsuc n) (omega arith))
  plain_utf8 (number n) h = absurd h
  plain_utf8 (string s) h = IsUtf8-quoted s h
  plain_utf8 (array ds) h = after_byte 91 _ (omega arith) (items_utf8 false ds h)
  plain_utf8 (object ms) h = after_byte 123 _ (omega arith) (members_utf8 false no_members ms h)

  items_utf8 : (later : Bool) (ds : Items) → ArePlain ds → IsUtf8 (items_text later ds)
  items_utf8 later no_items h = IsUtf8-one 93 (omega arith)
  items_utf8 later (item d ds) h = IsUtf8-append _ _ (comma_utf8 later) (IsUtf8-append _ _ (plain_utf8 d h.0) (items_utf8 true ds h.1))

  members_utf8 : (later : Bool) (before ms : Members) → ArePlainAfter before ms → IsUtf8 (members_text later ms)
  members_utf8 later before no_members h = IsUtf8-one 125 (omega arith)
  members_utf8 later before (member k d ms) h =
      IsUtf8-append _ _ (comma_utf8 later)
      (IsUtf8-append _ _ (IsUtf8-quoted k h.0) (after_byte 58 _ (omega arith) (IsUtf8-append _ _ (plain_utf8 d h.1) (members_utf8 true _ ms h.3))))

-- ---- its value

mutual
  depth_outline : (d : Data) → tree.depth (outline d) ≡ depth d
  depth_outline null = refl
  depth_outline (boolean b) = refl
  depth_outline (number n) = refl
  depth_outline (string s) = refl
  depth_outline (array ds) = ap suc (items_depth_outline ds)
  depth_outline (object ms) = ap suc (members_depth_outline ms)

  items_depth_outline : (ds : Items) → tree.items_depth (items_outline ds) ≡ items_depth ds
  items_depth_outline no_items = refl
  items_depth_outline (item d ds) = ap₂ max (depth_outline d) (items_depth_outline ds)

  members_depth_outline : (ms : Members) → tree.members_depth (members_outline ms) ≡ members_depth ms
  members_depth_outline no_members = refl
  members_depth_outline (member k d ms) = ap₂ max (depth_outline d) (members_depth_outline ms)

mutual
  value_is : (d : Data) → IsPlain d → of_json (outline d) ≡ Some d
  value_is null h = refl
  value_is (boolean b) h = refl
  value_is (number n) h = number_is n h
  value_is (string s) h = refl
  value_is (array ds) h = ap (option_map array) (items_are ds h)
  value_is (object ms) h = ap (option_map object) (members_are no_members ms h)

  items_are : (ds : Items) → ArePlain ds → of_items (items_outline ds) ≡ Some ds
  items_are no_items h = refl
  items_are (item d ds) h =
      ap (λ o. option_and_then (λ x. option_map (item x) (of_items (items_outline ds))) o) (value_is d h.0)
      ∙ ap (option_map (item d)) (items_are ds h.1)

  members_are : (before ms : Members) → ArePlainAfter before ms → of_members (members_outline ms) before ≡ Some (joined before ms)
  members_are before no_members h = ap Some (sym (joined_none before))
  members_are before (member k d ms) h =
      ap (λ o. option_and_then (λ x. of_members (members_outline ms) (put k x before)) o) (value_is d h.1)
      ∙ ap (λ found. of_members (members_outline ms) found) h.2
      ∙ members_are (joined before (member k d no_members)) ms h.3
      ∙ ap Some (joined_more before k d ms)

pub read_again : (d : Data) → IsPlain d → depth d ≤ max_depth → read (compact_text d) ≡ Some d
read_again d plain shallow =
    let j = outline d in
    let shown : tokens (compact_text d) ≡ tree.json_tokens j =
    ap tokens (sym (print-outline d)) ∙ tokens-print (tree.json_tokens j) (ArePrintable-json_tokens j (has_numbers d plain)) in
    ap (λ o. option_and_then of_json (option_and_then (λ p. json.if_last p.0 p.1) o))
    (ap (json.value max_depth) (shown ∙ sym (append-nil _)) ∙ value-json_tokens j max_depth [] (subst (λ n. n ≤ max_depth) (sym (depth_outline d)) shallow))
    ∙ value_is d plain
