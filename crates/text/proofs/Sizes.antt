-- How many bytes a text and its parts have in UTF-8.
use Rattle.text.proofs.Std.{IsUtf8, chars, take-append-drop, take-add, encodes-append, length-le-encodes, arith, sym, ap, ◌∙◌, length-append, ◌≡◌, ℕ, ◌+◌, ◌-◌, ◌≤◌, List, ◌++◌, length, take, drop, encode_utf8_all}
use Rattle.text.proofs.Common.{edit, units, Utf8, text_in, Cut, IsCut, units-bytes, IsStored}
use Rattle.definitions.proofs.Characters.{encodes-chars}

-- how many bytes the characters have
abbrev pub size : List ℕ → ℕ
size t = length (encode_utf8_all t)

pub size-append : (xs ys : List ℕ) → size (xs ++ ys) ≡ size xs + size ys
size-append xs ys = ap length (encodes-append xs ys) ∙ length-append (encode_utf8_all xs) (encode_utf8_all ys)

pub size-take : (t : List ℕ) (i : ℕ) → size (take i t) + size (drop i t) ≡ size t
size-take t i = sym (size-append (take i t) (drop i t)) ∙ ap size (take-append-drop i t)

pub size-chars : (bs : List ℕ) → IsUtf8 bs → size (chars bs) ≡ length bs
size-chars bs u = ap length (encodes-chars bs u)

-- what an edit keeps, from the bytes before each of its ends
pub record IsKept (t : List ℕ) (a b before after bytes : ℕ) : Type 0 where
  pub within : after ≤ bytes
  pub few : before + (bytes - after) ≤ bytes
  pub edited : (s : List ℕ) → size (edit t a b s) ≡ before + (bytes - after) + size s

kept : (t : List ℕ) (a b before after bytes : ℕ) → a ≤ b → before ≡ units Utf8 (take a t) → after ≡ units Utf8 (take b t) → bytes ≡ size t → IsKept t a b before after bytes
kept t a b before after bytes l e f g =
    let far : b ≡ a + (b - a) = omega (arith, l) in
    let parts : size (take b t) ≡ size (take a t) + size (take (b - a) (drop a t)) = ap size (ap (λ n. take n t) far ∙ take-add a (b - a) t) ∙ size-append (take a t) (take (b - a) (drop a t)) in
    let one : before ≡ size (take a t) = e ∙ units-bytes (take a t) in
    let two : after ≡ size (take b t) = f ∙ units-bytes (take b t) in
    let rest = size-take t b in
    record {
      within = omega (arith, two, rest, g);
      few = omega (arith, one, two, parts, rest, g);
      edited = λ s. omega (arith, size-append (take a t ++ s) (drop b t), size-append (take a t) s, one, two, rest, g);
    }

pub kept_cut : (ps : List (List ℕ)) (t : List ℕ) (a b bytes : ℕ) (start end : Cut) → text_in ps ≡ t → a ≤ b → IsCut ps a start
    → IsCut ps b end → bytes ≡ size t → IsKept t a b start.bytes end.bytes bytes
kept_cut ps t a b bytes start end view l p q e =
    kept t a b start.bytes end.bytes bytes l (p.bytes ∙ ap (λ u. units Utf8 (take a u)) view) (q.bytes ∙ ap (λ u. units Utf8 (take b u)) view) e

-- a text that is stored has few bytes
pub bytes_le : (ps : List (List ℕ)) → IsStored ps → units Utf8 (text_in ps) ≤ 1048576
bytes_le ps h = omega (arith, units-bytes (text_in ps), h.few)

pub length_le : (ps : List (List ℕ)) → IsStored ps → length (text_in ps) ≤ 1048576
length_le ps h = omega (arith, length-le-encodes (text_in ps), h.few)
