-- A text of no more bytes than characters is its bytes.
use Rattle.docs.proofs.Std.{◌≡◌, ℕ, ◌+◌, ◌<◌, ◌≤◌, ◌⊎◌, inl, inr, Bool, true, false, List, [], ◌∷◌, length, sym, subst, All, cond, encode_utf8_all, nat_lt, encode_utf8, len_utf8}
use Rattle.docs.proofs.Std.{arith, le-ltb, cases_lt, length-append, All-cons, All-nil, encodes-IsAscii, len_utf8_bounds, length-encode, length-le-encodes, IsAscii-from_all}

two_or_more : (b c : Bool) → 2 ≤ cond b 2 (cond c 3 4)
two_or_more true c = omega arith
two_or_more false true = omega arith
two_or_more false false = omega arith

wide : (c : ℕ) → 128 ≤ c → 2 ≤ len_utf8 c
wide c h = subst (λ b. 2 ≤ cond b 1 (cond (nat_lt c 0x800) 2 (cond (nat_lt c 0x1_0000) 3 4))) (sym (le-ltb c 128 h)) (two_or_more (nat_lt c 0x800) (nat_lt c 0x1_0000))

all_narrow : (t : List ℕ) → length (encode_utf8_all t) ≡ length t → All (λ c. c < 128) t
all_narrow [] e = All-nil (λ c. c < 128)
all_narrow (c ∷ cs) e = All-cons (λ d. d < 128) c cs (first (cases_lt c 128)) (all_narrow cs (omega (arith, bytes, least, one)))
  where
    bytes : len_utf8 c + length (encode_utf8_all cs) ≡ 1 + length cs
    bytes = omega (arith, e, length-append (encode_utf8 c) (encode_utf8_all cs), length-encode c)

    least : length cs ≤ length (encode_utf8_all cs)
    least = length-le-encodes cs

    one : 1 ≤ len_utf8 c
    one = (len_utf8_bounds c).0

    first : (c < 128) ⊎ (128 ≤ c) → c < 128
    first (inl h) = h
    first (inr h) = absurd (omega (arith, bytes, least, wide c h))

pub its_bytes : (t : List ℕ) → length (encode_utf8_all t) ≡ length t → encode_utf8_all t ≡ t
its_bytes t e = encodes-IsAscii t (IsAscii-from_all t (all_narrow t e))
