-- What UTF-8 spells is a text, and so is a text after an edit.
use Rattle.definitions.proofs.Std.{IsUtf8, all_scalars, chars, and_parts, All-nil, All-cons, All-same, All-append, All-take, All-drop, chars-encodes, sym, ap, ◌∙◌, ◌≡◌, ℕ, true, List, [], ◌∷◌, ◌++◌, take, drop, encode_utf8_all}
use Rattle.definitions.proofs.Common.{IsCharacter, IsText, edit}
use Rattle.definitions.proofs.TextLaws.{IsCharacter-from_scalar}

IsText-scalars : (cs : List ℕ) → all_scalars cs ≡ true → IsText cs
IsText-scalars [] h = All-nil IsCharacter
IsText-scalars (c ∷ cs) h =
    let parts = and_parts _ (all_scalars cs) h in
    All-cons IsCharacter c cs (IsCharacter-from_scalar c parts.0) (IsText-scalars cs parts.1)

-- a text spells its characters
chars-spelled : (bs cs : List ℕ) → all_scalars cs ≡ true → encode_utf8_all cs ≡ bs → chars bs ≡ cs
chars-spelled bs cs scalars spells = ap chars (sym spells) ∙ chars-encodes cs scalars

pub encodes-chars : (bs : List ℕ) → IsUtf8 bs → encode_utf8_all (chars bs) ≡ bs
encodes-chars bs (cs, h) = ap encode_utf8_all (chars-spelled bs cs h.0 h.1) ∙ h.1

pub IsText-chars : (bs : List ℕ) → IsUtf8 bs → IsText (chars bs)
IsText-chars bs (cs, h) = All-same IsCharacter (chars bs) cs (chars-spelled bs cs h.0 h.1) (IsText-scalars cs h.0)

pub IsText-edit : (t : List ℕ) (a b : ℕ) (s : List ℕ) → IsText t → IsText s → IsText (edit t a b s)
IsText-edit t a b s p q =
    All-append IsCharacter (take a t ++ s) (drop b t) (All-append IsCharacter (take a t) s (All-take IsCharacter a t p) q) (All-drop IsCharacter b t p)
