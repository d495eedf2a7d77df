-- What a content asks, from what the JSON reader says of it.
use Rattle.std.proofs.Common.{◌≡◌, ℕ, List, refl, Some, None, Bool, true, false, if◌then◌else◌}
use Rattle.std.specs.Prelude.{length, nat_le, option_and_then}
use Rattle.std.specs.Str.{IsUtf8, is_utf8}
use Rattle.std.proofs.lemmas.Str.{IsUtf8-from_is_utf8, is_utf8-from_IsUtf8}
use Rattle.serde_json.specs.Data.{Data}
use Rattle.serde_json.specs.Read.{read}
use Rattle.questions.specs.Asked.{asked_by, asked_in}
use Rattle.questions.specs.Cancels.{cancelled_by, cancelled_of, longest_cancel}

pub asked_value : (content : List ℕ) (d : Data) → IsUtf8 content → read content ≡ Some d → asked_by d ≡ asked_in content
asked_value content d utf8 is = rw (is_utf8-from_IsUtf8 content utf8, is) refl

-- b says whether the content is UTF-8
nothing_asked : (content : List ℕ) (b : Bool) → (b ≡ true → read content ≡ None)
    → None ≡ option_and_then asked_by (if b then read content else None)
nothing_asked content true none = rw (none refl) refl
nothing_asked content false none = refl

pub asked_unread : (content : List ℕ) → (IsUtf8 content → read content ≡ None) → None ≡ asked_in content
asked_unread content none = nothing_asked content (is_utf8 content) (λ is. none (IsUtf8-from_is_utf8 content is))

-- ---- the request that a content cancels

pub cancelled_value : (content : List ℕ) (d : Data) → nat_le (length content) longest_cancel ≡ true → IsUtf8 content → read content ≡ Some d
    → cancelled_of d ≡ cancelled_by content
cancelled_value content d short utf8 is = rw (short, is_utf8-from_IsUtf8 content utf8, is) refl

nothing_cancelled : (content : List ℕ) (b : Bool) → (b ≡ true → read content ≡ None)
    → None ≡ option_and_then cancelled_of (if b then read content else None)
nothing_cancelled content true none = rw (none refl) refl
nothing_cancelled content false none = refl

pub cancelled_unread : (content : List ℕ) → nat_le (length content) longest_cancel ≡ true → (IsUtf8 content → read content ≡ None) → None ≡ cancelled_by content
cancelled_unread content short none = rw short (nothing_cancelled content (is_utf8 content) (λ is. none (IsUtf8-from_is_utf8 content is)))
