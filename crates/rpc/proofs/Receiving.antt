-- What a content is read as, from what the JSON reader says of it.
use Rattle.rpc.proofs.Std.{◌≡◌, ℕ, List, Bool, true, false, refl, Some, None, if◌then◌else◌, IsUtf8, is_utf8, IsUtf8-from_is_utf8, is_utf8-from_IsUtf8, Data, read}
use Rattle.rpc.proofs.Common.{received_in, received_as, message_of, unread}

pub received_value : (content : List ℕ) (d : Data) → IsUtf8 content → read content ≡ Some d → received_in content ≡ message_of d
received_value content d utf8 is = rw (is_utf8-from_IsUtf8 content utf8, is) refl

-- b says whether the content is UTF-8
received_as-unread : (content : List ℕ) (b : Bool) → (b ≡ true → read content ≡ None)
    → received_as (if b then read content else None) ≡ unread
received_as-unread content true none = rw (none refl) refl
received_as-unread content false none = refl

pub received_unread : (content : List ℕ) → (IsUtf8 content → read content ≡ None) → received_in content ≡ unread
received_unread content none = received_as-unread content (is_utf8 content) (λ is. none (IsUtf8-from_is_utf8 content is))
