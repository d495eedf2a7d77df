-- The texts in what is received, and what is spelled in UTF-8.
use Rattle.std.specs.Prelude.{◌≡◌, ℕ, pos, List, [], ◌∷◌, codes, refl, Some, None, true, false}
use Rattle.std.specs.Char.{encode_utf8}
use Rattle.std.specs.Str.{chars}
use Rattle.replies.specs.Ids.{named, numbered}
use Rattle.rpc.specs.Messages.{unread, refused, accepted, request, notification, invalid, unknown, params, shutdown, ignored, about, stats, its_text}
use Rattle.rpc.specs.Messages.{open_text, change_text, close, malformed, unfit_open, unfit_change, unfit_close, initialized, exit}
use Rattle.rpc.specs.Texts.{id_texts, request_texts, notification_texts, texts_of, IsSpelled}

abbrev uri : List ℕ
uri = codes "a:x"

opened : texts_of (accepted (notification (open_text uri (pos 1) (codes "1")))) ≡ uri ∷ codes "1" ∷ []
opened = refl

changed : texts_of (accepted (notification (change_text uri (pos 1) (record { range = None; text = codes "2" } ∷ record { range = None; text = [] } ∷ [])))) ≡ uri ∷ codes "2" ∷ [] ∷ []
changed = refl

closed : texts_of (accepted (notification (close uri))) ≡ uri ∷ []
closed = refl

spoiled : texts_of (accepted (notification (malformed (unfit_change (Some uri))))) ≡ uri ∷ []
spoiled = refl

not_opened : texts_of (accepted (notification (malformed unfit_open))) ≡ []
not_opened = refl

asked : texts_of (accepted (request (named (codes "i")) (about uri its_text))) ≡ codes "i" ∷ uri ∷ []
asked = refl

counted : texts_of (accepted (request (numbered (pos 1)) (stats uri))) ≡ uri ∷ []
counted = refl

unknown_method : texts_of (refused (unknown (named (codes "i")))) ≡ codes "i" ∷ []
unknown_method = refl

no_json : texts_of unread ≡ []
no_json = refl

-- U+00E9 in two bytes, and the first of them alone
two_bytes : IsSpelled (195 ∷ 169 ∷ [])
unfolding chars encode_utf8
two_bytes = record { scalars = refl; same = refl }

one_byte : IsSpelled (195 ∷ []) → ⊥
unfolding chars encode_utf8
one_byte s = let f : ⊥ = cc s.same in f

-- the id of each refusal is a text of it
misfit : texts_of (refused (params (named (codes "i")) false)) ≡ codes "i" ∷ []
misfit = refl

misfit_of_initialize : texts_of (refused (params (named (codes "i")) true)) ≡ codes "i" ∷ []
misfit_of_initialize = refl

invalid_request : texts_of (refused (invalid (Some (named (codes "i"))))) ≡ codes "i" ∷ []
invalid_request = refl

invalid_without_id : texts_of (refused (invalid None)) ≡ []
invalid_without_id = refl

ids : (id_texts (named (codes "i")) ≡ codes "i" ∷ []) × (id_texts (numbered (pos 1)) ≡ [])
ids = (refl, refl)

others : (request_texts shutdown ≡ []) × (notification_texts initialized ≡ []) × (notification_texts exit ≡ []) × (notification_texts (malformed unfit_close) ≡ [])
    × (notification_texts (malformed (unfit_change None)) ≡ []) × (texts_of (accepted ignored) ≡ [])
others = (refl, refl, refl, refl, refl, refl)

-- a surrogate in three bytes is no scalar value; the empty text is spelled
surrogate : IsSpelled (0xED ∷ 0xA0 ∷ 0x80 ∷ []) → ⊥
unfolding chars encode_utf8
surrogate s = absurd (cc s.scalars)

none : IsSpelled []
unfolding chars encode_utf8
none = record { scalars = refl; same = refl }
