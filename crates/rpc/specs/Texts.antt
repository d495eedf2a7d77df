-- The texts of what is received.
use Rattle.std.specs.Prelude.{◌≡◌, ℕ, true, List, [], ◌∷◌, ◌++◌, map, Some, None, encode_utf8_all}
use Rattle.std.specs.Str.{all_scalars, chars}
use Rattle.replies.specs.Ids.{Ident, named, numbered}
use Rattle.rpc.specs.Messages.{Request, initialize, shutdown, about, stats, Notification, initialized, exit}
use Rattle.rpc.specs.Messages.{open_text}
use Rattle.rpc.specs.Messages.{change_text, close, malformed, unfit_open, unfit_change, unfit_close, request, notification, ignored}
use Rattle.rpc.specs.Messages.{invalid}
use Rattle.rpc.specs.Messages.{unknown, params, Received, unread, refused, accepted}

-- the characters of the bytes are Unicode scalar values, and the bytes are their UTF-8
pub record IsSpelled (bytes : List ℕ) : Type 0 where
  pub scalars : all_scalars (chars bytes) ≡ true
  pub same : encode_utf8_all (chars bytes) ≡ bytes

-- `id_texts id`: the text of an id that is a text
abbrev pub id_texts : Ident → List (List ℕ)
id_texts (named text) = text ∷ []
id_texts (numbered z) = []

-- `request_texts request`: the URI in what a request asks, if there is one
abbrev pub request_texts : Request → List (List ℕ)
request_texts (initialize unit) = []
request_texts shutdown = []
request_texts (about uri question) = uri ∷ []
request_texts (stats uri) = uri ∷ []

-- `notification_texts notification`: the URI in what a notification carries, the text that is opened, and that of each change
abbrev pub notification_texts : Notification → List (List ℕ)
notification_texts initialized = []
notification_texts exit = []
notification_texts (open_text uri version text) = uri ∷ text ∷ []
notification_texts (change_text uri version changes) = uri ∷ map (λ c. c.text) changes
notification_texts (close uri) = uri ∷ []
notification_texts (malformed unfit_open) = []
notification_texts (malformed (unfit_change None)) = []
notification_texts (malformed (unfit_change (Some uri))) = uri ∷ []
notification_texts (malformed unfit_close) = []

-- `texts_of received`: all texts in what is received: `id_texts` with `request_texts`, or `notification_texts`
abbrev pub texts_of : Received → List (List ℕ)
texts_of unread = []
texts_of (refused (invalid None)) = []
texts_of (refused (invalid (Some id))) = id_texts id
texts_of (refused (unknown id)) = id_texts id
texts_of (refused (params id first)) = id_texts id
texts_of (accepted (request id call)) = id_texts id ++ request_texts call
texts_of (accepted (notification note)) = notification_texts note
texts_of (accepted ignored) = []
