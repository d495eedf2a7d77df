-- What the contents of the worked sessions are read as.
use Rattle.std.specs.Prelude.{◌≡◌, pos, [], refl}
use Rattle.std.specs.Char.{encode_utf8}
use Rattle.std.specs.Str.{chars, is_utf8}
use Rattle.serde_json.proofs.OnLiterals.{serde_json_on_literals}
use Rattle.rpc.specs.Messages.{accepted, request, notification, initialize, shutdown, about, its_text, exit, open_text, change_text}
use Rattle.rpc.specs.Reading.{received_in}
use Rattle.rpc.specs.Unit.TheVariants.{Utf16}
use Rattle.session_rows.specs.Contents.{uri, other_uri, of, initializes, opens, opens_other, types, asks, shuts_down, exits, both_changes}

pub initializes_is : received_in initializes ≡ accepted (request (of 1) (initialize Utf16))
unfolding chars encode_utf8 is_utf8 serde_json_on_literals
initializes_is = refl

pub opens_is : received_in opens ≡ accepted (notification (open_text uri (pos 1) []))
unfolding chars encode_utf8 is_utf8 serde_json_on_literals
opens_is = refl

pub opens_other_is : received_in opens_other ≡ accepted (notification (open_text other_uri (pos 1) []))
unfolding chars encode_utf8 is_utf8 serde_json_on_literals
opens_other_is = refl

pub types_is : received_in types ≡ accepted (notification (change_text uri (pos 2) both_changes))
unfolding chars encode_utf8 is_utf8 serde_json_on_literals
types_is = refl

pub asks_is : received_in asks ≡ accepted (request (of 2) (about uri its_text))
unfolding chars encode_utf8 is_utf8 serde_json_on_literals
asks_is = refl

pub shuts_down_is : received_in shuts_down ≡ accepted (request (of 3) shutdown)
unfolding chars encode_utf8 is_utf8 serde_json_on_literals
shuts_down_is = refl

pub exits_is : received_in exits ≡ accepted (notification exit)
unfolding chars encode_utf8 is_utf8 serde_json_on_literals
exits_is = refl
