-- An object is sent by its begin, its members in turn, and its end.
use Rattle.replies.proofs.Std.{Result, OnOk, ⊤, on_ok_weaker, Log}

-- an object is sent if it was begun, up to a log, and its members and its end are sent from there
pub sends_object : {E End : Type 0} (Begin Members : Log → Type 0) (begun : Log) (r : Result ⊤ E) → Begin begun
    → (End → Members begun) → OnOk r End → OnOk r ((begun : Log) × Begin begun × Members begun)
sends_object Begin Members begun r begin members = on_ok_weaker r (λ e. (begun, begin, members e))

-- members are sent if the first one's key is, up to a log, then its value, up to another, and the rest from there
pub sends_member : {Key Rest : Log → Type 0} {Value : Log → Log → Type 0} (named sent : Log) → Key named → Value named sent → Rest sent → (named sent : Log) × Key named × Value named sent × Rest sent
sends_member named sent key value rest = (named, sent, key, value, rest)
