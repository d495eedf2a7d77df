-- What says whether a call was refused.
use Rattle.server.proofs.Std.{◌≡◌, Bool, true, false, Result, Ok, Err, OnOk, OnErr, is_err}

-- it is `true` where the call was refused, and `false` where it wasn't
pub shows_refused : {A E : Type 0} {flag : Bool} (r : Result A E) → flag ≡ is_err r → OnErr r (flag ≡ true)
shows_refused (Ok _) is = tt
shows_refused (Err _) is = is

pub shows_done : {A E : Type 0} {flag : Bool} (r : Result A E) → flag ≡ is_err r → OnOk r (flag ≡ false)
shows_done (Ok _) is = is
shows_done (Err _) is = tt
