-- How a document is lost by a change that is refused.
use Rattle.server.proofs.Std.{◌≡◌, Result, Err}
use Rattle.server.proofs.Common.{DocFault, Loss, TooLarge, loss_of}
use Rattle.docs.specs.declared.doc.DocFault.TheVariants as fault
use Rattle.rpc.specs.Loss.TheVariants.{Memory}

-- by how a change is refused
pub either_fault : {T : Type 0} (P : Loss → Type 0) (result : Result T DocFault) (f : DocFault) → result ≡ Err f
    → (result ≡ Err fault.TooLarge → P TooLarge) → (result ≡ Err fault.Memory → P Memory) → P (loss_of f)
either_fault P result fault.TooLarge refused over memory = over refused
either_fault P result fault.Memory refused over memory = memory refused
