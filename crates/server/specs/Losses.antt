-- How a document is lost.
use Rattle.docs.specs.declared.doc.DocFault.{DocFault}
use Rattle.docs.specs.declared.doc.DocFault.TheVariants.{TooLarge, Memory}
use Rattle.rpc.specs.Loss.{Loss}
use Rattle.rpc.specs.Loss.TheVariants as loss

-- `loss_of fault`: how a document is lost by a change that is refused so
abbrev pub loss_of : DocFault → Loss
loss_of TooLarge = loss.TooLarge
loss_of Memory = loss.Memory
