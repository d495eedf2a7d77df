-- Why a document is refused, from why its text is.
use Rattle.text.specs.declared.document.TextFault.{TextFault}
use Rattle.text.specs.declared.document.TextFault.TheVariants as text
use Rattle.docs.specs.declared.doc.DocFault.{DocFault}
use Rattle.docs.specs.declared.doc.DocFault.TheVariants.{TooLarge, Memory}

-- `doc_fault fault`: a fault of a text as the fault of a document
abbrev pub doc_fault : TextFault → DocFault
doc_fault text.TooLarge = TooLarge
doc_fault text.Memory = Memory
