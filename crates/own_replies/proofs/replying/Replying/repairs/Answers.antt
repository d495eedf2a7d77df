use Rattle.std.proofs.Common.{subst, sym}
use Rattle.server.specs.States.{language_of}
use Rattle.own_replies.specs.Replies.{AreRepairsOf}
use Rattle.own_replies.proofs.Repaired.{no_repairs, repairs_of_copy}
use Rattle.own_replies.proofs.replying.Replying.repairs.Goals as goal

pub returns-in-Some : goal.returns-in-Some
returns-in-Some c =
    let l = language_of c.args.self.now.known.now.core in
    let d = c.args.doc.now in
    subst (AreRepairsOf l.file d.text) (sym c.repairs.ensures) (repairs_of_copy l d c.in-Some.mending.now c.requires c.in-Some.ensures)

pub returns-in-None : goal.returns-in-None
returns-in-None c = no_repairs (language_of c.args.self.now.known.now.core) c.args.doc.now c.requires
