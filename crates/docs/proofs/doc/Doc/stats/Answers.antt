use Rattle.docs.proofs.Std.{rules}
use Rattle.docs.proofs.Common.{Stats}
use Rattle.docs.proofs.Edits.{stats_are}
use Rattle.docs.proofs.doc.Doc.stats.Goals as goal

pub returns-clause-is : goal.returns-clause-is
returns-clause-is c l current =
    let stats : Stats = record {
      edit = c.number.result;
      scanned = c.scanned.result;
      tokens = c.count.result;
      branches = c.counts-branches.result.0;
      built = c.counts-branches.result.1;
      nodes = c.len.result;
    } in
    stats_are l c.args.self.now current stats c.number.ensures c.scanned.ensures c.count.ensures c.counts-branches.ensures.branches c.counts-branches.ensures.built c.len.ensures.is

pub returns-clause-nodes : goal.returns-clause-nodes
returns-clause-nodes c = search rules
