use Rattle.docs.proofs.Std.{sym, ◌∙◌, filter, length-map, length-filter}
use Rattle.docs.proofs.Common.{is_significant, kind_in}
use Rattle.docs.proofs.significant.SignificantKinds.len.Goals as goal

pub returns : goal.returns
returns c =
    let items = c.args.self.now.0.now.items in
    c.significant.ensures ∙ sym (length-map (filter is_significant items) kind_in ∙ length-filter is_significant items)
