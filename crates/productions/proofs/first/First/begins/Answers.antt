use Rattle.std.proofs.Common.{◌<◌, [], slice_index_or, sym, subst}
use Rattle.productions.proofs.Fixpoint.{begin_iff}
use Rattle.productions.proofs.first.First.begins.Goals as goal

pub returns : goal.returns
returns c =
    let first = c.requires.first in
    let lt = subst (λ n. c.args.a < n) (sym first.rows) c.requires.rule in
    let k = begin_iff c.args.productions.now.grammar c.args.a c.args.self.now.nullable (slice_index_or c.args.self.now.beginning c.args.a []) first.are_nullable
    (first.begin c.args.a lt) c.args.symbols.now in
    let e = c.begin.ensures in
    let f = c.nullable.ensures in
    let h = c.beginning.ensures in
    ((λ r. k.0 (cc (r, e, f, h))), (λ v. let t = k.1 v in cc (t, e, f, h)))
