use Rattle.productions.proofs.Fixpoint.{nullable_iff}
use Rattle.productions.proofs.first.First.is_nullable.Goals as goal

pub returns : goal.returns
returns c =
    let k = nullable_iff c.args.productions.now.grammar c.args.self.now.nullable c.requires.first.are_nullable c.args.symbols.now in
    let e = c.are_nullable.ensures in
    let f = c.nullable.ensures in
    ((λ r. k.0 (cc (r, e, f))), (λ v. let t = k.1 v in cc (t, e, f)))
