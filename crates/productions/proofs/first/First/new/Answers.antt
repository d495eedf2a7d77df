use Rattle.productions.proofs.Std.{rules, ◌≡◌, ◌∷◌, ◌++◌, [], Some, length, subst, sym}
use Rattle.productions.proofs.Common.{AreExact}
use Rattle.productions.proofs.EachMore.{each_more}
use Rattle.productions.proofs.Fixpoint.{exact_nullable, exact_begin}
use Rattle.productions.proofs.first.First.new.Goals as goal

pub loop-a-preserved : goal.loop-a-preserved
loop-a-preserved c =
    let g = c.args.productions.now.grammar in
    let i = c.loop-a.invariant in
    let e : c.push.new.self.items ≡ c.loop-a.rows.items ++ c.in_ok-fixpoint.field-0 ∷ [] = search rules in
    let v = c.in_ok-nullable.ensures in
    let r = c.in_ok-fixpoint.ensures in
    let x = exact_begin g c.loop-a.a c.in_ok-nullable.nullable c.in_ok-fixpoint.field-0 (exact_nullable g c.in_ok-blank.blank c.in_ok-nullable.nullable v.held v.closed) r.held r.closed in
    rw e (record {
      count = search rules;
      wide = each_more (λ a m. length m ≡ c.args.productions.now.nonterminals) c.loop-a.rows.items c.in_ok-fixpoint.field-0 [] i.wide r.marks;
      exact = each_more (λ a m. AreExact g (Some a) m) c.loop-a.rows.items c.in_ok-fixpoint.field-0 [] i.exact (subst (λ a. AreExact g (Some a) c.in_ok-fixpoint.field-0) (sym i.count) x);
    })

pub returns : goal.returns
returns c =
    let g = c.args.productions.now.grammar in
    let i = c.loop-a.invariant in
    let v = c.in_ok-nullable.ensures in
    record { wide = v.marks; rows = search rules; each_wide = i.wide; are_nullable = exact_nullable g c.in_ok-blank.blank c.in_ok-nullable.nullable v.held v.closed; begin = i.exact }
