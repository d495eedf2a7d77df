use Rattle.docs.proofs.Std.{◌≡◌, ◌≤◌, arith, ap, refl, length, sym, subst, rules, Option, MatchOption}
use Rattle.docs.proofs.Common.{Edit, IsSettled, LeadsTo}
use Rattle.docs.proofs.pending.Pending.settle.Goals as goal

pub settle-requires : goal.settle-requires
settle-requires c =
    let doc = c.args.self.now.doc in
    let was = c.requires.was in
    let leads = subst (λ (o : Option Edit). MatchOption o (doc.text ≡ was) (λ e. LeadsTo was e doc.text × (doc.parse.number ≤ e.number) × (1 ≤ e.number))) c.in-Some.is c.requires.leads in
    record { was = was; current = c.requires.current; leads = leads.0; later = leads.1; numbered = leads.2 }

pub returns-clause-settled : goal.returns-clause-settled
returns-clause-settled c =
    let old = c.args.self.now.doc in
    let new = c.settle.new.self in
    subst (λ (o : Option Edit). MatchOption o (new ≡ old) (λ e. IsSettled c.args.language.now e old new)) (sym c.in-Some.is) c.in_ok-settle.ensures.settled

pub returns-clause-pending : goal.returns-clause-pending
returns-clause-pending c =
    record {
      was = c.settle.new.self.text;
      short = omega (arith, c.len-length.ensures.count, c.len-length.ensures.few, ap length c.in_ok-settle.ensures.same.2);
      current = c.in_ok-settle.ensures.settled.current;
      leads = refl;
    }

pub returns-clause-none : goal.returns-clause-none
returns-clause-none c = search rules
