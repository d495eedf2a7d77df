use Rattle.docs.proofs.Std.{◌≤◌, refl, sym, subst, arith, All}
use Rattle.docs.proofs.Common.{Built, Doc, IsParseOf, plain_of, significant_kinds}
use Rattle.docs.proofs.Stamps.{born_on, stamped_so}
use Rattle.docs.proofs.doc.Doc.settle.Goals as goal

pub rescan-requires : goal.rescan-requires
rescan-requires c =
    let leads = c.requires.leads in
    record { text = c.requires.was; piece = leads.0; tokens = c.requires.current.tokens; inside = leads.1; inserted = leads.2; new_text = leads.3 }

pub returns-clause-settled : goal.returns-clause-settled
returns-clause-settled c =
    let e = c.args.edit in
    let old = c.args.self.now in
    let was = c.requires.current in
    let after = c.in_ok-splice.ensures.after in
    let changed = c.in_ok-change.ensures.changed in
    let next : Doc = record { unit = old.unit; version = old.version; text = old.text; tokens = c.rescan.new.tokens; store = c.change.new.store; parse = c.change.new.self } in
    let born = born_on e old.tokens.items next.tokens.items old.parse.number after.kept c.requires.later was.born in
    record {
      number = changed.number;
      scanned = after.scanned;
      built = λ older. subst (λ s. Built s (plain_of old.store old.parse.stack) 0 (plain_of next.store next.parse.stack) next.parse.built) after.splice (changed.built older);
      stamps = stamped_so c.args.language.now.file e _ old next after.splice after.kept changed.stamps changed.older changed.anew e refl;
      current = record {
        tokens = after.tokens;
        parse = subst (λ t. IsParseOf t (significant_kinds next.tokens.items) next.store next.parse) c.tables-tables.ensures.is changed.parse;
        grammar = was.grammar;
        born = subst (λ n. All (λ x. x.born ≤ n) next.tokens.items) (sym changed.number) born;
        scanned = λ none. absurd (omega (arith, changed.number, c.requires.numbered, none));
        built = λ none. absurd (omega (arith, changed.number, c.requires.numbered, none));
        bounded = changed.bounded;
      };
    }
