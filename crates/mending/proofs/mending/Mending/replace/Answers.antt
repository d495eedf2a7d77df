use Rattle.std.proofs.Common.{◌++◌, ◌∙◌, ap, drop, subst, take}
use Rattle.parser.specs.Parses.{IsParseOf}
use Rattle.mending.proofs.mending.Mending.replace.Goals as goal

pub change-requires : goal.change-requires
change-requires c =
    let old = c.args.self.now.copy.items in
    let from = c.args.from in
    let to = c.args.to in (
      old,
      c.requires.parse,
      record {
        ordered = c.requires.ordered;
        inside = c.requires.inside;
        new_is = c.deref-3.ensures.value ∙ c.in_ok-copy.ensures ∙ ap (λ l. take from l ++ (c.deref-2.result.now ++ drop to l)) c.deref.ensures.value
            ∙ ap (λ l. take from old ++ (l ++ drop to old)) c.deref-2.ensures.value;
      },
    )

pub returns-clause-parse : goal.returns-clause-parse
returns-clause-parse c =
    subst (λ l. IsParseOf c.args.tables.now l c.change.new.store c.change.new.self) c.deref-3.ensures.value c.in_ok-change.ensures.changed.parse
