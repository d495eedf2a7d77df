use Rattle.std.proofs.Common.{option_map, string_bytes, refl}
use Rattle.docs.specs.Docs.{open_document}
use Rattle.own_replies.proofs.Symbols.{are_symbols}
use Rattle.own_replies.proofs.replying.Replying.outline.Goals as goal

pub returns : goal.returns
returns c =
    let symbols = c.in_ok-symbols.symbols.items in
    let settings = c.args.self.now.known.now.shown.settings in (
      symbols,
      option_map (λ text. string_bytes text) c.in_ok-list_of.list_of,
      are_symbols settings (open_document c.args.doc.now) symbols c.in_ok-symbols.ensures.symbols,
      c.in_ok-symbols.ensures.nested,
      c.in_ok-list_of.ensures,
      refl,
    )
