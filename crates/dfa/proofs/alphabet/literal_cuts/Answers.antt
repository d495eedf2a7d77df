use Rattle.dfa.proofs.Std.{◌+◌, ◌∷◌, drop, ap, sym, ◌∙◌, at_drop_more}
use Rattle.dfa.proofs.Common.{cut, literal_cuts}
use Rattle.dfa.proofs.JoinedLists.{one_more}
use Rattle.dfa.proofs.alphabet.literal_cuts.Goals as goal

pub loop-c-preserved : goal.loop-c-preserved
loop-c-preserved c =
    let xs = c.args.characters.now in
    let i = c.loop-c.c-index in
    let x = c.c-item.result in
    let f = at_drop_more literal_cuts xs i x c.loop-c-test.true ∙ ap (λ y. literal_cuts (y ∷ drop (i + 1) xs)) (sym c.c-item.is) in
    record {
      cuts = one_more _ _ (cut x x) (literal_cuts (drop i xs)) (literal_cuts (drop (i + 1) xs)) _ c.in_ok-cut.ensures.cuts f c.loop-c.invariant.cuts;
      characters = λ h. c.in_ok-cut.ensures.characters (c.loop-c.invariant.characters h);
    }
