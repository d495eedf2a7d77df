use Rattle.std.proofs.Common.{◌++◌, ◌∙◌, ◌∷◌, [], ap, sym}
use Rattle.mending.proofs.Mended.{taken}
use Rattle.mending.proofs.kinds.copied.Goals as goal

pub loop-k-preserved : goal.loop-k-preserved
loop-k-preserved g c =
    let kind = c.in-Some.kind in
    record {
      copied = c.in_ok-push.ensures.items ∙ ap (λ l. l ++ (kind ∷ [])) c.loop-k.invariant.copied
          ∙ sym (taken (g.K.Kinds.kinds c.args.kinds.now) c.loop-k.k kind (sym c.in-Some.ensures.is));
      before = c.in-Some.ensures.moved;
    }
