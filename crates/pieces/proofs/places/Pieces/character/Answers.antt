use Rattle.pieces.proofs.Std.{arith, ap, sym, ◌≡◌, ◌∙◌, ◌≤◌, ℕ, List, [], ◌∷◌, length, chars, chars-nil}
use Rattle.pieces.proofs.CutAt.{some_after}
use Rattle.pieces.proofs.places.Pieces.character.Goals as goal

none_left : (bs : List ℕ) → length bs ≡ 0 → 1 ≤ length (chars bs) → ⊥
none_left [] e l = omega (arith, l, ap length chars-nil)
none_left (b ∷ bs) e l = omega (arith, e)

pub unreachable-requires : goal.unreachable-requires
unreachable-requires c =
    let some = some_after c.args.self.now c.args.offset c.cut_at.result c.cut_at.ensures c.requires in
    absurd (none_left c.cut_at.result.back.now (ap length (sym c.chars.ensures.rest) ∙ c.in_default.ensures.steps.0.0) some)
