use Rattle.tables.proofs.Std.{◌≡◌, ◌<◌, [], Some, None, length, slice_index_or, sym, ◌∙◌, subst, arith, get_or_default}
use Rattle.tables.proofs.RowsOfPrefix.{right}
use Rattle.tables.proofs.Expecting.{all_expected}
use Rattle.tables.proofs.tables.Tables.expects.Goals as goal

pub expected-requires : goal.expected-requires
expected-requires c =
    let inside = c.self.inside in
    let s = c.args.state in
    let below : s < length inside.moves.items = subst (λ v. s < length v.moves) (sym c.self.view_is) c.requires in
    let row : c.index.result.now ≡ slice_index_or inside.moves.items s [] = c.index.ensures ∙ get_or_default inside.moves.items s c.index.result.now [] below in
    let long = c.self.invariant.moves s below in
    rw row (omega (arith, long))

pub returns : goal.returns
returns c =
    let inside = c.self.inside in
    let s = c.args.state in
    rw (← c.self.view_is) (λ x stack prefix h after roots.
    let is = right _ _ c.self.invariant prefix s h in
    let row : c.index.result.now ≡ slice_index_or inside.moves.items s [] = c.index.ensures ∙ get_or_default inside.moves.items s c.index.result.now [] h.below in
    rw (c.expected.ensures, row) (all_expected _ c.self.invariant.accepted x stack prefix after roots (slice_index_or inside.moves.items s []) (λ a. is.moves (Some a)) (is.moves None)))
