use Rattle.text.proofs.Std.{arith, ap, refl, sym, subst, take, drop, ◌≡◌, ◌+◌, ◌++◌, ◌∙◌, ◌≤◌, string_bytes, chars}
use Rattle.text.proofs.Common.{IsText, edit, units, Utf8, units-bytes, IsText-chars, IsText-edit, in_order, filled_between, text_in}
use Rattle.text.proofs.Sizes.{IsKept, size, size-chars, kept_cut}
use Rattle.text.proofs.document.Text.replace.Goals.{After-bytes, After-join_three, In_ok-text}
use Rattle.text.proofs.document.Text.replace.Goals as goal

-- what the edit keeps
keeps : (c : After-bytes) → IsKept c.args.self.now c.args.a c.args.b c.cut_at-start.result.bytes c.cut_at-end.result.bytes c.bytes.result
keeps c = kept_cut c.self.inside.pieces c.args.self.now c.args.a c.args.b c.bytes.result c.cut_at-start.result c.cut_at-end.result c.self.view_is
    c.requires.ordered c.cut_at-start.ensures c.cut_at-end.ensures c.bytes.ensures.count

-- what the edit makes is not too large
fits : (c : After-join_three) → size (edit c.args.self.now c.args.a c.args.b (chars c.args.new.now)) ≤ 1048576
fits c =
    let kept = kept_cut c.self.inside.pieces c.args.self.now c.args.a c.args.b c.bytes.result c.cut_at-start.result c.cut_at-end.result c.self.view_is
    c.requires.ordered c.cut_at-start.ensures c.cut_at-end.ensures c.bytes.ensures.count in
    omega (arith, kept.edited (chars c.args.new.now), size-chars c.args.new.now c.utf8.new, c.if-new-kept.false, c.bytes.ensures.few, kept.few)

-- the new piece between the others makes the edited text
filled : (c : In_ok-text) → text_in (take c.cut_at-start.result.piece c.self.inside.pieces) ++ chars (string_bytes c.in_ok-text.text)
    ++ text_in (drop (c.cut_at-end.result.piece + 1) c.self.inside.pieces) ≡ edit c.args.self.now c.args.a c.args.b (chars c.args.new.now)
filled c =
    let start = c.cut_at-start.result in
    let end = c.cut_at-end.result in
    filled_between (λ q. q) c.self.inside.pieces c.args.a c.args.b start.piece end.piece (chars start.prefix.now) (chars start.back.now)
    (chars end.prefix.now) (chars end.back.now) (chars c.args.new.now) (chars (string_bytes c.in_ok-text.text)) c.requires.ordered
    c.cut_at-start.ensures.at c.cut_at-end.ensures.at c.in_ok-text.ensures
    ∙ ap (λ t. edit t c.args.a c.args.b (chars c.args.new.now)) c.self.view_is

pub overflow_sub-kept : goal.overflow_sub-kept
overflow_sub-kept c = (keeps (goal.at.overflow_sub-kept c).After-bytes).within

pub overflow_add-kept : goal.overflow_add-kept
overflow_add-kept c = omega (arith, c.bytes.ensures.few, (keeps (goal.at.overflow_add-kept c).After-bytes).few)

pub overflow_sub-kept-2 : goal.overflow_sub-kept-2
overflow_sub-kept-2 c = omega (arith, c.bytes.ensures.few, (keeps (goal.at.overflow_sub-kept-2 c).After-bytes).few)

pub returns-then-new-kept-clause-too_large : goal.returns-then-new-kept-clause-too_large
returns-then-new-kept-clause-too_large c =
    let kept = keeps (goal.at.returns-then-new-kept-clause-too_large c).After-bytes in
    (λ _. omega (arith, kept.edited (chars c.args.new.now), size-chars c.args.new.now c.utf8.new, c.if-new-kept.true, c.bytes.ensures.few, kept.few), λ _. refl)

pub returns-in_err-text-clause-too_large : goal.returns-in_err-text-clause-too_large
returns-in_err-text-clause-too_large c =
    (λ e. absurd (let wrong = rw e at c.from_residual.ensures in cc), λ large. absurd (omega (arith, fits (goal.at.returns-in_err-text-clause-too_large c).After-join_three, large)))

pub replace-requires-clause-ordered : goal.replace-requires-clause-ordered
replace-requires-clause-ordered c =
    let start = c.cut_at-start.result in
    let end = c.cut_at-end.result in
    omega (
      arith,
      in_order (λ q. q) c.self.inside.pieces c.args.a c.args.b start.piece end.piece (chars start.prefix.now) (chars start.back.now)
          (chars end.prefix.now) (chars end.back.now) c.requires.ordered c.cut_at-start.ensures.at c.cut_at-end.ensures.at,
    )

pub replace-requires-clause-in_range : goal.replace-requires-clause-in_range
replace-requires-clause-in_range c = c.cut_at-start.ensures.at.within

pub overflow_add-to : goal.overflow_add-to
overflow_add-to c = omega (arith, c.cut_at-end.ensures.few)

pub returns-in_err-replace-clause-too_large : goal.returns-in_err-replace-clause-too_large
returns-in_err-replace-clause-too_large c =
    (λ e. absurd (let wrong = rw e at c.from_residual-in_err-replace.ensures in cc), λ large. absurd (omega (arith, fits (goal.at.returns-in_err-replace-clause-too_large c).After-join_three, large)))

pub replace-requires-clause-fits : goal.replace-requires-clause-fits
replace-requires-clause-fits c =
    let at = goal.at.replace-requires-clause-fits c in
    omega (arith, fits at.After-join_three, units-bytes (edit c.args.self.now c.args.a c.args.b (chars c.args.new.now)), ap (units Utf8) (filled at.In_ok-text))

pub invariant_of-self-2 : goal.invariant_of-self-2
invariant_of-self-2 c =
    let at = goal.at.invariant_of-self-2 c in
    let text = c.in_ok-replace.ensures.text ∙ filled at.In_ok-text in
    record {
      text = subst IsText (sym text) (IsText-edit c.args.self.now c.args.a c.args.b (chars c.args.new.now)
          (subst IsText c.self.view_is c.self.invariant.text) (IsText-chars c.args.new.now c.utf8.new));
      few = omega (arith, fits at.After-join_three, ap size text);
    }

pub returns-clause-edited : goal.returns-clause-edited
returns-clause-edited c = c.in_ok-replace.ensures.text ∙ filled (goal.at.returns-clause-edited c).In_ok-text

pub returns-clause-too_large : goal.returns-clause-too_large
returns-clause-too_large c = (λ e. absurd cc, λ large. absurd (omega (arith, fits (goal.at.returns-clause-too_large c).After-join_three, large)))
