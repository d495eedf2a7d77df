use Rattle.grammar.proofs.Std.{◌∙◌, sym, subst, [], ◌∷◌, ◌++◌}
use Rattle.grammar.proofs.Common.{AreNotes}
use Rattle.grammar.proofs.NotesOfUses.{shown_last, skipped_last, used_last}
use Rattle.grammar.proofs.Numbered.{true_not_false}
use Rattle.grammar.proofs.notes.add.Goals as goal
use Rattle.grammar.proofs.notes.add.Goals.{then-is_skip-via-then-is_skip, then-is_skip-via-else-is_skip+then-is_used}

pub returns-then-is_skip : goal.returns-then-is_skip
returns-then-is_skip c = λ f ss skips same all notes.
    elim c.then-is_skip.branch [
      | then-is_skip-via-then-is_skip w ↦ skipped_last f ss c.args.notes.now.items c.args.symbol notes (sym (c.is_skip.ensures f skips) ∙ w.if-is_skip.true)
      | then-is_skip-via-else-is_skip+then-is_used w ↦ used_last f ss c.args.notes.now.items c.args.symbol notes ((w.is_used.ensures f.grammar same all).0 w.if-is_used.true)
    ]

pub returns : goal.returns
returns c = λ f ss skips same all notes.
    subst (λ ns. AreNotes f (ss ++ c.args.symbol ∷ []) ns) (sym c.in_ok-push.ensures.items)
    (shown_last f ss c.args.notes.now.items c.args.symbol notes (sym (c.is_skip.ensures f skips) ∙ c.if-is_skip.false)
    (λ u. true_not_false (sym ((c.is_used.ensures f.grammar same all).1 u) ∙ c.if-is_used.false)))
