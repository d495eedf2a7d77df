use Rattle.text.proofs.Std.{refl}
use Rattle.text.proofs.Common.{changed}
use Rattle.text.proofs.document.Text.span.Goals as goal

pub returns-in-None-clause-is : goal.returns-in-None-clause-is
returns-in-None-clause-is c = rw (c.in-None.is, c.len.ensures.count) refl

pub returns-in-Some-clause-is : goal.returns-in-Some-clause-is
returns-in-Some-clause-is c = rw (c.in-Some.is, c.min.ensures, c.max.ensures, c.offset-start.ensures.is, c.offset-end.ensures.is) refl

pub returns-in-None-clause-edits : goal.returns-in-None-clause-edits
unfolding changed
returns-in-None-clause-edits c s = rw (c.in-None.is, c.len.ensures.count) refl

pub returns-in-Some-clause-edits : goal.returns-in-Some-clause-edits
unfolding changed
returns-in-Some-clause-edits c s = rw (c.in-Some.is, c.min.ensures, c.max.ensures, c.offset-start.ensures.is, c.offset-end.ensures.is) refl
