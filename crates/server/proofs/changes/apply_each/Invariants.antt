use Rattle.server.proofs.Std.{◌≡◌, map, take, Some}
use Rattle.server.proofs.Common.{last_edit, IsCurrent, change_view, edited, IsLastAfter}
use Rattle.server.proofs.changes.apply_each.Given as goal

abbrev pub invariant-loop-change : goal.invariant-loop-change
invariant-loop-change l =
    record {
      current : IsCurrent l.language l.doc;
      unit : l.doc.unit ≡ l.fn.doc.unit;
      edits : edited l.fn.doc.unit l.fn.doc.text (map change_view (take l.change-index l.changes)) ≡ Some l.doc.text;
      last : IsLastAfter l.fn.doc.unit l.language.file l.fn.doc.text (map change_view (take l.change-index l.changes)) (last_edit l.fn.doc) (last_edit l.doc);
    }
