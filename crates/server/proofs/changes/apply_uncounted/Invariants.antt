use Rattle.server.proofs.Std.{◌≡◌, ◌+◌, map, take, true, Option, Some}
use Rattle.server.proofs.Common.{last_edit, number_of, HasNone, IsPending, pending_number, pending_text, pending_unit, LastEdit, fits, change_view, edited, IsLastAfter}
use Rattle.server.proofs.changes.apply_uncounted.Given as goal

abbrev pub invariant-loop-change : goal.invariant-loop-change
invariant-loop-change l =
    record {
      pending : IsPending l.language l.pending;
      unit : pending_unit l.pending ≡ l.fn.doc.unit;
      edits : edited l.fn.doc.unit l.fn.doc.text (map change_view (take l.change-index l.changes)) ≡ Some (pending_text l.pending);
      fits : fits (pending_text l.pending) ≡ true;
      number : pending_number l.pending ≡ number_of (last_edit l.fn.doc) + l.change-index;
      last : (last : Option LastEdit) × IsLastAfter l.fn.doc.unit l.language.file l.fn.doc.text (map change_view (take l.change-index l.changes))
          (last_edit l.fn.doc) last × (number_of last ≡ pending_number l.pending);
      first : l.change-index ≡ 0 → HasNone l.pending;
    }
