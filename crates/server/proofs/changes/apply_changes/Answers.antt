use Rattle.server.proofs.Std.{◌-◌, ℤ, w32, map, length, subst, arith, to_z-of_z}
use Rattle.server.proofs.Common.{open_document, change_view, IsAfter, is_lost, Becomes, entry_view, becomes_by_parts, lost_by_parts}
use Rattle.server.proofs.changes.apply_changes.Goals as goal

pub returns-in-Ok-clause-becomes : goal.returns-in-Ok-clause-becomes
returns-in-Ok-clause-becomes c =
    let changes = c.args.changes.now in
    let file = c.args.language.now.file in
    let d = open_document c.args.doc in
    let e = open_document c.in-Ok.doc in
    let state = entry_view c.apply_each-in-Ok.result in
    let after = subst (λ l. IsAfter file d (map change_view l) e) c.split_at.ensures.front c.in-Ok.ensures.after in
    let rest = subst (λ l. Becomes file c.args.version e (map change_view l) state) c.split_at.ensures.back
    (subst (λ (v : ℤ). Becomes file v e (map change_view c.split_at.result.1.now) state) (to_z-of_z w32 c.args.version c.ranges.version) c.apply_each-in-Ok.ensures.becomes) in
    becomes_by_parts changes (length changes - 1) file c.args.version d (omega (arith, c.if-count-le1.false)) e state after rest

pub returns-in-Err-clause-becomes : goal.returns-in-Err-clause-becomes
returns-in-Err-clause-becomes c =
    let changes = c.args.changes.now in
    let file = c.args.language.now.file in
    let d = open_document c.args.doc in
    let lost = subst (λ l. Becomes file c.args.version d (map change_view l) (is_lost c.in-Err.loss)) c.split_at.ensures.front (c.in-Err.ensures.lost c.args.version) in
    lost_by_parts changes (length changes - 1) file c.args.version d c.in-Err.loss lost
