use Rattle.std.proofs.Common.{sym}
use Rattle.tables.proofs.conflict.conflict_of.Goals as goal
use Rattle.tables.proofs.conflict.conflict_of.Goals.{then-is_in_order, else-is_in_order}

pub returns : goal.returns
returns c =
    let k = c.requires.clash.conflict c.in_ok-prefix.prefix.items c.in_ok-prefix.ensures in
    elim c.if-is_in_order.branch [
      | then-is_in_order w ↦ rw w.t-17-is (record { conflict = k; order = c.is_in_order.ensures.yes w.if-is_in_order.true; first_dot = c.requires.clash.one.at; second_dot = c.requires.clash.two.at })
      | else-is_in_order w ↦ rw w.t-17-is (record {
        conflict = record {
          one_valid = k.two_valid;
          two_valid = k.one_valid;
          one_move = k.two_move;
          two_move = k.one_move;
          one_calls = k.two_calls;
          two_calls = k.one_calls;
          differ = λ e. k.differ (sym e);
        };
        order = c.is_in_order.ensures.no w.if-is_in_order.false;
        first_dot = c.requires.clash.two.at;
        second_dot = c.requires.clash.one.at;
      })
    ]
