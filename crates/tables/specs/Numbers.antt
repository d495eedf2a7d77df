-- Moves and states in 16 bits.
use Rattle.std.specs.Prelude.{ℕ, ◌-◌, ◌^◌, Option, Some, None, cond, nat_eq, nat_lt}
use Rattle.tables.specs.declared.decisions.Move.{Move}
use Rattle.tables.specs.declared.decisions.Move.TheVariants.{Shift, Reduce, Accept}

-- the move that a number of 16 bits stands for: none, to accept, to shift, and from the middle on to reduce
abbrev pub move_of_number : ℕ → Option Move
move_of_number n = cond (nat_eq n 0) None (cond (nat_eq n 1) (Some Accept)
    (cond (nat_lt n (2 ^ 15)) (Some (Shift (n - 2))) (Some (Reduce (n - 2 ^ 15)))))

-- the state that a number stands for: none, and then one more than the state's
abbrev pub state_of_number : ℕ → Option ℕ
state_of_number n = cond (nat_eq n 0) None (Some (n - 1))
