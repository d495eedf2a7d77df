-- Children in 32 bits each.
use Rattle.std.specs.Prelude.{ℕ, ◌-◌, ◌^◌, ◌<◌, cond, nat_lt, nat_eq}
use Rattle.definitions.specs.declared.Kind.TheVariants.{Rule, Invalid}
use Rattle.trees.specs.declared.store.Child.{Child}
use Rattle.trees.specs.declared.store.Child.TheVariants.{Token, Node}

-- the number of an invalid token; nodes have those below it, rules those above it
abbrev pub half : ℕ
half = 2 ^ 31

-- the child that a number stands for
abbrev pub unpack : ℕ → Child
unpack n = cond (nat_lt n half) (Node (record { index = n })) (cond (nat_eq n half) (Token Invalid) (Token (Rule (n - half - 1))))

-- the child has a number of 32 bits
abbrev pub HasNumber : Child → Type 0
HasNumber (Token Invalid) = Unit {0}
HasNumber (Token (Rule k)) = k < half - 1
HasNumber (Node id) = id.index < half
