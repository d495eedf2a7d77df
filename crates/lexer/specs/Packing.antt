-- Tokens in two numbers each.
use Rattle.std.specs.Prelude.{ℕ, zero, suc, ◌+◌, ◌*◌, ◌/◌, ◌%◌, ◌^◌, ◌≤◌, nat_eq, if◌then◌else◌}
use Rattle.lexer.specs.declared.sums.ShortKind.{ShortKind}
use Rattle.lexer.specs.declared.sums.ShortKind.TheVariants.{Rule, Invalid}
use Rattle.lexer.specs.declared.sums.Token.{Token}
use Rattle.lexer.specs.declared.packed.PackedToken.TheInside.{Inside}

-- the code of a kind: 0 where no rule matches, and one more than the number of the rule
abbrev pub code : ShortKind → ℕ
code Invalid = 0
code (Rule k) = suc k

-- the kind with a code
abbrev pub short_kind_of : ℕ → ShortKind
short_kind_of zero = Invalid
short_kind_of (suc k) = Rule k

-- the token of a stamp and a shape
abbrev pub unpack : Inside → Token
unpack p = record {
  born = p.born;
  length = p.shape % 2 ^ 21;
  reach = p.shape / 2 ^ 21 % 2 ^ 21;
  short_kind = short_kind_of (p.shape / 2 ^ 43);
  skipped = nat_eq (p.shape / 2 ^ 42 % 2) 1;
}

-- the stamp and the shape of a token
abbrev pub pack : Token → Inside
pack x = record {
  born = x.born;
  shape = x.length + x.reach * 2 ^ 21 + (if x.skipped then 2 ^ 42 else 0) + code x.short_kind * 2 ^ 43;
}

-- the rule in a shape has a number of 16 bits
abbrev pub HasKind : Inside → Type 0
HasKind p = p.shape / 2 ^ 43 ≤ 2 ^ 16
