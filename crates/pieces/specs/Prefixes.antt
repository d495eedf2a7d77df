-- What is known of a prefix of a text, and whether it goes past a position.
use Rattle.std.specs.Prelude.{◌≡◌, ◌+◌, ◌-◌, ◌^◌, ◌<◌, ◌⊎◌, ◌&&◌, ◌==◌, ℕ, Bool, not, nat_lt, if◌then◌else◌, List, length}
use Rattle.definitions.specs.declared.Position.{Position}
use Rattle.definitions.specs.declared.Unit.{Unit as Encoding}
use Rattle.definitions.specs.Text.{carriage_return}
use Rattle.pieces.specs.declared.look_up.Prefix.{Prefix}
use Rattle.pieces.specs.Sums.{ends_with, end_before_feed}

-- what is known of a prefix `t` of a text while it is walked: how many characters, the position of its end where a `\n` comes next, and
-- whether it ends with `\r`
abbrev pub prefix_of : Encoding → List ℕ → Prefix
prefix_of encoding t =
    record {
      characters = length t;
      end = end_before_feed encoding t;
      ends_with_return = ends_with carriage_return t;
    }

-- whether `c` after the prefix stands in its last line and has one unit in each encoding, by a sufficient test: `c` is from 14 to 127, and
-- the prefix doesn't end with `\r`
abbrev pub goes_on : Prefix → ℕ → Bool
goes_on prefix c =
    (nat_lt carriage_return c && nat_lt c 0x80) && not prefix.ends_with_return

-- the prefix with `n` characters after it that `goes_on` allows
abbrev pub with_ones : Prefix → ℕ → Prefix
with_ones prefix n =
    record {
      characters = prefix.characters + n;
      end = record { line = prefix.end.line; character = prefix.end.character + n };
      ends_with_return = prefix.ends_with_return;
    }

-- how many characters that `goes_on` allows may follow a prefix whose end isn't past the position `p`, before it is: in the line of `p` the
-- units up to `p`, and in a line before it 2^32 - 1
abbrev pub room : Prefix → Position → ℕ
room prefix p =
    if prefix.end.line == p.line
    then p.character - prefix.end.character
    else 2 ^ 32 - 1

-- the position `q` is in a later line than `p`, or in the same one after more units
abbrev pub IsPast : Position → Position → Type 0
IsPast p q = (p.line < q.line) ⊎ ((p.line ≡ q.line) × (p.character < q.character))
