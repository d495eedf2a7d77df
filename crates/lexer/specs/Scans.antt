-- The tokens that are made one after another.
use Rattle.std.specs.Prelude.{◌≡◌, ℕ, ◌+◌, ◌≤◌, Bool, List, length, drop, map, All}
use Rattle.definitions.specs.Tokens.{Leads, is_skipped}
use Rattle.grammar.specs.Lexicon.{Lexicon}
use Rattle.lexer.specs.declared.sums.Token.{Token}
use Rattle.lexer.specs.Tokens.{kind_in, plain, characters}

-- these tokens are marked where they are skipped and carry the stamp `born`; none is empty or reaches farther than a text does
pub record AreMade (skips : List Bool) (born : ℕ) (made : List Token) : Type 0 where
  pub marked : All (λ x. x.skipped ≡ is_skipped skips (kind_in x)) made
  pub stamped : All (λ x. x.born ≡ born) made
  pub nonempty : All (λ x. 1 ≤ x.length) made
  pub near : All (λ x. x.reach ≤ 1048577) made

-- these are the next tokens of `t` from offset `from` up to `end`, with the stamp 0
pub record AreNext (lexicon : Lexicon) (t : List ℕ) (from : ℕ) (next : List Token) (end : ℕ) : Type 0 where
  pub leads : Leads lexicon.patterns (drop from t) (map plain next)
  pub made : AreMade lexicon.skips 0 next
  pub end_is : end ≡ from + characters next
  pub inside : end ≤ length t
