-- What the stored tokens stand for.
use Rattle.std.specs.Prelude.{◌≡◌, ℕ, ◌≤◌, ◌^◌, Bool, not, List, map, sum_by, All}
use Rattle.definitions.specs.declared.Kind.{Kind}
use Rattle.definitions.specs.declared.Kind.TheVariants.{Rule, Invalid}
use Rattle.definitions.specs.Tokens.{Token as PlainToken, AreTokens, is_skipped}
use Rattle.grammar.specs.Lexicon.{Lexicon}
use Rattle.lexer.specs.declared.sums.ShortKind.{ShortKind}
use Rattle.lexer.specs.declared.sums.ShortKind.TheVariants.{Rule as ShortRule, Invalid as ShortInvalid}
use Rattle.lexer.specs.declared.sums.Token.{Token}

-- the kind that 16 bits stand for
abbrev pub long : ShortKind → Kind
long (ShortRule k) = Rule k
long ShortInvalid = Invalid

-- the kind of a stored token
abbrev pub kind_in : Token → Kind
kind_in x = long x.short_kind

-- a stored token without its mark and stamp
abbrev pub plain : Token → PlainToken
plain x = record { kind = kind_in x; length = x.length; reach = x.reach }

-- whether a stored token isn't skipped
abbrev pub is_significant : Token → Bool
is_significant x = not x.skipped

-- tokens, each with its kind, length, reach, mark and stamp, and how many the last change made
pub record TokenList : Type 0 where
  pub items : List Token
  pub scanned : ℕ

-- these are the tokens of `t`, marked where their kind is skipped
pub record AreTokensOf (lexicon : Lexicon) (t : List ℕ) (items : List Token) : Type 0 where
  pub tokens : AreTokens lexicon.patterns t (map plain items)
  pub marked : All (λ x. x.skipped ≡ is_skipped lexicon.skips (kind_in x)) items

-- how many characters the tokens have in all
abbrev pub characters : List Token → ℕ
characters items = sum_by (λ x. x.length) items

-- sums of these tokens are exact: they have at most 2^30 characters, none is empty, and none reaches farther than 2^30
pub record Fits (items : List Token) : Type 0 where
  pub short : characters items ≤ 2 ^ 30
  pub nonempty : All (λ x. 1 ≤ x.length) items
  pub near : All (λ x. x.reach ≤ 2 ^ 30) items
