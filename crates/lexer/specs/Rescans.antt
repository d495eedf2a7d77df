-- What a rescan asks of a text, and what it makes.
use Rattle.std.specs.Prelude.{◌≡◌, ℕ, ◌+◌, ◌-◌, ◌<◌, ◌≤◌, true, false, List, [], filter, if◌then◌else◌, length, map, take, drop}
use Rattle.std.specs.Prelude.{count_by, slice_get, slice_range, All, IsSomeAnd}
use Rattle.definitions.specs.declared.Edit.{Edit}
use Rattle.definitions.specs.declared.Kind.{Kind}
use Rattle.definitions.specs.declared.expression.Expression.{Expression}
use Rattle.definitions.specs.Text.{edit}
use Rattle.definitions.specs.Tokens.{Token as PlainToken, AreTokens, Leads, placed}
use Rattle.definitions.specs.TokenEdits.{kept_before, is_rejoined, rejoin, same_kinds, IsSpliced, Splice}
use Rattle.definitions.specs.TokenEdits.{made as made_by, splice as splice_by}
use Rattle.grammar.specs.Lexicon.{Lexicon}
use Rattle.lexer.specs.declared.sums.Token.{Token}
use Rattle.lexer.specs.Scans.{AreMade}
use Rattle.lexer.specs.Tokens.{kind_in, plain, is_significant, characters, AreTokensOf, TokenList}

-- stored tokens without their marks and stamps
abbrev pub plain_all : List Token → List PlainToken
plain_all items = map plain items

-- `u` is the text of these tokens after the edit
pub record IsEdited (lexicon : Lexicon) (e : Edit) (items : List Token) (u : List ℕ) : Type 0 where
  pub text : List ℕ
  pub piece : List ℕ
  pub tokens : AreTokensOf lexicon text items
  pub inside : e.at + e.removed ≤ length text
  pub inserted : e.inserted ≡ length piece
  pub new_text : u ≡ edit text e.at (e.at + e.removed) piece

-- the offset at which the tokens end that are kept before the edit
abbrev pub prefix_end : Edit → List Token → ℕ
prefix_end e items = characters (take (kept_before e (plain_all items)) items)

-- some token made has a start and reach that together are greater than `i`
abbrev pub IsReachedByMade : Edit → List PlainToken → List PlainToken → ℕ → Type 0
IsReachedByMade e old new i = (k : ℕ) × (kept_before e old ≤ k) × (k < rejoin e old new)
    × IsSomeAnd (slice_get (placed 0 new) k) (λ x. i < x.start + x.token.reach)

-- a rescan may ask for offset `i` of `u`: it isn't before the end of the kept tokens before the edit, and some token made reaches past it
pub record IsNeeded (rules : List Expression) (e : Edit) (items : List Token) (u : List ℕ) (i : ℕ) : Type 0 where
  pub past : prefix_end e items ≤ i
  pub inside : i < length u
  pub reached : (new : List PlainToken) → AreTokens rules u new → IsReachedByMade e (plain_all items) new i

-- the kept tokens are the old ones with their stamps, and the others carry the number of the edit
pub record AreRescanned (e : Edit) (old new : List Token) : Type 0 where
  pub prefix_kept : take (kept_before e (plain_all old)) new ≡ take (kept_before e (plain_all old)) old
  pub rest_kept : drop (rejoin e (plain_all old) (plain_all new)) new ≡ drop
      (length old - (length new - rejoin e (plain_all old) (plain_all new))) old
  pub stamped : All (λ x. x.born ≡ e.number) (slice_range new (kept_before e (plain_all old)) (rejoin e (plain_all old) (plain_all new)))

-- the kinds of stored tokens that aren't skipped
abbrev pub significant_kinds : List Token → List Kind
significant_kinds items = map kind_in (filter is_significant items)

-- `new` are the tokens of `u`, the text of the tokens `old` after the edit. Those that the edit keeps are as they were; counted are those
-- that it doesn't, and `s` is the change of the significant kinds
pub record AreTokensAfter (lexicon : Lexicon) (e : Edit) (u : List ℕ) (s : Splice) (old new : TokenList) : Type 0 where
  pub tokens : AreTokensOf lexicon u new.items
  pub kept : AreRescanned e old.items new.items
  pub splice : s ≡ splice_by lexicon.skips e (plain_all old.items) (plain_all new.items)
  pub kinds : IsSpliced s (significant_kinds old.items) (significant_kinds new.items)
  pub scanned : new.scanned ≡ length (made_by e (plain_all old.items) (plain_all new.items))

-- how the significant kinds change where the tokens from `kept_before` up to `to` give way to tokens of the kinds `after`
abbrev pub change : List Token → ℕ → ℕ → List Kind → Splice
change items kept_before to after =
    let from = count_by is_significant (take kept_before items) in
    if same_kinds (significant_kinds (slice_range items kept_before to)) after
    then record { from = from; to = from; kinds = [] }
    else record { from = from; to = count_by is_significant (take to items); kinds = after }

-- these tokens are made after those that are kept before the edit, up to the first place of rejoining, which is that of the old token
-- numbered `to`
pub record IsRemade (lexicon : Lexicon) (e : Edit) (items : List Token) (u : List ℕ) (made : List Token) (to : ℕ) : Type 0 where
  pub leads : Leads lexicon.patterns (drop (prefix_end e items) u) (plain_all made)
  pub anew : AreMade lexicon.skips e.number made
  pub earlier : (k : ℕ) → k < length made → is_rejoined e (plain_all items) (prefix_end e items + characters (take k made)) ≡ false
  pub rejoins : is_rejoined e (plain_all items) (prefix_end e items + characters made) ≡ true
  pub within : to ≤ length items
  pub moved : characters (take to items) + e.inserted ≡ prefix_end e items + characters made + e.removed
