-- What stands before an offset of a text, and the rules that may follow there.
use Rattle.std.specs.Prelude.{◌≡◌, ◌⊎◌, ℕ, ◌+◌, ◌<◌, ◌≤◌, not, Bool, List, [], ◌∷◌, ◌++◌, drop, filter, map, slice_range, sum_by, take}
use Rattle.definitions.specs.declared.Kind.{Kind}
use Rattle.definitions.specs.declared.expression.Expression.{Expression}
use Rattle.definitions.specs.Sentences.{IsExpected}
use Rattle.definitions.specs.Tokens.{Token, IsPiece, is_skipped}
use Rattle.grammar.specs.Grammars.{FileGrammar}
use Rattle.mending.specs.declared.repair.Repair.{Repair}
use Rattle.completion.specs.Mended.{GoOnAs}

-- a small letter of ASCII
abbrev pub IsLetter : ℕ → Type 0
IsLetter c = (97 ≤ c) × (c < 123)

-- `typed n c u`: the text `u`, when the character `c` is typed after its first `n` characters
abbrev pub typed : ℕ → ℕ → List ℕ → List ℕ
typed n c u = take n u ++ c ∷ drop n u

-- `EndsAt rules t tokens o before`: some letter that is typed at offset `o`, into the text of the token that `o` stands in or behind, goes
-- into no token: one ends there. These are the kinds of the tokens before `o`, with that one
pub record EndsAt (rules : List Expression) (t : List ℕ) (tokens : List Token) (o : ℕ) (before : List Kind) : Type 0 where
  pub earlier : List Token
  pub token : Token
  pub later : List Token
  pub split : tokens ≡ earlier ++ token ∷ later
  pub part : ℕ
  pub ends : sum_by (λ x. x.length) earlier + part ≡ o
  pub within : part ≤ token.length
  pub letter : ℕ
  pub is_letter : IsLetter letter
  pub kind : Kind
  pub piece : IsPiece rules
      (typed part letter (slice_range t (sum_by (λ x. x.length) earlier) (sum_by (λ x. x.length) earlier + token.length))) kind part
  pub kinds : before ≡ map (λ x. x.kind) earlier ++ kind ∷ []

-- `AreBefore rules t tokens o before`: these are the kinds of the tokens before offset `o`, where some letter that is typed there goes into
-- none of them
abbrev pub AreBefore : List Expression → List ℕ → List Token → ℕ → List Kind → Type 0
AreBefore rules t tokens o before = ((o ≡ 0) × (before ≡ [])) ⊎ EndsAt rules t tokens o before

-- `unskipped skips kinds`: of these kinds those that aren't skipped
abbrev pub unskipped : List Bool → List Kind → List Kind
unskipped skips kinds = filter (λ k. not (is_skipped skips k)) kinds

-- `MayFollow file t tokens repairs o rules`: these are the rules that may follow at offset `o` of a text with these tokens: those that are
-- expected after the kinds before it, as the repairs mend them where no sentence begins with them; and none where each letter that is typed
-- there goes into a token
pub data MayFollow (file : FileGrammar) (t : List ℕ) (tokens : List Token) (repairs : List Repair) (o : ℕ) (rules : List ℕ) : Type 0 where
  Goes_into : ((before : List Kind) → ¬ AreBefore file.patterns t tokens o before) → rules ≡ [] → MayFollow file t tokens repairs o rules
  Expected : (before : List Kind) → AreBefore file.patterns t tokens o before → (kinds : List Kind)
      → GoOnAs file.grammar repairs (unskipped file.skips before) kinds → (at_end : Bool) → IsExpected file.grammar kinds rules at_end
      → MayFollow file t tokens repairs o rules
