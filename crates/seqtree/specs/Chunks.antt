-- A list whose items lie in chunks: which chunks are small, where they are cut, and what gives way where items are replaced.
use Rattle.std.specs.Prelude.{◌≡◌, ℕ, ◌+◌, ◌*◌, ◌<◌, ◌≤◌, Bool, nat_lt, List, [], ◌∷◌, ◌++◌, length, take, drop, count_by, All}

-- `joined items chunks`: the items of chunks, in order
abbrev pub joined : {X A : Type 0} → (X → List A) → List X → List A
joined items [] = []
joined items (x ∷ xs) = items x ++ joined items xs

-- `IsMeasure size shortest longest`: sizes add up, an item has at least 1, what isn't small has at least 2, and a half of what is too long
-- isn't small
pub record IsMeasure {A : Type 0} (size : List A → ℕ) (shortest longest : ℕ) : Type 0 where
  pub adds : (s t : List A) → size (s ++ t) ≡ size s + size t
  pub each : (x : A) → 1 ≤ size (x ∷ [])
  pub some : 2 ≤ shortest
  pub halves : 2 * shortest ≤ longest + 1

-- `IsLarge items size shortest chunk`: the chunk has at least the size `shortest`
abbrev pub IsLarge : {X A : Type 0} → (X → List A) → (List A → ℕ) → ℕ → X → Type 0
IsLarge items size shortest chunk = shortest ≤ size (items chunk)

-- `is_small items size shortest chunk`: whether the chunk has less than that
abbrev pub is_small : {X A : Type 0} → (X → List A) → (List A → ℕ) → ℕ → X → Bool
is_small items size shortest chunk = nat_lt (size (items chunk)) shortest

-- `IsShort items size longest chunk`: the chunk has at most the size `longest`
abbrev pub IsShort : {X A : Type 0} → (X → List A) → (List A → ℕ) → ℕ → X → Type 0
IsShort items size longest chunk = size (items chunk) ≤ longest

-- what holds of all chunks of a list: none is longer than `longest`, and at most one is small
pub record AreFew {X A : Type 0} (items : X → List A) (size : List A → ℕ) (shortest longest : ℕ) (chunks : List X) : Type 0 where
  pub short : All (IsShort items size longest) chunks
  pub small : count_by (is_small items size shortest) chunks ≤ 1

-- these are chunks of the items `list`, none longer than `longest`, and none small where the items aren't; items that aren't too long for
-- one chunk are at most one, and no items are none
pub record AreCut {X A : Type 0} (items : X → List A) (size : List A → ℕ) (shortest longest : ℕ) (list : List A) (chunks : List X) : Type 0
  where
    pub joined_are : joined items chunks ≡ list
    pub large : shortest ≤ size list → All (IsLarge items size shortest) chunks
    pub short : All (IsShort items size longest) chunks
    pub one : size list ≤ longest → length chunks ≤ 1
    pub none : list ≡ [] → chunks ≡ []

-- the chunk has the last of the items `whole`, and `left` are the others: at most the size `most`, at least `shortest` where `whole` has
-- more than `most`, and otherwise all
pub record IsCutOff {X A : Type 0} (items : X → List A) (size : List A → ℕ) (shortest most : ℕ) (whole left : List A) (chunk : X) : Type 0
  where
    pub parts : whole ≡ left ++ items chunk
    pub short : size (items chunk) ≤ most
    pub large : most < size whole → shortest ≤ size (items chunk)
    pub all : size whole ≤ most → left ≡ []

-- with the items `new` in place of the chunks `from..to`, the list is `list`
pub record IsGap {X A : Type 0} (items : X → List A) (chunks : List X) (list : List A) (from to : ℕ) (new : List A) : Type 0 where
  pub ordered : from ≤ to
  pub within : to ≤ length chunks
  pub filled : list ≡ joined items (take from chunks) ++ new ++ joined items (drop to chunks)

-- `HasRoom items size shortest chunks from to new`: these items are small only where no chunk outside of `from..to` is
abbrev pub HasRoom : {X A : Type 0} → (X → List A) → (List A → ℕ) → ℕ → List X → ℕ → ℕ → List A → Type 0
HasRoom items size shortest chunks from to new =
    size new < shortest
    → count_by (is_small items size shortest) (take from chunks) + count_by (is_small items size shortest) (drop to chunks) ≡ 0

-- before the offset lie `place` whole chunks and the items `prefix` of the next one; after it lie its other items, `back`, and all further
-- chunks
pub record IsCut {X A : Type 0} (items : X → List A) (chunks : List X) (offset place : ℕ) (prefix back : List A) : Type 0 where
  pub within : place ≤ length chunks
  pub before : take offset (joined items chunks) ≡ joined items (take place chunks) ++ prefix
  pub after : drop offset (joined items chunks) ≡ back ++ joined items (drop (place + 1) chunks)
  pub starts : length (joined items (take place chunks)) ≤ offset
  pub ends : place < length chunks → offset < length (joined items (take (place + 1) chunks))
