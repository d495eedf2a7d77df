-- `1+2+3`, and `+4` put in after it: the last number is scanned again, and of the branches four are built.
use Rattle.std.specs.Prelude.{◌≡◌, ℕ, ◌+◌, ◌<◌, ◌≤◌, List, [], ◌∷◌, length, refl}
use Rattle.std.proofs.Common.{arith, inl, inr}
use Rattle.definitions.specs.declared.Kind.TheVariants.{Rule}
use Rattle.definitions.specs.Nodes.{Top, Below, place_of}
use Rattle.definitions.specs.TokenEdits.{Splice}
use Rattle.definitions.specs.TreeEdits.{IsTouched, IsMoved, IsKept, Built, Nothing, Kept, New, Token}
use Rattle.definitions.specs.Trees.{Tree, Forest, Leaf, Branch, Nil, Cons, yields}

-- Atom = NUM, Sum = Atom, Sum = Sum PLUS Atom
abbrev atom : Tree
atom = Branch 2 (Cons (Leaf (Rule 0)) Nil)

abbrev one : Tree
one = Branch 1 (Cons atom Nil)

abbrev sum : Tree → Forest
sum t = Cons t (Cons (Leaf (Rule 1)) (Cons atom Nil))

abbrev more : Tree → Tree
more t = Branch 0 (sum t)

abbrev old : List Tree
old = more (more one) ∷ []

abbrev new : List Tree
new = more (more (more one)) ∷ []

abbrev put_in : Splice
put_in = record { from = 4; to = 5; kinds = Rule 0 ∷ Rule 1 ∷ Rule 0 ∷ [] }

-- `1+2` is kept
kept : IsKept put_in old 0 0 (sum one)
kept = record { lefts = []; stood = Below Top; not_empty = omega arith; untouched = apart; moved = inl (omega arith, refl) }
  where
    apart : ¬ IsTouched put_in 0 3
    apart (inl h) = omega (arith, h.2, h.3)
    apart (inr h) = omega (arith, h.0)

-- what holds the last old number is touched, and after it nothing has stood where it would have to
over_last : (p : ℕ) (us : Forest) → 4 < length (yields us) → ¬ IsKept put_in old 0 p us
over_last p us l k = go (place_of k.lefts) k.untouched k.moved
  where
    go : (q : ℕ) → ¬ IsTouched put_in q (q + length (yields us)) → IsMoved put_in q 0 → ⊥
    go q apart (inl h) = apart (inl (4, omega (arith, h.0), omega (arith, l), omega arith, omega arith))
    go q apart (inr h) = omega (arith, h.1)

beyond : (place p : ℕ) (us : Forest) → 4 ≤ place → place < 7 → ¬ IsKept put_in old place p us
beyond place p us l m k = go (place_of k.lefts) k.moved
  where
    go : (q : ℕ) → IsMoved put_in q place → ⊥
    go q (inl h) = omega (arith, h.0, h.1, l)
    go q (inr h) = omega (arith, h.0, h.1, m)

four_built : Built put_in old 0 new 4
four_built =
    New (over_last 0 (sum (more (more one))) (omega arith))
    (New (over_last 0 (sum (more one)) (omega arith))
    (Kept kept (Token (New (beyond 4 2 (Cons (Leaf (Rule 0)) Nil) (omega arith) (omega arith)) (Token Nothing) Nothing)))
    (Token (New (beyond 6 2 (Cons (Leaf (Rule 0)) Nil) (omega arith) (omega arith)) (Token Nothing) Nothing)))
    Nothing

-- two kinds put in between the first and the second: a node over both is touched, one that ends or begins there isn't
abbrev between : Splice
between = record { from = 1; to = 1; kinds = Rule 1 ∷ Rule 0 ∷ [] }

over : IsTouched between 0 3
over = inr (refl, (λ e. (let two : 2 ≡ 0 = e in omega (arith, two))), omega arith, omega arith)

before : ¬ IsTouched between 0 1
before (inl h) = omega (arith, h.3, h.4)
before (inr h) = omega (arith, h.3)

after : ¬ IsTouched between 1 3
after (inl h) = omega (arith, h.3, h.4)
after (inr h) = omega (arith, h.2)

-- and nothing put in touches nothing
no_kinds : ¬ IsTouched (record { from = 1; to = 1; kinds = [] }) 0 3
no_kinds (inl h) = omega (arith, h.3, h.4)
no_kinds (inr h) = h.1 refl

-- ---- where kinds move to, and what isn't kept or built

moves_back : IsMoved (record { from = 1; to = 3; kinds = Rule 1 ∷ [] }) 3 2
moves_back = inr (omega arith, refl)

gives_way : ¬ IsMoved (record { from = 1; to = 3; kinds = Rule 1 ∷ [] }) 2 2
gives_way (inl h) = omega (arith, h.0)
gives_way (inr h) = omega (arith, h.0)

elsewhere : ¬ IsMoved put_in 0 1
elsewhere (inl h) = omega (arith, h.1)
elsewhere (inr h) = omega (arith, h.0)

holds_what_gives_way : IsTouched put_in 3 5
holds_what_gives_way = inl (4, omega arith, omega arith, omega arith, omega arith)

-- a node without kinds is never kept
empty_is_built : (old : List Tree) (place p : ℕ) → ¬ IsKept put_in old place p Nil
empty_is_built old place p k = omega (arith, k.not_empty)

built_is_none : (s : Splice) (old : List Tree) (place n : ℕ) (ts : List Tree) → ts ≡ [] → Built s old place ts n → n ≡ 0
built_is_none s old place n ts none Nothing = refl
built_is_none s old place n ts none (Token b) = absurd (cc none)
built_is_none s old place n ts none (Kept k b) = absurd (cc none)
built_is_none s old place n ts none (New k b c) = absurd (cc none)

one_of_none : ¬ Built put_in old 0 [] 1
one_of_none b = absurd (cc (built_is_none put_in old 0 1 [] refl b))
