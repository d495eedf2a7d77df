-- From a text of sums to what is reported of it, and what edits make of two such texts.
use Rattle.std.specs.Char.{encode_utf8}
use Rattle.std.specs.Str.{all_scalars}
use Rattle.std.specs.Prelude.{◌≡◌, ◌≢◌, ◌⊎◌, ℕ, zero, suc, ◌+◌, ◌≤◌, pos, true, false, Option, Some, None, List, [], ◌∷◌, length, codes, refl, map, slice_index, slice_index_or, Contains, AllPairs, IsTrue, ◌-◌, ◌&&◌, nat_le, encode_utf8_all}
use Rattle.std.proofs.Common.{ap, sym, subst, ◌∙◌, inl, inr, arith, length-append}
use Rattle.definitions.specs.declared.Position.{Position}
use Rattle.definitions.specs.declared.Range.{Range}
use Rattle.definitions.specs.declared.Stats.{Stats}
use Rattle.definitions.specs.declared.Symbol.{Symbol}
use Rattle.definitions.specs.declared.Unit.TheVariants.{Utf16}
use Rattle.definitions.specs.Answers.{Node, message, span, SpansLines, IsBefore, Covers, Encloses}
use Rattle.definitions.specs.DocumentNodes.{IsNodeOf}
use Rattle.definitions.specs.Nodes.{StandsIn, Top, Below, Past, place_of}
use Rattle.definitions.specs.Sentences.{HasTree, FaultAt, FaultAtEnd}
use Rattle.definitions.specs.Text.{break_ends, line_of, line_start, line_from, units, greatest, offset, position, changed}
use Rattle.definitions.specs.TokenEdits.{Splice}
use Rattle.definitions.specs.Tokens.{Placed, Token, AreTokens}
use Rattle.definitions.specs.TreeEdits.{IsTouched, IsMoved, IsKept, Built, Nothing, Kept, New, Token as AToken}
use Rattle.definitions.specs.Trees.{HasProduction, Production, Tree, Forest, Leaf, Branch, Nil, Cons, trees, yield, yields, all_kinds}
use Rattle.grammar.specs.Grammars.{FileGrammar}
use Rattle.readings.specs.Answers.{Reading, IsReading, Reads, rows, written_tree, AreSelections}
use Rattle.readings.specs.Contents.{AreFoldsOf, IsSelectionOf, placed_parts}
use Rattle.readings.specs.Diagnostics.{IsDiagnosis, IsFaultAfter, looks}
use Rattle.readings.specs.Edits.{IsAbove, Makes, IsNext, ReportsLast, AreStats, number_of, number_after, edit_of, without_nodes}
use Rattle.readings.specs.Texts.{LastEdit, OpenDocument, fits}
use Rattle.definitions.proofs.Ordered.{Contains-first, Contains-later, Contains-none, Contains-cases}
use Rattle.readings.proofs.SumsRows.{sums, sums_file, num, plus, left, right, number, inside, single, single_is, double, double_is, triple, triple_is, quadruple, quadruple_is, nested, nested_is}
use Rattle.readings.proofs.SumsRows.{two_numbers, twice_opened, opened_sum, one_more, closed_at_first, after_number, after_open, after_plus}
use Rattle.readings.proofs.SumsRows.{number_settles, opened_settles, sum_settles, plus_settles, none_settled}
use Rattle.readings.proofs.SumTokenRows.{InMemory, patterns, token, invalid, one_digit, last_digit, a_plus_token, a_left_token, a_right_token, a_blank_token, an_invalid_token}

abbrev pub from_to : ℕ → ℕ → ℕ → ℕ → Range
from_to l c m d = record { start = record { line = l; character = c }; end = record { line = m; character = d } }

-- ---- the nodes of trees of sums

abbrev left_side : ℕ → ℕ
left_side zero = 0
left_side (suc zero) = 0
left_side (suc (suc p)) = 1

side_of : Option Production → ℕ
side_of None = 0
side_of (Some p) = p.left

left_is : (p n : ℕ) (ss : List Symbol) → HasProduction sums p n ss → n ≡ left_side p
unfolding side_of
left_is zero n ss h = sym (ap side_of h)
left_is (suc zero) n ss h = sym (ap side_of h)
left_is (suc (suc zero)) n ss h = sym (ap side_of h)
left_is (suc (suc (suc zero))) n ss h = sym (ap side_of h)
left_is (suc (suc (suc (suc p)))) n ss h = absurd (cc h)

abbrev node : ℕ → ℕ → ℕ → Node
node s c d = record { symbol = s; from = c; to = d }

-- something holds of each branch of trees that begin at this place
abbrev mutual
  OfTree : (Node → Type 0) → ℕ → Tree → Type 0
  OfTree P place (Leaf k) = Unit {0}
  OfTree P place (Branch p us) = P (node (left_side p) place (place + length (yields us))) × OfForest P place us

  OfForest : (Node → Type 0) → ℕ → Forest → Type 0
  OfForest P place Nil = Unit {0}
  OfForest P place (Cons t ts) = OfTree P place t × OfForest P (place + length (yield t)) ts

abbrev OfTrees : (Node → Type 0) → ℕ → List Tree → Type 0
OfTrees P place [] = Unit {0}
OfTrees P place (t ∷ ts) = OfTree P place t × OfTrees P (place + length (yield t)) ts

module _ (P : Node → Type 0) where
  as_list : (place : ℕ) (us : Forest) → OfForest P place us → OfTrees P place (trees us)
  as_list place Nil h = tt
  as_list place (Cons t ts) h = (h.0, as_list (place + length (yield t)) ts h.1)

  at_place : (p : ℕ) (us : Forest) (ts lefts : List Tree) → StandsIn ts lefts (Branch p us) → (place : ℕ) → OfTrees P place ts
      → P (node (left_side p) (place + place_of lefts) (place + place_of lefts + length (yields us)))
  at_place p us ts lefts Top place h =
      let same : place ≡ place + 0 = omega arith in
      subst (λ q. P (node (left_side p) q (q + length (yields us)))) same h.0.0
  at_place p us ts lefts (Below {p = q} {us = vs} s) place h = at_place p us (trees vs) lefts s place (as_list place vs h.0.1)
  at_place p us ts lefts (Past {u = u} {ts = rest} {lefts = before} s) place h =
      let more = length-append (yield u) (all_kinds before) in
      let same : place + length (yield u) + place_of before ≡ place + place_of (u ∷ before) = omega (arith, more) in
      subst (λ q. P (node (left_side p) q (q + length (yields us)))) same (at_place p us rest before s (place + length (yield u)) h.1)

  each_node : (ts : List Tree) → OfTrees P 0 ts → (n : Node) → IsNodeOf sums ts n → P n
  each_node ts h n (lefts, p, us, ss, stands, production, from, to) =
      let zero_is : 0 + place_of lefts ≡ place_of lefts = omega arith in
      let found = subst (λ q. P (node (left_side p) q (q + length (yields us)))) zero_is (at_place p us ts lefts stands 0 h) in
      let same : node (left_side p) (place_of lefts) (place_of lefts + length (yields us)) ≡ n = λ i. record { symbol = sym (left_is p n.symbol ss production) i; from = sym from i; to = sym to i } in
      subst P same found

-- ---- what an edit keeps

-- no node stands in no trees
nowhere : (ts lefts : List Tree) (t : Tree) → ts ≡ [] → StandsIn ts lefts t → ⊥
nowhere ts lefts t none Top = absurd (cc none)
nowhere ts lefts t none (Below s) = absurd (cc none)
nowhere ts lefts t none (Past s) = absurd (cc none)

nothing_kept : (s : Splice) (place p : ℕ) (us : Forest) → ¬ IsKept s [] place p us
nothing_kept s place p us k = nowhere [] k.lefts (Branch p us) refl k.stood

-- a node is built that has stood only where the edit touches it
built_where : (s : Splice) (old : List Tree) (place p : ℕ) (us : Forest)
    → ((q : ℕ) → IsMoved s q place → IsTouched s q (q + length (yields us))) → ¬ IsKept s old place p us
built_where s old place p us touched k = k.untouched (touched (place_of k.lefts) k.moved)

abbrev below_one : Forest
below_one = Cons (Leaf num) Nil

abbrev below_added : Tree → Tree → Forest
below_added s t = Cons s (Cons (Leaf plus) (Cons t Nil))

-- `+4` after `1+2+3`: what holds the last old number is built, and so are the new ones
abbrev appends : Splice
appends = record { from = 4; to = 5; kinds = num ∷ plus ∷ num ∷ [] }

over_last : (n place : ℕ) → place ≡ 0 → 5 ≤ n → (q : ℕ) → IsMoved appends q place → IsTouched appends q (q + n)
over_last n place at long q (inl m) = inl (4, omega (arith, m.0), omega (arith, long), omega arith, omega arith)
over_last n place at long q (inr m) = absurd (omega (arith, m.0, m.1, at))

from_last : (n place : ℕ) → 4 ≤ place → place ≤ 6 → (q : ℕ) → IsMoved appends q place → IsTouched appends q (q + n)
from_last n place low high q (inl m) = absurd (omega (arith, m.0, m.1, low))
from_last n place low high q (inr m) = absurd (omega (arith, m.0, m.1, high))

double_kept : IsKept appends (triple ∷ []) 0 0 (below_added single number)
double_kept = record { lefts = []; stood = Below Top; not_empty = omega arith; untouched = apart; moved = inl (omega arith, refl) }
  where
    apart : ¬ IsTouched appends 0 3
    apart (inl h) = omega (arith, h.2, h.3)
    apart (inr h) = omega (arith, h.0)

four_built : Built appends (triple ∷ []) 0 (quadruple ∷ []) 4
four_built =
    New (built_where appends (triple ∷ []) 0 0 (below_added triple number) (over_last 7 0 refl (omega arith)))
    (New (built_where appends (triple ∷ []) 0 0 (below_added double number) (over_last 5 0 refl (omega arith)))
    (Kept double_kept (AToken (New (built_where appends (triple ∷ []) 4 2 below_one (from_last 1 4 (omega arith) (omega arith))) (AToken Nothing) Nothing)))
    (AToken (New (built_where appends (triple ∷ []) 6 2 below_one (from_last 1 6 (omega arith) (omega arith))) (AToken Nothing) Nothing)))
    Nothing

-- `1+2+3` without its last number: `1+2` stays
abbrev drops : Splice
drops = record { from = 3; to = 5; kinds = plus ∷ [] }

none_built : Built drops (triple ∷ []) 0 (double ∷ []) 0
none_built = Kept (record { lefts = []; stood = Below Top; not_empty = omega arith; untouched = apart; moved = inl (omega arith, refl) }) Nothing
  where
    apart : ¬ IsTouched drops 0 3
    apart (inl h) = omega (arith, h.2, h.3)
    apart (inr h) = omega (arith, h.0)

-- `)` after `(1+2`: the first number's sum stays, and the four nodes over the last number are built
abbrev closes : Splice
closes = record { from = 3; to = 4; kinds = num ∷ right ∷ [] }

abbrev opened : List Tree
opened = Leaf left ∷ single ∷ Leaf plus ∷ []

over_number : (n place : ℕ) → place ≤ 2 → 4 ≤ place + n → (q : ℕ) → IsMoved closes q place → IsTouched closes q (q + n)
over_number n place low long q (inl m) = inl (3, omega (arith, m.0), omega (arith, long, m.1), omega arith, omega arith)
over_number n place low long q (inr m) = absurd (omega (arith, m.0, m.1, low))

at_number : (n : ℕ) (q : ℕ) → IsMoved closes q 3 → IsTouched closes q (q + n)
at_number n q (inl m) = absurd (omega (arith, m.0, m.1))
at_number n q (inr m) = absurd (omega (arith, m.0, m.1))

single_kept : IsKept closes opened 1 1 (Cons number Nil)
single_kept = record { lefts = Leaf left ∷ []; stood = Past Top; not_empty = omega arith; untouched = apart; moved = inl (omega arith, refl) }
  where
    apart : ¬ IsTouched closes 1 2
    apart (inl h) = omega (arith, h.2, h.3)
    apart (inr h) = omega (arith, h.0)

four_closed : Built closes opened 0 (nested double ∷ []) 4
four_closed =
    New (built_where closes opened 0 1 (Cons (inside double) Nil) (over_number 5 0 (omega arith) (omega arith)))
    (New (built_where closes opened 0 3 (Cons (Leaf left) (Cons double (Cons (Leaf right) Nil))) (over_number 5 0 (omega arith) (omega arith)))
    (AToken (New (built_where closes opened 1 0 (below_added single number) (over_number 3 1 (omega arith) (omega arith)))
    (Kept single_kept (AToken (New (built_where closes opened 3 2 below_one (at_number 1)) (AToken Nothing) Nothing)))
    (AToken Nothing)))
    Nothing)
    Nothing

-- `1+2+3` after a text with a fault at its first token: all is built
abbrev first_gone : Splice
first_gone = record { from = 0; to = 1; kinds = [] }

all_of_three : Built first_gone [] 0 (triple ∷ []) 6
all_of_three =
    New (nothing_kept first_gone 0 0 (below_added double number))
    (New (nothing_kept first_gone 0 0 (below_added single number))
    (New (nothing_kept first_gone 0 1 (Cons number Nil)) (New (nothing_kept first_gone 0 2 below_one) (AToken Nothing) Nothing)
    (AToken (New (nothing_kept first_gone 2 2 below_one) (AToken Nothing) Nothing)))
    (AToken (New (nothing_kept first_gone 4 2 below_one) (AToken Nothing) Nothing)))
    Nothing

abbrev tokens_of : List ℕ → List Token
tokens_of ks = map (λ k. token k) ks

abbrev row : List ℕ → ℕ → ℕ → List ℕ × Range
row name c d = (name, from_to 0 c 0 d)

module _ (at : InMemory) where
  abbrev file : FileGrammar
  file = sums_file (patterns at)

  -- ---- `1+2`: its tokens, its tree, and no fault

  abbrev pub sum_reading : Reading
  sum_reading = record { tokens = tokens_of (0 ∷ 1 ∷ 0 ∷ []); verdict = HasTree double; trees = double ∷ [] }

  sum_tokens : AreTokens (patterns at) (codes "1+2") sum_reading.tokens
  sum_tokens = (one_digit at 49 43 (codes "2") (omega arith) (omega arith) refl refl, (a_plus_token at (codes "2"), (last_digit at 50 (omega arith) (omega arith) refl, refl)))

  pub sum_is_read : IsReading file (codes "1+2") sum_reading
  sum_is_read = record { tokens = sum_tokens; verdict = double_is; trees = refl }

  sum_rows : rows Utf16 file (codes "1+2") sum_reading.tokens ≡ row (codes "NUM") 0 1 ∷ row (codes "PLUS") 1 2 ∷ row (codes "NUM") 2 3 ∷ []
  unfolding encode_utf8 position line_of line_start line_from break_ends units
  sum_rows = refl

  sum_tree : Reads file (codes "1+2") (λ reading. written_tree file reading.verdict ≡ Some (codes "(Sum (Sum (Atom NUM)) PLUS (Atom NUM))"))
  unfolding encode_utf8
  sum_tree = (sum_reading, sum_is_read, refl)

  sum_has_no_fault : Reads file (codes "1+2") (λ reading. IsDiagnosis Utf16 file (codes "1+2") reading.tokens reading.verdict None)
  sum_has_no_fault = (sum_reading, sum_is_read, refl)

  -- a fault is never reported where there is a tree
  sum_has_a_fault : IsDiagnosis Utf16 file (codes "1+2") sum_reading.tokens sum_reading.verdict (Some (record { range = from_to 0 0 0 1; message = codes "unexpected NUM; expected LP" })) → ⊥
  sum_has_a_fault d = absurd (cc d)

  -- ---- `1 2`: the fault in the middle

  abbrev pub two_reading : Reading
  two_reading = record { tokens = tokens_of (0 ∷ 4 ∷ 0 ∷ []); verdict = FaultAt 1; trees = [] }

  pub two_are_read : IsReading file (codes "1 2") two_reading
  two_are_read = record {
    tokens = (one_digit at 49 32 (codes "2") (omega arith) (omega arith) refl refl, (a_blank_token at 32 50 [] (omega arith) refl refl refl, (last_digit at 50 (omega arith) (omega arith) refl, refl)));
    verdict = two_numbers;
    trees = number_settles;
  }

  two_fault : Reads file (codes "1 2") (λ reading. IsDiagnosis Utf16 file (codes "1 2") reading.tokens reading.verdict
      (Some (record { range = from_to 0 2 0 3; message = codes "unexpected NUM; expected PLUS, end" })))
  unfolding message position line_of line_start line_from break_ends units
  two_fault = (two_reading, two_are_read, (1 ∷ [], true, after_number, refl))

  fault_after_number : IsFaultAfter Utf16 file (codes "1 2") two_reading.tokens (num ∷ []) (Some (record { range = from_to 0 2 0 3; message = codes "unexpected NUM; expected PLUS, end" }))
  unfolding message position line_of line_start line_from break_ends units
  fault_after_number = (1 ∷ [], true, after_number, refl)

  no_fault_after_number : IsFaultAfter Utf16 file (codes "1 2") two_reading.tokens (num ∷ []) None → ⊥
  no_fault_after_number f = absurd (cc f.3)

  -- it is no text with a tree, and has no reading of which nothing holds
  another_verdict : (trees : List Tree) → IsReading file (codes "1+2") (record { tokens = sum_reading.tokens; verdict = FaultAtEnd; trees = trees }) → ⊥
  another_verdict trees r = r.verdict.0 (double, double_is)

  reads_nothing : Reads file (codes "1+2") (λ reading. ⊥) → ⊥
  reads_nothing r = r.2

  two_have_no_tree : Reads file (codes "1 2") (λ reading. written_tree file reading.verdict ≡ None)
  two_have_no_tree = (two_reading, two_are_read, refl)

  two_have_a_fault : IsDiagnosis Utf16 file (codes "1 2") two_reading.tokens two_reading.verdict None → ⊥
  two_have_a_fault d = absurd (cc d.3)

  -- ---- `((1`: the fault at the end

  abbrev open_reading : Reading
  open_reading = record { tokens = tokens_of (2 ∷ 2 ∷ 0 ∷ []); verdict = FaultAtEnd; trees = Leaf left ∷ Leaf left ∷ [] }

  open_is_read : IsReading file (codes "((1") open_reading
  open_is_read = record {
    tokens = (a_left_token at (codes "(1"), (a_left_token at (codes "1"), (last_digit at 49 (omega arith) (omega arith) refl, refl)));
    verdict = twice_opened;
    trees = opened_settles;
  }

  open_fault : Reads file (codes "((1") (λ reading. IsDiagnosis Utf16 file (codes "((1") reading.tokens reading.verdict
      (Some (record { range = from_to 0 3 0 3; message = codes "unexpected end; expected PLUS, RP" })))
  unfolding message position line_of line_start line_from break_ends units
  open_fault = (open_reading, open_is_read, (1 ∷ 3 ∷ [], false, after_open, refl))

  -- a character that no rule matches
  unknown_tokens : AreTokens (patterns at) (codes "1#") (token 0 ∷ invalid ∷ [])
  unknown_tokens = (one_digit at 49 35 [] (omega arith) (omega arith) refl refl, (an_invalid_token at [], refl))

  -- what may follow is told in order, and the end last
  looks_in_order : looks (1 ∷ 3 ∷ []) true ≡ Some plus ∷ Some right ∷ None ∷ []
  looks_in_order = refl

  looks_without_end : looks (0 ∷ []) false ≡ Some num ∷ []
  looks_without_end = refl

  -- ---- folds: two pairs of parentheses over five lines

  abbrev pub lines : List ℕ
  lines = codes "(\n(\n1\n)\n)"

  abbrev lines_tree : Tree
  lines_tree = nested (nested single)

  abbrev pub lines_reading : Reading
  lines_reading = record { tokens = tokens_of (2 ∷ 4 ∷ 2 ∷ 4 ∷ 0 ∷ 4 ∷ 3 ∷ 4 ∷ 3 ∷ []); verdict = HasTree lines_tree; trees = lines_tree ∷ [] }

  pub lines_are_read : IsReading file lines lines_reading
  lines_are_read = record {
    tokens = (
      a_left_token at (codes "\n(\n1\n)\n)"),
      (
        a_blank_token at 10 40 (codes "\n1\n)\n)") (omega arith) refl refl refl,
        (
          a_left_token at (codes "\n1\n)\n)"),
          (
            a_blank_token at 10 49 (codes "\n)\n)") (omega arith) refl refl refl,
            (
              one_digit at 49 10 (codes ")\n)") (omega arith) (omega arith) refl refl,
              (
                a_blank_token at 10 41 (codes "\n)") (omega arith) refl refl refl,
                (
                  a_right_token at (codes "\n)"),
                  (
                    a_blank_token at 10 41 [] (omega arith) refl refl refl,
                    (a_right_token at [], refl),
                  ),
                ),
              ),
            ),
          ),
        ),
      ),
    );
    verdict = record { root = nested_is (nested single) (nested_is single single_is.root); kinds = refl };
    trees = refl;
  }

  abbrev Folds : Node → Type 0
  Folds n = (p : ℕ × ℕ) → IsTrue (slice_index_or file.folds n.symbol false) → SpansLines lines (placed_parts file lines_reading.tokens) n p
      → Contains ((0, 4) ∷ (1, 3) ∷ []) p

  no_fold : (s c d : ℕ) → slice_index_or file.folds s false ≡ false → Folds (node s c d)
  no_fold s c d is p f h = absurd (cc (sym is ∙ f))

  outer_fold : Folds (node 1 0 5)
  unfolding line_of break_ends
  outer_fold p f h =
      let same : (0, 4) ≡ p = λ i. (sym h.1 i, sym h.2 i) in
      subst (λ q. Contains ((0, 4) ∷ (1, 3) ∷ []) q) same (Contains-first (0, 4) ((1, 3) ∷ []))

  inner_fold : Folds (node 1 1 4)
  unfolding line_of break_ends
  inner_fold p f h =
      let same : (1, 3) ≡ p = λ i. (sym h.1 i, sym h.2 i) in
      subst (λ q. Contains ((0, 4) ∷ (1, 3) ∷ []) q) same (Contains-later (0, 4) ((1, 3) ∷ []) (1, 3) (Contains-first (1, 3) []))

  no_line : Folds (node 1 2 3)
  unfolding line_of break_ends
  no_line p f h = absurd (omega (arith, h.1, h.2, h.3))

  abbrev IsFold : ℕ × ℕ → Type 0
  IsFold p = (n : Node) × IsNodeOf sums (lines_tree ∷ []) n × IsTrue (slice_index_or file.folds n.symbol false)
      × SpansLines lines (placed_parts file lines_reading.tokens) n p

  pub two_pairs : AreFoldsOf file lines lines_reading.tokens lines_reading.trees ((0, 4) ∷ (1, 3) ∷ [])
  unfolding line_of break_ends
  two_pairs = record { ascending = ascending; only = λ p c. from p (Contains-cases (0, 4) ((1, 3) ∷ []) p c); all = λ n p is. each n is p }
    where
      ascending : AllPairs IsBefore ((0, 4) ∷ (1, 3) ∷ [])
      ascending zero zero d l m = absurd (omega (arith, l))
      ascending zero (suc zero) d l m = inl (omega arith)
      ascending zero (suc (suc j)) d l m = absurd (omega (arith, m))
      ascending (suc i) j d l m = absurd (omega (arith, l, m))

      each : (n : Node) → IsNodeOf sums (lines_tree ∷ []) n → Folds n
      each = each_node Folds (lines_tree ∷ [])
          ((no_fold 0 0 5 refl, ((outer_fold, (tt, ((no_fold 0 1 4 refl, ((inner_fold, (tt, ((no_fold 0 2 3 refl, ((no_line, (tt, tt)), tt)), (tt, tt)))), tt)), (tt, tt)))), tt)), tt)

      outer : IsFold (0, 4)
      outer = (node 1 0 5, ([], 3, _, _, Below Top, refl, refl, refl), refl, (omega arith, refl, refl, omega arith))

      inner : IsFold (1, 3)
      inner = (node 1 1 4, (Leaf left ∷ [], 3, _, _, Below (Below (Past (Below Top))), refl, refl, refl), refl, (omega arith, refl, refl, omega arith))

      last : (p : ℕ × ℕ) → ((1, 3) ≡ p) ⊎ Contains [] p → IsFold p
      last p (inl e) = subst (λ q. IsFold q) e inner
      last p (inr c) = absurd (Contains-none p c)

      from : (p : ℕ × ℕ) → ((0, 4) ≡ p) ⊎ Contains ((1, 3) ∷ []) p → IsFold p
      from p (inl e) = subst (λ q. IsFold q) e outer
      from p (inr c) = last p (Contains-cases (1, 3) [] p c)

  two_pairs_are_read : Reads file lines (λ reading. AreFoldsOf file lines reading.tokens reading.trees ((0, 4) ∷ (1, 3) ∷ []))
  two_pairs_are_read = (lines_reading, lines_are_read, two_pairs)

  -- the other way round they aren't in order
  other_order : AreFoldsOf file lines lines_reading.tokens lines_reading.trees ((1, 3) ∷ (0, 4) ∷ []) → ⊥
  other_order f = by (f.ascending 0 1 (0, 0) (omega arith) (omega arith))
    where
      by : IsBefore (1, 3) (0, 4) → ⊥
      by (inl l) = omega (arith, l)
      by (inr l) = omega (arith, l.0)

  -- at the plus no node begins
  no_node_at_the_plus : (n : Node) → n.from ≡ 1 → IsNodeOf sums (double ∷ []) n → ⊥
  no_node_at_the_plus n at_plus is = each_node (λ m. m.from ≡ 1 → ⊥) (double ∷ [])
      (((λ e. omega (arith, e)), (((λ e. omega (arith, e)), (((λ e. omega (arith, e)), (tt, tt)), tt)), (tt, (((λ e. omega (arith, e)), (tt, tt)), tt)))), tt) n is at_plus

  -- ---- `1+2+`: a fault at the end, and selections in what is settled

  abbrev pub plus_reading : Reading
  plus_reading = record { tokens = tokens_of (0 ∷ 1 ∷ 0 ∷ 1 ∷ []); verdict = FaultAtEnd; trees = double ∷ [] }

  pub plus_is_read : IsReading file (codes "1+2+") plus_reading
  plus_is_read = record {
    tokens = (
      one_digit at 49 43 (codes "2+") (omega arith) (omega arith) refl refl,
      (a_plus_token at (codes "2+"), (one_digit at 50 43 [] (omega arith) (omega arith) refl refl, (a_plus_token at [], refl))),
    );
    verdict = one_more;
    trees = plus_settles;
  }

  plus_fault : Reads file (codes "1+2+") (λ reading. IsDiagnosis Utf16 file (codes "1+2+") reading.tokens reading.verdict
      (Some (record { range = from_to 0 4 0 4; message = codes "unexpected end; expected NUM, LP" })))
  unfolding message position line_of line_start line_from break_ends units
  plus_fault = (plus_reading, plus_is_read, (0 ∷ 2 ∷ [], false, after_plus, refl))

  abbrev parts : List Placed
  parts = placed_parts file plus_reading.tokens

  abbrev Inner : Node → Type 0
  Inner n = Covers parts 2 n → span parts n ≢ (0, 4) → Contains ((0, 3) ∷ (2, 3) ∷ []) (span parts n)

  before_two : (s : ℕ) → Inner (node s 0 1)
  before_two s c d = absurd (omega (arith, c.2))

  abbrev IsInner : ℕ × ℕ → Type 0
  IsInner r = (r ≢ (0, 4)) × (n : Node) × IsNodeOf sums (double ∷ []) n × Covers parts 2 n × (r ≡ span parts n)

  pub three_deep : IsSelectionOf Utf16 file (codes "1+2+") plus_reading.tokens plus_reading.trees 2 (from_to 0 2 0 3 ∷ from_to 0 0 0 3 ∷ from_to 0 0 0 4 ∷ [])
  unfolding position line_of line_start line_from break_ends units
  three_deep = (
    (0, 4) ∷ (0, 3) ∷ (2, 3) ∷ [],
    ((0, 3) ∷ (2, 3) ∷ [], record { nested = nested_so; only = λ r c. from r (Contains-cases (0, 3) ((2, 3) ∷ []) r c); all = λ n is. each n is }, refl),
    refl,
  )
    where
      unequal : (a b c d : ℕ) → (b ≡ d → ⊥) → ◌≡◌ {A = ℕ × ℕ} (a, b) (c, d) → ⊥
      unequal a b c d not e = not (ap (λ (r : ℕ × ℕ). r.1) e)

      nested_so : AllPairs Encloses ((0, 3) ∷ (2, 3) ∷ [])
      nested_so zero zero d l m = absurd (omega (arith, l))
      nested_so zero (suc zero) d l m = (omega arith, omega arith, λ e. (let f : 0 ≡ 2 = ap (λ (r : ℕ × ℕ). r.0) e in omega (arith, f)))
      nested_so zero (suc (suc j)) d l m = absurd (omega (arith, m))
      nested_so (suc i) j d l m = absurd (omega (arith, l, m))

      each : (n : Node) → IsNodeOf sums (double ∷ []) n → Inner n
      each = each_node Inner (double ∷ []) (
        (
          λ c d. Contains-first (0, 3) ((2, 3) ∷ []),
          (
            (before_two 0, ((before_two 1, (tt, tt)), tt)),
            (tt, ((λ c d. Contains-later (0, 3) ((2, 3) ∷ []) (2, 3) (Contains-first (2, 3) []), (tt, tt)), tt)),
          ),
        ),
        tt,
      )

      outer : IsInner (0, 3)
      outer = (unequal 0 3 0 4 (λ e. omega (arith, e)), node 0 0 3, ([], 0, _, _, Top, refl, refl, refl), (omega arith, omega arith, omega arith), refl)

      inner : IsInner (2, 3)
      inner = (unequal 2 3 0 4 (λ e. omega (arith, e)), node 1 2 3, (single ∷ Leaf plus ∷ [], 2, _, _, Below (Past (Past Top)), refl, refl, refl), (omega arith, omega arith, omega arith), refl)

      last : (r : ℕ × ℕ) → ((2, 3) ≡ r) ⊎ Contains [] r → IsInner r
      last r (inl e) = subst (λ q. IsInner q) e inner
      last r (inr c) = absurd (Contains-none r c)

      from : (r : ℕ × ℕ) → ((0, 3) ≡ r) ⊎ Contains ((2, 3) ∷ []) r → IsInner r
      from r (inl e) = subst (λ q. IsInner q) e outer
      from r (inr c) = last r (Contains-cases (2, 3) [] r c)

  abbrev None_covers : Node → Type 0
  None_covers n = Covers parts 4 n → span parts n ≢ (0, 4) → Contains [] (span parts n)

  -- the end of the text is in the whole text alone
  pub at_end : IsSelectionOf Utf16 file (codes "1+2+") plus_reading.tokens plus_reading.trees 4 (from_to 0 0 0 4 ∷ [])
  unfolding position line_of line_start line_from break_ends units
  at_end = ((0, 4) ∷ [], ([], record { nested = λ i j d l m. absurd (omega (arith, l, m)); only = λ r c. absurd (Contains-none r c); all = λ n is. each n is }, refl), refl)
    where
      up_to_three : (s c d : ℕ) → slice_index (map (λ x. x.start + x.token.length) parts) (d - 1) ≤ 4 → None_covers (node s c d)
      up_to_three s c d low covers other = absurd (omega (arith, low, covers.2))

      each : (n : Node) → IsNodeOf sums (double ∷ []) n → None_covers n
      each = each_node None_covers (double ∷ [])
          ((up_to_three 0 0 3 (omega arith), ((up_to_three 0 0 1 (omega arith), ((up_to_three 1 0 1 (omega arith), (tt, tt)), tt)), (tt, ((up_to_three 1 2 3 (omega arith), (tt, tt)), tt)))), tt)

  abbrev place : ℕ → Position
  place c = record { line = 0; character = c }

  pub selections : Reads file (codes "1+2+") (λ reading. AreSelections Utf16 file (codes "1+2+") reading (place 2 ∷ place 4 ∷ [])
      ((from_to 0 2 0 3 ∷ from_to 0 0 0 3 ∷ from_to 0 0 0 4 ∷ []) ∷ (from_to 0 0 0 4 ∷ []) ∷ []))
  unfolding offset line_start line_from break_ends units greatest
  selections = (plus_reading, plus_is_read, (_, _, refl, three_deep, (_, _, refl, at_end, refl)))

  no_position_no_selection : AreSelections Utf16 file (codes "1+2+") plus_reading [] ([] ∷ []) → ⊥
  no_position_no_selection s = absurd (cc s)

  no_position : AreSelections Utf16 file (codes "1+2+") plus_reading [] []
  no_position = refl

  one_selection_less : AreSelections Utf16 file (codes "1+2+") plus_reading (place 2 ∷ []) [] → ⊥
  one_selection_less s = absurd (cc s.2)

  -- ---- edits, and the counts after them

  abbrev pub made : ℕ → ℕ → ℕ → LastEdit
  made n scanned built = record { number = n; scanned = scanned; built = built }

  abbrev pub document : List ℕ → Option LastEdit → OpenDocument
  document text last = record { unit = Utf16; version = pos 2; text = text; last = last }

  abbrev pub counts : ℕ → ℕ → ℕ → ℕ → ℕ → ℕ → Stats
  counts edit scanned tokens branches built nodes =
      record { edit = edit; scanned = scanned; tokens = tokens; branches = branches; built = built; nodes = nodes }

  abbrev triple_reading : Reading
  triple_reading = record { tokens = tokens_of (0 ∷ 1 ∷ 0 ∷ 1 ∷ 0 ∷ []); verdict = HasTree triple; trees = triple ∷ [] }

  abbrev triple_tokens : AreTokens (patterns at) (codes "1+2+3") triple_reading.tokens
  triple_tokens = (
    one_digit at 49 43 (codes "2+3") (omega arith) (omega arith) refl refl,
    (
      a_plus_token at (codes "2+3"),
      (one_digit at 50 43 (codes "3") (omega arith) (omega arith) refl refl, (a_plus_token at (codes "3"), (last_digit at 51 (omega arith) (omega arith) refl, refl))),
    ),
  )

  triple_is_read : IsReading file (codes "1+2+3") triple_reading
  triple_is_read = record { tokens = triple_tokens; verdict = triple_is; trees = refl }

  abbrev longer_reading : Reading
  longer_reading = record { tokens = tokens_of (0 ∷ 1 ∷ 0 ∷ 1 ∷ 0 ∷ 1 ∷ 0 ∷ []); verdict = HasTree quadruple; trees = quadruple ∷ [] }

  longer_is_read : IsReading file (codes "1+2+3+4") longer_reading
  longer_is_read = record {
    tokens = (
      one_digit at 49 43 (codes "2+3+4") (omega arith) (omega arith) refl refl,
      (
        a_plus_token at (codes "2+3+4"),
        (
          one_digit at 50 43 (codes "3+4") (omega arith) (omega arith) refl refl,
          (
            a_plus_token at (codes "3+4"),
            (one_digit at 51 43 (codes "4") (omega arith) (omega arith) refl refl, (a_plus_token at (codes "4"), (last_digit at 52 (omega arith) (omega arith) refl, refl))),
          ),
        ),
      ),
    );
    verdict = quadruple_is;
    trees = refl;
  }

  opened_counts : AreStats file (document (codes "1+2") None) (counts 0 3 3 4 4 1_032)
  opened_counts = record { reading = sum_reading; is = sum_is_read; tokens = refl; branches = refl; last = (refl, refl, refl); nodes = omega arith }

  -- from a text without a fault to another one
  pub appended : IsNext Utf16 file (codes "1+2+3") (Some (from_to 0 5 0 5)) (codes "+4") None (made 1 3 4)
  unfolding changed offset line_start line_from break_ends units greatest
  appended = record {
    old = triple_reading;
    new = longer_reading;
    was = triple_is_read;
    is = longer_is_read;
    makes = record { number = refl; scanned = refl; built = λ above. four_built; all_built = λ not. absurd (not (omega arith)) };
  }

  pub appended_counts : AreStats file (document (codes "1+2+3+4") (Some (made 1 3 4))) (counts 1 3 7 8 4 1_040)
  appended_counts = record { reading = longer_reading; is = longer_is_read; tokens = refl; branches = refl; last = (refl, refl, refl); nodes = omega arith }

  another_next_number : IsNext Utf16 file (codes "1+2+3") (Some (from_to 0 5 0 5)) (codes "+4") None (made 2 3 4) → ⊥
  another_next_number n = omega (arith, n.makes.number)

  -- one node more in memory is too many
  pub one_node_more : AreStats file (document (codes "1+2+3+4") (Some (made 1 3 4))) (counts 1 3 7 8 4 1_041) → ⊥
  one_node_more s = omega (arith, s.nodes)

  another_edit : AreStats file (document (codes "1+2+3+4") (Some (made 1 3 4))) (counts 2 3 7 8 4 1_040) → ⊥
  another_edit s = omega (arith, s.last.0)

  -- to a text with a fault at its end
  dropped : IsNext Utf16 file (codes "1+2+3") (Some (from_to 0 4 0 5)) [] None (made 1 1 0)
  unfolding changed offset line_start line_from break_ends units greatest
  dropped = record {
    old = triple_reading;
    new = plus_reading;
    was = triple_is_read;
    is = plus_is_read;
    makes = record { number = refl; scanned = refl; built = λ above. none_built; all_built = λ not. absurd (not (omega arith)) };
  }

  dropped_counts : AreStats file (document (codes "1+2+") (Some (made 1 1 0))) (counts 1 1 4 4 0 12)
  dropped_counts = record { reading = plus_reading; is = plus_is_read; tokens = refl; branches = refl; last = (refl, refl, refl); nodes = omega arith }

  -- from a text with a fault at its end
  abbrev opened_reading : Reading
  opened_reading = record { tokens = tokens_of (2 ∷ 0 ∷ 1 ∷ 0 ∷ []); verdict = FaultAtEnd; trees = opened }

  opened_is_read : IsReading file (codes "(1+2") opened_reading
  opened_is_read = record { tokens = (a_left_token at (codes "1+2"), sum_tokens); verdict = opened_sum; trees = sum_settles }

  abbrev closed_reading : Reading
  closed_reading = record { tokens = tokens_of (2 ∷ 0 ∷ 1 ∷ 0 ∷ 3 ∷ []); verdict = HasTree (nested double); trees = nested double ∷ [] }

  closed_is_read : IsReading file (codes "(1+2)") closed_reading
  closed_is_read = record {
    tokens = (
      a_left_token at (codes "1+2)"),
      (
        one_digit at 49 43 (codes "2)") (omega arith) (omega arith) refl refl,
        (a_plus_token at (codes "2)"), (one_digit at 50 41 [] (omega arith) (omega arith) refl refl, (a_right_token at [], refl))),
      ),
    );
    verdict = record { root = nested_is double double_is.root; kinds = refl };
    trees = refl;
  }

  closed : IsNext Utf16 file (codes "(1+2") (Some (from_to 0 4 0 4)) (codes ")") None (made 1 2 4)
  unfolding changed offset line_start line_from break_ends units greatest
  closed = record {
    old = opened_reading;
    new = closed_reading;
    was = opened_is_read;
    is = closed_is_read;
    makes = record { number = refl; scanned = refl; built = λ above. four_closed; all_built = λ not. absurd (not (omega arith)) };
  }

  closed_counts : AreStats file (document (codes "(1+2)") (Some (made 1 2 4))) (counts 1 2 5 6 4 12)
  closed_counts = record { reading = closed_reading; is = closed_is_read; tokens = refl; branches = refl; last = (refl, refl, refl); nodes = omega arith }

  -- to a text with a fault at its first token, and back as the second edit
  abbrev early_reading : Reading
  early_reading = record { tokens = tokens_of (3 ∷ 0 ∷ 1 ∷ 0 ∷ 1 ∷ 0 ∷ []); verdict = FaultAt 0; trees = [] }

  early_is_read : IsReading file (codes ")1+2+3") early_reading
  early_is_read = record { tokens = (a_right_token at (codes "1+2+3"), triple_tokens); verdict = closed_at_first; trees = none_settled }

  early : IsNext Utf16 file (codes "1+2+3") (Some (from_to 0 0 0 0)) (codes ")") None (made 1 1 0)
  unfolding changed offset line_start line_from break_ends units greatest
  early = record {
    old = triple_reading;
    new = early_reading;
    was = triple_is_read;
    is = early_is_read;
    makes = record { number = refl; scanned = refl; built = λ above. Nothing; all_built = λ not. absurd (not (omega arith)) };
  }

  early_counts : AreStats file (document (codes ")1+2+3") (Some (made 1 1 0))) (counts 1 1 6 0 0 12)
  early_counts = record { reading = early_reading; is = early_is_read; tokens = refl; branches = refl; last = (refl, refl, refl); nodes = omega arith }

  back : IsNext Utf16 file (codes ")1+2+3") (Some (from_to 0 0 0 1)) [] (Some (made 1 1 0)) (made 2 0 6)
  unfolding changed offset line_start line_from break_ends units greatest
  back = record {
    old = early_reading;
    new = triple_reading;
    was = early_is_read;
    is = triple_is_read;
    makes = record { number = refl; scanned = refl; built = λ above. all_of_three; all_built = λ not. absurd (not (inl (omega arith))) };
  }

  back_counts : AreStats file (document (codes "1+2+3") (Some (made 2 0 6))) (counts 2 0 5 6 6 12)
  back_counts = record { reading = triple_reading; is = triple_is_read; tokens = refl; branches = refl; last = (refl, refl, refl); nodes = omega arith }

  -- where the numbers have ended and the edit before made a node, all is built
  abbrev greatest_number : ℕ
  greatest_number = 18_446_744_073_709_551_615

  ended : Makes file (record { at = 0; removed = 1; inserted = 0; number = greatest_number }) (Some (made greatest_number 1 1)) early_reading triple_reading (made greatest_number 0 6)
  ended = record { number = refl; scanned = refl; built = λ above. all_of_three; all_built = λ not. refl }

  none_of_all : Makes file (record { at = 0; removed = 1; inserted = 0; number = greatest_number }) (Some (made greatest_number 1 1)) triple_reading triple_reading (made greatest_number 0 0) → ⊥
  none_of_all m = omega (arith, m.all_built not_above)
    where
      not_above : ¬ IsAbove (Some (made greatest_number 1 1)) greatest_number
      not_above (inl l) = omega (arith, l)
      not_above (inr e) = omega (arith, e.1)

  another_number : Makes file (record { at = 0; removed = 1; inserted = 0; number = 2 }) None early_reading triple_reading (made 1 0 6) → ⊥
  another_number m = omega (arith, m.number)

  more_scanned : Makes file (record { at = 0; removed = 1; inserted = 0; number = 1 }) None early_reading triple_reading (made 1 1 6) → ⊥
  more_scanned m = omega (arith, m.scanned)

  -- numbers of edits
  numbers : (number_of None ≡ 0) × (number_of (Some (made 4 9 9)) ≡ 4) × (number_after None ≡ 1) × (number_after (Some (made 4 9 9)) ≡ 5)
      × (number_after (Some (made greatest_number 9 9)) ≡ greatest_number) × (number_after (Some (made (greatest_number - 1) 9 9)) ≡ greatest_number)
  numbers = (refl, refl, refl, refl, refl, refl)

  above_none : IsAbove None 1
  above_none = omega arith

  above_with_nothing_built : IsAbove (Some (made 3 9 0)) 3
  above_with_nothing_built = inr (refl, refl)

  not_above_with_something_built : ¬ IsAbove (Some (made 3 9 1)) 3
  not_above_with_something_built (inl l) = omega (arith, l)
  not_above_with_something_built (inr e) = omega (arith, e.1)

  not_above_what_is_later : ¬ IsAbove (Some (made 4 9 0)) 3
  not_above_what_is_later (inl l) = omega (arith, l)
  not_above_what_is_later (inr e) = omega (arith, e.0)

  edits : (edit_of Utf16 (codes "1+2+3") (Some (from_to 0 5 0 5)) (codes "+4") 7 ≡ record { at = 5; removed = 0; inserted = 2; number = 7 })
      × (edit_of Utf16 (codes "1+2") (Some (from_to 0 3 0 1)) [] 1 ≡ record { at = 1; removed = 2; inserted = 0; number = 1 })
      × (edit_of Utf16 (codes "1+2") None (codes "9") 1 ≡ record { at = 0; removed = 3; inserted = 1; number = 1 })
  unfolding offset line_start line_from break_ends units greatest
  edits = (refl, refl, refl)

  opening_is_edit_0 : ReportsLast None (counts 1 3 3 4 4 12) → ⊥
  opening_is_edit_0 r = omega (arith, r.0)

  opening_makes_all : ReportsLast None (counts 0 3 3 4 0 12) → ⊥
  opening_makes_all r = omega (arith, r.2)

  last_is_reported : ReportsLast (Some (made 4 3 2)) (counts 4 3 7 8 2 12)
  last_is_reported = (refl, refl, refl)

  last_scanned_is_reported : ReportsLast (Some (made 4 3 2)) (counts 4 4 7 8 2 12) → ⊥
  last_scanned_is_reported r = omega (arith, r.1)

  nodes_left_out : without_nodes (counts 1 3 7 8 4 12) ≡ counts 1 3 7 8 4 0
  nodes_left_out = refl

-- a text fits up to 1,048,576 bytes, and where each character is a Unicode scalar value
small_fits : (fits [] ≡ true) × (fits (0x1_F600 ∷ []) ≡ true) × (fits (0xD800 ∷ []) ≡ false)
unfolding encode_utf8
small_fits = (refl, refl, refl)

greatest_fits : (t : List ℕ) → all_scalars t ≡ true → length (encode_utf8_all t) ≡ 1_048_576 → fits t ≡ true
greatest_fits t scalars long = ap (λ b. b && nat_le (length (encode_utf8_all t)) 1_048_576) scalars ∙ ap (λ n. nat_le n 1_048_576) long

too_large : (t : List ℕ) → all_scalars t ≡ true → length (encode_utf8_all t) ≡ 1_048_577 → fits t ≡ false
too_large t scalars long = ap (λ b. b && nat_le (length (encode_utf8_all t)) 1_048_576) scalars ∙ ap (λ n. nat_le n 1_048_576) long
