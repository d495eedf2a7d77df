-- The sums of parts of a text are a monoid, a goal that one reaches stays reached, and bytes add up.
use Rattle.std.specs.Prelude.{◌≡◌, ℕ, zero, suc, ◌<◌, ◌≤◌, ◌⊎◌, true, not, ◌||◌, ◌&&◌, ◌==◌, nat_lt, if◌then◌else◌, refl}
use Rattle.std.proofs.Common.{ap, sym, ◌∙◌, inl, inr, arith}
use Rattle.std.proofs.lemmas.Bool.{ltb-true, lt-ltb, or_cases, and_parts, eqb-true, false≢true, and_from, or_left, or_right, eq-eqb}
use Rattle.std.proofs.lemmas.List.Sums.{sum_by-append}
use Rattle.std.proofs.lemmas.Str.{len_utf8_bounds}
use Rattle.seqtree.specs.Chunks.{IsMeasure}
use Rattle.seqtree.specs.Monoid.{MonoidLaws}
use Rattle.seqtree.specs.Goal.{StaysReached}
use Rattle.seqtree.specs.Saturated.{saturated-zero_right, saturated-assoc}
use Rattle.definitions.specs.declared.Unit.{Unit as Encoding}
use Rattle.definitions.specs.declared.Unit.TheVariants.{Utf8, Utf16, Utf32}
use Rattle.definitions.specs.Text.{unit, units}
use Rattle.pieces.specs.declared.piece.TheConstants.{LONGEST_PIECE, SHORTEST_OF_SEVERAL}
use Rattle.pieces.specs.declared.sums.Units.{Units}
use Rattle.pieces.specs.declared.sums.Counts.{Counts}
use Rattle.pieces.specs.declared.sums.Sums.{Sums}
use Rattle.pieces.specs.declared.sums.Sums.TheVariants.{Empty, Filled}
use Rattle.pieces.specs.Sums.{most, sum, units_joined, count_of, later_breaks, after_joined, counts_joined, joined, is_after_character}
use Rattle.pieces.specs.Sums.{is_after_position}

sum_assoc : (a b c : ℕ) → sum (sum a b) c ≡ sum a (sum b c)
sum_assoc a b c = saturated-assoc most a b c

sum_ge : (a b : ℕ) → a ≤ sum a b
sum_ge a b = omega arith

units_assoc : (a b c : Units) → units_joined (units_joined a b) c ≡ units_joined a (units_joined b c)
units_assoc a b c = λ i. record {
  utf8 = sum_assoc a.utf8 b.utf8 c.utf8 i;
  utf16 = sum_assoc a.utf16 b.utf16 c.utf16 i;
  utf32 = sum_assoc a.utf32 b.utf32 c.utf32 i;
}

-- where a number of breaks is not 0, what comes after the last one is of the second part
pub after_later : (n : ℕ) (a b : Units) → 1 ≤ n → after_joined n a b ≡ b
after_later zero a b h = absurd (omega arith)
after_later (suc n) a b h = refl

after_assoc : (m n : ℕ) (a b c : Units) → after_joined n (after_joined m a b) c ≡ after_joined (sum m n) a (after_joined n b c)
after_assoc zero zero a b c = units_assoc a b c
after_assoc (suc m) zero a b c = sym (after_later (sum (suc m) 0) a (units_joined b c) (omega arith))
after_assoc m (suc n) a b c = sym (after_later (sum m (suc n)) a c (omega arith))

counts_assoc : (a b c : Counts) → counts_joined (counts_joined a b) c ≡ counts_joined a (counts_joined b c)
counts_assoc a b c =
    let more : later_breaks a (counts_joined b c) ≡ sum (later_breaks a b) (later_breaks b c) = sym
    (sum_assoc (if a.ends_with_return && not b.begins_with_feed then 1 else 0) b.breaks (later_breaks b c)) in
    let breaks : sum (sum a.breaks (later_breaks a b)) (later_breaks b c) ≡ sum a.breaks
    (later_breaks a (counts_joined b c)) = sum_assoc a.breaks (later_breaks a b) (later_breaks b c) ∙ ap (sum a.breaks) (sym more) in
    let units_after : after_joined (later_breaks b c) (after_joined (later_breaks a b) a.units_after b.units_after) c.units_after
    ≡ after_joined (later_breaks a (counts_joined b c)) a.units_after (after_joined (later_breaks b c) b.units_after c.units_after) =
    after_assoc (later_breaks a b) (later_breaks b c) a.units_after b.units_after c.units_after
    ∙ ap (λ n. after_joined n a.units_after (after_joined (later_breaks b c) b.units_after c.units_after)) (sym more) in
    λ i. record {
      characters = sum_assoc a.characters b.characters c.characters i;
      bytes = sum_assoc a.bytes b.bytes c.bytes i;
      breaks = breaks i;
      units_after = units_after i;
      begins_with_feed = a.begins_with_feed;
      ends_with_return = c.ends_with_return;
    }

right_unit : (x : Sums) → joined x Empty ≡ x
right_unit Empty = refl
right_unit (Filled a) = refl

pub joined-assoc : (x y z : Sums) → joined (joined x y) z ≡ joined x (joined y z)
joined-assoc Empty y z = refl
joined-assoc (Filled a) Empty z = refl
joined-assoc (Filled a) (Filled b) Empty = refl
joined-assoc (Filled a) (Filled b) (Filled c) = ap Filled (counts_assoc a b c)

pub sums_laws : MonoidLaws Empty joined
sums_laws = record { left_unit = λ x. refl; right_unit = right_unit; assoc = joined-assoc }

pub after_character_stays : StaysReached joined is_after_character
after_character_stays g Empty r h = absurd (false≢true h)
after_character_stays g (Filled a) Empty h = h
after_character_stays g (Filled a) (Filled b) h = let p = ltb-true g.offset a.characters h in lt-ltb _ _
    (let q = sum_ge a.characters b.characters in omega arith)

count_of-ge : (unit : Encoding) (a b : Units) → count_of unit a ≤ count_of unit (units_joined a b)
count_of-ge Utf8 a b = sum_ge a.utf8 b.utf8
count_of-ge Utf16 a b = sum_ge a.utf16 b.utf16
count_of-ge Utf32 a b = sum_ge a.utf32 b.utf32

-- the end of a part with more after it has no lesser position
later : (unit : Encoding) (line character breaks m : ℕ) (a b : Units) → breaks ≡ line → line < most → character < count_of unit a
    → (nat_lt line (sum breaks m)
    || ((sum breaks m == line && nat_lt line most) && nat_lt character (count_of unit (after_joined m a b)))) ≡ true
later unit line character breaks zero a b same few more =
    let stays : sum breaks 0 ≡ line = saturated-zero_right most breaks ∙ same in
    let up : character < count_of unit (units_joined a b) = omega (arith, more, count_of-ge unit a b) in
    or_right _ _ (and_from _ _ (and_from _ _ (eq-eqb (sum breaks 0) line stays) (lt-ltb _ _ few)) (lt-ltb _ _ up))
later unit line character breaks (suc m) a b same few more =
    let up : line < sum breaks (suc m) = omega (arith, same, few) in
    or_left _ _ (lt-ltb _ _ up)

pub after_position_stays : StaysReached joined is_after_position
after_position_stays g Empty r h = absurd (false≢true h)
after_position_stays g (Filled a) Empty h = h
after_position_stays g (Filled a) (Filled b) h = go (or_cases _ _ h)
  where
    go : (nat_lt g.position.line a.breaks ≡ true)
        ⊎ (((a.breaks == g.position.line && nat_lt g.position.line most)
        && nat_lt g.position.character (count_of g.unit a.units_after)) ≡ true) → is_after_position g (Filled (counts_joined a b)) ≡ true
    go (inl p) =
        let up : g.position.line < sum a.breaks (later_breaks a b) = omega (arith, ltb-true _ _ p, sum_ge a.breaks (later_breaks a b)) in
        or_left _ _ (lt-ltb _ _ up)
    go (inr p) =
        let parts = and_parts _ _ p in
        let line = and_parts _ _ parts.0 in
        later g.unit g.position.line g.position.character a.breaks (later_breaks a b) a.units_after b.units_after (eqb-true _ _ line.0)
        (ltb-true _ _ line.1) (ltb-true _ _ parts.1)

-- the bytes of texts add up
pub bytes_measure : IsMeasure (units Utf8) SHORTEST_OF_SEVERAL LONGEST_PIECE
unfolding units
bytes_measure = record {
  adds = λ s t. sum_by-append (unit Utf8) s t;
  each = λ c. omega (arith, len_utf8_bounds c);
  some = omega arith;
  halves = omega arith;
}
