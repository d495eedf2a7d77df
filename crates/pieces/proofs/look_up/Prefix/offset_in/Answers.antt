use Rattle.pieces.proofs.Std.{chars, false≢true, YieldsList-from_chars, append_assoc, arith, refl, sym, ap, subst, ◌∙◌, cond, ◌≡◌, ◌-◌, ◌+◌, ◌^◌, ◌≤◌, ◌&&◌, ◌==◌, ℕ, List, ◌∷◌, ◌++◌, [], length, drop}
use Rattle.pieces.proofs.Common.{offset, units, Position, Encoding, Utf8, Prefix, prefix_of, with_ones, room, IsPast, end_before_feed}
use Rattle.pieces.proofs.KnownPrefix.{few_prefix, no_ones, ones-more, room-not_past}
use Rattle.pieces.proofs.Offsets.{offset-step}
use Rattle.pieces.proofs.CharacterLoops.{IsTurn, turn-from, all-from, turn-whole, few-turn}
use Rattle.pieces.proofs.look_up.Prefix.offset_in.Goals.{In-Some}
use Rattle.pieces.proofs.look_up.Prefix.offset_in.Goals as goal

-- what was gone over so far is not past the position
not_past : (encoding : Encoding) (p : Position) (t : List ℕ) (prefix : Prefix) (left ones : ℕ) → ones ≤ left → left ≡ room prefix p
    → with_ones prefix ones ≡ prefix_of encoding t → ¬ IsPast p prefix.end → ¬ IsPast p (end_before_feed encoding t)
not_past encoding p t prefix left ones few left_is is before = subst (λ f. ¬ IsPast p f.end) is (room-not_past p prefix ones before (omega (arith, few, left_is)))

-- the loop's turn
turn : (c : In-Some) → IsTurn (chars c.args.text.now) c.loop-c.yielded c.in-Some.c
turn c = turn-from (YieldsList-from_chars c.args.text.now c.utf8.text cc) c.loop-c.yielded _ c.loop-c.yielded_by _ _ c.in-Some.c c.in-Some.is c.next.ensures.steps

pub loop-c-preserved-then-goes_on : goal.loop-c-preserved-then-goes_on
loop-c-preserved-then-goes_on c =
    let yielded : List ℕ = c.loop-c.yielded in
    let here = turn (goal.at.loop-c-preserved-then-goes_on c).In-Some in
    record {
      few = omega (arith, c.if-ones-room.true);
      room = c.loop-c.invariant.room;
      prefix =
          λ s few is before.
          let prefix = c.loop-c.invariant.prefix s few is before in (
            ones-more c.args.unit (s ++ yielded) c.in-Some.c c.loop-c.prefix c.loop-c.ones (few-turn s (2 ^ 30) here few) (sym c.if-goes_on.ensures) prefix.0
                ∙ ap (prefix_of c.args.unit) (append_assoc s yielded (c.in-Some.c ∷ [])),
            prefix.1,
          );
    }

pub loop-c-preserved : goal.loop-c-preserved
loop-c-preserved c =
    let yielded : List ℕ = c.loop-c.yielded in
    let here = turn (goal.at.loop-c-preserved c).In-Some in
    record {
      few = omega arith;
      room = c.room-room-in-loop-c.ensures;
      prefix =
          λ s few is before.
          let prefix = c.loop-c.invariant.prefix s few is before in
          let short : units Utf8 ((s ++ yielded) ++ c.in-Some.c ∷ []) ≤ 2 ^ 30 = few-turn s (2 ^ 30) here few in
          let is_here : c.with_ones-here.result ≡ prefix_of c.args.unit (s ++ yielded) =
          c.with_ones-here.ensures c.args.unit (s ++ yielded) (few_prefix (s ++ yielded) c.in-Some.c (2 ^ 30) short) prefix.0 in (
            no_ones c.with-longer.result
                ∙ c.with-longer.ensures (s ++ yielded) short is_here
                ∙ ap (prefix_of c.args.unit) (append_assoc s yielded (c.in-Some.c ∷ [])),
            λ past. false≢true (c.if-is_past.ensures.1 past),
          );
    }

pub returns-then-is_past : goal.returns-then-is_past
returns-then-is_past c =
    let t : List ℕ = chars c.args.text.now in
    let yielded : List ℕ = c.loop-c.yielded in
    let here = turn (goal.at.returns-then-is_past c).In-Some in
    λ s r few is before after.
    let prefix = c.loop-c.invariant.prefix s few is before in
    let none_past = not_past c.args.unit c.args.position (s ++ yielded) c.loop-c.prefix c.loop-c.room c.loop-c.ones c.loop-c.invariant.few c.loop-c.invariant.room prefix.0 prefix.1 in
    let short : units Utf8 ((s ++ yielded) ++ c.in-Some.c ∷ []) ≤ 2 ^ 30 = few-turn s (2 ^ 30) here few in
    let is_here : c.with_ones-here.result ≡ prefix_of c.args.unit (s ++ yielded) =
    c.with_ones-here.ensures c.args.unit (s ++ yielded) (few_prefix (s ++ yielded) c.in-Some.c (2 ^ 30) short) prefix.0 in
    let past : IsPast c.args.position (end_before_feed c.args.unit ((s ++ yielded) ++ c.in-Some.c ∷ [])) =
    subst (IsPast c.args.position) (ap (λ f. f.end) (c.with-longer.ensures (s ++ yielded) short is_here)) (c.if-is_past.ensures.0 refl) in
    let whole : (s ++ yielded) ++ c.in-Some.c ∷ (drop (length yielded + 1) t ++ r) ≡ (s ++ t) ++ r =
    sym (append_assoc (s ++ yielded) (c.in-Some.c ∷ drop (length yielded + 1) t) r)
    ∙ ap (λ l. l ++ r) (append_assoc s yielded (c.in-Some.c ∷ drop (length yielded + 1) t) ∙ ap (λ l. s ++ l) (turn-whole here)) in
    c.end_in_line.ensures
    ∙ ap (λ f. f.characters - cond (f.ends_with_return && (f.end.line == c.args.position.line)) 1 0) is_here
    ∙ sym (offset-step c.args.unit c.args.position (s ++ yielded) (drop (length yielded + 1) t ++ r) c.in-Some.c none_past past)
    ∙ ap (λ l. offset c.args.unit l c.args.position) whole

pub returns : goal.returns
returns c =
    let whole : c.loop-c.yielded ≡ chars c.args.text.now =
    all-from (YieldsList-from_chars c.args.text.now c.utf8.text cc) c.loop-c.yielded _ c.loop-c.yielded_by _ _ c.in-None.is c.next.ensures.steps in
    λ s r few is before after.
    let prefix = c.loop-c.invariant.prefix s few is before in
    let none_past = not_past c.args.unit c.args.position (s ++ c.loop-c.yielded) c.loop-c.prefix c.loop-c.room c.loop-c.ones c.loop-c.invariant.few c.loop-c.invariant.room prefix.0 prefix.1 in
    absurd (none_past (subst (λ l. IsPast c.args.position (end_before_feed c.args.unit (s ++ l))) (sym whole) after))
