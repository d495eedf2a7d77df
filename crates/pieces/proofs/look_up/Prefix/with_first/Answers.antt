use Rattle.pieces.proofs.Std.{chars, YieldsList-from_chars, append-nil, append_assoc, length_push, take_all, drop_all, arith, sym, ap, ◌∙◌, ◌≡◌, ◌^◌, ◌≤◌, ℕ, List, ◌∷◌, ◌++◌, [], length, take, drop}
use Rattle.pieces.proofs.Common.{begins_with, units, Utf8, prefix_of}
use Rattle.pieces.proofs.Joins.{turned}
use Rattle.pieces.proofs.KnownPrefix.{few_prefix, no_ones, ones-more}
use Rattle.pieces.proofs.CharacterLoops.{IsTurn, turn-from, all-from, turn-rest, few-take, few-turn}
use Rattle.pieces.proofs.look_up.Prefix.with_first.Goals.{In-Some, In-None}
use Rattle.pieces.proofs.look_up.Prefix.with_first.Goals as goal

-- the loop's turn
turn : (c : In-Some) → IsTurn (chars c.args.text.now) c.loop-c.yielded c.in-Some.c
turn c = turn-from (YieldsList-from_chars c.args.text.now c.utf8.text cc) c.loop-c.yielded _ c.loop-c.yielded_by _ _ c.in-Some.c c.in-Some.is c.next.ensures.steps

-- all characters, after its last turn
whole : (c : In-None) → c.loop-c.yielded ≡ chars c.args.text.now
whole c = all-from (YieldsList-from_chars c.args.text.now c.utf8.text cc) c.loop-c.yielded _ c.loop-c.yielded_by _ _ c.in-None.is c.next.ensures.steps

pub loop-c-init : goal.loop-c-init
loop-c-init c = record { counted = omega arith; prefix = λ s few is. no_ones c.args.self ∙ is ∙ ap (prefix_of c.args.unit) (sym (append-nil s)) }

pub loop-c-preserved-then-goes_on : goal.loop-c-preserved-then-goes_on
loop-c-preserved-then-goes_on c =
    let yielded : List ℕ = c.loop-c.yielded in
    let here = turn (goal.at.loop-c-preserved-then-goes_on c).In-Some in
    record {
      counted = omega (arith, c.loop-c.invariant.counted, c.if-left-eq0.false, length_push yielded c.in-Some.c);
      prefix =
          λ s few is.
          ones-more c.args.unit (s ++ yielded) c.in-Some.c c.loop-c.prefix c.loop-c.ones (few-turn s (2 ^ 30) here few) (sym c.if-goes_on.ensures) (c.loop-c.invariant.prefix s few is)
          ∙ ap (prefix_of c.args.unit) (append_assoc s yielded (c.in-Some.c ∷ []));
    }

pub loop-c-preserved : goal.loop-c-preserved
loop-c-preserved c =
    let yielded : List ℕ = c.loop-c.yielded in
    let here = turn (goal.at.loop-c-preserved c).In-Some in
    record {
      counted = omega (arith, c.loop-c.invariant.counted, c.if-left-eq0.false, length_push yielded c.in-Some.c);
      prefix =
          λ s few is.
          let short : units Utf8 ((s ++ yielded) ++ c.in-Some.c ∷ []) ≤ 2 ^ 30 = few-turn s (2 ^ 30) here few in
          no_ones c.with-prefix.result
          ∙ c.with-prefix.ensures (s ++ yielded) short
          (c.with_ones-in-loop-c.ensures c.args.unit (s ++ yielded) (few_prefix (s ++ yielded) c.in-Some.c (2 ^ 30) short) (c.loop-c.invariant.prefix s few is))
          ∙ ap (prefix_of c.args.unit) (append_assoc s yielded (c.in-Some.c ∷ []));
    }

pub returns-then-left-eq0-clause-prefix : goal.returns-then-left-eq0-clause-prefix
returns-then-left-eq0-clause-prefix c =
    let same : length c.loop-c.yielded ≡ c.args.count = omega (arith, c.loop-c.invariant.counted, c.if-left-eq0.true) in
    let t : List ℕ = chars c.args.text.now in
    let here = turn (goal.at.returns-then-left-eq0-clause-prefix c).In-Some in
    λ s few is.
    c.with_ones.ensures c.args.unit (s ++ take c.args.count t) (few-take s t c.args.count (2 ^ 30) few)
    (c.loop-c.invariant.prefix s few is ∙ ap (λ l. prefix_of c.args.unit (s ++ l)) (here.so_far ∙ ap (λ n. take n t) same))

pub returns-then-left-eq0-clause-feed : goal.returns-then-left-eq0-clause-feed
returns-then-left-eq0-clause-feed c =
    let same : length c.loop-c.yielded ≡ c.args.count = omega (arith, c.loop-c.invariant.counted, c.if-left-eq0.true) in
    let t : List ℕ = chars c.args.text.now in
    let here = turn (goal.at.returns-then-left-eq0-clause-feed c).In-Some in
    turned c.in-Some.c 10 ∙ ap (begins_with 10) (turn-rest here ∙ ap (λ n. drop n t) same)

pub returns-clause-prefix : goal.returns-clause-prefix
returns-clause-prefix c =
    let t : List ℕ = chars c.args.text.now in
    let all = whole (goal.at.returns-clause-prefix c).In-None in
    let few : length t ≤ c.args.count = omega (arith, c.loop-c.invariant.counted, ap length all) in
    λ s fits is.
    c.with_ones-2.ensures c.args.unit (s ++ take c.args.count t) (few-take s t c.args.count (2 ^ 30) fits)
    (c.loop-c.invariant.prefix s fits is ∙ ap (λ l. prefix_of c.args.unit (s ++ l)) (all ∙ sym (take_all c.args.count t few)))

pub returns-clause-feed : goal.returns-clause-feed
returns-clause-feed c =
    let t : List ℕ = chars c.args.text.now in
    let few : length t ≤ c.args.count = omega (arith, c.loop-c.invariant.counted, ap length (whole (goal.at.returns-clause-feed c).In-None)) in
    sym (ap (begins_with 10) (drop_all c.args.count t few))
