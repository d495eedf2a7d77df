use Rattle.colours.proofs.Std.{◌+◌, ◌≡◌, ◌∙◌, ◌∷◌, [], ap, arith, length, length-append, subst, sym}
use Rattle.colours.proofs.Common.{ends_break, Position}
use Rattle.colours.proofs.NextPosition.{line-same}
use Rattle.colours.proofs.Stepping.{caught, ends-more, few_plain, here, place-break, place-plain, small_character, small_line, step-one, step-plain}
use Rattle.colours.specs.Steps.{AreEnds}
use Rattle.colours.proofs.steps.Steps.go_on.Goals.{After-ends_break}
use Rattle.colours.proofs.steps.Steps.go_on.Goals as goal

-- whether a break ends after the character
breaks : (c : After-ends_break) → ends_break c.in-Some.c c.self.inside.ahead ≡ c.ends_break.result
breaks c =
    let feed = c.is_before_feed.ensures c.self.inside.ahead c.look.new.ahead c.look.ensures.plain c.look.ensures.behind in
    sym (c.ends_break.ensures c.self.inside.ahead feed)

pub after_plain-self-inside-requires : goal.after_plain-self-inside-requires
after_plain-self-inside-requires c = let h = c.self.invariant in omega (arith, small_character _ _ _ _ _ _ _ _ _ h, few_plain _ _ _ _ _ _ _ _ _ h, c.min-count.ensures)

pub invariant_of-self : goal.invariant_of-self
invariant_of-self c =
    step-plain _ _ _ _ _ _ _ _ _ c.self.invariant c.min-count.result (omega (arith, c.min-count.ensures))
    c.after_plain-self-inside.result c.after_plain-self-inside.ensures

pub returns-then-self-gt0-clause-last : goal.returns-then-self-gt0-clause-last
returns-then-self-gt0-clause-last c =
    let h = c.self.invariant in
    caught _ _ c.self.view_is c.requires.last ∙ sym (ap (λ (p : Position). p.line) h.is)
    ∙ ap (λ (p : Position). p.line) (place-plain _ _ _ _ _ _ _ _ _ h c.min-count.result (omega (arith, c.min-count.ensures)))

pub after-self-inside-requires : goal.after-self-inside-requires
after-self-inside-requires c = omega (arith, small_character _ _ _ _ _ _ _ _ _ c.self.invariant)

pub invariant_of-self-then-not-ends_break : goal.invariant_of-self-then-not-ends_break
invariant_of-self-then-not-ends_break c =
    let h = c.self.invariant in
    let none : c.self.inside.plain ≡ 0 = omega (arith, c.if-self-gt0.false) in
    let there = here _ _ _ _ _ _ _ _ _ h c.in-Some.c none c.in-Some.is in
    let on = breaks (goal.at.invariant_of-self-then-not-ends_break c).After-ends_break ∙ c.if-not-ends_break.true in
    step-one _ _ _ _ _ _ _ _ _ h c.in-Some.c none c.in-Some.is c.look.result.0 c.look.result.1 c.look.new.ahead c.self.inside.ends.items c.after-self-inside.result
    c.look.ensures.plain c.look.ensures.within c.look.ensures.behind (c.after-self-inside.ensures c.self.inside.text.now c.self.inside.ahead c.self.inside.offset there on h.is) h.known

pub returns-then-not-ends_break-clause-last : goal.returns-then-not-ends_break-clause-last
returns-then-not-ends_break-clause-last c =
    let h = c.self.invariant in
    let none : c.self.inside.plain ≡ 0 = omega (arith, c.if-self-gt0.false) in
    let there = here _ _ _ _ _ _ _ _ _ h c.in-Some.c none c.in-Some.is in
    let on = breaks (goal.at.returns-then-not-ends_break-clause-last c).After-ends_break ∙ c.if-not-ends_break.true in
    caught _ _ c.self.view_is c.requires.last ∙ sym (ap (λ (p : Position). p.line) h.is)
    ∙ line-same c.self.inside.unit c.self.inside.text.now c.self.inside.ahead c.self.inside.offset c.in-Some.c c.self.inside.position there h.is on

pub overflow_add-self-3 : goal.overflow_add-self-3
overflow_add-self-3 c = omega (arith, small_line _ _ _ _ _ _ _ _ _ c.self.invariant)

pub invariant_of-self-in_err-push : goal.invariant_of-self-in_err-push
invariant_of-self-in_err-push c =
    let h = c.self.invariant in
    let none : c.self.inside.plain ≡ 0 = omega (arith, c.if-self-gt0.false) in
    let on = breaks (goal.at.invariant_of-self-in_err-push c).After-ends_break ∙ c.if-not-ends_break.false in
    step-one _ _ _ _ _ _ _ _ _ h c.in-Some.c none c.in-Some.is c.look.result.0 c.look.result.1 c.look.new.ahead c.push.new.self.items
    (record { line = c.self.inside.position.line + 1; character = 0 })
    c.look.ensures.plain c.look.ensures.within c.look.ensures.behind (place-break _ _ _ _ _ _ _ _ _ h c.in-Some.c none c.in-Some.is on)
    (subst (AreEnds c.self.inside.unit c.self.inside.text.now c.self.inside.first) (sym c.in_err-push.ensures.items) h.known)

pub invariant_of-self-2 : goal.invariant_of-self-2
invariant_of-self-2 c =
    let h = c.self.invariant in
    let none : c.self.inside.plain ≡ 0 = omega (arith, c.if-self-gt0.false) in
    let on = breaks (goal.at.invariant_of-self-2 c).After-ends_break ∙ c.if-not-ends_break.false in
    step-one _ _ _ _ _ _ _ _ _ h c.in-Some.c none c.in-Some.is c.look.result.0 c.look.result.1 c.look.new.ahead c.push.new.self.items
    (record { line = c.self.inside.position.line + 1; character = 0 })
    c.look.ensures.plain c.look.ensures.within c.look.ensures.behind (place-break _ _ _ _ _ _ _ _ _ h c.in-Some.c none c.in-Some.is on)
    (subst (AreEnds c.self.inside.unit c.self.inside.text.now c.self.inside.first) (sym c.in_ok-push.ensures.items)
    (ends-more _ _ _ _ _ _ _ _ _ h c.in-Some.c none c.in-Some.is (caught _ _ c.self.view_is c.requires.last ∙ sym (ap (λ (p : Position). p.line) h.is)) on))

pub returns-clause-last : goal.returns-clause-last
returns-clause-last c =
    let h = c.self.invariant in
    let none : c.self.inside.plain ≡ 0 = omega (arith, c.if-self-gt0.false) in
    let on = breaks (goal.at.returns-clause-last c).After-ends_break ∙ c.if-not-ends_break.false in
    let before : c.self.inside.first + length c.self.inside.ends.items ≡ c.self.inside.position.line =
    caught _ _ c.self.view_is c.requires.last ∙ sym (ap (λ (p : Position). p.line) h.is) in
    omega (
      arith,
      before,
      ap length c.in_ok-push.ensures.items,
      length-append c.self.inside.ends.items (c.self.inside.position.character ∷ []),
      ap (λ (p : Position). p.line) (place-break _ _ _ _ _ _ _ _ _ h c.in-Some.c none c.in-Some.is on),
    )
