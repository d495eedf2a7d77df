use Rattle.views.proofs.Std.{ℕ, List, sym, ap, ◌≡◌, ◌∙◌, ◌++◌, ◌∷◌, [], map, append_assoc, reverse, push, append-nil, map-append, nil_from_length, reverse-append}
use Rattle.views.proofs.Common.{Range, range_of}
use Rattle.views.proofs.selections.ranges_of.Goals as goal

one_more : (f : ℕ × ℕ → Range) (reported : List Range) (old rest : List (ℕ × ℕ)) (x : ℕ × ℕ) → old ≡ push rest x → (reported ++ f x ∷ []) ++ reverse (map f rest) ≡ reported ++ reverse (map f old)
one_more f reported old rest x e =
    append_assoc reported (f x ∷ []) (reverse (map f rest))
    ∙ ap (λ rs. reported ++ rs) (sym (reverse-append (map f rest) (f x ∷ [])) ∙ ap reverse (sym (map-append f rest (x ∷ []))) ∙ ap (λ xs. reverse (map f xs)) (sym e))

pub loop-start-init : goal.loop-start-init
loop-start-init c =
    let f = range_of c.args.unit c.args.text.now in
    let all = ap (λ (r : List (ℕ × ℕ)). reverse (map f r)) (ap (λ r. r.iter.rest.now) c.into_iter-start-iterator.ensures.into_iter_gives
    ∙ ap (λ r. r.rest.now) c.rev-start-items.ensures.source ∙ c.iter.ensures.rest) in
    ap (λ rs. rs ++ reverse (map f c.into_iter-start-iterator.result.iter.rest.now)) c.in_ok-ranges.ensures.items ∙ all

pub loop-start-preserved : goal.loop-start-preserved
loop-start-preserved c =
    let f = range_of c.args.unit c.args.text.now in
    let x = c.in-Some.field-0.now in
    let range : f x ≡ record { start = c.position.result; end = c.position-in-loop-start.result } = λ i. record { start = sym c.position.ensures i; end = sym c.position-in-loop-start.ensures i } in
    ap (λ rs. rs ++ reverse (map f c.next.new.self.iter.rest.now)) (c.in_ok-push.ensures.items ∙ ap (λ r. c.loop-start.ranges.items ++ r ∷ []) (sym range))
    ∙ one_more f c.loop-start.ranges.items c.loop-start.start-iterator.iter.rest.now c.next.new.self.iter.rest.now x c.in-Some.ensures.steps
    ∙ c.loop-start.invariant

pub returns : goal.returns
returns c =
    let f = range_of c.args.unit c.args.text.now in
    let none : c.loop-start.start-iterator.iter.rest.now ≡ [] = nil_from_length c.loop-start.start-iterator.iter.rest.now c.in-None.ensures.steps.0 in
    sym (append-nil c.loop-start.ranges.items) ∙ ap (λ xs. c.loop-start.ranges.items ++ reverse (map f xs)) (sym none) ∙ c.loop-start.invariant
