use Rattle.views.proofs.Std.{◌≡◌, ◌+◌, ◌-◌, ◌<◌, ℕ, List, [], ◌∷◌, ◌++◌, length, map, take, drop, get_or, sym, ap, ◌∙◌, arith, between, take_more, take_all, map-append, length-map, drop-map, between_to_end}
use Rattle.views.proofs.Common.{Placed, placed, significant, plain, inside, offsets_of}
use Rattle.views.proofs.SpansAround.{shortened_is}
use Rattle.views.proofs.selections.selection_offsets.Goals as goal

-- one more is listed
shown_more : (f : ℕ × ℕ → ℕ × ℕ) (w : ℕ × ℕ) (last old new : List (ℕ × ℕ)) (k : ℕ) (any r : ℕ × ℕ) → k < length last → r ≡ f (get_or last k any)
    → old ≡ w ∷ map f (take k last) → new ≡ old ++ r ∷ [] → new ≡ w ∷ map f (take (k + 1) last)
shown_more f w last old new k any r l is e g =
    g ∙ (λ i. e i ++ is i ∷ [])
    ∙ ap (λ rs. w ∷ rs) (sym (map-append f (take k last) (get_or last k any ∷ [])) ∙ ap (map f) (sym (take_more last k any l)))

pub loop-span-preserved : goal.loop-span-preserved
loop-span-preserved c = λ skips h.
    let parts : List Placed = significant skips (placed 0 (map plain c.args.tokens.now.items)) in
    let last : List (ℕ × ℕ) = between c.saturating_sub.result (length c.spans_inside-inner.result.now) c.spans_inside-inner.result.now in
    shown_more (offsets_of parts) c.args.whole last c.loop-span.offsets.items c.push-in-loop-span.new.self.items c.loop-span.span-index (0, 0) c.offsets_of.result c.loop-span-test.true
    (c.offsets_of.ensures skips h) (c.loop-span.invariant skips h) c.in_ok-push-2.ensures.items

pub returns : goal.returns
returns c = λ skips h.
    let parts : List Placed = significant skips (placed 0 (map plain c.args.tokens.now.items)) in
    let inner : List (ℕ × ℕ) = c.spans_inside-inner.result.now in
    let last : List (ℕ × ℕ) = between c.saturating_sub.result (length inner) inner in
    let rest : List (ℕ × ℕ) = inside c.args.whole (map (offsets_of parts) c.args.spans.now) in
    let is : map (offsets_of parts) inner ≡ rest = c.spans_inside-inner.ensures.inside skips h in
    let from : c.saturating_sub.result ≡ length rest - 31 = omega (arith, c.saturating_sub.ensures, ap length is, length-map inner (offsets_of parts)) in
    c.loop-span.invariant skips h
    ∙ ap (λ ss. c.args.whole ∷ map (offsets_of parts) ss) (take_all c.loop-span.span-index last (omega arith) ∙ between_to_end inner c.saturating_sub.result (length inner) (omega arith))
    ∙ ap (λ rs. c.args.whole ∷ rs) (sym (drop-map (offsets_of parts) c.saturating_sub.result inner) ∙ ap (drop c.saturating_sub.result) is ∙ ap (λ n. drop n rest) from)
    ∙ sym (shortened_is c.args.whole rest)
