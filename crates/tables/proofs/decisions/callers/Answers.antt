use Rattle.tables.proofs.Std.{rules, ◌≡◌, ◌<◌, ◌∷◌, ◌++◌, [], ℕ, Bool, false, Option, Some, None, length, Contains, slice_index_or, ap, sym, subst, ⊎_elim, arith, ◌∙◌, is_some, cases_eq, get_or_default, Contains-get_or, Contains-push, Contains-push_cases, Contains-append_left, All-push}
use Rattle.tables.proofs.Common.{rank, CallsFor, kind_of, Item, IsItem, item_of}
use Rattle.tables.proofs.decisions.callers.Goals as goal
use Rattle.tables.proofs.decisions.callers.Goals.{then-is_some+in_ok-push, else-is_some}

shown : (look : Option ℕ) {o : Option ℕ} {b : Bool} → o ≡ Some (rank look) → b ≡ is_some o → b ≡ false → ⊥
shown look e t f = cc (sym f ∙ t ∙ ap is_some e)

pub loop-item-preserved : goal.loop-item-preserved
loop-item-preserved c =
    let g = c.args.grammar.now in
    let items = c.args.items.now in
    let i = c.loop-item.invariant in
    let at = c.loop-item.item-index in
    let old = c.loop-item.called.items in
    let zero : Item = record { production = None; at = 0; look = None } in
    let item = slice_index_or items at zero in
    let below : at < length items = search rules in
    let default : (d : Item) → slice_index_or items at d ≡ item = λ d. get_or_default items at d zero below in
    elim c.if-is_some.branch [
      | then-is_some+in_ok-push w ↦
          let new : c.if-is_some.called.items ≡ old ++ item ∷ [] = ap (λ v. v.items) w.called-is ∙ w.in_ok-push.ensures.items in
          rw new (record {
            known = All-push (IsItem g) old item i.known (c.requires at zero below);
            within = λ j h. ⊎_elim (λ o. i.within j o) (λ e. subst (Contains items) e (Contains-get_or items at zero below)) (Contains-push_cases old item j h);
            all = λ k d look move l x. ⊎_elim (λ s. subst (Contains (old ++ item ∷ [])) (sym (ap (λ n. slice_index_or items n d) s ∙ default d)) (Contains-push old item))
                (λ o. Contains-append_left old (item ∷ []) (slice_index_or items k d) (i.all k d look move (omega (arith, l, o)) x)) (cases_eq k at);
          })
      | else-is_some w ↦
          rw w.called-is (record {
            known = i.known;
            within = i.within;
            all = λ k d look move l x. ⊎_elim
                (λ s. absurd (let e = c.column_of_call.ensures.column look move (subst (λ y. CallsFor (item_of g.grammar y) (kind_of look) move)
                (ap (λ n. slice_index_or items n d) s ∙ default d) x) in shown look e c.is_some.ensures w.if-is_some.false)) (λ o. i.all k d look move (omega (arith, l, o)) x) (cases_eq k at);
          })
    ]

pub returns-clause-all : goal.returns-clause-all
returns-clause-all c = λ j look move h x.
    let items = c.args.items.now in
    let end = c.loop-item-test.false in
    subst (Contains c.loop-item.called.items) h.2 (c.loop-item.invariant.all h.0 j look move (let l = h.1 in omega (arith, l, end))
    (subst (λ y. CallsFor (item_of c.args.grammar.now.grammar y) (kind_of look) move) (sym h.2) x))
