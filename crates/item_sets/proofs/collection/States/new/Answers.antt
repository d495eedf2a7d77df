use Rattle.item_sets.proofs.Std.{◌≡◌, ◌∷◌, ◌++◌, [], None, ap, ◌∙◌, length}
use Rattle.item_sets.proofs.Common.{Nonterminal, Item, Origin}
use Rattle.item_sets.proofs.AddedKernels.{start_states, first_placed}
use Rattle.item_sets.proofs.collection.States.new.Goals.{After-drop-kernel-2}
use Rattle.item_sets.proofs.collection.States.new.Goals as goal

abbrev start : Item
start = record { production = None; at = 0; look = None }

kernels_are : (c : After-drop-kernel-2) → c.place.new.self ≡ (start ∷ []) ∷ []
kernels_are c =
    let kernel = c.deref.ensures.value ∙ c.in_ok-push.ensures.items ∙ ap (λ x. x ++ start ∷ []) c.new-kernel.ensures.items in
    first_placed _ c.place.new.self _ c.in_ok-place.field-0 c.new-kernels.ensures kernel c.in_ok-place.ensures.list c.in_ok-place.ensures.place.0

pub returns-clause-states : goal.returns-clause-states
returns-clause-states c =
    let o : Origin = record { from = 0; symbol = Nonterminal c.start.result } in
    let origins : c.push-2.new.self.items ≡ o ∷ [] = c.in_ok-push-2.ensures.items ∙ ap (λ x. x ++ o ∷ []) c.new-origins.ensures.items in
    rw (kernels_are c, origins) (start_states c.args.grammar.now c.start.ensures.sound o)

pub returns-clause-alone : goal.returns-clause-alone
returns-clause-alone c = ap length (kernels_are c)
