use Rattle.item_sets.proofs.Std.{◌≡◌, ◌↔◌, ◌<◌, ℕ, Bool, false, IsTrue, List, [], length, slice_index_or, sym, subst, ap, ◌∙◌, get_or_default}
use Rattle.item_sets.proofs.worklist.Worklist.has_none.Goals as goal

pub returns : goal.returns
returns c =
    let n = c.args.nonterminal in
    let rows = c.self.inside.rows.items in
    let within : n < length rows = subst (λ m. n < m) (sym (c.self.invariant.long ∙ ap (λ w. w.grammar.nonterminals) c.self.view_is)) c.requires in
    let row : c.index.result.now ≡ slice_index_or c.args.self.now.rows n [] = c.index.ensures ∙ get_or_default rows n c.index.result.now [] within
    ∙ ap (λ w. slice_index_or w.rows n []) c.self.view_is in
    subst (λ (r : List Bool). IsTrue c.is_blank.result ↔ ((k : ℕ) → slice_index_or r k false ≡ false)) row c.is_blank.ensures
