use Rattle.replies.proofs.Std.{◌≡◌, suc, ◌-◌, ◌≤◌, List, [], ◌∷◌, length, take, drop, take_all, get_or, Some, sym, ap, subst, arith, OnOk, SendsValue}
use Rattle.replies.proofs.Common.{Range, range_data, with_parent, nested}
use Rattle.replies.proofs.Objects.{sends_object, sends_member}
use Rattle.replies.proofs.results.+send_nested.Goals as goal

nested_more : (ranges : List Range) (d : Range) → 1 ≤ length ranges → nested ranges ≡ Some (with_parent (range_data (get_or ranges 0 d)) (nested (take (length ranges - 1) (drop 1 ranges))))
nested_more [] d some = let no : ⊥ = omega arith in absurd no
nested_more (r ∷ rest) d some = ap (λ l. Some (with_parent (range_data r) (nested l))) (sym (take_all (suc (length rest) - 1) rest (omega arith)))

pub returns : goal.returns
returns g t c =
    let w = g.S.Serializer.written in
    let none : Range = record { start = record { line = 0; character = 0 }; end = record { line = 0; character = 0 } } in
    subst (λ o. OnOk c.end_map.result (SendsValue (with_parent (range_data c.args.range) o) (w c.args.out.now) (w c.end_map.new.self)))
    (sym (nested_more c.args.outer.now none c.in-len1-up.len_at_least))
    (sends_object _ _ _ c.end_map.result c.in_ok-begin_map.ensures
    (λ e. sends_member _ _ c.in_ok-key.ensures c.in_ok-send_nested.ensures
    (sends_member _ _ c.in_ok-key-2.ensures c.in_ok-send_range.ensures e))
    c.end_map.ensures)
