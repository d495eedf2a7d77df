use Rattle.views.proofs.Std.{arith, ap, lit<, ◌∙◌, ◌++◌, string_bytes, IsUtf8-string_bytes}
use Rattle.views.proofs.Common.{all_below-more}
use Rattle.views.proofs.Writing.{begun}
use Rattle.views.proofs.tree.begin.Goals as goal

pub returns : goal.returns
returns c =
    begun c.args.grammar.now c.args.store.now c.args.id (string_bytes c.args.text.now) (string_bytes c.push.new.self)
    (string_bytes c.push_str.new.self) c.name_of.result.now c.production.result c.children.result c.production.ensures.tree c.children.ensures.tree
    (IsUtf8-string_bytes c.args.text.now) (IsUtf8-string_bytes c.push.new.self) (c.in_ok-push.ensures.bytes ∙ ap (λ x. string_bytes c.args.text.now ++ x)
    (c.in_ok-push.ensures.ascii (lit< tt))) c.in_ok-push_str.ensures.bytes c.name_of.ensures (all_below-more c.args.id.index _ (omega arith) c.children.result c.children.ensures.below)
